-- Each note of a line is paid by a byte of it, but for two notes of a line without byte 10.
use mathlib.Core.Path.{◌≡◌, refl, sym, ◌∙◌, ap, subst}
use mathlib.Core.Bool.{Bool, true, false, cond, ◌&&◌, ◌||◌, not}
use mathlib.Core.List.{List, [], ◌∷◌, ◌++◌, drop_last}
use mathlib.Core.Option.{Option, some, none}
use Prim.Native.Nat.{ℕ, zero, suc, ◌+◌, ◌*◌, ◌-◌, ◌<◌, ◌≤◌}
use native.Mathlib.Omega.{arith}
use borrow.Author.Tests.{eqb-true, eqb-false}
use lib.Dec.{eqb}
use lib.IntN.{ℤ}
use lib.ListN.{length, replicate, length-append}
use Rattle.base_exact.proofs.Decide.{true_not_false}
use Rattle.base_outcome.specs.Outcome.{answer}
use Rattle.base_text.specs.Bytes.{Text}
use Rattle.spec_tucson.specs.Columns.{blank}
use Rattle.spec_tucson.specs.FileText.{tab, carriage_return}
use Rattle.spec_tucson.specs.Shown.{unended, has_end, ends_in_return, without_return, tab_blanks, expanded, any_tab, unless_trailing, trimmed}
use Rattle.spec_tucson.specs.Shown.{line_bytes, in_its_columns, shown, is_blank_line, has_return, has_tab, has_trailing}
use Rattle.spec_tucson.specs.StrictLine.{has_site, any_high, shown_fields, strict_line, Kept}
use Rattle.spec_tucson.specs.KeptLines.{is_data, kept_lines}
use Rattle.spec_tucson.specs.CleanSeries.{follows_its, fields_of, is_reclosed}
use Rattle.spec_tucson.specs.CleanNotes.{note_if, Ahead, ahead, is_last, remarks, is_cut_line, kept_notes, header_notes, line_notes, at_line, Before, closing_or, behind, notes_of}
use Rattle.spec_tucson.specs.CleanCall.{all_ended}
use Rattle.spec_tucson.proofs.Kept.{kept_other, kept_data}
use Rattle.tucson_strict.proofs.Strict.{strict_size}
use Rattle.theorems_clean.proofs.ShownBytes.{strict_reads}
use Rattle.theorems_clean.proofs.Sources.{kept-none}
use Rattle.theorems_lost.proofs.Accounts.{other_notes, notes_other, notes_data}
use Rattle.theorems_room.proofs.ByLines.{remarks-count, at_count}
use Rattle.theorems_room.proofs.KeptBytes.{takes, ending, unended-short, line-short}
use Rattle.theorems_room.proofs.ByBytes.{total, EndedBefore, ended-rest}

-- 1 for what is so.
abbrev pub one : Bool → ℕ
one true = 1
one false = 0

if_size : (b : Bool) (n : ℕ) (ns : List ℕ) → length (note_if b n ns) ≡ one b + length ns
if_size true n ns = omega arith
if_size false n ns = omega arith

one_most : (b : Bool) → one b ≤ 1
one_most true = omega arith
one_most false = omega arith

-- ---- bytes 13 and tabs

tab_some : (t : Text) → one (any_tab t) ≤ length t
unfolding any_tab
tab_some [] = omega arith
tab_some (c ∷ cs) = omega (arith, one_most (eqb c tab || any_tab cs))

return_last : (t : Text) → ends_in_return t ≡ true → (suc (length (drop_last t)) ≡ length t) × (any_tab (drop_last t) ≡ any_tab t)
unfolding ends_in_return any_tab
return_last [] e = absurd (true_not_false e refl)
return_last (c ∷ []) e = (refl, ap (λ (d : ℕ). eqb d tab || false) (sym (eqb-true c carriage_return e)))
return_last (c ∷ d ∷ cs) e = let ih = return_last (d ∷ cs) e in (ap suc ih.0, ap (λ (b : Bool). eqb c tab || b) ih.1)

return_parts : (r : Text) → (one (has_return r) + length (line_bytes r) ≡ length (unended r)) × (any_tab (line_bytes r) ≡ has_tab r)
unfolding has_return line_bytes without_return has_tab
return_parts r = go (ends_in_return (unended r)) refl
  where
    go : (b : Bool) → ends_in_return (unended r) ≡ b
        → (one b + length (cond b (drop_last (unended r)) (unended r)) ≡ length (unended r)) × (any_tab (cond b (drop_last (unended r)) (unended r)) ≡ any_tab (unended r))
    go true e = let p = return_last (unended r) e in (omega (arith, p.0), p.1)
    go false e = (omega arith, refl)

-- a line that is left out and told by 3 and 4 has these bytes
pub told_bytes : (r : Text) → one (has_return r) + one (has_tab r) ≤ length (unended r)
told_bytes r = let p = return_parts r in omega (arith, p.0, ap one p.1, tab_some (line_bytes r))

-- ---- a byte that is shown

trimmed_blanks : (k : ℕ) → trimmed (replicate k blank ++ []) ≡ []
unfolding trimmed
trimmed_blanks zero = refl
trimmed_blanks (suc k) = ap (unless_trailing blank) (trimmed_blanks k)

shown_some : (cs : Text) → 1 ≤ length (trimmed (expanded 0 cs)) → one (any_tab cs) + 1 ≤ length cs
unfolding expanded any_tab trimmed
shown_some [] h = absurd (omega arith)
shown_some (c ∷ []) h = go (eqb c tab) h
  where
    go : (b : Bool) → 1 ≤ length (trimmed (cond b (replicate (tab_blanks 0) blank ++ []) (c ∷ []))) → one (b || false) + 1 ≤ 1
    go true h = absurd (omega (arith, ap length (trimmed_blanks (tab_blanks 0))))
    go false h = omega arith
shown_some (c ∷ d ∷ cs) h = omega (arith, one_most (eqb c tab || (eqb d tab || any_tab cs)))

pub shown-bytes : (r : Text) → is_blank_line r ≡ false → one (has_return r) + one (has_tab r) + 1 ≤ length (unended r)
unfolding is_blank_line shown in_its_columns
shown-bytes r e =
    let p = return_parts r in
    let some_byte = eqb-false (length (trimmed (expanded 0 (line_bytes r)))) 0 e in
    omega (arith, p.0, ap one p.1, shown_some (line_bytes r) (above (length (trimmed (expanded 0 (line_bytes r)))) some_byte))
  where
    above : (n : ℕ) → (n ≡ 0 → ⊥) → 1 ≤ n
    above zero h = absurd (h refl)
    above (suc n) h = omega arith

-- ---- a line's notes

-- What a line has beyond its bytes.
abbrev pub spare : Bool → Bool → ℕ
spare early true = 0
spare early false = 2 + one early

line-size : (early : Bool) (r : Text) (others : List ℕ) → length (line_notes early r others) ≡ one (is_cut_line early r) + one (has_return r) + one (has_tab r) + length others
unfolding line_notes
line-size early r others =
    omega (
      arith,
      if_size (is_cut_line early r) 2 (note_if (has_return r) 3 (note_if (has_tab r) 4 others)),
      if_size (has_return r) 3 (note_if (has_tab r) 4 others),
      if_size (has_tab r) 4 others,
    )

header-size : (r : Text) → length (header_notes r) ≤ 2 + one (not (has_end r))
unfolding header_notes
header-size r = omega (arith, if_size (has_trailing r) 5 (note_if (not (has_end r)) 8 (9 ∷ [])), if_size (not (has_end r)) 8 (9 ∷ []), one_most (has_trailing r))

kept-size : (unit : ℕ) (z : ℤ) (first : Bool) (a : Ahead) (k : Kept) → length (kept_notes unit z first a k) ≤ 7 + one (not (has_end k.raw))
unfolding kept_notes
kept-size unit z first a k =
    let rest = remarks z first a (fields_of k.text) in
    let e = note_if (is_reclosed unit (not (is_last a)) k.text) 11 rest in
    let d = note_if (any_high (shown_fields k.raw)) 10 e in
    let c = note_if (not (has_end k.raw)) 8 d in
    let b = note_if (has_site (shown k.raw)) 7 c in
    omega (
      arith,
      if_size (has_trailing k.raw) 5 b,
      one_most (has_trailing k.raw),
      if_size (has_site (shown k.raw)) 7 c,
      one_most (has_site (shown k.raw)),
      if_size (not (has_end k.raw)) 8 d,
      if_size (any_high (shown_fields k.raw)) 10 e,
      one_most (any_high (shown_fields k.raw)),
      if_size (is_reclosed unit (not (is_last a)) k.text) 11 rest,
      one_most (is_reclosed unit (not (is_last a)) k.text),
      remarks-count z first a (fields_of k.text),
    )

pub other_paid : (early : Bool) (r : Text) → length (other_notes early r) ≤ length r + spare early (has_end r)
other_paid early r = go (is_blank_line r) refl (has_end r) refl early (line-size early r (cond (is_blank_line r) (6 ∷ []) (header_notes r))) (unended-short r) (header-size r)
  where
    go : (b : Bool) → is_blank_line r ≡ b → (e : Bool) → has_end r ≡ e → (y : Bool)
        → length (line_notes early r (cond (is_blank_line r) (6 ∷ []) (header_notes r))) ≡ one (y && not e) + one (has_return r) + one (has_tab r) + length (cond b (6 ∷ []) (header_notes r))
        → length (unended r) + ending e ≤ length r → length (header_notes r) ≤ 2 + one (not e)
        → length (line_notes early r (cond (is_blank_line r) (6 ∷ []) (header_notes r))) ≤ length r + spare y e
    go true w true v true s u h = omega (arith, told_bytes r)
    go true w true v false s u h = omega (arith, told_bytes r)
    go true w false v true s u h = omega (arith, told_bytes r)
    go true w false v false s u h = omega (arith, told_bytes r)
    go false w true v true s u h = omega (arith, shown-bytes r w)
    go false w true v false s u h = omega (arith, shown-bytes r w)
    go false w false v true s u h = omega (arith, shown-bytes r w)
    go false w false v false s u h = omega (arith, shown-bytes r w)

pub data_paid : (early : Bool) (place unit : ℕ) (r t : Text) (z : ℤ) (first : Bool) (a : Ahead) → strict_line place r ≡ answer t
    → length (line_notes early r (kept_notes unit z first a (record { line = place; raw = r; text = t }))) ≤ length r + spare early (has_end r)
data_paid early place unit r t z first a e =
    let ns = kept_notes unit z first a (record { line = place; raw = r; text = t }) in
    go ns (has_end r) early (line-size early r ns) (kept-size unit z first a (record { line = place; raw = r; text = t })) (line-short r)
    (takes place r t e).half (strict_size t (strict_reads place r t e).strict).0
  where
    go : (ns : List ℕ) (x y : Bool) → length (line_notes early r ns) ≡ one (y && not x) + one (has_return r) + one (has_tab r) + length ns → length ns ≤ 7 + one (not x)
        → length (line_bytes r) + ending x ≤ length r → length t ≤ 2 * length (line_bytes r) → 18 ≤ length t → length (line_notes early r ns) ≤ length r + spare y x
    go ns true true s k l h g = omega (arith, one_most (has_return r), one_most (has_tab r))
    go ns true false s k l h g = omega (arith, one_most (has_return r), one_most (has_tab r))
    go ns false true s k l h g = omega (arith, one_most (has_return r), one_most (has_tab r))
    go ns false false s k l h g = omega (arith, one_most (has_return r), one_most (has_tab r))

-- ---- all lines

-- one line more in front
join : (early : Bool) (r : Text) (rs : List Text) (x m : ℕ) → EndedBefore (r ∷ rs) → x ≤ length r + spare early (has_end r) → m ≤ 2 * (total rs + spare early (all_ended rs))
    → 2 * x + m ≤ 2 * (total (r ∷ rs) + spare early (all_ended (r ∷ rs)))
unfolding total all_ended
join early r [] x m n h k = omega (arith, h, k)
join early r (s ∷ rs) x m n h k = omega (arith, h, k, ap (spare early) n.0)

pub notes_sum : (rs : List Text) (unit h i : ℕ) (early : Bool) (b : Option Kept) (before : Before) (ks : List Kept) → EndedBefore rs → kept_lines h i b rs ≡ answer ks
    → length (notes_of unit h early i before rs ks) ≤ 2 * (total rs + spare early (all_ended rs))
unfolding notes_of
notes_sum [] unit h i early b before ks n e = omega arith
notes_sum (r ∷ rs) unit h i early b before ks n e = go (is_data h i r) refl (λ c x js. notes_sum rs unit h (suc i) early c x js (ended-rest r rs n))
  where
    cells : (ns ms : List ℕ) → length ns ≤ length r + spare early (has_end r) → length ms ≤ 2 * (total rs + spare early (all_ended rs))
        → length (at_line i ns ++ ms) ≤ 2 * (total (r ∷ rs) + spare early (all_ended (r ∷ rs)))
    cells ns ms p q = omega (arith, length-append (at_line i ns) ms, at_count i ns, join early r rs (length ns) (length ms) n p q)

    go : (d : Bool) → is_data h i r ≡ d
        → ((c : Option Kept) (x : Before) (js : List Kept) → kept_lines h (suc i) c rs ≡ answer js → length (notes_of unit h early (suc i) x rs js) ≤ 2 * (total rs + spare early (all_ended rs)))
        → length (notes_of unit h early i before (r ∷ rs) ks) ≤ 2 * (total (r ∷ rs) + spare early (all_ended (r ∷ rs)))
    go true d ih =
        let k = kept_data h i b r rs ks d e in
        let first : Kept = record { line = i; raw = r; text = k.text } in
        let js = k.others in
        let a = ahead unit (first ∷ js) in
        let z = closing_or before.closing a.closing in
        let lead = not (follows_its before.kept first) in
        omega (
          arith,
          ap (λ (ls : List Kept). length (notes_of unit h early i before (r ∷ rs) ls)) k.is,
          ap length (notes_data unit h early i before r rs first js d),
          cells (line_notes early r (kept_notes unit z lead a first)) (notes_of unit h early (suc i) (behind z first) rs js)
              (data_paid early i unit r k.text z lead a k.strict) (ih (some first) (behind z first) js k.rest),
        )
    go false d ih =
        omega (
          arith,
          ap length (notes_other unit h early i before r rs ks d),
          cells (other_notes early r) (notes_of unit h early (suc i) before rs ks) (other_paid early r) (ih b before ks (sym (kept_other h i b r rs d) ∙ e)),
        )
