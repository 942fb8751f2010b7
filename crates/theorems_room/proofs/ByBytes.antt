-- The buffers by the bytes of the file: each line that is kept takes ten bytes and half of its own.
use mathlib.Core.Path.{◌≡◌, refl, sym, ◌∙◌, ap, subst}
use mathlib.Core.Bool.{Bool, true, false, cond, ◌&&◌, ◌||◌, not}
use mathlib.Core.List.{List, [], ◌∷◌, ◌++◌, drop_last, map}
use mathlib.Core.Option.{Option, some, none, some-injective}
use Prim.Native.Nat.{ℕ, zero, suc, ◌+◌, ◌*◌, ◌-◌, ◌<◌, ◌≤◌}
use native.Mathlib.Omega.{arith}
use lib.Dec.{eqb}
use lib.IntN.{ℤ}
use lib.ListN.{length, take, drop, length-append, length-drop}
use lib.Seq.{length-take-le}
use Rattle.base_exact.proofs.Decide.{clash, and-true, true_not_false}
use Rattle.base_outcome.specs.Outcome.{Outcome, answer, refuse, ◌then◌}
use Rattle.base_outcome.proofs.Outcome.{answer_not_refusal, then_inverts, with_inverts}
use Rattle.base_text.specs.Bytes.{Text, newline, cut, on_first}
use Rattle.base_text.specs.Numeral.{digits_up_to, digits, decimal}
use Rattle.base_text.proofs.Lacking.{cut-first}
use Rattle.spec_tucson.specs.Columns.{columns}
use Rattle.spec_tucson.specs.Line.{Line, field_columns, same, thousandths, lines_of, within_decade, fields_allowed, if_allowed, of_cut, line_in_columns, line_of, good_line}
use Rattle.spec_tucson.specs.Series.{Series, hundredths, all_hundredths, from_hundredths, closed_by}
use Rattle.spec_tucson.specs.TextReading.{Begun, begun_by, Step, opened, closed, last_field, line_step, if_good, read_line, after}
use Rattle.spec_tucson.specs.Shown.{has_end, line_bytes}
use Rattle.spec_tucson.specs.StrictLine.{strict_line, Kept}
use Rattle.spec_tucson.specs.KeptLines.{is_data, kept_lines}
use Rattle.spec_tucson.specs.CleanSeries.{continues, fields_of, unknown_unit, unit_not_said, hundredths_said, closing_of, closing_after, is_reclosed, reclosed, closed_lines, with_end, strict_text, read_kept}
use Rattle.spec_tucson.proofs.Kept.{kept_other, kept_data}
use Rattle.spec_tucson.proofs.Lines.{same_is}
use Rattle.tucson_strict.proofs.Strict.{strict_size}
use Rattle.tucson_judge.specs.Judging.{last_after}
use Rattle.tucson_judge.proofs.Reclosing.{Relast, reclosed-line}
use Rattle.theorems_clean.proofs.StrictLines.{strict-line, no_control, lacks-byte, line_strict}
use Rattle.theorems_clean.proofs.ShownBytes.{strict_reads}
use Rattle.theorems_clean.proofs.ReadLines.{closes}
use Rattle.theorems_clean.proofs.Sources.{kept-none}
use Rattle.theorems_room.proofs.KeptBytes.{Takes, takes, ending, line-short}

-- ---- the closing of a series has three digits

closed_long : (c : ℤ) (ws us : List ℤ) → closed_by c ws ≡ some us → 3 ≤ length (decimal c)
unfolding closed_by decimal digits digits_up_to
closed_long c ws us e = go (same c thousandths) refl (same c hundredths) refl (all_hundredths ws) e
  where
    go : (a : Bool) → same c thousandths ≡ a → (b : Bool) → same c hundredths ≡ b → (d : Bool)
        → cond a (some ws) (cond (b && d) (some (from_hundredths ws)) none) ≡ some us → 3 ≤ length (decimal c)
    go true w b v d e = subst (λ (z : ℤ). 3 ≤ length (decimal z)) (sym (same_is c thousandths w)) (omega arith)
    go false w true v d e = subst (λ (z : ℤ). 3 ≤ length (decimal z)) (sym (same_is c hundredths v)) (omega arith)
    go false w false v d e = clash cc

after_long : (unit : ℕ) (z : ℤ) → 3 ≤ length (decimal (closing_after unit z)) → 3 ≤ length (decimal z)
unfolding closing_after decimal digits digits_up_to
after_long unit z h = go (same z unknown_unit) refl (not (eqb unit unit_not_said)) h
  where
    go : (a : Bool) → same z unknown_unit ≡ a → (b : Bool) → 3 ≤ length (decimal (cond (a && b) (closing_of unit) z)) → 3 ≤ length (decimal z)
    go true w b h = subst (λ (x : ℤ). 3 ≤ length (decimal x)) (sym (same_is z unknown_unit w)) (omega arith)
    go false w b h = h

-- a line that closes what is read
read_long : (place : ℕ) (b : Option Begun) (u : Text) (l : Line) (s : Step) → line_in_columns u ≡ some l → read_line place b false (with_end u) ≡ answer s
    → 3 ≤ length (decimal (last_field l.fields))
unfolding read_line good_line line_of
read_long place b u l s e r =
    let strict = line_strict u l e in
    let whole = cut-first newline u [] (lacks-byte newline u (omega arith) (no_control u strict)) in
    go (within_decade l && fields_allowed true l.fields) (sym (ap (λ (o : Option Line). if_good place b false (if_allowed true o)) (ap of_cut whole ∙ e)) ∙ r)
  where
    go : (x : Bool) → if_good place b false (cond x (some l) none) ≡ answer s → 3 ≤ length (decimal (last_field l.fields))
    go true r = let c = (closes place b l s r).1 in closed_long (last_field l.fields) _ c.widths c.closed-by
    go false r = absurd (answer_not_refusal r refl)

last_long : (unit : ℕ) (g : Option Begun) (k : Kept) (ss : List Series) (l : Line) → read_kept g (closed_lines unit (k ∷ [])) ≡ answer ss → line_in_columns k.text ≡ some l
    → 3 ≤ length (decimal (last_field l.fields))
unfolding read_kept closed_lines continues last_after
last_long unit g k ss l e i =
    let x = then_inverts (read_line k.line g false (with_end (reclosed unit false k.text))) (after (λ b. read_kept b [])) e in
    let r = reclosed-line unit false k.text l i in
    let long = read_long k.line g (reclosed unit false k.text) r.line x.middle r.is x.before in
    after_long unit (last_field l.fields) (subst (λ (z : ℤ). 3 ≤ length (decimal z)) r.last_is long)

-- ---- the rest of the lines is read too

record ReadOn (ks : List Kept) : Type 0 where
  begun : Option Begun
  series : List Series
  reads : read_kept begun ks ≡ answer series

read_on : (g : Option Begun) (k : Kept) (ks : List Kept) (ss : List Series) → read_kept g (k ∷ ks) ≡ answer ss → ReadOn ks
unfolding read_kept
read_on g k ks ss e =
    let x = then_inverts (read_line k.line g (continues k ks) (with_end k.text)) (after (λ b. read_kept b ks)) e in
    go x.middle x.after
  where
    go : (s : Step) → after (λ b. read_kept b ks) s ≡ answer ss → ReadOn ks
    go (opened c) e = record { begun = some c; series = ss; reads = e }
    go (closed s) e = let w = with_inverts (λ us. s ∷ us) (read_kept none ks) e in record { begun = none; series = w.before; reads = w.answers }

-- ---- the lines of a text

unfoldable pub total : List Text → ℕ
total [] = 0
total (r ∷ rs) = length r + total rs

-- All lines but the last have their byte 10.
abbrev pub EndedBefore : List Text → Type 0
EndedBefore [] = Unit {0}
EndedBefore (r ∷ []) = Unit {0}
EndedBefore (r ∷ s ∷ rs) = (has_end r ≡ true) × EndedBefore (s ∷ rs)

pub ended-rest : (r : Text) (rs : List Text) → EndedBefore (r ∷ rs) → EndedBefore rs
ended-rest r [] h = tt
ended-rest r (s ∷ rs) h = h.1

reclosed-size : (unit : ℕ) (goes : Bool) (t : Text) → 6 ≤ length t → length (reclosed unit goes t) ≡ length t
unfolding reclosed closing_of columns decimal digits digits_up_to
reclosed-size unit goes t h = go (is_reclosed unit goes t)
  where
    closing : (b : Bool) → length (columns field_columns (cond b hundredths thousandths)) ≡ 6
    closing true = refl
    closing false = refl

    go : (b : Bool) → length (cond b (take (length t - field_columns) t ++ columns field_columns (closing_of unit)) t) ≡ length t
    go true =
        length-append (take (length t - field_columns) t) (columns field_columns (closing_of unit))
        ∙ omega (arith, closing (eqb unit hundredths_said), length-take-le (length t - field_columns) t (omega arith))
    go false = refl

none-text : (unit : ℕ) → length (strict_text (closed_lines unit [])) ≤ 0
unfolding strict_text closed_lines
none-text unit = omega arith

closed-size : (unit : ℕ) (k : Kept) (ks : List Kept) → 6 ≤ length k.text
    → length (strict_text (closed_lines unit (k ∷ ks))) ≡ length k.text + 1 + length (strict_text (closed_lines unit ks))
unfolding strict_text closed_lines
closed-size unit k ks h =
    let t = reclosed unit (continues k ks) k.text in
    length-append (with_end t) (strict_text (closed_lines unit ks)) ∙ omega (arith, length-append t (newline ∷ []), reclosed-size unit (continues k ks) k.text h)

closed_on : (unit : ℕ) (g : Option Begun) (k : Kept) (ks : List Kept) (ss : List Series) → read_kept g (closed_lines unit (k ∷ ks)) ≡ answer ss → ReadOn (closed_lines unit ks)
unfolding closed_lines
closed_on unit g k ks ss e = read_on g (record { line = k.line; raw = k.raw; text = reclosed unit (continues k ks) k.text }) (closed_lines unit ks) ss e

-- a line that is kept has ten bytes, and half of those of its strict line with byte 10
line-room : (place : ℕ) (r t : Text) → strict_line place r ≡ answer t → (has_end r ≡ false → (l : Line) → line_in_columns t ≡ some l → 3 ≤ length (decimal (last_field l.fields)))
    → (10 ≤ length r) × (length t + 1 ≤ 2 * length r)
line-room place r t e h =
    let strict = (strict_reads place r t e).strict in
    let x = takes place r t e in
    let l = strict-line t strict in
    go (has_end r) refl (line-short r) (strict_size t strict).0 x.half (λ b. x.more l.line l.is (h b l.line l.is))
  where
    go : (b : Bool) → has_end r ≡ b → length (line_bytes r) + ending b ≤ length r → 18 ≤ length t → length t ≤ 2 * length (line_bytes r)
        → (has_end r ≡ false → length t + 2 ≤ 2 * length (line_bytes r)) → (10 ≤ length r) × (length t + 1 ≤ 2 * length r)
    go true w s m a c = (omega arith, omega arith)
    go false w s m a c = let d = c w in (omega arith, omega arith)

-- what the lines take, of bytes for their text and of ten bytes each
abbrev pub Sums : ℕ → List Text → List Kept → Type 0
Sums unit rs ks = (length (strict_text (closed_lines unit ks)) ≤ 2 * total rs) × (10 * length ks ≤ total rs)

pub sums : (rs : List Text) (unit h i : ℕ) (b : Option Kept) (g : Option Begun) (ks : List Kept) (ss : List Series) → EndedBefore rs → kept_lines h i b rs ≡ answer ks
    → read_kept g (closed_lines unit ks) ≡ answer ss → Sums unit rs ks
unfolding total
sums [] unit h i b g ks ss n e r = subst (Sums unit []) (sym (kept-none h i b ks e)) (nothing, omega arith)
  where
    nothing : length (strict_text (closed_lines unit [])) ≤ 2 * total []
    nothing = none-text unit
sums (r ∷ rs) unit h i b g ks ss n e x = go (is_data h i r) refl (λ c f js us. sums rs unit h (suc i) c f js us (ended-rest r rs n))
  where
    last : (t : Text) (js : List Kept) (c : Option Kept) → has_end r ≡ false → (qs : List Text) → EndedBefore (r ∷ qs) → kept_lines h (suc i) c qs ≡ answer js → js ≡ []
    last t js c w [] n k = kept-none h (suc i) c js k
    last t js c w (q ∷ qs) n k = absurd (true_not_false n.0 w)

    go : (d : Bool) → is_data h i r ≡ d
        → ((c : Option Kept) (f : Option Begun) (js : List Kept) (us : List Series) → kept_lines h (suc i) c rs ≡ answer js → read_kept f (closed_lines unit js) ≡ answer us → Sums unit rs js)
        → Sums unit (r ∷ rs) ks
    go true d ih =
        let k = kept_data h i b r rs ks d e in
        let first : Kept = record { line = i; raw = r; text = k.text } in
        let js = k.others in
        let y : read_kept g (closed_lines unit (first ∷ js)) ≡ answer ss = ap (λ (ls : List Kept). read_kept g (closed_lines unit ls)) (sym k.is) ∙ x in
        let on = closed_on unit g first js ss y in
        let rest = ih (some first) on.begun js on.series k.rest on.reads in
        let room = line-room i r k.text k.strict (λ w l z. last_long unit g first ss l
        (ap (λ (ls : List Kept). read_kept g (closed_lines unit (first ∷ ls))) (sym (last k.text js (some first) w rs n k.rest)) ∙ y) z) in
        let size = (strict_size k.text (strict_reads i r k.text k.strict).strict).0 in
        subst (Sums unit (r ∷ rs)) (sym k.is) (omega (arith, closed-size unit first js (omega (arith, size)), room.1, rest.0), omega (arith, room.0, rest.1))
    go false d ih = let rest = ih b g ks ss (sym (kept_other h i b r rs d) ∙ e) x in (omega (arith, rest.0), omega (arith, rest.1))
