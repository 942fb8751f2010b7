-- What a strict line is by its parts, and the bytes that it has: printable ones in its name, and blanks, digits and minuses behind that.
use mathlib.Core.Path.{◌≡◌, refl, sym, ◌∙◌, ap, ap₂}
use mathlib.Core.Bool.{Bool, true, false, cond, ◌&&◌, ◌||◌, not, or_assoc}
use mathlib.Core.List.{List, [], ◌∷◌, ◌++◌}
use mathlib.Core.Option.{Option, some, none}
use Prim.Native.Nat.{ℕ, zero, suc, ◌+◌, ◌*◌, ◌-◌, ◌<◌, ◌≤◌}
use native.Mathlib.Omega.{arith}
use borrow.Author.Tests.{eq-eqb, le-leb, lt-leb, leb-true, ltb-true, eqb-true}
use lib.Dec.{eqb, leb, ltb}
use lib.IntN.{ℤ}
use lib.ListN.{length, take, drop, take-append-drop, length-drop}
use lib.Seq.{slice, take_all, take-add, drop-drop}
use Rattle.base_exact.proofs.Decide.{and-true, true_not_false}
use Rattle.base_text.specs.Bytes.{Text}
use Rattle.base_text.specs.Numeral.{numeral}
use Rattle.base_text.proofs.Lacking.{lacks, lacks_append, lacks-first, Outside, numeral-lacks}
use Rattle.spec_tucson.specs.Columns.{blank, in_columns}
use Rattle.spec_tucson.specs.Line.{name_columns, year_columns, head_columns, field_columns, decade, last_printable, all_printable, all_blank, is_name, with_field, field_numerals}
use Rattle.spec_tucson.specs.Line.{field_count, columns_fit, with_numerals, line_in_columns}
use Rattle.tucson_lines.proofs.Fields.{fields-first}
use Rattle.spec_tucson.specs.StrictLine.{is_some, is_strict, is_high, any_high, line_columns}
use Rattle.spec_tucson.proofs.Lines.{refute}

-- ---- by its parts
some_numerals : (name : Text) (y : Option ℤ) (fs : Option (List ℤ)) → is_some (with_numerals name y fs) ≡ (is_some y && is_some fs)
some_numerals name none fs = refl
some_numerals name (some y) none = refl
some_numerals name (some y) (some fs) = refl

abbrev year : Text → Option ℤ
year t = in_columns (take year_columns (drop name_columns t))

abbrev fields : Text → Option (List ℤ)
fields t = field_numerals (field_count t) (drop head_columns t)

pub strict_is : (t : Text) → is_strict t ≡ (columns_fit t && is_name (take name_columns t) && (is_some (year t) && is_some (fields t)))
unfolding is_strict line_in_columns
strict_is t = go (columns_fit t && is_name (take name_columns t))
  where
    go : (b : Bool) → is_some (cond b (with_numerals (take name_columns t) (year t) (fields t)) none) ≡ (b && (is_some (year t) && is_some (fields t)))
    go true = some_numerals (take name_columns t) (year t) (fields t)
    go false = refl

-- the parts of a strict line
pub record Parts (t : Text) : Type 0 where
  pub fit : columns_fit t ≡ true
  pub named : is_name (take name_columns t) ≡ true
  pub dated : is_some (year t) ≡ true
  pub numbered : is_some (fields t) ≡ true

pub strict_parts : (t : Text) → is_strict t ≡ true → Parts t
strict_parts t e =
    let halves = and-true (columns_fit t && is_name (take name_columns t)) (is_some (year t) && is_some (fields t)) (sym (strict_is t) ∙ e) in
    let front = and-true (columns_fit t) (is_name (take name_columns t)) halves.0 in
    let back = and-true (is_some (year t)) (is_some (fields t)) halves.1 in
    record { fit = front.0; named = front.1; dated = back.0; numbered = back.1 }

-- ---- its columns
pub record Fitting (t : Text) : Type 0 where
  pub size : length t ≡ 12 + field_count t * field_columns
  pub some_field : 1 ≤ field_count t
  pub most : field_count t ≤ decade

pub fitting : (t : Text) → columns_fit t ≡ true → Fitting t
unfolding columns_fit
fitting t e =
    let halves = and-true (eqb (length t) (12 + field_count t * field_columns) && leb 1 (field_count t)) (leb (field_count t) decade) e in
    let front = and-true (eqb (length t) (12 + field_count t * field_columns)) (leb 1 (field_count t)) halves.0 in
    record {
      size = eqb-true (length t) (12 + field_count t * field_columns) front.0;
      some_field = leb-true 1 (field_count t) front.1;
      most = leb-true (field_count t) decade halves.1;
    }

pub strict_size : (t : Text) → is_strict t ≡ true → (18 ≤ length t) × (length t ≤ line_columns)
strict_size t e = let f = fitting t (strict_parts t e).fit in omega (arith, f.size, f.some_field, f.most)

pub take_longer : (k n : ℕ) (t : Text) → k < n → k < length t → k < length (take n t)
take_longer k zero t h i = absurd (omega arith)
take_longer k (suc n) [] h i = absurd (omega arith)
take_longer zero (suc n) (c ∷ t) h i = omega arith
take_longer (suc k) (suc n) (c ∷ t) h i = omega (arith, take_longer k n t (omega arith) (omega arith))

-- a length that no strict line has
pub strict_short : (t : Text) → length t < 18 → is_strict t ≡ false
strict_short t h = refute (is_strict t) (λ e. omega (arith, strict_size t e))

pub strict_long : (t : Text) → line_columns < length t → is_strict t ≡ false
strict_long t h = refute (is_strict t) (λ e. omega (arith, strict_size t e))

pub strict_over : (t : Text) → (length t ≡ 12 + field_count t * field_columns → ⊥) → is_strict t ≡ false
strict_over t h = refute (is_strict t) (λ e. h (fitting t (strict_parts t e).fit).size)

pub strict_nameless : (t : Text) → is_name (take name_columns t) ≡ false → is_strict t ≡ false
strict_nameless t h = refute (is_strict t) (λ e. true_not_false (strict_parts t e).named h)

pub strict_undated : (t : Text) → is_some (year t) ≡ false → is_strict t ≡ false
strict_undated t h = refute (is_strict t) (λ e. true_not_false (strict_parts t e).dated h)

pub strict_fields : (t : Text) → length t ≡ 12 + field_count t * field_columns → 18 ≤ length t → length t ≤ line_columns
    → is_name (take name_columns t) ≡ true → is_some (year t) ≡ true → is_strict t ≡ is_some (fields t)
unfolding columns_fit
strict_fields t e h k n y =
    strict_is t
    ∙ rw (eq-eqb (length t) (12 + field_count t * field_columns) e, le-leb 1 (field_count t) (omega arith), le-leb (field_count t) decade (omega arith), n, y)

-- ---- fields, one after another
module _ (n : ℕ) (text : Text) (at to : ℕ) (more : 1 ≤ n) (within : at + field_columns ≤ to) where
  pub numerals_no : is_some (in_columns (slice at (at + field_columns) text)) ≡ false → is_some (field_numerals n (slice at to text)) ≡ false
  numerals_no e = ap is_some (fields-first n text at to more within) ∙ go (in_columns (slice at (at + field_columns) text)) e
    where
      go : (o : Option ℤ) → is_some o ≡ false → is_some (with_field o (field_numerals (n - 1) (slice (at + field_columns) to text))) ≡ false
      go none e = refl
      go (some z) e = absurd (true_not_false refl e)

  pub numerals-next : is_some (in_columns (slice at (at + field_columns) text)) ≡ true
      → is_some (field_numerals n (slice at to text)) ≡ is_some (field_numerals (n - 1) (slice (at + field_columns) to text))
  numerals-next e =
      ap is_some (fields-first n text at to more within)
      ∙ go (in_columns (slice at (at + field_columns) text)) (field_numerals (n - 1) (slice (at + field_columns) to text)) e
    where
      go : (o : Option ℤ) (p : Option (List ℤ)) → is_some o ≡ true → is_some (with_field o p) ≡ is_some p
      go none p e = absurd (true_not_false e refl)
      go (some z) none e = refl
      go (some z) (some zs) e = refl

pub numerals_end : (t : Text) → is_some (field_numerals 0 t) ≡ true
unfolding field_numerals
numerals_end t = refl

-- ---- its bytes
module _ (picks : ℕ → Bool) (o : Outside picks) (no-blank : picks blank ≡ false) where
  columns-lack : (t : Text) → is_some (in_columns t) ≡ true → lacks picks t ≡ true
  unfolding in_columns
  columns-lack [] e = absurd (true_not_false e refl)
  columns-lack (c ∷ cs) e = go (eqb c blank) refl e (columns-lack cs)
    where
      of_numeral : (n : Option ℤ) → numeral (c ∷ cs) ≡ n → is_some n ≡ true → lacks picks (c ∷ cs) ≡ true
      of_numeral none w e = absurd (true_not_false e refl)
      of_numeral (some z) w e = numeral-lacks picks o (c ∷ cs) z w

      go : (b : Bool) → eqb c blank ≡ b → is_some (cond b (in_columns cs) (numeral (c ∷ cs))) ≡ true → (is_some (in_columns cs) ≡ true → lacks picks cs ≡ true) → lacks picks (c ∷ cs) ≡ true
      go true w e ih = ap₂ (λ (x y : Bool). not x && y) (ap picks (eqb-true c blank w) ∙ no-blank) (ih e)
      go false w e ih = of_numeral (numeral (c ∷ cs)) refl e

  fields-lack : (n : ℕ) (t : Text) → is_some (field_numerals n t) ≡ true → lacks picks (take (n * field_columns) t) ≡ true
  unfolding field_numerals
  fields-lack zero t e = ap (λ (k : ℕ). lacks picks (take k t)) (let z : 0 * field_columns ≡ 0 = omega arith in z)
  fields-lack (suc n) t e =
      let k : suc n * field_columns ≡ field_columns + n * field_columns = omega arith in
      let both = go (in_columns (take field_columns t)) (field_numerals n (drop field_columns t)) e in
      ap (λ (m : ℕ). lacks picks (take m t)) k ∙ ap (lacks picks) (take-add field_columns (n * field_columns) t)
      ∙ lacks_append picks (take field_columns t) (take (n * field_columns) (drop field_columns t)) (columns-lack (take field_columns t) both.0)
      (fields-lack n (drop field_columns t) both.1)
    where
      go : (a : Option ℤ) (b : Option (List ℤ)) → is_some (with_field a b) ≡ true → (is_some a ≡ true) × (is_some b ≡ true)
      go none b e = absurd (true_not_false e refl)
      go (some z) none e = absurd (true_not_false e refl)
      go (some z) (some zs) e = (refl, refl)

  -- behind its name a strict line has only blanks, digits and minuses
  pub strict_lacks : (t : Text) → is_strict t ≡ true → lacks picks (drop name_columns t) ≡ true
  strict_lacks t e =
      let p = strict_parts t e in
      let f = fitting t p.fit in
      let rest = drop head_columns t in
      let whole : take (field_count t * field_columns) rest ≡ rest = take_all (field_count t * field_columns) rest (omega (arith, f.size, length-drop head_columns t)) in
      ap (lacks picks) (sym (take-append-drop year_columns (drop name_columns t)) ∙ ap (λ (u : Text). take year_columns (drop name_columns t) ++ u) (drop-drop year_columns name_columns t))
      ∙ lacks_append picks (take year_columns (drop name_columns t)) rest (columns-lack (take year_columns (drop name_columns t)) p.dated)
      (ap (lacks picks) (sym whole) ∙ fields-lack (field_count t) rest p.numbered)

-- ---- bytes over 127
outside_high : Outside is_high
outside_high = record {
  digit = λ c e. lt-leb 128 c (omega (arith, ltb-true c 58 (and-true (leb 48 c) (ltb c 58) e).1));
  sign = refl;
}

pub high_append : (s t : Text) → any_high (s ++ t) ≡ (any_high s || any_high t)
unfolding any_high
high_append [] t = refl
high_append (c ∷ s) t = ap (λ (b : Bool). is_high c || b) (high_append s t) ∙ sym (or_assoc (is_high c) (any_high s) (any_high t))

lacking_high : (t : Text) → lacks is_high t ≡ true → any_high t ≡ false
unfolding any_high
lacking_high [] e = refl
lacking_high (c ∷ t) e = let both = lacks-first is_high c t e in ap₂ ◌||◌ both.0 (lacking_high t both.1)

printable_low : (t : Text) → all_printable t ≡ true → any_high t ≡ false
unfolding all_printable any_high
printable_low [] e = refl
printable_low (c ∷ t) e =
    let halves = and-true (leb blank c && leb c last_printable) (all_printable t) e in
    let bounds = and-true (leb blank c) (leb c last_printable) halves.0 in
    ap₂ ◌||◌ (lt-leb 128 c (omega (arith, leb-true c last_printable bounds.1))) (printable_low t halves.1)

pub strict_ascii : (t : Text) → is_strict t ≡ true → any_high t ≡ false
unfolding is_name
strict_ascii t e =
    let name = take name_columns t in
    let printable = (and-true (eqb (length name) name_columns) (all_printable name)
    (and-true (eqb (length name) name_columns && all_printable name) (not (all_blank name)) (strict_parts t e).named).0).1 in
    ap any_high (sym (take-append-drop name_columns t)) ∙ high_append name (drop name_columns t)
    ∙ ap₂ ◌||◌ (printable_low name printable) (lacking_high (drop name_columns t) (strict_lacks is_high outside_high refl t e))
