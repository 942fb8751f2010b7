-- One turn of a loop that writes: the numbers of fields one after another, and widths from hundredths to thousandths.
use mathlib.Core.Path.{◌≡◌, refl, sym, ◌∙◌, ap, ap₂}
use mathlib.Core.Bool.{true}
use mathlib.Core.List.{List, [], ◌∷◌, ◌++◌, append-nil}
use mathlib.Core.Option.{Option, some, none}
use Prim.Native.Nat.{ℕ, ◌+◌, ◌*◌, ◌-◌, ◌<◌, ◌≤◌}
use native.Mathlib.Omega.{arith}
use lib.IntN.{ℤ, pos, nat_abs, ◌*ℤ◌}
use lib.ListN.{length, get_or, take, drop, set, drop_of_length-le, length-append, length-drop}
use lib.Seq.{slice, sets, take_all, length-take-le, get_or-append-add, get_or-drop}
use lib.Signed.{le_z}
use mir.Syntax.{w32}
use mir.Val.{SFits}
use Rattle.std.proofs.lemmas.List.{get_or_default, length-map}
use Rattle.std.proofs.lemmas.List.Edits.{map_over_more}
use Rattle.std.proofs.lemmas.List.Recursion.{and_at}
use Rattle.base_exact.proofs.Decide.{and-true, clash}
use Rattle.base_exact.proofs.Integer.{abs_mono, abs_mul}
use Rattle.base_exact.proofs.Word.{le_z_true, sfits_abs}
use Rattle.base_text.specs.Bytes.{Text}
use Rattle.spec_tucson.specs.Columns.{in_columns}
use Rattle.spec_tucson.specs.Line.{field_columns, width_limit, with_field, field_numerals, is_width}
use Rattle.spec_tucson.specs.Series.{from_hundredths}
use Rattle.spec_tucson.specs.Writing.{all_widths}
use Rattle.tucson_lines.proofs.Fields.{fields-first}
use Rattle.tucson_read.specs.Write.{numerals_of}
use Rattle.tucson_read.proofs.Sets.{sets-next}

-- ---- the numbers of fields
with_numeral : (a : Option ℤ) (x : Option (List ℤ)) → with_field a x ≡ some (numerals_of (with_field a x)) → (z : ℤ) × (a ≡ some z)
with_numeral none x e = clash cc
with_numeral (some z) x e = (z, refl)

with_rest : (a : Option ℤ) (x : Option (List ℤ)) (z : ℤ) → with_field a x ≡ some (numerals_of (with_field a x)) → a ≡ some z
    → (x ≡ some (numerals_of x)) × (numerals_of (with_field a x) ≡ z ∷ numerals_of x)
with_rest none x z e h = clash cc
with_rest (some y) none z e h = clash cc
with_rest (some y) (some fs) z e h = let same : y ≡ z = cc in (refl, ap (λ (w : ℤ). w ∷ fs) same)

module _ (text : Text) (start to m : ℕ) (some_left : 1 ≤ m) (longer : start + field_columns ≤ to)
    (good : field_numerals m (slice start to text) ≡ some (numerals_of (field_numerals m (slice start to text)))) where
  abbrev here : Option ℤ
  here = in_columns (slice start (start + field_columns) text)

  abbrev others : Option (List ℤ)
  others = field_numerals (m - 1) (slice (start + field_columns) to text)

  first : field_numerals m (slice start to text) ≡ with_field here others
  first = fields-first m text start to some_left longer

  good-first : with_field here others ≡ some (numerals_of (with_field here others))
  good-first = sym first ∙ good ∙ ap (λ (o : Option (List ℤ)). some (numerals_of o)) first

  field-numeral : (z : ℤ) × (here ≡ some z)
  field-numeral = with_numeral here others good-first

  field_next : (z : ℤ) → here ≡ some z
      → (others ≡ some (numerals_of others)) × (numerals_of (field_numerals m (slice start to text)) ≡ z ∷ numerals_of others)
  field_next z e = let r = with_rest here others z good-first e in (r.0, ap numerals_of first ∙ r.1)

fields-none : (t : Text) → numerals_of (field_numerals 0 t) ≡ []
unfolding field_numerals
fields-none t = refl

-- ---- filling a buffer with them, i so far

-- the numbers of n fields, which are numbers
abbrev NumeralsOf : ℕ → Text → List ℤ
NumeralsOf n t = numerals_of (field_numerals n t)

-- the text from the i-th field on
abbrev from_field : Text → ℕ → ℕ → ℕ → Text
from_field text from to i = slice (from + i * field_columns) to text

pub record Filling (text : Text) (from to n : ℕ) (before : List ℤ) (at : ℕ) (widths : List ℤ) (i : ℕ) : Type 0 where
  pub numerals : field_numerals (n - i) (from_field text from to i) ≡ some (NumeralsOf (n - i) (from_field text from to i))
  pub left : sets before at (NumeralsOf n (slice from to text)) ≡ sets widths (at + i) (NumeralsOf (n - i) (from_field text from to i))

module _ {text : Text} {from to n at : ℕ} {before : List ℤ} where
  module _ {widths : List ℤ} {i : ℕ} (f : Filling text from to n before at widths i) (more : i < n)
      (longer : from + n * field_columns ≤ to) where
    abbrev start : ℕ
    start = from + i * field_columns

    pub filling_number : (z : ℤ) × (in_columns (slice start (start + field_columns) text) ≡ some z)
    filling_number = field-numeral text start to (n - i) (omega arith) (omega arith) f.numerals

    pub filling_next : {z : ℤ} → in_columns (slice start (start + field_columns) text) ≡ some z
        → Filling text from to n before at (set widths (at + i) z) (i + 1)
    filling_next {z} e =
        let next = field_next text start to (n - i) (omega arith) (omega arith) f.numerals z e in
        let behind : from + (i + 1) * field_columns ≡ start + field_columns = omega arith in
        let fewer : n - (i + 1) ≡ n - i - 1 = omega arith in
        let t = slice (start + field_columns) to text in
        record {
          numerals = rw (behind, fewer) next.0;
          left =
              f.left ∙ ap (sets widths (at + i)) next.1 ∙ sets-next widths at i z (NumeralsOf (n - i - 1) t)
              ∙ ap₂ (λ (m k : ℕ). sets (set widths (at + i) z) (at + (i + 1)) (NumeralsOf m (slice k to text))) (sym fewer) (sym behind);
        }

  pub filling_ends : {widths : List ℤ} {i : ℕ} → Filling text from to n before at widths i → n ≤ i
      → widths ≡ sets before at (NumeralsOf n (slice from to text))
  filling_ends {widths} {i} f h =
      let none_left : n - i ≡ 0 = omega arith in
      let t = from_field text from to i in
      sym (f.left ∙ ap (λ (m : ℕ). sets widths (at + i) (NumeralsOf m t)) none_left ∙ ap (sets widths (at + i)) (fields-none t))

-- ---- hundredths
abbrev ten : ℤ → ℤ
ten w = w *ℤ pos 10

pub width_small : (z : ℤ) → is_width z ≡ true → nat_abs z ≤ width_limit
unfolding is_width
width_small z e =
    let both = and-true (le_z (pos 0) z) (le_z z (pos width_limit)) e in
    abs_mono z (pos width_limit) (le_z_true (pos 0) z both.0) (le_z_true z (pos width_limit) both.1)

pub tenfold_fits : (z : ℤ) → is_width z ≡ true → SFits w32 (z *ℤ pos 10)
tenfold_fits z e = sfits_abs (omega (arith, abs_mul z (pos 10), width_small z e))

-- widths of which those before index i are multiplied
module _ (before widths : List ℤ) (i : ℕ) (within : i < length before) (so_far : widths ≡ from_hundredths (take i before) ++ drop i before) where
  scale-here : get_or widths i (pos 0) ≡ get_or before i (pos 0)
  unfolding from_hundredths
  scale-here =
      let n : length (from_hundredths (take i before)) + 0 ≡ i = omega (arith, length-map (take i before) ten, length-take-le i before (omega arith)) in
      ap (λ (ws : List ℤ). get_or ws i (pos 0)) so_far
      ∙ ap (λ (k : ℕ). get_or (from_hundredths (take i before) ++ drop i before) k (pos 0)) (sym n)
      ∙ get_or-append-add (from_hundredths (take i before)) (drop i before) 0 (pos 0)
      ∙ get_or-drop i before 0 (pos 0)
      ∙ ap (λ (k : ℕ). get_or before k (pos 0)) (let e : i + 0 ≡ i = omega arith in e)

  pub scale-width : all_widths before ≡ true → is_width (get_or widths i (pos 0)) ≡ true
  unfolding all_widths
  scale-width e = ap is_width scale-here ∙ and_at all_widths is_width refl (λ _ _. refl) before i (pos 0) within e

  pub scale-next : set widths i (ten (get_or widths i (pos 0))) ≡ from_hundredths (take (i + 1) before) ++ drop (i + 1) before
  unfolding from_hundredths
  scale-next =
      let w = get_or widths i (pos 0) in
      let n = length-append (from_hundredths (take i before)) (drop i before) in
      let m = length-map (take i before) ten in
      let long : i < length widths = omega (arith, ap length so_far, length-take-le i before (omega arith), length-drop i before) in
      map_over_more ten before widths i w within so_far (get_or_default widths i (pos 0) w long)

pub scale_length : (ws : List ℤ) → length (from_hundredths ws) ≡ length ws
unfolding from_hundredths
scale_length ws = length-map ws ten

pub scale_none : (before : List ℤ) → before ≡ from_hundredths (take 0 before) ++ drop 0 before
unfolding from_hundredths
scale_none before = refl

pub scale_all : (before : List ℤ) (i : ℕ) → length before ≤ i → from_hundredths (take i before) ++ drop i before ≡ from_hundredths before
scale_all before i h =
    ap₂ (λ (a b : List ℤ). from_hundredths a ++ b) (take_all i before h) (drop_of_length-le before h)
    ∙ append-nil (from_hundredths before)
