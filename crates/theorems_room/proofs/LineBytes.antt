-- A strict line takes at least half as many bytes of the file as it has, and one more where its last number has three digits or more.
use mathlib.Core.Path.{◌≡◌, refl, sym, ◌∙◌, ap, subst}
use mathlib.Core.Bool.{Bool, true, false, cond, ◌&&◌, not}
use mathlib.Core.List.{List, [], ◌∷◌, ◌++◌}
use mathlib.Core.Option.{Option, some, none, some-injective}
use Prim.Native.Nat.{ℕ, zero, suc, ◌+◌, ◌*◌, ◌-◌, ◌%◌, ◌<◌, ◌≤◌}
use native.Mathlib.Omega.{arith}
use lib.Dec.{eqb}
use lib.IntN.{ℤ}
use lib.ListN.{length, get_or, take, drop, length-append, length-drop}
use lib.Seq.{take-append-le, drop-append-le, length-take-le}
use Rattle.base_exact.proofs.Decide.{clash, true_not_false}
use Rattle.base_text.specs.Bytes.{Text}
use Rattle.base_text.specs.Numeral.{decimal}
use Rattle.base_text.proofs.RoundTrip.{decimal_any}
use Rattle.spec_tucson.specs.Columns.{blank, in_columns}
use Rattle.spec_tucson.specs.Line.{Line, name_columns, year_columns, field_columns, all_blank, is_name, with_field, field_numerals, field_count, line_in_columns}
use Rattle.spec_tucson.specs.Shown.{expanded}
use Rattle.spec_tucson.specs.TextReading.{last_field}
use Rattle.tucson_lines.proofs.GoodLines.{columns-parts}
use Rattle.tucson_strict.proofs.Strict.{fitting}
use Rattle.theorems_tucson.proofs.Lines.{name-parts}
use Rattle.theorems_room.proofs.Tabs.{Inked, take_get, drop_get, Parted, parted, head_bytes, field-bytes, closing-bytes, number-inked}

-- ---- one field after another

record FirstField (n : ℕ) (w : Text) (fs : List ℤ) : Type 0 where
  number : ℤ
  others : List ℤ
  first : in_columns (take field_columns w) ≡ some number
  rest : field_numerals n (drop field_columns w) ≡ some others
  are : number ∷ others ≡ fs

first_field : (n : ℕ) (w : Text) (fs : List ℤ) → field_numerals (suc n) w ≡ some fs → FirstField n w fs
unfolding field_numerals
first_field n w fs e = go (in_columns (take field_columns w)) refl (field_numerals n (drop field_columns w)) refl e
  where
    go : (x : Option ℤ) → in_columns (take field_columns w) ≡ x → (y : Option (List ℤ)) → field_numerals n (drop field_columns w) ≡ y → with_field x y ≡ some fs → FirstField n w fs
    go none p y q e = clash cc
    go (some z) p none q e = clash cc
    go (some z) p (some zs) q e = record { number = z; others = zs; first = p; rest = q; are = some-injective (z ∷ zs) fs e }

-- the bytes of the first six columns, and what is behind them
record Six (n : ℕ) (w more cs : Text) : Type 0 where
  front : Text
  back : Text
  size : length cs ≡ length front + length back
  first : expanded n front ≡ take field_columns w
  rest : expanded (n + field_columns) back ≡ drop field_columns w ++ more

six : (n : ℕ) (w more cs : Text) (z : ℤ) → field_columns ≤ length w → in_columns (take field_columns w) ≡ some z → expanded n cs ≡ w ++ more → Six n w more cs
six n w more cs z l e is =
    let front : take field_columns (expanded n cs) ≡ take field_columns w = ap (take field_columns) is ∙ take-append-le field_columns w more l in
    let back : drop field_columns (expanded n cs) ≡ drop field_columns w ++ more = ap (drop field_columns) is ∙ drop-append-le field_columns w more l in
    let size = length-take-le field_columns w l in
    let p = parted cs n 5 (λ q. number-inked (take field_columns w) z 5 e (omega (arith, size, decimal_any z)) (omega (arith, size))
    (ap (λ (t : Text). get_or t 5 blank) (sym front) ∙ take_get 5 6 (expanded n cs) (omega arith) ∙ q)) in
    record {
      front = p.front;
      back = p.back;
      size = ap length p.is ∙ length-append p.front p.back;
      first = p.first ∙ front;
      rest = p.rest ∙ back;
    }

module _ (n : ℕ) (w more cs : Text) (z : ℤ) (l : field_columns ≤ length w) (e : in_columns (take field_columns w) ≡ some z) where
  inked : (s : Six n w more cs) (i : ℕ) → i < 6 → 6 ≤ i + length (decimal z) → Inked i (expanded n s.front)
  inked s i g h q = number-inked (take field_columns w) z i e (omega (arith, length-take-le field_columns w l)) (omega (arith, length-take-le field_columns w l))
      (ap (λ (t : Text). get_or t i blank) (sym s.first) ∙ q)

  three : (s : Six n w more cs) → n % 2 ≡ 0 → 3 ≤ length s.front
  three s v = field-bytes s.front n v (ap length s.first ∙ length-take-le field_columns w l) (inked s 5 (omega arith) (omega (arith, decimal_any z)))

  four : (s : Six n w more cs) → 3 ≤ length (decimal z) → 4 ≤ length s.front
  four s h = closing-bytes s.front n (ap length s.first ∙ length-take-le field_columns w l)
      (inked s 3 (omega arith) (omega arith)) (inked s 4 (omega arith) (omega arith)) (inked s 5 (omega arith) (omega arith))

pub fields-bytes : (f n : ℕ) (w more cs : Text) (fs : List ℤ) → n % 2 ≡ 0 → length w ≡ f * field_columns → field_numerals f w ≡ some fs → expanded n cs ≡ w ++ more
    → 3 * f ≤ length cs
fields-bytes zero n w more cs fs v l e is = omega arith
fields-bytes (suc f) n w more cs fs v l e is =
    let x = first_field f w fs e in
    let s = six n w more cs x.number (omega arith) x.first is in
    let rest = fields-bytes f (n + field_columns) (drop field_columns w) more s.back x.others (omega arith) (omega (arith, length-drop field_columns w)) x.rest s.rest in
    omega (arith, three n w more cs x.number (omega arith) x.first s v, rest, s.size)

pub closed-bytes : (f n : ℕ) (w more cs : Text) (fs : List ℤ) → n % 2 ≡ 0 → length w ≡ f * field_columns → field_numerals f w ≡ some fs → expanded n cs ≡ w ++ more
    → 3 ≤ length (decimal (last_field fs)) → 1 ≤ f → 3 * f + 1 ≤ length cs
unfolding last_field field_numerals
closed-bytes zero n w more cs fs v l e is h g = absurd (omega arith)
closed-bytes (suc zero) n w more cs fs v l e is h g =
    let x = first_field 0 w fs e in
    let s = six n w more cs x.number (omega arith) x.first is in
    let one : x.others ≡ [] = sym (some-injective [] x.others x.rest) in
    let last : last_field fs ≡ x.number = ap last_field (sym x.are) ∙ ap (λ (zs : List ℤ). last_field (x.number ∷ zs)) one in
    omega (arith, four n w more cs x.number (omega arith) x.first s (omega (arith, ap (λ (z : ℤ). length (decimal z)) last)), s.size)
closed-bytes (suc (suc f)) n w more cs fs v l e is h g =
    let x = first_field (suc f) w fs e in
    let s = six n w more cs x.number (omega arith) x.first is in
    let y = first_field f (drop field_columns w) x.others x.rest in
    let last : last_field fs ≡ last_field x.others =
    ap last_field (sym x.are) ∙ ap (λ (zs : List ℤ). last_field (x.number ∷ zs)) (sym y.are) ∙ ap last_field y.are in
    let rest = closed-bytes (suc f) (n + field_columns) (drop field_columns w) more s.back x.others (omega arith) (omega (arith, length-drop field_columns w)) x.rest s.rest
    (omega (arith, ap (λ (z : ℤ). length (decimal z)) last)) (omega arith) in
    omega (arith, three n w more cs x.number (omega arith) x.first s v, rest, s.size)
