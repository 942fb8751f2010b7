-- The lines of a table: 18 bytes of a name, 20 of a year, 12 of a width, 12 of a value, 20 of an index, four commas and a byte 10.
use mathlib.Core.Path.{◌≡◌, refl, sym, ◌∙◌, ap, subst}
use mathlib.Core.Bool.{Bool, true, false, cond, ◌&&◌}
use mathlib.Core.List.{List}
use Prim.Native.Nat.{ℕ, zero, suc, ◌+◌, ◌*◌, ◌^◌, ◌<◌, ◌≤◌}
use native.Mathlib.Omega.{arith}
use borrow.Author.Tests.{eqb-true, le-leb}
use lib.Dec.{leb}
use lib.IntN.{ℤ, pos, negsuc, nat_abs, ◌+ℤ◌, ◌*ℤ◌}
use lib.ListN.{length, get_or, length-append}
use Rattle.base_exact.specs.Tabulate.{tab}
use Rattle.base_exact.proofs.Decide.{and-true, clash}
use Rattle.base_exact.proofs.Floor.{nearest-abs}
use Rattle.base_exact.proofs.Integer.{up, dn, bal_+, abs-parts, abs_mul, abs-add}
use Rattle.base_outcome.specs.Outcome.{Outcome, answer, refuse}
use Rattle.base_outcome.proofs.Outcome.{answer_not_refusal}
use Rattle.base_text.specs.Numeral.{decimal}
use Rattle.base_text.proofs.Decimal.{digits_length_le}
use Rattle.spec_spline.specs.Reading.{Wood, wood_index}
use Rattle.spec_tucson.specs.Line.{name_columns, is_name}
use Rattle.spec_table.specs.Decimals.{width_text, millionths, curve_text}
use Rattle.spec_table.specs.RingLines.{name_text, numbers_text, Ring, ring_line, lines_of_rings, IndexedSeries, ring_at, ring_lines}
use Rattle.spec_table.specs.RingLinesCall.{ring_lists_fit, ring_lines_outcome}
use Rattle.spec_table.proofs.Names.{name-short}
use Rattle.table_numbers.proofs.Digits.{decimal_length, whole-short, decimals_short, index_short}
use Rattle.table_line.proofs.Numbers.{numbers_length}
use Rattle.theorems_room.specs.TableRoom.{CallTypes, RoomByRings, NeverShortByRings}

-- ---- numbers

year-short : (first : ℤ) (j : ℕ) → nat_abs first ≤ 2 ^ 31 → j ≤ 2 ^ 64 → length (decimal (first +ℤ pos j)) ≤ 20
year-short first j h l = go (first +ℤ pos j) (bal_+ first (pos j)) (abs-add first (pos j))
  where
    go : (z : ℤ) → up z + dn first + dn (pos j) ≡ dn z + up first + up (pos j) → nat_abs z ≤ nat_abs first + nat_abs (pos j) → length (decimal z) ≤ 20
    go (pos n) b a = omega (arith, decimal_length (pos n), digits_length_le 19 n (omega arith))
    go (negsuc n) b a = omega (arith, whole-short 10 (negsuc n) (omega (arith, abs-parts first)))

width-short : (z : ℤ) → nat_abs z ≤ 2 ^ 31 → length (width_text z) ≤ 12
width-short z h = decimals_short 6 3 z (omega arith)

curve_short : (v : ℤ) → nat_abs v ≤ 2 ^ 31 → length (curve_text v) ≤ 12
unfolding millionths
curve_short v h =
    let small = nearest-abs (v *ℤ pos 125) 32 8388608000 (omega arith) (omega (arith, abs_mul v (pos 125))) in
    decimals_short 3 6 (millionths v) (omega (arith, small))

-- ---- lines

rings-short : (n : ℕ) (f : ℕ → Ring) → ((j : ℕ) → j < n → length (ring_line (f j)) ≤ 87) → length (lines_of_rings (tab n f)) ≤ 87 * n
unfolding tab lines_of_rings
rings-short zero f h = omega arith
rings-short (suc n) f h =
    omega (
      arith,
      length-append (ring_line (f 0)) (lines_of_rings (tab n (λ i. f (suc i)))),
      h 0 (omega arith),
      rings-short n (λ i. f (suc i)) (λ j l. h (suc j) (omega arith)),
    )

pub room_by_rings : RoomByRings
unfolding ring_lines ring_line
room_by_rings wood s e c = rings-short (length s.widths) (ring_at wood s) short
  where
    short : (j : ℕ) → j < length s.widths → length (ring_line (ring_at wood s j)) ≤ 87
    short j l =
        let year = s.first_year +ℤ pos j in
        let width = get_or s.widths j (pos 0) in
        let value = get_or s.values (2 * j + wood_index wood) (pos 0) in
        let index = get_or s.indices j (pos 0) in
        omega (
          arith,
          length-append (name_text s.name) (numbers_text year width value index),
          name-short s.name e,
          numbers_length year width value index,
          year-short s.first_year j c.year (omega (arith, c.rings)),
          width-short width (c.widths j),
          curve_short value (c.values (2 * j + wood_index wood)),
          index_short 18 index (omega (arith, c.indices j)),
        )

pub never_short_by_rings : NeverShortByRings
unfolding ring_lines_outcome ring_lists_fit
never_short_by_rings wood s room c h = go (ring_lists_fit s) refl (is_name s.name)
  where
    go : (b : Bool) → ring_lists_fit s ≡ b → (n : Bool)
        → cond b (cond n (cond (leb (length (ring_lines wood s)) room) (answer (ring_lines wood s)) (refuse 1 0)) (refuse 11 0)) (refuse 2 0) ≡ refuse 1 0 → ⊥
    go true w true x =
        let front = and-true _ _ (and-true _ _ w).0 in
        let size = room_by_rings wood s (eqb-true (length s.name) name_columns front.0) c in
        answer_not_refusal (ap (λ (b : Bool). cond b (answer (ring_lines wood s)) (refuse 1 0)) (le-leb (length (ring_lines wood s)) room (omega (arith, size, h)))) x
    go true w false x = clash cc
    go false w n x = clash cc
