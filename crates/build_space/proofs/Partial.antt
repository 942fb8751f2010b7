-- Every definition reads only the lists that it needs: on a space with the other lists left out it gives the same. The
-- contracts of this crate name such partial spaces, the definitions of the build the whole one.
use mathlib.Core.Path.{◌≡◌, refl, sym, ◌∙◌, ap, ap₂, fun_ext}
use mathlib.Core.Bool.{◌&&◌}
use mathlib.Core.List.{List, []}
use mathlib.Core.Option.{get_or}
use Prim.Native.Nat.{ℕ, zero, suc, ◌+◌, ◌-◌}
use lib.Dec.{ltb}
use lib.IntN.{ℤ}
use lib.ListN.{length}
use Rattle.spec_spline.specs.Space.{starts_part, part_end, too_many_segments, part_segment_limit, bad_break, bad_degree, bad_order, degree}
use Rattle.spec_spline.specs.Space.{condition_count, first_column, column_count, conditions_before, row_count}
use Rattle.base_outcome.specs.Search.{first}
use Rattle.spec_spline.specs.Reading.{starts_at_discontinuity}
use Rattle.build_space.specs.Machine.{space}

module _ (b d o : List ℤ) where
  pub bad-break_partial : (i : ℕ) → bad_break (space b [] []) i ≡ bad_break (space b d o) i
  unfolding bad_break
  bad-break_partial zero = refl
  bad-break_partial (suc i) = refl

  pub bad-degree_partial : (i : ℕ) → bad_degree (space [] d []) i ≡ bad_degree (space b d o) i
  unfolding bad_degree
  bad-degree_partial i = refl

  pub bad-order_partial : (i : ℕ) → bad_order (space [] d o) i ≡ bad_order (space b d o) i
  unfolding bad_order
  bad-order_partial i = refl

  pub starts-part_partial : (i : ℕ) → starts_part (space [] [] o) i ≡ starts_part (space b d o) i
  unfolding starts_part
  starts-part_partial zero = refl
  starts-part_partial (suc i) = refl

  starts-part-without_breaks : (i : ℕ) → starts_part (space [] d o) i ≡ starts_part (space b d o) i
  unfolding starts_part
  starts-part-without_breaks zero = refl
  starts-part-without_breaks (suc i) = refl

  pub part_end_partial : (i : ℕ) → part_end (space [] d o) i ≡ part_end (space b d o) i
  unfolding part_end
  part_end_partial i = ap (λ test. get_or (first (length d) test) (length d)) (fun_ext (λ k. ap (λ c. ltb i k && c) (starts-part-without_breaks k)))

  pub too_many_segments_partial : (i : ℕ) → too_many_segments (space [] d o) i ≡ too_many_segments (space b d o) i
  unfolding too_many_segments
  too_many_segments_partial i = ap₂ (λ c e. c && ltb part_segment_limit (e - i)) (starts-part-without_breaks i) (part_end_partial i)

  pub first-column_partial : (i : ℕ) → first_column (space [] d []) i ≡ first_column (space b d o) i
  unfolding first_column
  first-column_partial zero = refl
  first-column_partial (suc i) = ap (λ (n : ℕ). n + (degree (space b d o) i + 1)) (first-column_partial i)

  pub conditions-before_partial : (i : ℕ) → conditions_before (space [] [] o) i ≡ conditions_before (space b d o) i
  unfolding conditions_before
  conditions-before_partial zero = refl
  conditions-before_partial (suc i) = ap (λ (n : ℕ). n + condition_count (space b d o) i) (conditions-before_partial i)

  pub column-count_partial : column_count (space [] d []) ≡ column_count (space b d o)
  column-count_partial = first-column_partial (length d)

  pub starts_at_discontinuity_partial : (i : ℕ) → starts_at_discontinuity (space [] [] o) i ≡ starts_at_discontinuity (space b d o) i
  unfolding starts_at_discontinuity
  starts_at_discontinuity_partial zero = refl
  starts_at_discontinuity_partial (suc i) = refl

-- the number of rows needs the degrees and the orders
pub row-count_partial : (b d o : List ℤ) → row_count (space [] d o) ≡ row_count (space b d o)
row-count_partial b d o = ap₂ ◌-◌ (sym (column-count_partial [] d o) ∙ column-count_partial b d o)
    (sym (conditions-before_partial [] d o (length d - 1)) ∙ conditions-before_partial b d o (length d - 1))
