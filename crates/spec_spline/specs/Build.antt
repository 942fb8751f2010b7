-- The build (§ 5): the table of the whole beam or the first refusal (§ 3), and what the two lent buffers hold afterwards (§ 2,
-- § 4).
use Rattle.std.specs.Prelude.{Bool, cond, ◌||◌, List, [], map, ℕ, ◌-◌, eqb, ltb, ℤ, length, drop}
use Rattle.base_outcome.specs.Codes as codes
use Rattle.base_outcome.specs.Outcome.{Outcome, answer, refusal, refuse, ◌then◌, with_answer, repeat}
use Rattle.spec_spline.specs.Space.{Space, segments, last_part_start, checked, first_column, column_count, condition_count, row_count}
use Rattle.spec_spline.specs.Space.{rows_before}
use Rattle.spec_spline.specs.Conditions.{conditions}
use Rattle.spec_spline.specs.Table.{Table, identity, table_cells, numerators, denominators}
use Rattle.spec_spline.specs.Step.{step}

-- "at each join j of order r the steps k = 0 up to r" (§ 5): the first n steps at join j.
unfoldable pub order_steps : Space → ℕ → ℕ → Table → Outcome Table
order_steps s j n t = repeat n (λ k. step j (conditions s j k)) t

-- "Start with the identity", "Take the joins from the left" (§ 5): the first n joins.
unfoldable pub join_steps : Space → ℕ → Outcome Table
join_steps s n = repeat n (λ j. order_steps s j (condition_count s j)) (identity (column_count s))

-- The weights of a legal space, or code 8 or 9.
unfoldable pub weights : Space → Outcome Table
weights s = join_steps s (segments s - 1)

-- The weights of any three lists, or the first of the refusals 2 to 5, 15, 8 and 9.
unfoldable pub space_weights : Space → Outcome Table
space_weights s = checked s then weights

-- Code 1: the place of the first buffer with fewer than 5,184 cells.
abbrev pub long_enough : {A : Type 0} → ℕ → ℕ → Outcome A → Outcome A
long_enough num_length den_length rest =
    cond (ltb num_length table_cells) (refuse codes.short_buffer 0)
    (cond (ltb den_length table_cells) (refuse codes.short_buffer 1) rest)

-- What building ends with, given the buffers' lengths.
unfoldable pub built : Space → ℕ → ℕ → Outcome Table
built s num_length den_length = long_enough num_length den_length (space_weights s)

-- "After an answer the two buffers hold the last part, rows and columns from 0." (§ 4) The last part's rows and columns of the
-- whole table.
unfoldable pub last_part : Space → Table → Table
last_part s t = let a = last_part_start s in map (drop (first_column s a)) (drop (rows_before s a) t)

-- "After 8, 9, 19 and 20 the 5,184 cells of both weight buffers are 0/1" (§ 3): the buffers are cleared. Building gives 8 and 9
-- alone.
abbrev pub clears : ℕ → Bool
clears code = eqb code codes.tooLarge || eqb code codes.jumps

-- The numerators after the call, given the table that they are to hold: the table's, cleared after 8 or 9, unchanged after the other
-- refusals.
unfoldable pub numerators_after : Outcome Table → List ℤ → List ℤ
numerators_after (answer t) before = numerators t before
numerators_after (refusal code place) before = cond (clears code) (numerators [] before) before

-- The denominators after the call, likewise.
unfoldable pub denominators_after : Outcome Table → List ℤ → List ℤ
denominators_after (answer t) before = denominators t before
denominators_after (refusal code place) before = cond (clears code) (denominators [] before) before

-- What a call of the build ends with: the answer and both lent buffers.
pub record BuildEnd : Type 0 where
  pub answers : Outcome ℕ
  pub numerators : List ℤ
  pub denominators : List ℤ

-- "Building answers with n." (§ 5) The end of the call with these lists and these two buffers lent.
abbrev pub build_end : Space → List ℤ → List ℤ → BuildEnd
build_end s num den =
    let o = built s (length num) (length den) in
    let held = with_answer (last_part s) o in
    record { answers = with_answer (λ _. row_count s) o; numerators = numerators_after held num; denominators = denominators_after held den }
