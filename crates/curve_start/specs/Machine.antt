-- What the start of a curve call leaves: the machine's answer, both weight buffers, and the ordinates of all columns.
use Rattle.std.specs.Prelude.{List, ◌++◌, ◌≡◌, ℕ, ◌*◌, ◌<◌, ◌≤◌, ℤ, pos, length, get_or, drop, Result, Ok, Err}
use Rattle.base_outcome.specs.Outcome.{Outcome, answer, refusal}
use Rattle.spec_spline.specs.Space.{Space, column_count, row_count}
use Rattle.spec_spline.specs.Table.{Table}
use Rattle.spec_spline.specs.Reading.{earlywood, latewood, coefficient, ordinates, values}
use Rattle.spec_spline.specs.CurveCall.{CurveResult, curve_outcome, curve_numerators, curve_denominators}
use Rattle.build_space.specs.Legal.{ListsLegal}
use Rattle.base_outcome.specs.declared.Refusal.{Refusal}
use Rattle.curve_ordinates.specs.Ordinates.{Coefficients}
use Rattle.curve_places.specs.Offsets.{column_limit, Within}
use Rattle.curve_parts.specs.Parts.{Lent}

-- Both lists of ordinates take the columns of every beam.
pub record ColumnRoom (l : Lent) : Type 0 where
  pub early_long : length l.early ≡ column_limit
  pub late_long : length l.late ≡ column_limit

-- A curve call: its space, coefficients and positions, and the length of its values' buffer.
pub record Call : Type 0 where
  pub lists : Space
  pub coefs : List ℤ
  pub positions : List ℤ
  pub room : ℕ

abbrev pub call : Space → List ℤ → List ℤ → ℕ → Call
call lists coefs positions room = record { lists = lists; coefs = coefs; positions = positions; room = room }

-- What it ends with, with these weight buffers lent.
abbrev pub outcome_of : Call → Lent → Outcome CurveResult
outcome_of c l = curve_outcome c.lists c.coefs c.positions (length l.num) (length l.den) c.room

-- After an answer with n: the lists and entries are legal, the values' buffer takes a pair for each position, n is the count of
-- rows, and each wood part's list has the ordinates of all columns at its front.
pub record CurvesHeld (c : Call) (n : ℕ) (before after : Lent) : Type 0 where
  pub table : Table
  pub is : outcome_of c before ≡ answer (record { table = table; values = values c.lists table c.coefs c.positions })
  pub legal : ListsLegal c.lists.breaks c.lists.degrees c.lists.orders
  pub count : n ≡ row_count c.lists
  pub coefficients : Coefficients c.coefs (row_count c.lists)
  pub within : (k : ℕ) → k < length c.positions → Within c.lists (get_or c.positions k (pos 0))
  pub room_enough : 2 * length c.positions ≤ c.room
  pub early_is : after.early ≡ ordinates c.lists table (coefficient earlywood c.coefs)
      ++ drop (column_count c.lists) before.early
  pub late_is : after.late ≡ ordinates c.lists table (coefficient latewood c.coefs)
      ++ drop (column_count c.lists) before.late

-- What the machine's answer tells: the curves are held, or the call is refused so.
abbrev pub CurvesTold : Call → Lent → Lent → Result ℕ Refusal → Type 0
CurvesTold c before after (Ok n) = CurvesHeld c n before after
CurvesTold c before after (Err r) = outcome_of c before ≡ refusal r.code r.place

-- The answer, and both weight buffers as after a curve call.
pub record CurvesLeave (c : Call) (r : Result ℕ Refusal) (before after : Lent) : Type 0 where
  pub told : CurvesTold c before after r
  pub numerators_are : after.num ≡ curve_numerators c.lists (outcome_of c before) before.num
  pub denominators_are : after.den ≡ curve_denominators c.lists (outcome_of c before) before.den
