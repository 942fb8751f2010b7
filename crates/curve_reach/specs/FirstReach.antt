-- What the answer means (§ 10), in the words of the curve call's definition: the value at the answer reaches the
-- width, no earlier position's does, and after 16 none does.
use Rattle.std.specs.Prelude.{◌≡◌, List, ℕ, ℤ, ◌<ℤ◌, ◌≤ℤ◌}
use Rattle.base_outcome.specs.Codes as codes
use Rattle.base_outcome.specs.Outcome.{answer, refusal}
use Rattle.spec_spline.specs.Space.{Space, segments, break}
use Rattle.spec_spline.specs.Reading.{Wood, fine, value_at}
use Rattle.spec_spline.specs.Piecewise.{Accepted}
use Rattle.spec_calls.specs.Reach.{reach_outcome, reach_end}

-- The answer x lies in the span, its value reaches the width, and no earlier position's does.
pub record FirstAt (s : Space) (wood : Wood) (coefs : List ℤ) (width x : ℤ) : Type 0 where
  pub accepted : Accepted s
  pub after-start : fine (break s 0) ≤ℤ x
  pub before_end : x ≤ℤ fine (break s (segments s))
  pub reaches : fine width ≤ℤ value_at s accepted.table wood coefs x
  pub none_before : (y : ℤ) → fine (break s 0) ≤ℤ y → y <ℤ x → value_at s accepted.table wood coefs y <ℤ fine width

abbrev pub AnswersAreFirst : Type 0
AnswersAreFirst = (s : Space) (wood : Wood) (coefs : List ℤ) (width : ℤ) (num_length den_length : ℕ) (x : ℤ)
    → reach_outcome s wood coefs width num_length den_length ≡ answer x → FirstAt s wood coefs width x

-- No position of the span reaches the width.
pub record NeverReached (s : Space) (wood : Wood) (coefs : List ℤ) (width : ℤ) : Type 0 where
  pub accepted : Accepted s
  pub none : (y : ℤ) → fine (break s 0) ≤ℤ y → y ≤ℤ fine (break s (segments s)) → value_at s accepted.table wood coefs y <ℤ fine width

abbrev pub SixteenIsNever : Type 0
SixteenIsNever = (s : Space) (wood : Wood) (coefs : List ℤ) (width : ℤ) (num_length den_length place : ℕ)
    → reach_outcome s wood coefs width num_length den_length ≡ refusal codes.never_reached place → NeverReached s wood coefs width

-- Code 9 never comes, whatever the call is given.
abbrev pub ReachNeverGivesNine : Type 0
ReachNeverGivesNine = (s : Space) (wood : Wood) (coefs : List ℤ) (width : ℤ) (num den : List ℤ) (place : ℕ)
    → (reach_end s wood coefs width num den).answers ≡ refusal codes.jumps place → ⊥
