-- The numbers of reach and piece calls with numbers: on one ring of a line from 0 to 1 the width 2 is reached nowhere, which gives 16 at 0, and W9's
-- space has no third segment, which gives 17 at 2.
use mathlib.Core.Path.{◌≡◌, refl, ◌∙◌, ap₂}
use mathlib.Core.List.{List, [], ◌∷◌}
use Prim.Native.Nat.{ℕ, ◌<◌}
use lib.IntN.{ℤ, pos}
use lib.ListN.{length}
use Rattle.base_outcome.specs.Outcome.{refusal}
use Rattle.spec_spline.specs.Reading.{earlywood, latewood}
use Rattle.spec_spline.specs.Cases.{line_space, space9}
use Rattle.spec_spline.proofs.Computing.{calling}
use Rattle.theorems_weights.proofs.Instances.{lent, lent_length}
use Rattle.spec_calls.specs.Reach.{reach_outcome, reach_end}
use Rattle.spec_calls.specs.Pieces.{is_drawable, piece_outcome, piece_end}
use Rattle.curve_codes.specs.Codes.{ReachRefusal, PieceRefusal}
use Rattle.curve_codes.proofs.Codes.{reach_numbers, piece-numbers}

-- 0, 10, 20 and 30 for both wood parts
abbrev coefs9 : List ℤ
coefs9 = pos 0 ∷ pos 0 ∷ pos 10 ∷ pos 10 ∷ pos 20 ∷ pos 20 ∷ pos 30 ∷ pos 30 ∷ []

with_lent : {A : Type 0} (f : ℕ → ℕ → A) → f (length lent) (length lent) ≡ f 6000 6000
with_lent f = ap₂ f lent_length lent_length

-- 0 and 1 for both wood parts
abbrev coefs : List ℤ
coefs = pos 0 ∷ pos 0 ∷ pos 1 ∷ pos 1 ∷ []

nowhere : (reach_end (line_space 1) earlywood coefs (pos 2) lent lent).answers ≡ refusal 16 0
unfolding calling reach_outcome
nowhere = with_lent (λ n d. reach_outcome (line_space 1) earlywood coefs (pos 2) n d) ∙ refl

nowhere_is : ReachRefusal (line_space 1) coefs 16 0 × (0 < 16)
nowhere_is = reach_numbers (line_space 1) earlywood coefs (pos 2) lent lent 16 0 nowhere

no_segment : (piece_end space9 latewood coefs9 2 lent lent).answers ≡ refusal 17 2
unfolding calling is_drawable piece_outcome
no_segment = with_lent (λ n d. piece_outcome space9 latewood coefs9 2 n d) ∙ refl

no_segment_is : PieceRefusal space9 coefs9 2 17 2 × (0 < 17)
no_segment_is = piece-numbers space9 latewood coefs9 2 lent lent 17 2 no_segment
