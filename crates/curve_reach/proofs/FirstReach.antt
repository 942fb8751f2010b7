-- What the answer means: the position found is the first that reaches the width, and after 16 there is none. A position of the
-- span is the start and a number of 256ths below the count.
use mathlib.Core.Path.{◌≡◌, refl, subst}
use mathlib.Core.Bool.{Bool, false}
use mathlib.Core.List.{List, []}
use mathlib.Core.Option.{Option, some, none}
use Prim.Native.Nat.{ℕ}
use native.Mathlib.Omega.{arith}
use lib.IntN.{ℤ}
use lib.ListN.{length}
use lib.Signed.{◌<ℤ◌, ◌≤ℤ◌}
use Rattle.base_exact.proofs.Decide.{true_not_false}
use Rattle.base_exact.proofs.Word.{le_z_true, le_z_false}
use Rattle.base_outcome.specs.Outcome.{answer, refusal}
use Rattle.base_outcome.specs.Search.{first}
use Rattle.spec_spline.specs.Space.{Space, break}
use Rattle.spec_spline.specs.Piecewise.{Accepted}
use Rattle.spec_spline.specs.Reading.{Wood, fine, value_at}
use Rattle.base_outcome.proofs.Outcome.{answer_unique, answer_not_refusal, then_inverts, Broken, first-refuses, second-refuses, then_breaks}
use Rattle.base_outcome.proofs.Search.{First, first_some_inverts, first-none_inverts}
use Rattle.spec_spline.proofs.Legal.{keeping_refusal}
use Rattle.theorems_values.proofs.Segment.{accepted-checked}
use Rattle.theorems_acceptance.proofs.Curves.{curves_never_give_nine}
use Rattle.spec_calls.specs.CurveAlone.{curve_alone}
use Rattle.curve_start.proofs.Accepted.{accepted_by}
use Rattle.spec_calls.specs.Positions.{position_count, position}
use Rattle.spec_calls.specs.Reach.{reaches, reached_at, reach_outcome}
use Rattle.curve_reach.specs.FirstReach.{FirstAt, AnswersAreFirst, NeverReached, SixteenIsNever, ReachNeverGivesNine}
use Rattle.curve_reach_search.proofs.Positions.{position-after-start, position-before_end, index_of, position_of_index, index_below, index_in_span}
use Rattle.curve_reach.proofs.Codes.{curve_codes}

module _ (s : Space) (wood : Wood) (coefs : List ℤ) (width : ℤ) (a : Accepted s) where
  abbrev test : ℕ → Bool
  test = reaches s a.table wood coefs width

  -- a position that fails the test lies below the width
  below-width : (y : ℤ) → fine (break s 0) ≤ℤ y → test (index_of s y) ≡ false → value_at s a.table wood coefs y <ℤ fine width
  below-width y h e = subst (λ x. value_at s a.table wood coefs x <ℤ fine width) (position_of_index s y h) (le_z_false _ _ e)

  found : (i : ℕ) → First test (position_count s) i → FirstAt s wood coefs width (position s i)
  found i f = record {
    accepted = a;
    after-start = position-after-start s i;
    before_end = position-before_end s (accepted-checked s a).1 i f.below;
    reaches = le_z_true _ _ f.meets;
    none_before = λ y h k. below-width y h (f.before (index_of s y) (index_below s y i h k));
  }

  searched : (o : Option ℕ) (x : ℤ) → first (position_count s) test ≡ o → reached_at s o ≡ answer x → FirstAt s wood coefs width x
  searched (some i) x e r =
      subst (FirstAt s wood coefs width) (answer_unique {a = position s i} refl r) (found i (first_some_inverts test (position_count s) e))
  searched none x e r = absurd (answer_not_refusal r refl)

  nowhere : (o : Option ℕ) (code place : ℕ) → first (position_count s) test ≡ o → reached_at s o ≡ refusal code place
      → NeverReached s wood coefs width
  nowhere (some i) code place e r = absurd (answer_not_refusal refl r)
  nowhere none code place e r = record {
    accepted = a;
    none = λ y h k. below-width y h (first-none_inverts test (position_count s) e (index_of s y)
        (index_in_span s (accepted-checked s a).1 y h k));
  }

pub answers_are_first : AnswersAreFirst
unfolding reach_outcome
answers_are_first s wood coefs width num_length den_length x e =
    let c = then_inverts (curve_alone s coefs num_length den_length)
    (λ r. reached_at s (first (position_count s) (reaches s r.table wood coefs width))) e in
    searched s wood coefs width (accepted_by s coefs num_length den_length c.middle c.before) _ x refl c.after

pub sixteen_is_never : SixteenIsNever
unfolding reach_outcome
sixteen_is_never s wood coefs width num_length den_length place e =
    go (then_breaks (curve_alone s coefs num_length den_length)
    (λ r. reached_at s (first (position_count s) (reaches s r.table wood coefs width))) e)
  where
    go : Broken (curve_alone s coefs num_length den_length)
        (λ r. reached_at s (first (position_count s) (reaches s r.table wood coefs width))) 16 place → NeverReached s wood coefs width
    go (first-refuses p) = absurd (omega (arith, curve_codes s coefs [] num_length den_length 0 16 place p))
    go (second-refuses r p q) = nowhere s wood coefs width (accepted_by s coefs num_length den_length r p) _ 16 place refl q

pub reach_never_gives_nine : ReachNeverGivesNine
unfolding reach_outcome
reach_never_gives_nine s wood coefs width num den place e =
    go (then_breaks (curve_alone s coefs (length num) (length den))
    (λ r. reached_at s (first (position_count s) (reaches s r.table wood coefs width))) e)
  where
    -- code 16 is not 9
    sixteen : (o : Option ℕ) → reached_at s o ≡ refusal 9 place → ⊥
    sixteen (some i) r = answer_not_refusal refl r
    sixteen none r = true_not_false refl (keeping_refusal 16 0 refl r)

    go : Broken (curve_alone s coefs (length num) (length den))
        (λ r. reached_at s (first (position_count s) (reaches s r.table wood coefs width))) 9 place → ⊥
    go (first-refuses p) = curves_never_give_nine s coefs [] place (length num) (length den) 0 p
    go (second-refuses r p q) = sixteen (first (position_count s) (reaches s r.table wood coefs width)) q
