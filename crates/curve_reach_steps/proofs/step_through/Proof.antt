-- `curve_reach_steps::step_through` meets its contract. The loop's invariant: no value before offset u reaches the target; a step goes
-- past those that the steepest rise cannot bring up to it. Assumes nothing.
use mathlib.Core.Path.{◌≡◌, subst}
use mathlib.Core.Logic.{◌⊎◌, inl, inr}
use Prim.Native.Nat.{ℕ, ◌+◌, ◌*◌, ◌-◌, ◌<◌, ◌≤◌}
use native.Mathlib.Omega.{arith}
use native.Mathlib.Nat.{mul-pos, mul-le-mul}
use lib.IntN.{ℤ, pos, nat_abs, ◌-ℤ◌}
use lib.Signed.{◌≤ℤ◌, ◌<ℤ◌}
use mir.Syntax.{w64}
use mir.Val.{SFits, to_z}
use Rattle.base_exact.proofs.Decide.{le_or_lt}
use Rattle.base_exact.proofs.Integer as Z
use Rattle.base_exact.proofs.Word.{to_z-of_z, sfits_abs, fits-unsigned, le_z_true, le_z_false}
use Rattle.curve_ordinates.specs.Ordinates.{ordinate_limit}
use Rattle.curve_reach_steps.specs.Machine.{value_on}
use Rattle.curve_reach_steps.proofs.Rises.{gap-small, room_small, at_least-once}
use Rattle.curve_reach_steps.proofs.Passing.{passed}
use Rattle.curve_reach_steps.proofs.step_through.Statement.{statement}
use Rattle.curve_reach_steps.proofs.step_through.Tie as tie

abbrev invariant-loop : tie.invariant-loop-u
invariant-loop ordinates c p d start end target cost u₀ u =
    (start ≤ u) × ((w : ℕ) → start ≤ w → w < u → w < end → value_on ordinates c p d w <ℤ to_z w64 target)

abbrev decreases-loop : tie.decreases-loop-u
decreases-loop ordinates c p d start end target cost u₀ u = end - u

value-on-requires : tie.Need-value_on-v-requires invariant-loop decreases-loop
value-on-requires c κs =
    let s = c in record { segment = s.requires.segment; within = omega (arith, s.requires.end_within) }

module _ (c : tie.After-value_on-v invariant-loop decreases-loop) where
  abbrev start : tie.Start invariant-loop decreases-loop
  start = c.before.before.before.before

  abbrev target : ℤ
  target = start.args.target

  abbrev u : ℕ
  u = c.loop-u.u

  abbrev values : ℕ → ℤ
  values = value_on start.args.ordinates.now start.args.c start.args.p start.args.d

  result_fits : SFits w64 c.value_on-v.result
  result_fits = record { sfits = c.value_on-v.type_inv }

  result_is : c.value_on-v.result ≡ values u
  result_is = c.value_on-v.ensures.is

-- no value before u, with the target read back from its word
before_is : (c : tie.At-loop-u invariant-loop decreases-loop) (w : ℕ) → let a = c.args in a.start ≤ w → w < c.loop-u.u → w < a.end
    → value_on a.ordinates.now a.c a.p a.d w <ℤ a.target
before_is c w h k l = simp (to_z-of_z, c.before.before.ranges.target) at (c.loop-u.invariant.1 w h k l)

-- the value lies below the target
module _ (c : tie.Else-v-target invariant-loop decreases-loop) where
  abbrev read : tie.After-value_on-v invariant-loop decreases-loop
  read = c.before

  below-result : c.value_on-v.result <ℤ target read
  below-result = le_z_false _ _ (simp (to_z-of_z, (start read).ranges.target, result_fits read) at c.if-v-target.false)

  abbrev gap : ℤ
  gap = target read -ℤ c.value_on-v.result

  gap-size : nat_abs gap ≤ 2 * ordinate_limit
  gap-size =
      gap-small ordinate_limit c.value_on-v.result (target read) c.value_on-v.ensures.small below-result
      (start read).requires.target_small

  gap-fits : SFits w64 gap
  gap-fits = sfits_abs (omega (arith, gap-size))

  gap_positive : pos 0 ≤ℤ gap
  gap_positive = Z.non_neg_le _ (Z.le_sub _ _ (Z.<-≤ _ _ below-result))

cast-ahead : tie.Need-overflow_cast-target invariant-loop decreases-loop
cast-ahead c = let h = gap-fits c in simp (to_z-of_z, (start (read c)).ranges.target, result_fits (read c), h) (fits-unsigned (gap_positive c) h)

ahead-requires : tie.Need-ahead-requires invariant-loop decreases-loop
ahead-requires c κs =
    let s = start (read c) in
    simp (to_z-of_z, s.ranges.target, result_fits (read c), gap-fits c) (record {
      gap-small = gap-size c;
      short = s.requires.segment.short;
      cost_some = mul-pos s.requires.segment.degree_some (read c).steepest.ensures.positive;
    })

-- how many are passed
module _ (c : tie.After-ahead invariant-loop decreases-loop) where
  abbrev at : tie.After-value_on-v invariant-loop decreases-loop
  at = c.before.before

  abbrev rise : ℕ
  rise = at.steepest.result

  cost_is : c.ahead.result * ((start at).args.p * rise) ≤ (nat_abs (gap c.before) - (start at).args.p) * (start at).args.d
  cost_is = simp (to_z-of_z, (start at).ranges.target, result_fits at, gap-fits c.before) at c.ahead.ensures

  few : c.ahead.result ≤ 512000000 * 512000
  few =
      let s = start at in
      let some = mul-pos s.requires.segment.degree_some at.steepest.ensures.positive in
      let room = room_small (nat_abs (gap c.before) - s.args.p) s.args.d {a = 512000000} (omega (arith, gap-size c.before))
      s.requires.segment.short in
      omega (arith, at_least-once c.ahead.result (s.args.p * rise) some, cost_is, room)

  -- none of them reaches the target
  none_passed : (w : ℕ) → u at ≤ w → w ≤ u at + c.ahead.result → w ≤ (start at).args.d → values at w <ℤ target at
  none_passed = passed _ _ (start at).args.p (start at).args.d rise (u at) c.ahead.result (target at)
      (start at).requires.segment.degree_some (start at).requires.segment.long at.steepest.ensures
      (subst (λ z. z <ℤ target at) (result_is at) (below-result c.before))
      (subst (λ z. c.ahead.result * ((start at).args.p * rise) ≤ (nat_abs (target at -ℤ z) - (start at).args.p) * (start at).args.d)
      (result_is at) cost_is)

  none_before : (w : ℕ) → (start at).args.start ≤ w → w < u at + (1 + c.ahead.result) → w < (start at).args.end → values at w <ℤ target at
  none_before w h k l = go (le_or_lt (u at) w)
    where
      go : (u at ≤ w) ⊎ (w < u at) → values at w <ℤ target at
      go (inl m) = none_passed w m (omega arith) (omega (arith, (start at).requires.end_within))
      go (inr m) = before_is at.before.before w h m l

loop-again : tie.Need-loop-u-preserved invariant-loop decreases-loop
loop-again c = (omega (arith, (at c).loop-u.invariant.0), simp (to_z-of_z, (start (at c)).ranges.target) (none_before c))

returns : tie.Need-returns-then-u-end invariant-loop decreases-loop
returns c = record { after = c.loop-u.invariant.0; none_before = before_is c.before; there = λ h. absurd (omega arith) }

returns-2 : tie.Need-returns-then-v-target invariant-loop decreases-loop
returns-2 c =
    let r = c in
    record {
      after = r.loop-u.invariant.0;
      none_before = before_is r.before.before.before;
      there = λ h. subst (λ z. target r.before ≤ℤ z) (result_is r.before)
          (le_z_true _ _ (simp (to_z-of_z, (start r.before).ranges.target, result_fits r.before) at c.if-v-target.true));
    }

pub step_through_spec : {M : Type 1} → statement M
step_through_spec =
    tie.close (tie.spec invariant-loop decreases-loop (λ c κs. c.requires.segment.columns)
    (λ c. omega (arith, mul-le-mul c.requires.segment.degree_low c.steepest.ensures.small))
    (λ c. (omega arith, λ w h k l. absurd (omega arith))) value-on-requires
    (λ c. let f = (start (read c)).ranges.target in let g = result_fits (read c) in simp to_z-of_z (gap-fits c)) cast-ahead ahead-requires
    (λ c. omega (arith, few c)) (λ c. let s = start (at c) in omega (arith, few c, s.requires.end_within, s.requires.segment.short))
    (λ c. omega arith) loop-again returns returns-2)
