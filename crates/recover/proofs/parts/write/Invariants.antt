-- Before the turn at i the cells up to from + i hold the coefficients before `from` and the first i of these.
use Rattle.std.proofs.Common.{◌≡◌, ◌+◌, ◌≤◌, List, ◌++◌, length, ℤ}
use Rattle.base_exact.specs.Rational.{ℚ}
use Rattle.base_fraction.specs.Fractions.{fractions}
use Rattle.spec_calls.specs.RecoveryCall.{listed, numerator_of, denominator_of}
use Rattle.recover.specs.Leaves.{CoefficientsListed}
use Rattle.recover.proofs.parts.write.Given as goal

abbrev pub invariant-loop-i : goal.invariant-loop-i
invariant-loop-i l = (done ps : List ℚ) (num den : List ℤ) → l.cs ≡ fractions ps → length done ≡ l.from → length ps ≡ l.n
    → l.fn.coef_num ≡ listed numerator_of l.from done num → l.fn.coef_den ≡ listed denominator_of l.from done den
    → l.from + l.n ≤ length num → l.from + l.n ≤ length den → CoefficientsListed (l.from + l.i) (done ++ ps) num den l.coef_num l.coef_den
