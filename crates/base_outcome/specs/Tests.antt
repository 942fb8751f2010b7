-- Tests that a call makes of its lists: a number within its range, and the refusal at the first entry that breaks a rule
-- (§ 3).
use Rattle.std.specs.Prelude.{Bool, ◌&&◌, ℕ, ℤ}
use Rattle.std.proofs.Math.Option.{Option, some, none}
use Rattle.std.specs.Int.Signed.{le_z}
use Rattle.base_outcome.specs.Outcome.{Outcome, refuse}

-- z is neither below the one bound nor above the other.
abbrev pub between : ℤ → ℤ → ℤ → Bool
between low high z = le_z low z && le_z z high

-- The refusal at the first index that breaks the rule, or the value given.
abbrev pub refuse_first : {A : Type 0} → ℕ → Option ℕ → Outcome A → Outcome A
refuse_first code none rest = rest
refuse_first code (some i) rest = refuse code i
