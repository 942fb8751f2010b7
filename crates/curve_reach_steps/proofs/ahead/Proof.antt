-- `curve_reach_steps::ahead` meets its contract. Assumes nothing.
use borrow.Author.Rules.{rules}
use Prim.Native.Nat.{◌-◌}
use native.Mathlib.Omega.{arith}
use Rattle.curve_reach_steps.proofs.Rises.{room_small, passed-cost}
use Rattle.curve_reach_steps.proofs.ahead.Statement.{statement}
use Rattle.curve_reach_steps.proofs.ahead.Tie as tie

mul-room : tie.Need-overflow_mul-room
mul-room c =
    let s = c in
    omega (arith, room_small (s.args.gap - s.args.p) s.args.d {a = 512000000} (omega (arith, s.requires.gap-small)) s.requires.short)

pub ahead_spec : {M : Type 1} → statement M
ahead_spec =
    tie.close (tie.spec (λ c. search rules) (λ c. search rules) mul-room (λ c. search rules) (λ c. search rules) (λ c. passed-cost _ _))
