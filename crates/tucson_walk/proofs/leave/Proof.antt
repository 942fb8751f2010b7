-- One line less.
use borrow.Author.Rules.{rules}
use mathlib.Core.Path.{◌≡◌, ap}
use Prim.Native.Nat.{ℕ, ◌-◌}
use native.Mathlib.Omega.{arith}
use mir.Syntax.{w32}
use mir.Val.{SFits}
use Rattle.base_exact.proofs.Word.{to_z-of_z}
use Rattle.tucson_walk.proofs.leave.Statement.{statement}
use Rattle.tucson_walk.proofs.leave.Tie as tie

returns : tie.Need-returns-then-ahead-eq0
returns c n e = absurd (omega (arith, e, c.if-ahead-eq0.true))

returns-2 : tie.Need-returns
returns-2 c n e =
    let s = c.args.s in
    let f : SFits w32 s.first = record { sfits = c.struct_told-2-1.given.1.1.0.1 } in
    let g : SFits w32 s.ahead.closing = record { sfits = c.struct_told-1.given.1.0.1 } in
    let z : s.ahead.count - 1 ≡ n = omega (arith, e) in
    simp to_z-of_z (ap (λ (m : ℕ). record { ahead = record { count = m; closing = s.ahead.closing; fields = s.ahead.fields }; known = s.known; first = s.first }) z)

pub leave_spec : {M : Type 1} → statement M
leave_spec = tie.close (tie.spec returns (λ c. search rules) returns-2)
