-- `build_rules::part_is_too_long` meets its contract: a segment that starts no part, then the segments up to the part's end. Assumes
-- nothing.
use borrow.Author.Rules.{rules}
use native.Mathlib.Omega.{arith}
use mathlib.Core.Bool.{Bool}
use mathlib.Core.List.{[]}
use mathlib.Core.Path.{◌≡◌, sym, ◌∙◌, ap}
use Prim.Native.Nat.{ℕ, ◌-◌}
use lib.Dec.{ltb}
use Rattle.spec_spline.specs.Space.{starts_part}
use Rattle.spec_spline.proofs.Parts.{part-ends}
use Rattle.build_space.specs.Machine.{space}
use Rattle.build_space.proofs.Partial.{starts-part_partial}
use Rattle.build_space.proofs.Tests.{no_part_not_long, part-test}
use Rattle.build_rules.proofs.part_is_too_long.Statement.{statement}
use Rattle.build_rules.proofs.part_is_too_long.Tie as tie

-- whether the segment starts a part, with the degrees
starts : (c : tie.After-starts_part) {b : Bool} → c.starts_part.result ≡ b → starts_part (space [] c.before.args.degrees.now c.before.args.orders.now) c.before.args.i ≡ b
starts c e = sym (starts-part_partial [] c.before.args.degrees.now c.before.args.orders.now c.before.args.i) ∙ sym c.starts_part.ensures ∙ e

sub-result : tie.Need-overflow_sub-result
sub-result c = let s = c.before.before.before in omega (arith, c.part_end-end.ensures, (part-ends (space [] s.args.degrees.now s.args.orders.now) s.args.i s.requires.0).above)

returns-2 : tie.Need-returns
returns-2 c =
    let d = c.before.before in
    ap (λ (e : ℕ). ltb 12 (e - d.before.args.i)) c.part_end-end.ensures ∙ sym (part-test _ _ (starts d c.before.if-not-starts_part.false))

pub part_is_too_long_spec : {M : Type 1} → statement M
part_is_too_long_spec =
    tie.close (tie.spec (λ c κs. search rules) (λ c. no_part_not_long _ _ (starts c.before c.if-not-starts_part.true))
    (λ c κs. search rules) sub-result returns-2)
