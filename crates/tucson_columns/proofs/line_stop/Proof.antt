-- A byte 13 before the line's end is its last byte.
use borrow.Author.Rules.{rules}
use borrow.Author.Tests.{lt-ltb, le-ltb}
use mathlib.Core.Path.{sym, ◌∙◌}
use Prim.Native.Nat.{◌-◌, ◌≤◌}
use native.Mathlib.Omega.{arith}
use lib.ListN.{length}
use Rattle.tucson_lines.proofs.Lines.{end_within}
use Rattle.tucson_columns.proofs.Shown.{stop_empty, stop_return, stop_other}
use Rattle.tucson_columns.proofs.line_stop.Statement.{statement}
use Rattle.tucson_columns.proofs.line_stop.Tie as tie

within : (s : tie.Start) → (s.args.from ≤ s.args.end) × (s.args.end ≤ length s.args.text.now)
within s = end_within s.args.text.now s.args.from s.args.end s.requires

returns : tie.Need-returns-then-from-end
returns c =
    let s = c in
    let told = stop_empty s.args.text.now s.args.from s.args.end s.requires c.if-from-end.true in
    record { after = omega (arith, within s.before); before = omega arith; are = told.0; returned = told.1 ∙ sym (le-ltb s.args.end s.args.end (omega arith)) }

returns-2 : tie.Need-returns-then-text-end-eq13
returns-2 c =
    let s = c in
    let told = stop_return s.args.text.now s.args.from s.args.end s.requires (omega (arith, within s.before.before.before, c.if-from-end.false)) c.if-text-end-eq13.true in
    record {
      after = omega (arith, within s.before.before.before, c.if-from-end.false);
      before = omega arith;
      are = told.0;
      returned = told.1 ∙ sym (lt-ltb (s.args.end - 1) s.args.end (omega (arith, within s.before.before.before, c.if-from-end.false)));
    }

returns-3 : tie.Need-returns
returns-3 c =
    let s = c in
    let told = stop_other s.args.text.now s.args.from s.args.end s.requires (omega (arith, within s.before.before.before, c.if-from-end.false)) c.if-text-end-eq13.false in
    record { after = omega (arith, within s.before.before.before); before = omega arith; are = told.0; returned = told.1 ∙ sym (le-ltb s.args.end s.args.end (omega arith)) }

pub line_stop_spec : {M : Type 1} → statement M
line_stop_spec =
    tie.close (tie.spec returns (λ c. omega (arith, within c.before, c.if-from-end.false))
    (λ c. omega (arith, within c.before.before, c.if-from-end.false)) (λ c. search rules) returns-2 returns-3)
