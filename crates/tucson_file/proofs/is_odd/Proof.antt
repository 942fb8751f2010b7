-- The three kinds of bytes at fault, in their order.
use borrow.Author.Rules.{rules}
use borrow.Author.Tests.{eq-eqb, ne_eqb}
use native.Mathlib.Omega.{arith}
use mathlib.Core.Bool.{not}
use mathlib.Core.Path.{◌∙◌, sym, ap}
use lib.ListN.{get_or}
use Rattle.tucson_file.proofs.Faults.{at_is}
use Rattle.tucson_file.proofs.is_odd.Statement.{statement}
use Rattle.tucson_file.proofs.is_odd.Tie as tie

returns : tie.Need-returns-then-byte-eq0
returns c =
    let s = c in
    let b = get_or s.args.text.now s.args.at 0 in
    sym (at_is s.args.text.now s.args.at s.requires ∙ rw (eq-eqb b 0 (omega arith)))

returns-2 : tie.Need-returns-then-begins
returns-2 c =
    let s = c in
    let b = get_or s.args.text.now s.args.at 0 in
    sym (at_is s.args.text.now s.args.at s.requires ∙ rw (ne_eqb b 0 (omega arith), sym c.begins.ensures ∙ c.if-begins.true))

returns-3 : tie.Need-returns-then-byte-eq13
returns-3 c =
    let e = c in
    let s = e in
    let b = get_or s.args.text.now s.args.at 0 in
    sym (at_is s.args.text.now s.args.at s.requires
    ∙ rw (ne_eqb b 0 (omega arith), sym e.begins.ensures ∙ e.if-begins.false, eq-eqb b 13 (omega arith)) (ap not (sym c.begins-then-byte-eq13.ensures)))

returns-4 : tie.Need-returns
returns-4 c =
    let e = c in
    let s = e in
    let b = get_or s.args.text.now s.args.at 0 in
    sym (at_is s.args.text.now s.args.at s.requires
    ∙ rw (ne_eqb b 0 (omega arith), sym e.begins.ensures ∙ e.if-begins.false, ne_eqb b 13 (omega arith)))

pub is_odd_spec : {M : Type 1} → statement M
is_odd_spec =
    tie.close (tie.spec (λ c. search rules) returns (λ c κs. search rules) returns-2 (λ c. search rules) (λ c κs. search rules) returns-3
    returns-4)
