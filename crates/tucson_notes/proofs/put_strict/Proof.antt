-- The bytes of the line, or all but its last field and then the closing; and byte 10.
use borrow.Author.Rules.{rules}
use native.Mathlib.Omega.{arith}
use Prim.Native.Nat.{◌-◌}
use lib.Seq.{length-take-le}
use Rattle.base_print.proofs.Buffer.{puts_then, puts_as, puts_within}
use Rattle.tucson_notes.proofs.Remarks.{own-closing, unit_closing}
use Rattle.tucson_notes.proofs.put_strict.Statement.{statement}
use Rattle.tucson_notes.proofs.put_strict.Tie as tie

returns : tie.Need-returns-then-reclosed
returns c =
    let p3 = c in
    let p2 = p3 in
    let p1 = p2 in
    let s = c in
    puts_as (unit_closing s.args.line.now s.args.n s.args.unit s.args.reclosed (search rules))
    (puts_within (let k = s.args.n - 6 - 0 in omega (arith, length-take-le k s.args.line.now (omega (arith, s.requires.within)), s.requires.short))
    (puts_then p1.put_text-a.ensures (puts_then p2.put_closing-b.ensures p3.put.ensures)))

returns-2 : tie.Need-returns
returns-2 c =
    let p2 = c in
    let p1 = p2 in
    let s = c in
    puts_as (own-closing s.args.line.now s.args.n s.args.unit s.args.reclosed (search rules))
    (puts_within (let k = s.args.n - 0 in omega (arith, length-take-le k s.args.line.now (omega (arith, s.requires.within)), s.requires.short))
    (puts_then p1.put_bytes-c.ensures p2.put-2.ensures))

pub put_strict_spec : {M : Type 1} → statement M
put_strict_spec =
    tie.close (tie.spec (λ c. search rules) (λ c. search rules) (λ c. search rules) (λ c. search rules) (λ c κs. search rules)
    (λ c κs. search rules) (λ c κs. search rules) (λ c. search rules) returns (λ c. search rules) (λ c. search rules) (λ c. search rules)
    (λ c κs. search rules) (λ c κs. search rules) (λ c. search rules) returns-2)
