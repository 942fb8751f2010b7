-- `put_fault` meets its contract: the name at the front, and the texts behind it one after another.
use borrow.Author.Rules.{rules}
use native.Mathlib.Omega.{arith}
use Prim.Native.Nat.{◌≤◌}
use lib.ListN.{length}
use mir.Syntax.{w64}
use mir.Val.{SFits}
use Rattle.base_exact.proofs.Word.{to_z-of_z}
use Rattle.base_print.proofs.Buffer.{puts_then}
use Rattle.spec_table.specs.RingLines.{name_text}
use Rattle.spec_rings.specs.Rings.{fault_line}
use Rattle.rings_read.specs.Machine.{Front}
use Rattle.tucson_lines.proofs.GoodLines.{name_length}
use Rattle.rings_text.proofs.Fronts.{front_then}
use Rattle.rings_text.proofs.put_fault.Statement.{statement}
use Rattle.rings_text.proofs.put_fault.Tie as tie

put-name-requires : tie.Need-put_name-a-requires
put-name-requires c κs =
    let s = c in
    record { room = omega (arith, s.requires.room); whole = name_length s.args.name.now s.requires.named }

-- the name, where it has been put
module _ (k : tie.After-put_name-a) where
  room : 118 ≤ length k.put_name-a.new.out
  room = omega (arith, k.put_name-a.auto.out, k.requires.room)

  front : Front (name_text k.args.name.now) k.put_name-a.result k.put_name-a.new.out
  front = record { fits = omega (arith, room, k.put_name-a.ensures.within); is = k.put_name-a.ensures.is }

returns : tie.Need-returns
unfolding fault_line
returns c =
    let digits = c in
    let words = digits in
    let year = words in
    let space = year in
    let k = space in
    let s = k in
    let f : SFits w64 s.args.year = s.ranges.year in
    front_then (front k.before.before.before.before.before.before.before.before.before.before.before.before.before.before.before.before.before.before.before.before.before.before.before.before)
    (puts_then space.put-b.ensures
    (puts_then (simp to_z-of_z at year.put_decimal-c.ensures)
    (puts_then words.put_text-d.ensures
    (puts_then digits.put_digits-e.ensures
    c.put.ensures))))
    (omega (arith, room k.before.before.before.before.before.before.before.before.before.before.before.before.before.before.before.before.before.before.before.before.before.before.before.before, k.put_name-a.ensures.within))

pub put_fault_spec : {M : Type 1} → statement M
put_fault_spec =
    tie.close
    (tie.spec
    put-name-requires
    (λ c κs. search rules)
    (λ c κs. search rules)
    (λ c κs. search rules)
    (λ c κs. search rules)
    (λ c κs. search rules)
    (λ c. search rules)
    returns)
