-- `put_value` meets its contract: seven texts, one behind the other, the numbers widened to 64 bits.
use borrow.Author.Rules.{rules}
use native.Mathlib.Omega.{arith}
use Rattle.base_exact.proofs.Word.{to_z-of_z, sfits_widen}
use Rattle.spec_sheet.specs.Printout.{value_line}
use Rattle.base_print.proofs.Buffer.{puts_then, puts_within}
use Rattle.sheet_values.proofs.put_value.Statement.{statement}
use Rattle.sheet_values.proofs.put_value.Tie as tie

cast-put-decimal : tie.Need-overflow_cast-x
cast-put-decimal c =
    let f = c.ranges.x in
    simp to_z-of_z (sfits_widen f)

cast-put-decimal-2 : tie.Need-overflow_cast-early
cast-put-decimal-2 c =
    let f = c.ranges.early in
    simp to_z-of_z (sfits_widen f)

cast-put-decimal-3 : tie.Need-overflow_cast-late
cast-put-decimal-3 c =
    let early = c in
    let s = early in
    let f = s.ranges.late in
    simp to_z-of_z (sfits_widen f)

returns : tie.Need-returns
unfolding value_line
returns c =
    let last = c in
    let late = last in
    let colon = late in
    let early = colon in
    let comma = early in
    let position = comma in
    let key = position in
    let s = key in
    let fx = s.ranges.x in
    let wx = sfits_widen fx in
    let fe = s.ranges.early in
    let we = sfits_widen fe in
    let fl = s.ranges.late in
    let wl = sfits_widen fl in
    puts_within (omega arith)
    (puts_then key.put_text-a.ensures
    (puts_then (simp to_z-of_z at position.put_decimal-b.ensures)
    (puts_then comma.put-c.ensures
    (puts_then (simp to_z-of_z at early.put_decimal-d.ensures)
    (puts_then colon.put-e.ensures
    (puts_then (simp to_z-of_z at late.put_decimal-f.ensures)
    last.put.ensures))))))

pub put_value_spec : {M : Type 1} → statement M
put_value_spec =
    tie.close (tie.spec (λ c κs. search rules) cast-put-decimal (λ c κs. search rules) (λ c κs. search rules)
    cast-put-decimal-2 (λ c κs. search rules) (λ c κs. search rules) cast-put-decimal-3 (λ c κs. search rules) (λ c κs. search rules)
    (λ c. search rules) returns)
