-- The index and the lines that are left are the whole.
use Rattle.std.proofs.Common.{◌≡◌, ◌+◌, ◌-◌, ◌≤◌, length, drop}
use Rattle.spec_rings.specs.Parts.{lines_end}
use Rattle.rings_input.proofs.lines_end.Given as goal

abbrev pub invariant-loop : goal.invariant-loop
invariant-loop l =
    (l.at ≤ length l.text)
    × (l.from + lines_end l.count (drop l.from l.text) ≡ l.at + lines_end (l.count - l.counter) (drop l.at l.text))
