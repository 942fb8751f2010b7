-- The first i bytes are the same as the first n without trailing blanks.
use Rattle.std.proofs.Common.{◌≡◌, take}
use Rattle.spec_tucson.specs.Shown.{trimmed}
use Rattle.tucson_columns.proofs.trim_blanks.Given as goal

abbrev pub invariant-loop-i : goal.invariant-loop-i
invariant-loop-i l = trimmed (take l.n l.bytes) ≡ trimmed (take l.i l.bytes)
