-- Whether a blank is inside the name is told by its bytes from the index on, and by whether a blank was seen before them.
use Rattle.std.proofs.Common.{◌≡◌, drop}
use Rattle.tucson_names.specs.Machine.{blank_inside}
use Rattle.tucson_names.proofs.NameColumns.{inside}
use Rattle.tucson_names.proofs.blank_inside.Given as goal

abbrev pub invariant-loop-c : goal.invariant-loop-c
invariant-loop-c l = blank_inside l.line ≡ inside l.seen (drop l.c-index l.c-items)
