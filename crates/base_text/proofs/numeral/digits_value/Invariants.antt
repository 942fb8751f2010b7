-- A digit is put behind the number so far; what the rest makes of it stays the same and bounds it.
use Rattle.base_text.proofs.Digits.{Reading}
use Rattle.base_text.proofs.numeral.digits_value.Given as goal

abbrev pub invariant-loop-c : goal.invariant-loop-c
invariant-loop-c l = Reading l.c-items l.c-index l.v
