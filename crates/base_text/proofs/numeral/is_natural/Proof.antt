-- The length and the first byte are tested before the digits, so that each return has one failed test or the digits' answer.
use borrow.Author.Rules.{rules}
use borrow.Author.Tests.{eq-eqb, ne_eqb}
use mathlib.Core.Bool.{false}
use mathlib.Core.Path.{◌≡◌, sym, ◌∙◌}
use native.Mathlib.Omega.{arith}
use lib.Seq.{slice, length-slice}
use Rattle.base_text.specs.Numeral.{spare_zero}
use Rattle.base_text.proofs.Digits.{natural_short, natural_long, natural_spare, natural_digits, spare-short, spare-first}
use Rattle.base_text.proofs.numeral.is_natural.Statement.{statement}
use Rattle.base_text.proofs.numeral.is_natural.Tie as tie
use Rattle.base_text.proofs.numeral.is_natural.Lts.{then-n-gt1+else-text-from-eq48, else-n-gt1}

returns : tie.Need-returns-then-n-lt1
returns c =
    let s = c.before.before in
    sym (natural_short (slice s.args.from s.args.to s.args.text.now)
    (omega (arith, length-slice s.args.from s.args.to s.args.text.now s.requires.within)))

returns-2 : tie.Need-returns-then-n-gt-MOST_DIGITS
returns-2 c =
    let s = c.before.before.before in
    sym (natural_long (slice s.args.from s.args.to s.args.text.now)
    (omega (arith, length-slice s.args.from s.args.to s.args.text.now s.requires.within)))

returns-3 : tie.Need-returns-then-text-from-eq48
returns-3 c =
    let s = c.before.before.before.before.before.before in
    sym (natural_spare (slice s.args.from s.args.to s.args.text.now)
    (spare-first s.args.text.now s.args.from s.args.to (omega arith) s.requires.within ∙ eq-eqb _ _ c.if-text-from-eq48.true))

returns-4 : tie.Need-returns
returns-4 c =
    let s = c.before.before.before.before.before in
    let text = s.args.text.now in
    let from = s.args.from in
    let to = s.args.to in
    let size = length-slice from to text s.requires.within in
    let spare : spare_zero (slice from to text) ≡ false =
    elim c.before.if-n-gt1.branch [
      | then-n-gt1+else-text-from-eq48 w ↦ spare-first text from to (omega arith) s.requires.within ∙ ne_eqb _ _ w.if-text-from-eq48.false
      | else-n-gt1 w ↦ spare-short (slice from to text) (omega arith)
    ] in
    c.all_digits.ensures ∙ sym (natural_digits (slice from to text) (omega arith) (omega arith) spare)

pub is_natural_spec : {M : Type 1} → statement M
is_natural_spec = tie.close (tie.spec (λ c. search rules) returns returns-2 (λ c. search rules) returns-3 (λ c κs. search rules) returns-4)
