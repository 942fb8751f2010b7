-- The first byte says whether there is a minus, and the digits' functions are asked of what is behind it. A number of seven
-- digits fits a machine word with either sign.
use borrow.Author.Rules.{rules}
use mathlib.Core.Bool.{true}
use mathlib.Core.List.{List}
use mathlib.Core.Path.{◌≡◌, sym, ◌∙◌, ap}
use Prim.Native.Nat.{ℕ, ◌+◌, ◌<◌, ◌≤◌}
use native.Mathlib.Omega.{arith}
use lib.IntN.{pos, ◌-ℤ◌}
use lib.ListN.{length}
use lib.Seq.{slice}
use mir.Syntax.{w32}
use mir.Val.{SFits}
use Rattle.base_exact.proofs.Word.{to_z-of_z, to_z_pos, sfits_abs, abs_sub}
use Rattle.base_text.specs.Numeral
use Rattle.base_text.specs.Numeral.{is_natural}
use Rattle.base_text.specs.Machine.{field}
use Rattle.std.specs.Prelude.{Some}
use Rattle.base_text.proofs.Digits.{natural_small}
use Rattle.base_text.proofs.Numerals.{numeral-empty, minus-bad, minus-zero, minus-numeral, plain-numeral, plain-bad}
use Rattle.base_text.proofs.numeral.numeral.Statement.{statement}
use Rattle.base_text.proofs.numeral.numeral.Tie as tie

-- the place behind the test for an empty part
module _ (s : tie.Else-from-to) where
  abbrev text : List ℕ
  text = s.before.before.args.text.now

  abbrev from : ℕ
  from = s.before.before.args.from

  abbrev to : ℕ
  to = s.before.before.args.to

  before : from < to
  before = omega arith

  abbrev within : to ≤ length text
  within = s.before.before.requires.within

-- the digits behind a minus
module _ (c : tie.After-digits_value-v) where
  abbrev start : tie.Else-from-to
  start = c.before.before.before.before.before

  natural : is_natural (slice (from start + 1) (to start) (text start)) ≡ true
  natural = sym c.before.before.is_natural.ensures ∙ c.before.if-is_natural.true

  small : c.digits_value-v.result < 10000000
  small = omega (arith, c.digits_value-v.ensures, natural_small _ natural)

-- the digits of a part without one
module _ (c : tie.After-digits_value) where
  abbrev start2 : tie.Else-from-to
  start2 = c.before.before.before.before.before

  natural2 : is_natural (slice (from start2) (to start2) (text start2)) ≡ true
  natural2 = sym c.before.before.is_natural-2.ensures ∙ c.before.if-is_natural-2.true

  small2 : c.digits_value.result < 10000000
  small2 = omega (arith, c.digits_value.ensures, natural_small _ natural2)

returns : tie.Need-returns-then-from-to
unfolding field
returns c =
    let a = c.before.before.args in
    sym (ap field (ap (λ (n : ℕ). Numeral.numeral (slice n a.to a.text.now)) c.if-from-to.true ∙ numeral-empty a.text.now a.to))

returns-2 : tie.Need-returns-then-v-eq0
unfolding field
returns-2 c =
    let d = c.before in
    let s = start d in
    sym (ap field (minus-zero (text s) (from s) (to s) (before s) (within s) d.before.before.before.if-text-from-eq45.true (natural d)
    (omega (arith, small d, d.digits_value-v.ensures))))

sub-t13 : tie.Need-overflow_sub-result
sub-t13 c =
    simp (to_z_pos w32 c.before.digits_value-v.result (omega (arith, small c.before)))
    (sfits_abs {w = w32} (omega (arith, small c.before, abs_sub (pos 0) (pos c.before.digits_value-v.result))))

returns-3 : tie.Need-returns-then-is_natural
unfolding field
returns-3 c =
    let d = c.before in
    let s = start d in
    let v = d.digits_value-v.result in
    let fits : SFits w32 (pos 0 -ℤ pos v) = sfits_abs {w = w32} (omega (arith, small d, abs_sub (pos 0) (pos v))) in
    simp (to_z_pos w32 v (omega (arith, small d)), to_z-of_z)
    (ap (λ (n : ℕ). Some (pos 0 -ℤ pos n)) d.digits_value-v.ensures
    ∙ sym
    (ap field (minus-numeral (text s) (from s) (to s) (before s) (within s) d.before.before.before.if-text-from-eq45.true (natural d)
    (λ e. c.if-v-eq0.false (d.digits_value-v.ensures ∙ e)))))

returns-4 : tie.Need-returns-then-text-from-eq45
unfolding field
returns-4 c =
    let s = c.before.before.before.before in
    sym
    (ap field (minus-bad (text s) (from s) (to s) (before s) (within s) c.before.before.if-text-from-eq45.true (sym c.before.is_natural.ensures
    ∙ c.if-is_natural.false)))

returns-5 : tie.Need-returns-then-is_natural-2
unfolding field
returns-5 c =
    let s = start2 c in
    let v = c.digits_value.result in
    simp (to_z_pos w32 v (omega (arith, small2 c)))
    (ap (λ (n : ℕ). Some (pos n)) c.digits_value.ensures
    ∙ sym (ap field (plain-numeral (text s) (from s) (to s) (before s) (within s) c.before.before.before.if-text-from-eq45.false (natural2 c))))

returns-6 : tie.Need-returns
unfolding field
returns-6 c =
    let s = c.before.before.before.before in
    sym
    (ap field (plain-bad (text s) (from s) (to s) (before s) (within s) c.before.before.if-text-from-eq45.false (sym c.before.is_natural-2.ensures
    ∙ c.if-is_natural-2.false)))

pub numeral_spec : {M : Type 1} → statement M
numeral_spec =
    tie.close (tie.spec returns (λ c. search rules) (λ c. search rules) (λ c κs. search rules) (λ c. search rules)
    (λ c κs. record { range = search rules; natural = sym c.before.is_natural.ensures ∙ c.if-is_natural.true }) returns-2
    (λ c. omega (arith, small c.before)) sub-t13 returns-3 returns-4 (λ c κs. search rules)
    (λ c κs. record { range = search rules; natural = sym c.before.is_natural-2.ensures ∙ c.if-is_natural-2.true })
    (λ c. omega (arith, small2 c)) returns-5 returns-6)
