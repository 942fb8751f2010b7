-- A turn writes the last digit of what is left in front of those that are written.
use Rattle.std.proofs.Common.{◌≡◌, ℕ, ◌+◌, ◌-◌, ◌/◌, [], ◌++◌, sym, ap, ◌∙◌, arith}
use mathlib.Core.List.{append_assoc, append-nil}
use Rattle.base_text.specs.Bytes.{Text}
use Rattle.base_text.proofs.Decimal.{last_digit, last_digits_more}
use Rattle.base_text.proofs.Decimal as text
use Rattle.base_print.specs.Buffer.{written}
use Rattle.base_print.proofs.Buffer.{written_none, written-prepend, written_byte}
use Rattle.table_numbers.proofs.Digits.{last-same, last_length}
use Rattle.table_numbers.proofs.put_last_digits.Goals as goal

pub loop-i-init : goal.loop-i-init
loop-i-init c = ([], append-nil _, written_none _ _)

pub loop-i-preserved : goal.loop-i-preserved
loop-i-preserved c =
    let l = c.loop-i in
    let a = c.args in
    let behind = l.invariant.0 in
    let d = last_digit l.rest in (
      d ++ behind,
      sym (append_assoc (text.last_digits (l.i - 1) (l.rest / 10)) d behind)
          ∙ ap (λ (t : Text). t ++ behind) (sym (last_digits_more l.i l.rest (omega arith)))
          ∙ l.invariant.1,
      written_byte _ _ _
          ∙ ap (written (a.at + (l.i - 1)) d)
          (l.invariant.2 ∙ ap (λ (k : ℕ). written k behind a.out.now) (let e : a.at + l.i ≡ a.at + (l.i - 1) + 1 = omega arith in e))
          ∙ written-prepend (a.at + (l.i - 1)) d behind a.out.now,
    )

pub returns : goal.returns
unfolding text.last_digits
returns c =
    let l = c.loop-i in
    let a = c.args in
    let none_left : l.i ≡ 0 = omega arith in
    record {
      contents =
          l.invariant.2
          ∙ ap (λ (k : ℕ). written k l.invariant.0 a.out.now) (let e : a.at + l.i ≡ a.at = omega arith in e)
          ∙ ap (λ (t : Text). written a.at t a.out.now)
          (ap (λ (k : ℕ). text.last_digits k l.rest ++ l.invariant.0) (sym none_left) ∙ l.invariant.1 ∙ last-same a.count a.n);
      behind = omega (arith, last_length a.count a.n);
    }
