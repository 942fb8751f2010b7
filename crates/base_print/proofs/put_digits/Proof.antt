-- `put_digits` meets its contract: with i digits to go, those behind them are written, and the i to go are the last
-- i digits of what is left of the number.
use native.Mathlib.Omega.{arith}
use mathlib.Core.Path.{◌≡◌, sym, ap, ◌∙◌}
use mathlib.Core.List.{List, [], ◌++◌, append_assoc, append-nil}
use Prim.Native.Nat.{ℕ, ◌+◌, ◌-◌, ◌/◌, ◌≤◌}
use lib.ListN.{length}
use Rattle.base_text.specs.Bytes.{Text}
use Rattle.base_text.specs.Numeral.{digits}
use Rattle.base_print.specs.Buffer.{written}
use Rattle.base_print.proofs.Buffer.{written_none, written_length, written-prepend}
use Rattle.base_text.proofs.Decimal.{last_digit, last_digits, last_digits_more, digits_last}
use Rattle.base_print.proofs.put_digits.Statement.{statement}
use Rattle.base_print.proofs.put_digits.Tie as tie

record Inv (out₀ : List ℕ) (at n count : ℕ) (out : List ℕ) (rest i : ℕ) : Type 0 where
  within : i ≤ count
  behind : Text
  digits_are : last_digits i rest ++ behind ≡ digits n
  out_is : out ≡ written (at + i) behind out₀

abbrev invariant-loop : tie.invariant-loop-i
invariant-loop out₀ at n count rest₀ i₀ out rest i = Inv out₀ at n count out rest i

abbrev decreases-loop : tie.decreases-loop-i
decreases-loop out₀ at n count rest₀ i₀ out rest i = i

loop-holds : tie.Need-loop-i-init invariant-loop decreases-loop
loop-holds c =
    let n = c.before.before.args.n in
    record {
      within = omega arith;
      behind = [];
      digits_are = append-nil _ ∙ ap (λ k. last_digits k n) c.digit_count-count.ensures.0 ∙ sym (digits_last n);
      out_is = written_none _ _;
    }

loop-again : tie.Need-loop-i-preserved invariant-loop decreases-loop
loop-again c =
    let l = c.before.before.before.before.before.loop-i in
    let v = l.invariant in
    let a = c.before.before.before.before.before.before.before.before.args in
    record {
      within = omega arith;
      behind = last_digit l.rest ++ v.behind;
      digits_are =
          sym (append_assoc (last_digits (l.i - 1) (l.rest / 10)) (last_digit l.rest) v.behind)
          ∙ ap (λ t. t ++ v.behind) (sym (last_digits_more l.i l.rest (omega arith)))
          ∙ v.digits_are;
      out_is =
          c.before.before.put.ensures.contents
          ∙ ap (written (a.at + (l.i - 1)) (last_digit l.rest))
          (v.out_is ∙ ap (λ k. written k v.behind a.out.now) (let e : a.at + l.i ≡ a.at + (l.i - 1) + 1 = omega arith in e))
          ∙ written-prepend (a.at + (l.i - 1)) (last_digit l.rest) v.behind a.out.now;
    }

returns : tie.Need-returns invariant-loop decreases-loop
unfolding last_digits
returns c =
    let l = c.before.loop-i in
    let v = l.invariant in
    let a = c.before.before.before.before.args in
    let none_left : l.i ≡ 0 = omega arith in
    record {
      contents =
          v.out_is
          ∙ ap (λ k. written k v.behind a.out.now) (let e : a.at + l.i ≡ a.at = omega arith in e)
          ∙ ap (λ t. written a.at t a.out.now) (ap (λ k. last_digits k l.rest ++ v.behind) (sym none_left) ∙ v.digits_are);
      behind = omega arith;
      near = omega arith;
    }

pub put_digits_spec : {M : Type 1} → statement M
put_digits_spec =
    tie.close (tie.spec invariant-loop decreases-loop (λ c κs. tt) loop-holds (λ c. omega arith) (λ c. omega arith) (λ c. omega arith) (λ c. omega arith)
    (λ c κs. omega arith) (λ c. omega arith) loop-again (λ c. omega arith)
    (λ c. ap length c.before.loop-i.invariant.out_is ∙ written_length _ _ _) returns)
