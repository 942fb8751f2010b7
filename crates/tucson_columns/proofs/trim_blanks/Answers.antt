-- A blank at the end leaves the answer to the bytes before it.
use Rattle.std.proofs.Common.{◌≡◌, ◌+◌, ◌-◌, [], ◌∷◌, ◌++◌, ℕ, take, sym, ◌∙◌, ap, arith}
use Rattle.spec_tucson.specs.Shown.{trimmed}
use Rattle.tucson_columns.proofs.Shown.{by_last, trimmed-blank, trimmed_other, trimmed-none}
use Rattle.tucson_columns.proofs.trim_blanks.Goals as goal

pub returns-then-bytes-i-ne32 : goal.returns-then-bytes-i-ne32
returns-then-bytes-i-ne32 c =
    let bytes = c.args.bytes.now in
    let i = c.loop-i.i in
    let e : i - 1 + 1 ≡ i = omega arith in
    let last = by_last bytes 0 i (omega arith) (omega (arith, c.requires)) in
    rw e record {
      fewer = omega arith;
      is = last ∙ sym (trimmed_other _ _ c.if-bytes-i-ne32.true) ∙ ap trimmed (sym last) ∙ sym c.loop-i.invariant;
    }

pub loop-i-preserved : goal.loop-i-preserved
loop-i-preserved c =
    let bytes = c.args.bytes.now in
    let i = c.loop-i.i in
    let last = by_last bytes 0 i (omega arith) (omega (arith, c.requires)) in
    c.loop-i.invariant ∙ ap trimmed last ∙ ap (λ (x : ℕ). trimmed (take (i - 1) bytes ++ (x ∷ []))) c.if-bytes-i-ne32.false
    ∙ trimmed-blank (take (i - 1) bytes)

pub returns : goal.returns
returns c =
    let bytes = c.args.bytes.now in
    let e : c.loop-i.i ≡ 0 = omega arith in
    record { fewer = omega arith; is = sym (c.loop-i.invariant ∙ ap (λ (n : ℕ). trimmed (take n bytes)) e ∙ trimmed-none) }
