-- Each field adds to what is kept of those before it.
use Rattle.std.proofs.Common.{arith, Bool, true, false, ◌&&◌, ◌||◌, ◌≡◌, sym, subst, ◌∙◌, ap, ℕ, ◌+◌, ◌*◌, ◌-◌}
use Rattle.std.proofs.Common.{ℤ, pos}
use lib.Signed.{le_z}
use mir.Syntax.{w32}
use mir.Val.{SFits}
use Rattle.base_exact.proofs.Word.{to_z-of_z}
use Rattle.base_text.proofs.Numerals.{field-none, field_some}
use Rattle.spec_tucson.specs.Line.{field_columns, is_width, same}
use Rattle.spec_tucson.specs.Series.{hundredths, hundredths_limit}
use Rattle.tucson_lines.proofs.GoodLines.{columns-fit}
use Rattle.tucson_fields.proofs.LineFields.{Rest, no_field, next_field, same_rest, rest_all, rest_over}
use Rattle.tucson_fields.proofs.fields_before.Goals as goal

pub loop-k-init : goal.loop-k-init
loop-k-init c ws e =
    let all : c.args.n ≡ c.args.n - 0 = omega arith in
    subst (λ (left : ℕ). Rest c.args.line.now 12 left ws true true false) all (rest_all c.args.line.now c.args.n ws e)

pub loop-k-preserved : goal.loop-k-preserved
loop-k-preserved c ws e =
    let t = c.args.line.now in
    let k = c.loop-k.k in
    let z = c.in-Some.z in
    let number = field_some _ z (sym c.in-Some.ensures) in
    let fits : SFits w32 z = columns-fit _ z number in
    let widths_are : c.both-widths.result ≡ (c.loop-k.widths && is_width z) =
    c.both-widths.ensures ∙ ap (λ (b : Bool). c.loop-k.widths && b) (simp to_z-of_z at c.is_width.ensures) in
    let small_are : c.both-small.result ≡ (c.loop-k.small && le_z z (pos hundredths_limit)) = simp to_z-of_z at c.both-small.ensures in
    let nine_is : c.either-nine.result ≡ (c.loop-k.nine || same z hundredths) =
    c.either-nine.ensures ∙ ap (λ (b : Bool). c.loop-k.nine || b) (simp to_z-of_z at c.same.ensures) in
    let left_is : c.args.n - k - 1 ≡ c.args.n - (k + 1) = omega arith in
    let at_is : 12 + k * field_columns + field_columns ≡ 12 + (k + 1) * field_columns = omega arith in
    rw (← left_is, ← at_is)
    (same_rest widths_are small_are nine_is
    (next_field t (12 + k * field_columns) (c.args.n - k) ws c.loop-k.widths c.loop-k.small c.loop-k.nine (c.loop-k.invariant ws e)
    (omega arith) (omega arith) z number))

pub returns-in_default : goal.returns-in_default
returns-in_default c ws e =
    let k = c.loop-k.k in
    absurd
    (no_field c.args.line.now (12 + k * field_columns) (c.args.n - k) ws c.loop-k.widths c.loop-k.small c.loop-k.nine
    (c.loop-k.invariant ws e) (omega arith) (omega arith) (field-none _ (sym c.in_default.ensures)))

pub returns : goal.returns
returns c ws e =
    let l = c.loop-k in
    let over : c.args.n - l.k ≡ 0 = omega arith in
    let t = c.args.line.now in
    let r = rest_over t (12 + l.k * field_columns) ws l.widths l.small l.nine
    (subst (λ (left : ℕ). Rest t (12 + l.k * field_columns) left ws l.widths l.small l.nine) over (l.invariant ws e)) in
    record { widths_are = r.0; small_are = r.1.0; nine_is = r.1.1 }
