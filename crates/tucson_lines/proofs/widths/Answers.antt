-- A field that is a width leaves the answer to the fields behind it.
use Rattle.std.proofs.Common.{arith, Bool, true, false, ◌&&◌, ◌≡◌, sym, ◌∙◌, ap, ap₂, ℕ, ◌+◌, ◌*◌, ◌-◌, ◌<◌, ◌≤◌, ℤ, pos}
use Rattle.std.proofs.Math.Option as math
use mathlib.Core.List.{List}
use lib.Seq.{slice}
use lib.Signed.{le_z}
use mir.Syntax.{w32}
use mir.Val.{SFits}
use Rattle.base_exact.proofs.Word.{to_z-of_z}
use Rattle.base_text.specs.Bytes.{Text}
use Rattle.base_text.proofs.Numerals.{field-none, field_some}
use Rattle.spec_tucson.specs.Columns.{in_columns}
use Rattle.spec_tucson.specs.Line.{field_columns, with_field, field_numerals, is_width}
use Rattle.spec_tucson.specs.Series.{hundredths_limit}
use Rattle.tucson_lines.specs.Machine.{widths_told, FieldsWithin}
use Rattle.tucson_lines.proofs.Fields.{fields-first, widths_no_numeral, widths_no_width, widths_next, widths_end}
use Rattle.tucson_lines.proofs.GoodLines.{columns-fit}
use Rattle.tucson_lines.proofs.widths.Goals as goal

-- field k of the text, those behind it, and the answer by them
module _ (text : Text) (from to k n : ℕ) where
  abbrev here : math.Option ℤ
  here = in_columns (slice (from + k * field_columns) (from + k * field_columns + field_columns) text)

  abbrev others : math.Option (List ℤ)
  others = field_numerals (n - (k + 1)) (slice (from + (k + 1) * field_columns) to text)

  first_of : k < n → from + n * field_columns ≤ to
      → field_numerals (n - k) (slice (from + k * field_columns) to text) ≡ with_field here others
  first_of h f =
      let e : n - k - 1 ≡ n - (k + 1) = omega arith in
      let at_next : from + k * field_columns + field_columns ≡ from + (k + 1) * field_columns = omega arith in
      fields-first (n - k) text (from + k * field_columns) to (omega arith) (omega arith)
      ∙ ap (with_field here) (ap₂ (λ (m at : ℕ). field_numerals m (slice at to text)) e at_next)

so_far : {text : Text} {from to k n : ℕ} (small : Bool) → FieldsWithin text from to n → k < n
    → widths_told true (field_numerals n (slice from to text))
    ≡ widths_told small (field_numerals (n - k) (slice (from + k * field_columns) to text))
    → widths_told true (field_numerals n (slice from to text))
    ≡ widths_told small (with_field (here text from to k n) (others text from to k n))
so_far {text} {from} {to} {k} {n} small w h e = e ∙ ap (widths_told small) (first_of text from to k n h w.longer)

pub loop-k-preserved : goal.loop-k-preserved
loop-k-preserved c =
    let a = c.args in
    let k = c.loop-k.k in
    let z = c.in_ok-z.z in
    let number = field_some (here a.text.now a.from a.to k a.n) z (sym c.in_ok-z.ensures) in
    let fits : SFits w32 z = columns-fit _ z number in
    let is-width : is_width z ≡ true = sym (simp to_z-of_z at c.is_width.ensures) ∙ c.if-not-is_width.false in
    let both : c.both-small.result ≡ (c.loop-k.small && le_z z (pos hundredths_limit)) = simp to_z-of_z at c.both-small.ensures in
    so_far c.loop-k.small c.requires c.loop-k-test.true c.loop-k.invariant
    ∙ widths_next c.loop-k.small (here a.text.now a.from a.to k a.n) z (others a.text.now a.from a.to k a.n) number is-width
    ∙ ap (λ (b : Bool). widths_told b (others a.text.now a.from a.to k a.n)) (sym both)

pub returns-in_err-z : goal.returns-in_err-z
returns-in_err-z c =
    let a = c.args in
    let k = c.loop-k.k in
    let no_number = field-none (here a.text.now a.from a.to k a.n) (sym c.in_err-z.ensures) in
    c.from_residual.ensures
    ∙ sym (so_far c.loop-k.small c.requires c.loop-k-test.true c.loop-k.invariant
    ∙ widths_no_numeral c.loop-k.small (here a.text.now a.from a.to k a.n) (others a.text.now a.from a.to k a.n) no_number)

pub returns-then-not-is_width : goal.returns-then-not-is_width
returns-then-not-is_width c =
    let a = c.args in
    let k = c.loop-k.k in
    let z = c.in_ok-z.z in
    let number = field_some (here a.text.now a.from a.to k a.n) z (sym c.in_ok-z.ensures) in
    let fits : SFits w32 z = columns-fit _ z number in
    let no-width : is_width z ≡ false = sym (simp to_z-of_z at c.is_width.ensures) ∙ c.if-not-is_width.true in
    sym (so_far c.loop-k.small c.requires c.loop-k-test.true c.loop-k.invariant
    ∙ widths_no_width c.loop-k.small (here a.text.now a.from a.to k a.n) z (others a.text.now a.from a.to k a.n) number no-width)

pub returns : goal.returns
returns c =
    let e : c.args.n - c.loop-k.k ≡ 0 = omega arith in
    let to_come = slice (c.args.from + c.loop-k.k * field_columns) c.args.to c.args.text.now in
    sym (c.loop-k.invariant ∙ ap (λ (n : ℕ). widths_told c.loop-k.small (field_numerals n to_come)) e ∙ widths_end c.loop-k.small _)
