-- The year and the last field are numbers in a strict line, and the fields before are looked through.
use Rattle.std.proofs.Common.{arith, ◌≡◌, sym, ◌∙◌, ap, ℕ, ◌-◌, ℤ, length}
use mathlib.Core.List.{drop_last}
use mathlib.Core.Option.{some-injective}
use lib.Seq.{slice}
use mir.Syntax.{w32}
use mir.Val.{SFits}
use Rattle.base_exact.proofs.Decide.{clash}
use Rattle.base_exact.proofs.Word.{to_z-of_z}
use Rattle.base_text.proofs.Numerals.{field-none, field_some}
use Rattle.spec_tucson.specs.Line.{field_numerals}
use Rattle.spec_tucson.specs.TextReading.{last_field}
use Rattle.tucson_lines.proofs.GoodLines.{columns-fit}
use Rattle.tucson_fields.proofs.LineFields.{stands}
use Rattle.tucson_fields.proofs.numbers.Goals as goal

pub overflow_sub-n : goal.overflow_sub-n
overflow_sub-n c = let s = stands c.args.line.now c.requires in omega arith

pub numeral-requires : goal.numeral-requires
numeral-requires c = let s = stands c.args.line.now c.requires in record { ordered = omega arith; within = omega arith }

pub returns-in_default : goal.returns-in_default
returns-in_default c =
    let bad = field-none _ (sym c.in_default.ensures) in
    let year = (stands c.args.line.now c.requires).year in
    clash cc

pub overflow_sub-end : goal.overflow_sub-end
overflow_sub-end c = let s = stands c.args.line.now c.requires in omega arith

pub returns-in_default-numeral : goal.returns-in_default-numeral
returns-in_default-numeral c =
    let bad = field-none _ (sym c.in_default-numeral.ensures) in
    let last = (stands c.args.line.now c.requires).last in
    clash cc

pub overflow_sub-n-2 : goal.overflow_sub-n-2
overflow_sub-n-2 c = let s = stands c.args.line.now c.requires in omega (arith, s.count)

pub fields_before-others-requires : goal.fields_before-others-requires
fields_before-others-requires c = let s = stands c.args.line.now c.requires in omega (arith, s.count)

pub returns : goal.returns
returns c =
    let t = c.args.line.now in
    let s = stands t c.requires in
    let year : ℤ = c.in-Some.year in
    let last : ℤ = c.in-Some-numeral.last in
    let is_year = field_some _ year (sym c.in-Some.ensures) in
    let is_last = field_some _ last (sym c.in-Some-numeral.ensures) in
    let year-fits : SFits w32 year = columns-fit _ year is_year in
    let last_fits : SFits w32 last = columns-fit _ last is_last in
    let same-year : s.line.year ≡ year = some-injective _ _ (sym s.year ∙ is_year) in
    let same-last : last_field s.line.fields ≡ last = some-injective _ _ (sym s.last ∙ is_last) in
    let others = c.fields_before-others.ensures (drop_last s.line.fields)
    (ap (λ (n : ℕ). field_numerals (n - 1) (slice 12 (length t) t)) s.count ∙ s.front) in
    simp to_z-of_z (record {
      line = s.line;
      is = s.is;
      numbers = record {
        year_is = same-year;
        year-small = rw same-year at s.year-small;
        count_is = sym s.count;
        some_field = omega (arith, s.count);
        few = omega (arith, s.count);
        widths_are = others.widths_are;
        small_are = others.small_are;
        nine_is = others.nine_is;
        last_is = same-last;
      };
    })
