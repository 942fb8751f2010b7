-- The last field and the count of fields of the line.
use borrow.Author.Rules.{rules}
use mathlib.Core.Path.{◌≡◌, refl, ap, ◌∙◌}
use native.Mathlib.Omega.{arith}
use lib.ListN.{length, take}
use lib.Seq.{take_all}
use mir.Syntax.{w32}
use mir.Val.{SFits}
use Rattle.base_exact.proofs.Word.{to_z-of_z}
use Rattle.base_text.specs.Bytes.{Text}
use Rattle.spec_tucson.specs.TextReading.{last_field}
use Rattle.spec_tucson.specs.StrictLine.{is_strict}
use Rattle.spec_tucson.specs.CleanSeries.{fields_of, closing_after}
use Rattle.tucson_walk.proofs.last_ahead.Statement.{statement}
use Rattle.tucson_walk.proofs.last_ahead.Tie as tie

returns : tie.Need-returns
returns c =
    let s = c.last_field-ending in
    let f : SFits w32 s.result.last = record { sfits = c.struct_told-1.given.1.0.1 } in
    let g : SFits w32 c.closing_after-closing.result = record { sfits = c.closing_after-closing.type_inv } in
    let u = c.args.unit in
    let w = c.args.line.now in
    let whole : take (length w) w ≡ w = take_all (length w) w (omega arith) in
    let e : c.closing_after-closing.result ≡ closing_after u s.result.last = simp to_z-of_z at c.closing_after-closing.ensures in
    record {
      count_is = refl;
      closing_is = simp to_z-of_z (e ∙ ap (closing_after u) s.ensures.last_is ∙ ap (λ (t : Text). closing_after u (last_field (fields_of t))) whole);
      fields_are = s.ensures.count_is ∙ ap (λ (t : Text). length (fields_of t)) whole;
    }

last-field-requires : tie.Need-last_field-ending-requires
last-field-requires c κs =
    let s = c in
    record { within = omega arith; strict = ap is_strict (take_all (length s.args.line.now) s.args.line.now (omega arith)) ∙ s.requires }

pub last_ahead_spec : {M : Type 1} → statement M
last_ahead_spec = tie.close (tie.spec last-field-requires (λ c κs. search rules) returns)
