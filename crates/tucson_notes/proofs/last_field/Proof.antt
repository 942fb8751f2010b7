-- The last field of a strict line stands in its last columns.
use mathlib.Core.Path.{◌≡◌, sym, ◌∙◌}
use Prim.Native.Nat.{◌+◌, ◌*◌, ◌≤◌}
use native.Mathlib.Omega.{arith}
use lib.ListN.{take}
use mir.Syntax.{w32}
use mir.Val.{SFits}
use Rattle.base_exact.proofs.Word.{to_z-of_z}
use Rattle.spec_tucson.specs.Line.{field_columns, field_count}
use Rattle.tucson_notes.proofs.StrictFields.{size_is, count_is, count-fields, last_is, strict_size}
use Rattle.tucson_notes.proofs.last_field.Statement.{statement}
use Rattle.tucson_notes.proofs.last_field.Tie as tie

module _ (s : tie.Start) where
  columns : s.args.n ≡ 12 + field_count (take s.args.n s.args.line.now) * field_columns
  columns = size_is s.args.line.now s.args.n s.requires.within s.requires.strict

  some : 1 ≤ field_count (take s.args.n s.args.line.now)
  some = (strict_size (take s.args.n s.args.line.now) s.requires.strict).some_field

returns : tie.Need-returns
returns c =
    let s = c in
    let line = s.args.line.now in
    let n = s.args.n in
    let l : SFits w32 c.field-last.result = record { sfits = c.field-last.type_inv } in
    record {
      count_is = sym (count-fields line n s.requires.within s.requires.strict ∙ count_is line n s.requires.within s.requires.strict);
      last_is = simp to_z-of_z (c.field-last.ensures ∙ sym (last_is line n s.requires.within s.requires.strict));
    }

pub last_field_spec : {M : Type 1} → statement M
last_field_spec =
    tie.close (tie.spec (λ c. omega (arith, columns c.before)) (λ c. omega (arith, columns c.before))
    (λ c κs. let s = c in omega (arith, columns s.before, some s.before, s.requires.within)) returns)
