-- The fields of a strict line stand in its columns.
use mathlib.Core.Path.{◌≡◌, sym, ◌∙◌}
use mathlib.Core.List.{drop_last}
use mathlib.Core.Logic.{◌⊎◌, inl, inr}
use Prim.Native.Nat.{ℕ, ◌+◌, ◌-◌, ◌*◌, ◌/◌, ◌<◌, ◌≤◌}
use native.Mathlib.Omega.{arith}
use borrow.Author.Tests.{lt-ltb, le-ltb}
use lib.IntN.{ℤ}
use lib.ListN.{length, take}
use lib.Seq.{slice}
use Rattle.base_exact.proofs.Decide.{le_or_lt}
use Rattle.base_text.specs.Bytes.{Text}
use Rattle.spec_tucson.specs.Columns.{in_columns}
use Rattle.spec_tucson.specs.Line.{field_columns, field_count}
use Rattle.spec_tucson.specs.TextReading.{last_field}
use Rattle.spec_tucson.specs.CleanSeries.{fields_of}
use Rattle.tucson_notes.specs.Machine.{number_in, before_in, BeforeAsks}
use Rattle.base_exact.proofs.Word.{to_z-of_z}
use mir.Syntax.{w32}
use mir.Val.{SFits}
use Rattle.tucson_notes.proofs.StrictFields.{size_is, count_is, count-fields, first_is, last_is, before_is, before-none, strict_size}
use Rattle.tucson_notes.proofs.summed.Statement.{statement}
use Rattle.tucson_notes.proofs.summed.Tie as tie

-- where the function starts
module _ (s : tie.Start) where
  abbrev line : Text
  line = s.args.line.now

  abbrev n : ℕ
  n = s.args.n

  within : n ≤ length line
  within = s.requires.within

  columns : n ≡ 12 + field_count (take n line) * field_columns
  columns = size_is line n within s.requires.strict

  counted : field_count (take n line) ≡ (n - 12) / field_columns
  counted = count_is line n within s.requires.strict

  some : 1 ≤ field_count (take n line)
  some = (strict_size (take n line) s.requires.strict).some_field

  asks : {first : ℤ} → first ≡ number_in (in_columns (slice 12 (12 + field_columns) line)) → BeforeAsks line ((n - 12) / field_columns) n first
  asks e = record { some_field = omega (arith, counted, some); columns_are = omega (arith, counted, columns); within = within; first_is = e }

  before : before_in ((n - 12) / field_columns) n line ≡ last_field (drop_last (fields_of (take n line)))
  unfolding before_in
  before = go (le_or_lt 2 (field_count (take n line)))
    where
      go : (2 ≤ field_count (take n line)) ⊎ (field_count (take n line) < 2) → before_in ((n - 12) / field_columns) n line ≡ last_field (drop_last (fields_of (take n line)))
      go (inl h) = rw (le-ltb ((n - 12) / field_columns) 2 (omega (arith, counted, h))) (sym (before_is line n within s.requires.strict h))
      go (inr h) = rw (lt-ltb ((n - 12) / field_columns) 2 (omega (arith, counted, h))) (sym (before-none line n within s.requires.strict h))

sub-count : tie.Need-overflow_sub-count
sub-count c = omega (arith, columns c.before)

field-requires : tie.Need-field-first-requires
field-requires c κs = let s = c in omega (arith, columns s.before, some s.before, within s.before)

field-requires-2 : tie.Need-field-last-requires
field-requires-2 c κs = let s = c in omega (arith, columns s.before.before, some s.before.before, within s.before.before)

sub-field : tie.Need-overflow_sub-n
sub-field c = omega (arith, columns c.before.before)

field-before-requires : tie.Need-field_before-before-requires
field-before-requires c κs =
    let d = c in
    let f : SFits w32 d.field-first.result = record { sfits = d.field-first.type_inv } in
    asks d.before.before.before (simp to_z-of_z d.field-first.ensures)

returns : tie.Need-returns
returns c =
    let s = c in
    let f : SFits w32 c.field-first.result = record { sfits = c.field-first.type_inv } in
    let l : SFits w32 c.field-last.result = record { sfits = c.field-last.type_inv } in
    let b : SFits w32 c.field_before-before.result = record { sfits = c.field_before-before.type_inv } in
    let w = within s.before.before.before.before in
    record {
      some_field = omega (arith, count-fields (line s.before.before.before.before) (n s.before.before.before.before) w s.requires.strict, some s.before.before.before.before);
      count_is = sym (count-fields (line s.before.before.before.before) (n s.before.before.before.before) w s.requires.strict ∙ counted s.before.before.before.before);
      first_is = simp to_z-of_z (c.field-first.ensures ∙ sym (first_is (line s.before.before.before.before) (n s.before.before.before.before) w s.requires.strict));
      last_is = simp to_z-of_z (c.field-last.ensures ∙ sym (last_is (line s.before.before.before.before) (n s.before.before.before.before) w s.requires.strict));
      before_is = simp to_z-of_z (c.field_before-before.ensures ∙ before s.before.before.before.before);
    }

pub summed_spec : {M : Type 1} → statement M
summed_spec = tie.close (tie.spec sub-count field-requires sub-field field-requires-2 field-before-requires returns)
