-- The field before the last stands two fields before the end.
use borrow.Author.Rules.{rules}
use borrow.Author.Tests.{lt-ltb, le-ltb}
use mathlib.Core.Path.{◌≡◌, ◌∙◌, ap}
use Prim.Native.Nat.{ℕ, ◌+◌, ◌-◌, ◌*◌}
use native.Mathlib.Omega.{arith}
use lib.Seq.{slice}
use Rattle.base_exact.proofs.Word.{to_z-of_z}
use mir.Syntax.{w32}
use mir.Val.{SFits}
use Rattle.base_text.specs.Bytes.{Text}
use Rattle.spec_tucson.specs.Columns.{in_columns}
use Rattle.spec_tucson.specs.Line.{field_columns}
use Rattle.tucson_notes.specs.Machine.{number_in, before_in}
use Rattle.tucson_notes.proofs.field_before.Statement.{statement}
use Rattle.tucson_notes.proofs.field_before.Tie as tie

returns : tie.Need-returns-then-count-lt2
unfolding before_in
returns c = rw (lt-ltb c.args.count 2 (omega arith))

-- of two fields it is the first
two_fields : (line : Text) (n : ℕ) (count : ℕ) → count ≡ 2 → n ≡ 12 + count * field_columns → number_in (in_columns (slice 12 (12 + field_columns) line)) ≡ before_in count n line
unfolding before_in
two_fields line n count e w =
    let twelve : 12 ≡ n - 2 * field_columns = omega (arith, e, w) in
    ap (λ (k : ℕ). number_in (in_columns (slice k (k + field_columns) line))) twelve
    ∙ rw (le-ltb count 2 (omega (arith, e)))

returns-2 : tie.Need-returns-then-count-eq2
returns-2 c =
    let s = c in
    let f = s.ranges.first in
    simp to_z-of_z (s.requires.first_is ∙ two_fields s.args.line.now s.args.n s.args.count c.if-count-eq2.true s.requires.columns_are)

returns-3 : tie.Need-returns
unfolding before_in
returns-3 c =
    let s = c in
    let f : SFits w32 c.field.result = record { sfits = c.field.type_inv } in
    simp to_z-of_z (c.field.ensures ∙ rw (le-ltb s.args.count 2 (omega arith)))

pub field_before_spec : {M : Type 1} → statement M
field_before_spec = tie.close (tie.spec returns returns-2 (λ c. search rules) (λ c. search rules) (λ c κs. search rules) returns-3)
