-- The closing of each unit, in six columns.
use borrow.Author.Rules.{rules}
use borrow.Author.Tests.{eq-eqb, ne_eqb}
use native.Mathlib.Omega.{arith}
use mathlib.Core.Bool.{Bool, true, false, cond}
use mathlib.Core.List.{[], ◌∷◌}
use mathlib.Core.Path.{◌≡◌, sym, ap}
use Prim.Native.Nat.{ℕ}
use lib.Dec.{eqb}
use Rattle.base_text.specs.Numeral.{digits_up_to, digits, decimal}
use Rattle.base_print.proofs.Buffer.{puts_as}
use Rattle.spec_tucson.specs.Columns.{columns}
use Rattle.spec_tucson.specs.Line.{field_columns, thousandths}
use Rattle.spec_tucson.specs.Series.{hundredths}
use Rattle.spec_tucson.specs.CleanSeries.{hundredths_said, closing_of}
use Rattle.tucson_notes.proofs.put_closing.Statement.{statement}
use Rattle.tucson_notes.proofs.put_closing.Tie as tie

hundredths-are : (unit : ℕ) → eqb unit hundredths_said ≡ true → 32 ∷ 32 ∷ 32 ∷ 57 ∷ 57 ∷ 57 ∷ [] ≡ columns field_columns (closing_of unit)
unfolding closing_of columns decimal digits digits_up_to
hundredths-are unit e = ap (λ (b : Bool). columns field_columns (cond b hundredths thousandths)) (sym e)

thousandths-are : (unit : ℕ) → eqb unit hundredths_said ≡ false → 32 ∷ 45 ∷ 57 ∷ 57 ∷ 57 ∷ 57 ∷ [] ≡ columns field_columns (closing_of unit)
unfolding closing_of columns decimal digits digits_up_to
thousandths-are unit e = ap (λ (b : Bool). columns field_columns (cond b hundredths thousandths)) (sym e)

returns : tie.Need-returns-then-unit-eq-HUNDREDTHS_SAID
returns c = let s = c in puts_as
    (hundredths-are s.args.unit (eq-eqb s.args.unit 100 (omega arith))) c.put_text.ensures

returns-2 : tie.Need-returns
returns-2 c = let s = c in puts_as
    (thousandths-are s.args.unit (ne_eqb s.args.unit 100 (omega arith))) c.put_text-2.ensures

pub put_closing_spec : {M : Type 1} → statement M
put_closing_spec =
    tie.close (tie.spec (λ c κs. search rules) (λ c. search rules) returns (λ c κs. search rules)
    (λ c. search rules) returns-2)
