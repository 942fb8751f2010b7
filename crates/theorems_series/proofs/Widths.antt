-- The widths of an accepted input's series are from 0 to 99,999.
use mathlib.Core.Path.{◌≡◌, sym, ◌∙◌, ap}
use mathlib.Core.Bool.{true}
use mathlib.Core.List.{List, [], ◌∷◌, ◌++◌}
use mathlib.Core.Option.{none}
use Prim.Native.Nat.{ℕ, suc}
use Rattle.base_outcome.specs.Outcome.{answer}
use Rattle.base_text.specs.Bytes.{Text}
use Rattle.spec_tucson.specs.Series.{Series}
use Rattle.spec_tucson.specs.Writing.{all_widths, first_unwritable}
use Rattle.theorems_tucson.proofs.ReadsBack.{first-parts}
use Rattle.theorems_tucson.proofs.Rewritten.{read_is_writable}
use Rattle.spec_rings.specs.Ready.{Ready, ready}
use Rattle.spec_rings.proofs.Accepted.{accepted}

listed : (before later : List Series) (s : Series) (place : ℕ) (name : Text)
    → first_unwritable place name (before ++ (s ∷ later)) ≡ none → all_widths s.widths ≡ true
listed [] later s place name e = (first-parts place name s later e).0.measured
listed (b ∷ before) later s place name e =
    listed before later s (suc place) b.name (first-parts place name b (before ++ (s ∷ later)) e).1

pub widths_in_range : (t : Text) (r : Ready) → ready t ≡ answer r → (before later : List Series) (s : Series)
    → r.series ≡ before ++ (s ∷ later) → all_widths s.widths ≡ true
widths_in_range t r e before later s is =
    let a = accepted t r e in
    listed before later s 0 [] (ap (first_unwritable 0 []) (sym is) ∙ read_is_writable a.text r.series a.reads)
