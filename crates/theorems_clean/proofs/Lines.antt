-- The lines of the answer, by their numbers in the file: they are those of the lines that are kept.
use mathlib.Core.Path.{◌≡◌, refl, ap}
use mathlib.Core.List.{List, [], ◌∷◌, map}
use Prim.Native.Nat.{ℕ, suc}
use lib.ListN.{length}
use Rattle.spec_tucson.specs.StrictLine.{Kept}
use Rattle.spec_tucson.specs.CleanSeries.{closed_lines}

-- The numbers of the lines.
abbrev pub numbers : List Kept → List ℕ
numbers ks = map (λ k. k.line) ks

pub numbers_length : (ks : List Kept) → length (numbers ks) ≡ length ks
numbers_length [] = refl
numbers_length (k ∷ ks) = ap suc (numbers_length ks)

pub closed-numbers : (unit : ℕ) (ks : List Kept) → numbers (closed_lines unit ks) ≡ numbers ks
unfolding closed_lines
closed-numbers unit [] = refl
closed-numbers unit (k ∷ ks) = ap (λ (ns : List ℕ). k.line ∷ ns) (closed-numbers unit ks)
