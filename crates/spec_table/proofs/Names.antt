-- How long a name is in the table, at most: without its outer blanks it is no longer, each of its quotation marks comes twice, and two more
-- are around it.
use mathlib.Core.Path.{◌≡◌}
use mathlib.Core.Bool.{Bool, true, false, cond}
use mathlib.Core.List.{[], ◌∷◌, ◌++◌}
use Prim.Native.Nat.{ℕ, suc, ◌+◌, ◌*◌, ◌≤◌}
use native.Mathlib.Omega.{arith}
use lib.Dec.{eqb}
use lib.ListN.{length, length-append}
use Rattle.base_text.specs.Bytes.{Text}
use Rattle.spec_tucson.specs.Columns.{blank}
use Rattle.spec_tucson.specs.Line.{name_columns}
use Rattle.spec_tucson.specs.Shown.{unless_trailing, trimmed}
use Rattle.spec_table.specs.RingLines.{quotation_mark, without_leading, bare_name, holds_quoted, doubled, quoted_name, name_text}

leading-short : (t : Text) → length (without_leading t) ≤ length t
unfolding without_leading
leading-short [] = omega arith
leading-short (c ∷ cs) = go (eqb c blank) (leading-short cs)
  where
    go : (b : Bool) → length (without_leading cs) ≤ length cs → length (cond b (without_leading cs) (c ∷ cs)) ≤ suc (length cs)
    go true h = omega arith
    go false h = omega arith

trailing-short : (c : ℕ) (t : Text) → length (unless_trailing c t) ≤ suc (length t)
trailing-short c [] = go (eqb c blank)
  where
    go : (b : Bool) → length (cond b [] (c ∷ [])) ≤ 1
    go true = omega arith
    go false = omega arith
trailing-short c (d ∷ ds) = omega arith

trimmed-short : (t : Text) → length (trimmed t) ≤ length t
unfolding trimmed
trimmed-short [] = omega arith
trimmed-short (c ∷ cs) = omega (arith, trailing-short c (trimmed cs), trimmed-short cs)

doubled-short : (t : Text) → length (doubled t) ≤ 2 * length t
unfolding doubled
doubled-short [] = omega arith
doubled-short (c ∷ cs) = go (eqb c quotation_mark) (doubled-short cs)
  where
    go : (b : Bool) → length (doubled cs) ≤ 2 * length cs → length (cond b (c ∷ c ∷ doubled cs) (c ∷ doubled cs)) ≤ 2 * suc (length cs)
    go true h = omega arith
    go false h = omega arith

quoted-short : (t : Text) → length (quoted_name t) ≤ 2 * length t + 2
unfolding quoted_name
quoted-short t = go (holds_quoted t)
  where
    go : (b : Bool) → length (cond b (quotation_mark ∷ (doubled t ++ (quotation_mark ∷ []))) t) ≤ 2 * length t + 2
    go true = omega (arith, doubled-short t, length-append (doubled t) (quotation_mark ∷ []))
    go false = omega arith

pub name-short : (name : Text) → length name ≡ name_columns → length (name_text name) ≤ 18
unfolding bare_name
name-short name e = omega (arith, quoted-short (bare_name name), trimmed-short (without_leading name), leading-short name)
