-- A number in columns, one byte at a time: what the first byte of a part says of the whole part.
use mathlib.Core.Path.{◌≡◌, sym, ◌∙◌, ap}
use mathlib.Core.Bool.{Bool, cond}
use mathlib.Core.List.{◌∷◌}
use mathlib.Core.Option.{none}
use Prim.Native.Nat.{ℕ, ◌+◌, ◌<◌, ◌≤◌}
use borrow.Author.Tests.{eq-eqb, ne_eqb}
use lib.Dec.{eqb}
use lib.ListN.{length, get_or}
use lib.Seq.{slice, slice_empty}
use Rattle.base_text.specs.Bytes.{Text}
use Rattle.base_text.specs.Numeral.{numeral}
use Rattle.base_text.proofs.Slice.{slice-step}
use Rattle.spec_tucson.specs.Columns.{blank, in_columns}

module _ (text : Text) (i to : ℕ) (before : i < to) (within : to ≤ length text) where
  abbrev byte : ℕ
  byte = get_or text i 0

  abbrev rest : Text
  rest = slice (i + 1) to text

  -- ---- blanks before a number
  columns-here : in_columns (slice i to text) ≡ cond (eqb byte blank) (in_columns rest) (numeral (byte ∷ rest))
  unfolding in_columns
  columns-here = ap in_columns (slice-step i to text 0 before within)

  pub columns-blank : byte ≡ blank → in_columns (slice i to text) ≡ in_columns rest
  columns-blank e = columns-here ∙ ap (λ (b : Bool). cond b (in_columns rest) (numeral (byte ∷ rest))) (eq-eqb byte blank e)

  pub columns-numeral : (byte ≡ blank → ⊥) → in_columns (slice i to text) ≡ numeral (slice i to text)
  columns-numeral h =
      columns-here ∙ ap (λ (b : Bool). cond b (in_columns rest) (numeral (byte ∷ rest))) (ne_eqb byte blank h)
      ∙ ap numeral (sym (slice-step i to text 0 before within))

-- ---- an empty part
pub columns_end : (text : Text) (to : ℕ) → in_columns (slice to to text) ≡ none
unfolding in_columns
columns_end text to = ap in_columns (slice_empty to text)
