-- Numbers in columns: "A number stands at the right end of its columns with blanks before it: minus allowed, no plus, no spare
-- zeros, no -0." (§ 14) A numeral is that of the sheet (crate base_text); its seven digits are more than any column here has room
-- for.
use Rattle.std.specs.Prelude.{cond, [], ◌∷◌, ◌++◌, ℕ, ◌-◌, eqb, ℤ, length, replicate}
use Rattle.std.proofs.Math.Option.{Option, none}
use Rattle.base_text.specs.Bytes.{Text}
use Rattle.base_text.specs.Numeral.{numeral, decimal}

-- The byte of an empty column.
abbrev pub blank : ℕ
blank = 32

-- The number that stands in some columns: blanks, then a numeral up to their end.
unfoldable pub in_columns : Text → Option ℤ
in_columns [] = none
in_columns (c ∷ cs) = cond (eqb c blank) (in_columns cs) (numeral (c ∷ cs))

-- A number written into so many columns: blanks before it, where there is room.
unfoldable pub columns : ℕ → ℤ → Text
columns n z = replicate (n - length (decimal z)) blank ++ decimal z
