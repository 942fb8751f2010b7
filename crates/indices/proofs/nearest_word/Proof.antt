-- `indices::nearest_word` meets its contract. Assumes nothing.
use borrow.Author.Rules.{rules}
use mir.Syntax.{w32}
use mir.Val.{SFits}
use mir.ValLaws.{to_z-of_z}
use Rattle.indices.proofs.Words.{nearest-below, nearest-above, nearest-inside, word_fits}
use Rattle.indices.proofs.nearest_word.Statement.{statement}
use Rattle.indices.proofs.nearest_word.Tie as tie

returns-2 : tie.Need-returns-then-z-gt-WORD_GREATEST
returns-2 c = let f = c.ranges.z in nearest-above _ (simp to_z-of_z at c.if-z-lt-WORD_LEAST.false) (simp to_z-of_z at c.if-z-gt-WORD_GREATEST.true)

module _ (c : tie.Else-z-gt-WORD_GREATEST) where
  z_fits : SFits w32 c.args.z
  z_fits = let f = c.ranges.z in word_fits _ (simp to_z-of_z at c.if-z-lt-WORD_LEAST.false) (simp to_z-of_z at c.if-z-gt-WORD_GREATEST.false)

returns-3 : tie.Need-returns
returns-3 c =
    let f = c.ranges.z in
    let g = z_fits c in
    simp to_z-of_z (nearest-inside _ (simp to_z-of_z at c.if-z-lt-WORD_LEAST.false) (simp to_z-of_z at c.if-z-gt-WORD_GREATEST.false))

pub nearest_word_spec : {M : Type 1} → statement M
nearest_word_spec =
    tie.close (tie.spec (λ c. search rules) (λ c. let f = c.ranges.z in nearest-below _ (simp to_z-of_z at c.if-z-lt-WORD_LEAST.true))
    (λ c. search rules) returns-2 (λ c. let f = c.ranges.z in simp to_z-of_z (z_fits c)) returns-3)
