-- A turn writes one position more. A ring's position passes 32 bits and is far from passing 64.
use Rattle.std.proofs.Common.{◌≡◌, ℕ, ◌<◌, List, ◌++◌, length, drop, sym, ap, ap₂, ◌∙◌, rules, arith}
use Rattle.std.proofs.Common.{ℤ, pos, ◌+ℤ◌, ◌*ℤ◌, w32, w64, FitsSigned, to_z, of_z}
use mathlib.Core.List.{append-nil}
use lib.ListN.{set}
use lib.Seq.{drop-length}
use Rattle.base_exact.specs.Tabulate.{tab}
use Rattle.base_exact.proofs.Tabulate.{tab-none, tab_more}
use Rattle.base_exact.proofs.Word.{to_z-of_z, to_z_pos, sfits_widen, sfits_abs, sfits_nat, abs_sfits, abs-add, abs_mul}
use Rattle.spec_spline.specs.Reading.{fine}
use Rattle.indices.specs.Words.{nearest_word, word_position}
use Rattle.indices.proofs.fill_positions.Goals as goal

-- a ring's number, and its position, read back from their words
module _ (first : ℤ) (first-fits : FitsSigned w32 first) (i : ℕ) (few : i < 4097) where
  abbrev ring : ℤ
  ring = first +ℤ pos i

  index-fits : FitsSigned w64 (pos i)
  index-fits = sfits_nat i (omega (arith, few))

  ring-fits : FitsSigned w64 ring
  ring-fits = sfits_abs (omega (arith, few, abs-add first (pos i), abs_sfits first-fits))

  ring_is : to_z w64 (of_z w64 (to_z w32 (of_z w32 first))) +ℤ to_z w64 i ≡ ring
  ring_is = ap₂ (λ (a b : ℤ). a +ℤ b)
      (ap (λ (z : ℤ). to_z w64 (of_z w64 z)) (to_z-of_z w32 first first-fits) ∙ to_z-of_z w64 first (sfits_widen first-fits))
      (to_z_pos w64 i index-fits.sfits)

  position_is : pos 256 *ℤ to_z w64 (of_z w64 (to_z w64 (of_z w64 (to_z w32 (of_z w32 first))) +ℤ to_z w64 i)) ≡ fine ring
  position_is = ap (λ (z : ℤ). pos 256 *ℤ to_z w64 (of_z w64 z)) ring_is ∙ ap (λ (z : ℤ). pos 256 *ℤ z) (to_z-of_z w64 ring ring-fits)

  position-fits : FitsSigned w64 (fine ring)
  position-fits = sfits_abs (omega (arith, few, abs_mul (pos 256) ring, abs-add first (pos i), abs_sfits first-fits))

  nearest_is : let word = to_z w64 (of_z w64 (to_z w32 (of_z w32 first))) in
      nearest_word (to_z w64 (of_z w64 (pos 256 *ℤ to_z w64 (of_z w64 (word +ℤ to_z w64 i)))))
      ≡ word_position first i
  unfolding word_position
  nearest_is =
      ap (λ (z : ℤ). nearest_word (to_z w64 (of_z w64 z))) position_is ∙ ap nearest_word (to_z-of_z w64 (fine ring) position-fits)

pub loop-i-init : goal.loop-i-init
loop-i-init c = tab-none _ _

pub loop-i-preserved : goal.loop-i-preserved
loop-i-preserved c =
    let first = c.args.first in
    let i = c.loop-i.i in
    let f = c.ranges.first in
    let fits : FitsSigned w32 c.nearest_word.result = search rules in
    let stored : to_z w32 (of_z w32 c.nearest_word.result) ≡ word_position first i =
    to_z-of_z w32 c.nearest_word.result fits ∙ c.nearest_word.ensures ∙ nearest_is first f i (omega arith) in
    let before = simp to_z-of_z at c.loop-i.invariant in
    simp to_z-of_z
    (ap₂ (λ (t : List ℤ) (y : ℤ). set t i y) before (sym (to_z-of_z w32 c.nearest_word.result fits) ∙ stored)
    ∙ tab_more (word_position first) i c.args.positions.now (omega arith))

pub returns : goal.returns
returns c =
    let p = c.args.positions.now in
    let f = word_position c.args.first in
    let fits = c.ranges.first in
    let all : c.loop-i.i ≡ length p = omega arith in
    (simp to_z-of_z at c.loop-i.invariant)
    ∙ ap (λ (k : ℕ). tab k f ++ drop k p) all
    ∙ ap (λ (t : List ℤ). tab (length p) f ++ t) (drop-length p)
    ∙ append-nil (tab (length p) f)
