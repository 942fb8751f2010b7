-- The sum is taken over the product of the denominators, and counted.
use mathlib.Core.Path.{ap, ◌∙◌}
use lib.IntN.{◌+ℤ◌, ◌*ℤ◌}
use mir.Syntax.{w64}
use mir.Val.{SFits}
use Rattle.base_arithmetic.proofs.Words.{words}
use Rattle.base_exact.proofs.Integer.{*_pos_<}
use Rattle.base_fraction.specs.Size.{count}
use Rattle.base_fraction.specs.Machine.{value, answer}
use Rattle.base_fraction.proofs.Value.{ratio-add}
use Rattle.base_fraction.proofs.Bounds.{mul_fits, mul_add-fits}
use Rattle.base_arithmetic.proofs.sum.Statement.{statement}
use Rattle.base_arithmetic.proofs.sum.Tie as tie

module _ (s : tie.Start) where
  left : SFits w64 (s.args.a.num *ℤ s.args.b.den)
  left = mul_fits s.args.a.num s.args.b.den s.requires.first.num_small s.requires.second.den-small

  right : SFits w64 (s.args.b.num *ℤ s.args.a.den)
  right = mul_fits s.args.b.num s.args.a.den s.requires.second.num_small s.requires.first.den-small

  nums : SFits w64 (s.args.a.num *ℤ s.args.b.den +ℤ s.args.b.num *ℤ s.args.a.den)
  nums = mul_add-fits s.args.a.num s.args.b.den s.requires.first.num_small s.requires.second.den-small
      s.args.b.num s.args.a.den s.requires.second.num_small s.requires.first.den-small

  dens : SFits w64 (s.args.a.den *ℤ s.args.b.den)
  dens = mul_fits s.args.a.den s.args.b.den s.requires.first.den-small s.requires.second.den-small

abbrev start : tie.After-struct_told-4-1 → tie.Start
start c = c.before.before.before.before.before.before.before.before

mul-checked : tie.Need-overflow_mul-a
mul-checked c =
    let s = c.before.before.before.before in let p = s.requires in simp (words, p.first, p.second) (left s)

mul-checked-2 : tie.Need-overflow_mul-b
mul-checked-2 c = let s = start c in let p = s.requires in simp (words, p.first, p.second) (right s)

add-checked : tie.Need-overflow_add-a
add-checked c =
    let s = start c in let p = s.requires in simp (words, p.first, p.second, left s, right s) (nums s)

mul-checked-3 : tie.Need-overflow_mul-a-2
mul-checked-3 c =
    let s = start c.before.before.before.before in let p = s.requires in simp (words, p.first, p.second) (dens s)

checked-requires : tie.Need-checked-requires
checked-requires c κs =
    let s = start c.before.before.before.before in let p = s.requires in
    simp (words, p.first, p.second, dens s) (*_pos_< _ _ p.first.den_pos p.second.den_pos)

returns : tie.Need-returns
unfolding value
returns c =
    let m = c.before.before.before.before.before in let s = start m in let p = s.requires in
    (simp (words, p.first, p.second, left s, right s, nums s, dens s) at c.checked.ensures)
    ∙ ap (λ q. answer (count q)) (ratio-add _ _ _ _ p.first.den_pos p.second.den_pos)

pub sum_spec : {M : Type 1} → statement M
sum_spec = tie.close (tie.spec mul-checked mul-checked-2 add-checked mul-checked-3 checked-requires returns)
