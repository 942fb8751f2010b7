-- Numerators and denominators are multiplied; the product is counted.
use mathlib.Core.Path.{ap, ◌∙◌}
use lib.IntN.{◌*ℤ◌}
use mir.Syntax.{w64}
use mir.Val.{SFits}
use Rattle.base_arithmetic.proofs.Words.{words}
use Rattle.base_exact.proofs.Integer.{*_pos_<}
use Rattle.base_fraction.specs.Size.{count}
use Rattle.base_fraction.specs.Machine.{value, answer}
use Rattle.base_fraction.proofs.Value.{ratio_mul}
use Rattle.base_fraction.proofs.Bounds.{mul_fits}
use Rattle.base_arithmetic.proofs.product.Statement.{statement}
use Rattle.base_arithmetic.proofs.product.Tie as tie

module _ (s : tie.Start) where
  nums : SFits w64 (s.args.a.num *ℤ s.args.b.num)
  nums = mul_fits s.args.a.num s.args.b.num s.requires.first.num_small s.requires.second.num_small

  dens : SFits w64 (s.args.a.den *ℤ s.args.b.den)
  dens = mul_fits s.args.a.den s.args.b.den s.requires.first.den-small s.requires.second.den-small

abbrev start : tie.After-struct_told-4-1 → tie.Start
start c = c.before.before.before.before.before.before.before.before

mul-checked : tie.Need-overflow_mul-a
mul-checked c =
    let s = c.before.before.before.before in let p = s.requires in simp (words, p.first, p.second) (nums s)

mul-checked-2 : tie.Need-overflow_mul-a-2
mul-checked-2 c = let s = start c in let p = s.requires in simp (words, p.first, p.second) (dens s)

checked-requires : tie.Need-checked-requires
checked-requires c κs =
    let s = start c in let p = s.requires in
    simp (words, p.first, p.second, dens s) (*_pos_< _ _ p.first.den_pos p.second.den_pos)

returns : tie.Need-returns
unfolding value
returns c =
    let s = start c.before in let p = s.requires in
    (simp (words, p.first, p.second, nums s, dens s) at c.checked.ensures)
    ∙ ap (λ q. answer (count q)) (ratio_mul _ _ _ _ p.first.den_pos p.second.den_pos)

pub product_spec : {M : Type 1} → statement M
product_spec = tie.close (tie.spec mul-checked mul-checked-2 checked-requires returns)
