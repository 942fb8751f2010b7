-- Crosswise products, their signs turned where the new denominator is below zero; the quotient is counted.
use mathlib.Core.Path.{ap, ◌∙◌}
use lib.IntN.{ℤ, pos, ◌-ℤ◌, ◌*ℤ◌}
use lib.Signed.{◌<ℤ◌}
use mir.Syntax.{w64}
use mir.Val.{SFits}
use Rattle.base_arithmetic.proofs.Words.{words}
use Rattle.base_exact.proofs.Integer.{zero_sub_pos, *_nonzero_pos}
use Rattle.base_exact.proofs.Word.{lt_z_true, lt_z_false}
use Rattle.base_fraction.specs.Size.{count}
use Rattle.base_fraction.specs.Machine.{value, answer}
use Rattle.base_fraction.proofs.Value.{ratio_div_above, ratio_div_below}
use Rattle.base_fraction.proofs.Bounds.{mul_fits, zero_sub_mul_fits}
use Rattle.base_arithmetic.proofs.quotient.Statement.{statement}
use Rattle.base_arithmetic.proofs.quotient.Tie as tie

module _ (s : tie.Start) where
  abbrev n : ℤ
  n = s.args.a.num *ℤ s.args.b.den

  abbrev d : ℤ
  d = s.args.a.den *ℤ s.args.b.num

  n_fits : SFits w64 n
  n_fits = mul_fits s.args.a.num s.args.b.den s.requires.first.num_small s.requires.second.den-small

  d_fits : SFits w64 d
  d_fits = mul_fits s.args.a.den s.args.b.num s.requires.first.den-small s.requires.second.num_small

  turned_n : SFits w64 (pos 0 -ℤ n)
  turned_n = zero_sub_mul_fits s.args.a.num s.args.b.den s.requires.first.num_small s.requires.second.den-small

  turned_d : SFits w64 (pos 0 -ℤ d)
  turned_d = zero_sub_mul_fits s.args.a.den s.args.b.num s.requires.first.den-small s.requires.second.num_small

abbrev start : tie.After-struct_told-4-1 → tie.Start
start c = c.before.before.before.before.before.before.before.before

mul-n : tie.Need-overflow_mul-n
mul-n c =
    let s = c.before.before.before.before in let p = s.requires in simp (words, p.first, p.second) (n_fits s)

mul-d : tie.Need-overflow_mul-d
mul-d c = let s = start c in let p = s.requires in simp (words, p.first, p.second) (d_fits s)

sub-checked : tie.Need-overflow_sub-n
sub-checked c =
    let s = start c.before in let p = s.requires in simp (words, p.first, p.second, n_fits s) (turned_n s)

sub-checked-2 : tie.Need-overflow_sub-d
sub-checked-2 c =
    let s = start c.before in let p = s.requires in simp (words, p.first, p.second, d_fits s) (turned_d s)

-- what the test says of the new denominator, which is not zero
below : (c : tie.Then-d-lt0) → pos 0 <ℤ (pos 0 -ℤ d (start c.before))
below c =
    let s = start c.before in let p = s.requires in
    zero_sub_pos (d s) (lt_z_true (d s) (pos 0) (simp (words, p.first, p.second, d_fits s) at c.if-d-lt0.true))

above : (c : tie.Else-d-lt0) → pos 0 <ℤ d (start c.before)
above c =
    let s = start c.before in let p = s.requires in
    *_nonzero_pos _ _ p.first.den_pos p.divisor_nonzero
    (lt_z_false (d s) (pos 0) (simp (words, p.first, p.second, d_fits s) at c.if-d-lt0.false))

checked-requires : tie.Need-checked-requires
checked-requires c κs =
    let s = start c.before in let p = s.requires in
    simp (words, p.first, p.second, d_fits s, turned_d s) (below c)

returns : tie.Need-returns-then-d-lt0
unfolding value
returns c =
    let s = start c.before.before in let p = s.requires in
    (simp (words, p.first, p.second, n_fits s, d_fits s, turned_n s, turned_d s) at c.checked.ensures)
    ∙ ap (λ q. answer (count q)) (ratio_div_below _ _ _ _ p.first.den_pos p.second.den_pos p.divisor_nonzero (below c.before))

checked-requires-2 : tie.Need-checked-requires-2
checked-requires-2 c κs =
    let s = start c.before in let p = s.requires in simp (words, p.first, p.second, d_fits s) (above c)

returns-2 : tie.Need-returns
unfolding value
returns-2 c =
    let s = start c.before.before in let p = s.requires in
    (simp (words, p.first, p.second, n_fits s, d_fits s) at c.checked-2.ensures)
    ∙ ap (λ q. answer (count q)) (ratio_div_above _ _ _ _ p.first.den_pos p.second.den_pos p.divisor_nonzero (above c.before))

pub quotient_spec : {M : Type 1} → statement M
quotient_spec = tie.close (tie.spec mul-n mul-d sub-checked sub-checked-2 checked-requires returns checked-requires-2 returns-2)
