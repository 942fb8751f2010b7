-- Hundredths are multiplied, thousandths stay.
use mathlib.Core.Bool.{Bool, true, false, cond}
use mathlib.Core.List.{List}
use mathlib.Core.Path.{◌≡◌, sym, ◌∙◌, ap}
use Prim.Native.Nat.{ℕ, ◌+◌, ◌-◌}
use native.Mathlib.Omega.{arith}
use lib.IntN.{ℤ}
use lib.Seq.{slice, sets}
use Rattle.base_exact.proofs.Word.{to_z-of_z}
use Rattle.spec_tucson.specs.Line.{same}
use Rattle.spec_tucson.specs.Series.{hundredths, from_hundredths}
use Rattle.tucson_read.specs.Write.{in_thousandths}
use Rattle.tucson_read.proofs.Sets.{sets-slice}
use borrow.Author.Rules.{rules}
use Rattle.tucson_read.proofs.convert.Statement.{statement}
use Rattle.tucson_read.proofs.convert.Tie as tie

-- ---- by the closing
from-hundredths : (z : ℤ) (ws : List ℤ) → same z hundredths ≡ true → from_hundredths ws ≡ in_thousandths z ws
unfolding in_thousandths
from-hundredths z ws e = sym (ap (λ (b : Bool). cond b (from_hundredths ws) ws) e)

from-thousandths : (z : ℤ) (ws : List ℤ) → same z hundredths ≡ false → ws ≡ in_thousandths z ws
unfolding in_thousandths
from-thousandths z ws e = sym (ap (λ (b : Bool). cond b (from_hundredths ws) ws) e)

closing-test : (c : tie.After-same) → c.same.result ≡ same c.args.closing hundredths
closing-test c = let f = c.ranges.closing in simp to_z-of_z at c.same.ensures

returns : tie.Need-returns-then-same
returns c =
    let t = c in
    let s = t in
    let yes = sym (closing-test t.before.before.before.before) ∙ t.if-same.true in
    c.scale.ensures ∙ ap (sets s.args.widths.now s.args.from) (from-hundredths s.args.closing _ yes)

returns-2 : tie.Need-returns
returns-2 c =
    let s = c in
    let w = s.args.widths.now in
    let from = s.args.from in
    let e : from + (s.args.to - from) ≡ s.args.to = omega (arith, s.requires.rising) in
    let no = sym (closing-test c.before) ∙ c.if-same.false in
    let same-part = sym (from-thousandths s.args.closing (slice from s.args.to w) no) ∙ ap (λ (n : ℕ). slice from n w) (sym e) in
    sym (ap (sets w from) same-part ∙ sets-slice (s.args.to - from) from w (omega (arith, s.requires.within)))

pub convert_spec : {M : Type 1} → statement M
convert_spec = tie.close (tie.spec (λ c κs. search rules) (λ c κs. search rules) (λ c. search rules) returns returns-2)
