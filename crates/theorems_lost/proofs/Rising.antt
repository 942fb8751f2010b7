-- The numbers of the lines of the answer rise strictly.
use mathlib.Core.Path.{◌≡◌, refl, sym, ◌∙◌, subst}
use mathlib.Core.Bool.{Bool, true, false}
use mathlib.Core.List.{List, [], ◌∷◌}
use mathlib.Core.Option.{Option, none}
use Prim.Native.Nat.{ℕ, suc, ◌<◌}
use native.Mathlib.Omega.{arith}
use Rattle.base_outcome.specs.Outcome.{answer}
use Rattle.base_text.specs.Bytes.{Text}
use Rattle.spec_tucson.specs.StrictLine.{Kept}
use Rattle.spec_tucson.specs.KeptLines.{is_data, kept_lines}
use Rattle.spec_tucson.proofs.Kept.{kept_other, kept_data}
use Rattle.theorems_clean.proofs.Answers.{answered}
use Rattle.theorems_clean.proofs.Sources.{kept-none}
use Rattle.theorems_clean.proofs.Lines.{numbers, closed-numbers}
use Rattle.theorems_lost.specs.Lost.{Rising, ended, next, LinesRise}

kept-rise : (rs : List Text) (h i n : ℕ) (b : Option Kept) (ks : List Kept) → n < i → kept_lines h i b rs ≡ answer ks → Rising n (numbers ks)
kept-rise [] h i n b ks l e = subst (λ (js : List Kept). Rising n (numbers js)) (sym (kept-none h i b ks e)) ended
kept-rise (r ∷ rs) h i n b ks l e =
    go (is_data h i r) refl (λ m c js. kept-rise rs h (suc i) m c js)
  where
    go : (d : Bool) → is_data h i r ≡ d → ((m : ℕ) (c : Option Kept) (js : List Kept) → m < suc i → kept_lines h (suc i) c rs ≡ answer js → Rising m (numbers js))
        → Rising n (numbers ks)
    go true d ih =
        let k = kept_data h i b r rs ks d e in
        subst (λ (js : List Kept). Rising n (numbers js)) (sym k.is) (next l (ih i _ k.others (omega arith) k.rest))
    go false d ih = ih n b ks (omega arith) (sym (kept_other h i b r rs d) ∙ e)

pub lines-rise : LinesRise
lines-rise t header unit c e =
    let a = answered t header unit c e in
    subst (Rising 0) (sym (a.lines_are ∙ closed-numbers unit a.kept))
    (kept-rise _ a.last 1 0 none a.kept (omega arith) a.kept_are)
