-- The sum of counts, one entry after another: a loop that has passed the first i entries has the sum of the others before it.
use mathlib.Core.Path.{◌≡◌, refl, sym, ap, ◌∙◌}
use mathlib.Core.Bool.{Bool, true, false}
use mathlib.Core.List.{List, [], ◌∷◌}
use Prim.Native.Nat.{ℕ, ◌+◌, ◌-◌, ◌<◌, ◌≤◌}
use native.Mathlib.Numerals.{add-one}
use native.Mathlib.Omega.{arith}
use borrow.Author.Tests.{eq-eqb, ne_eqb, eqb-true, eqb-false}
use lib.Dec.{eqb}
use lib.ListN.{length, get_or, take, drop, length-drop}
use lib.Seq.{slice, drop-cons, drop-length, take_all}
use Rattle.base_text.proofs.Slice.{slice_take}
use Rattle.spec_tucson.specs.WriteCall.{total}

-- the entries from i on, the first of them apart
pub drop-step : {A : Type 0} (l : List A) (i : ℕ) (d : A) → i < length l → drop i l ≡ get_or l i d ∷ drop (i + 1) l
drop-step l i d h = drop-cons l i d h ∙ ap (λ (n : ℕ). get_or l i d ∷ drop n l) (sym (add-one i))

pub drop_end : {A : Type 0} (l : List A) (i : ℕ) → length l ≤ i → i ≤ length l → drop i l ≡ []
drop_end l i h k = ap (λ (n : ℕ). drop n l) (let e : i ≡ length l = omega arith in e) ∙ drop-length l

pub total-step : (ns : List ℕ) (k : ℕ) → k < length ns → total (drop k ns) ≡ get_or ns k 0 + total (drop (k + 1) ns)
unfolding total
total-step ns k h = ap total (drop-step ns k 0 h)

pub total_end : (ns : List ℕ) (k : ℕ) → length ns ≤ k → k ≤ length ns → total (drop k ns) ≡ 0
unfolding total
total_end ns k h l = ap total (drop_end ns k h l)

-- nothing is left of the sum where the numbers add up to it
pub left-none : (n left sum : ℕ) → n + left ≡ sum → eqb left 0 ≡ eqb n sum
left-none n left sum e = go (eqb left 0) refl
  where
    go : (t : Bool) → eqb left 0 ≡ t → t ≡ eqb n sum
    go true z = sym (eq-eqb n sum (omega (arith, eqb-true left 0 z)))
    go false z = sym (ne_eqb n sum (λ q. eqb-false left 0 z (omega arith)))

-- ---- a part of a list as the machine lends it

pub part_is : {A : Type 0} (from to : ℕ) (l : List A) → from ≤ to → take (to - from) (drop from l) ≡ slice from to l
part_is from to l h = sym (slice_take from (to - from) l) ∙ ap (λ (n : ℕ). slice from n l) (let e : from + (to - from) ≡ to = omega arith in e)

pub part-rest : {A : Type 0} (from : ℕ) (l : List A) → take (length l - from) (drop from l) ≡ drop from l
part-rest from l = take_all (length l - from) (drop from l) (omega (arith, length-drop from l))
