-- What is known of a series, one line further.
use mathlib.Core.Path.{◌≡◌, refl, sym, ◌∙◌, ap}
use mathlib.Core.Bool.{Bool, true, false, cond}
use mathlib.Core.List.{List, [], ◌∷◌}
use mathlib.Core.Option.{some}
use Prim.Native.Nat.{ℕ, zero, suc, ◌-◌}
use native.Mathlib.Omega.{arith}
use lib.IntN.{ℤ}
use lib.ListN.{length}
use Rattle.spec_tucson.specs.TextReading.{last_field}
use Rattle.spec_tucson.specs.StrictLine.{Kept}
use Rattle.spec_tucson.specs.CleanSeries.{continues, fields_of, closing_after}
use Rattle.spec_tucson.specs.CleanNotes.{Ahead, one_more, ahead}
use Rattle.spec_tucson.proofs.Kept.{ahead_some}
use Rattle.tucson_walk.specs.Tracking.{ahead_with, Tracks}

-- ---- what stands ahead of a line

pub ahead_more : (unit : ℕ) (k : Kept) (ks : List Kept) → continues k ks ≡ true → ahead unit (k ∷ ks) ≡ one_more (ahead unit ks)
unfolding ahead
ahead_more unit k ks e = ap (λ (b : Bool). cond b (one_more (ahead unit ks))
    (ahead_with 1 (closing_after unit (last_field (fields_of k.text))) (length (fields_of k.text)))) e

pub ahead-last : (unit : ℕ) (k : Kept) (ks : List Kept) → continues k ks ≡ false
    → ahead unit (k ∷ ks) ≡ ahead_with 1 (closing_after unit (last_field (fields_of k.text))) (length (fields_of k.text))
unfolding ahead
ahead-last unit k ks e = ap (λ (b : Bool). cond b (one_more (ahead unit ks))
    (ahead_with 1 (closing_after unit (last_field (fields_of k.text))) (length (fields_of k.text)))) e

-- ---- one line further

one_less : (x y : Ahead) → one_more x ≡ one_more y → x ≡ y
one_less x y e =
    let p : x.count ≡ suc x.count - 1 = omega arith in
    let q : suc y.count - 1 ≡ y.count = omega arith in
    ap (λ (n : ℕ). ahead_with n x.closing x.last_fields) p
    ∙ ap (λ (a : Ahead). ahead_with (a.count - 1) a.closing a.last_fields) e
    ∙ ap (λ (n : ℕ). ahead_with n y.closing y.last_fields) q

-- of the lines that are left behind a line of a series with so many, by whether it goes on
further : (unit n : ℕ) (c : ℤ) (f : ℕ) (k : Kept) (ks : List Kept) (b : Bool) → continues k ks ≡ b → ahead unit (k ∷ ks) ≡ ahead_with (suc n) c f
    → Tracks unit (some k) ks n c f
unfolding continues
further unit n c f k [] b e a =
    let z : ahead_with (suc n) c f ≡ ahead_with 1 (closing_after unit (last_field (fields_of k.text))) (length (fields_of k.text)) = sym a ∙ ahead-last unit k [] refl in
    none n (ap (λ (x : Ahead). x.count) z)
  where
    none : (n : ℕ) → suc n ≡ 1 → Tracks unit (some k) [] n c f
    none zero e = tt
    none (suc n) e = absurd (omega arith)
further unit n c f k (l ∷ ls) true e a =
    let z : ahead_with (suc n) c f ≡ one_more (ahead unit (l ∷ ls)) = sym a ∙ ahead_more unit k (l ∷ ls) e in
    more n (ahead unit (l ∷ ls)) refl z
  where
    more : (n : ℕ) (x : Ahead) → ahead unit (l ∷ ls) ≡ x → ahead_with (suc n) c f ≡ one_more x → Tracks unit (some k) (l ∷ ls) n c f
    more zero x is z = absurd (omega (arith, ap (λ (y : Ahead). y.count) z, ap (λ (y : Ahead). y.count) is, ahead_some unit l ls))
    more (suc n) x is z = (is ∙ same, e)
      where
        same : x ≡ ahead_with (suc n) c f
        same = one_less x (ahead_with (suc n) c f) (sym z)
further unit n c f k (l ∷ ls) false e a =
    let z : ahead_with (suc n) c f ≡ ahead_with 1 (closing_after unit (last_field (fields_of k.text))) (length (fields_of k.text)) = sym a ∙ ahead-last unit k (l ∷ ls) e in
    fresh n (ap (λ (x : Ahead). x.count) z)
  where
    fresh : (n : ℕ) → suc n ≡ 1 → Tracks unit (some k) (l ∷ ls) n c f
    fresh zero i = e
    fresh (suc n) i = absurd (omega arith)

pub tracks_on : (unit n : ℕ) (c : ℤ) (f : ℕ) (k : Kept) (ks : List Kept) → ahead unit (k ∷ ks) ≡ ahead_with (suc n) c f → Tracks unit (some k) ks n c f
tracks_on unit n c f k ks a = further unit n c f k ks (continues k ks) refl a
