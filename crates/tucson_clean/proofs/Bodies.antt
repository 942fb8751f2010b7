-- Where the text of a file stands.
use mathlib.Core.Path.{◌≡◌, refl, sym, ◌∙◌, ap}
use mathlib.Core.Bool.{Bool, true, false}
use Prim.Native.Nat.{ℕ, ◌+◌, ◌-◌, ◌^◌, ◌<◌, ◌≤◌}
use native.Mathlib.Omega.{arith}
use borrow.Author.Tests.{lt-ltb, le-ltb, ltb-true, ltb-false}
use lib.Dec.{eqb, ltb}
use lib.ListN.{length, take, drop, length-drop}
use Rattle.base_text.specs.Bytes.{Text, index_of}
use Rattle.base_text.proofs.Cutting.{index-within}
use Rattle.spec_tucson.specs.FileText.{substitute, text_of, ends_early}
use Rattle.tucson_file.specs.Machine.{StartIs}
use Rattle.tucson_clean.specs.Machine.{BodyAt}

-- one test by another that says the same
same_test : (a b c d : ℕ) → (a < b → c < d) → (b ≤ a → d ≤ c) → ltb a b ≡ ltb c d
same_test a b c d f g = go (ltb a b) refl
  where
    go : (x : Bool) → ltb a b ≡ x → x ≡ ltb c d
    go true e = sym (lt-ltb c d (f (ltb-true a b e)))
    go false e = sym (le-ltb c d (g (ltb-false a b e)))

module _ (t : Text) (from stop : ℕ) (s : StartIs t from) (is : stop ≡ from + index_of substitute (drop from t)) (short : length t < 2 ^ 32) where
  abbrev n : ℕ
  n = index_of substitute (drop from t)

  inside : n ≤ length (drop from t)
  inside = index-within (λ c. eqb c substitute) (drop from t)

  n_is : stop - from ≡ n
  n_is = omega (arith, is)

  pub body_at : BodyAt t from stop
  unfolding text_of ends_early
  body_at = record {
    after = omega (arith, is);
    within = omega (arith, is, inside, length-drop from t, s.within);
    short = short;
    body_is = ap (λ (k : ℕ). take k (drop from t)) n_is ∙ ap (λ (u : Text). take (index_of substitute u) u) (sym s.text_is);
    early_is = same_test stop (length t) n (length (drop from t)) (λ h. omega (arith, h, is, length-drop from t, s.within)) (λ h. omega (arith, h, is, length-drop from t, s.within))
        ∙ ap (λ (u : Text). ltb (index_of substitute u) (length u)) (sym s.text_is);
  }
