-- The index of the first byte that a test picks is what the method `position` finds, or the length where it finds none.
use Rattle.std.proofs.Common.{◌≡◌, ℕ, suc, ◌+◌, Bool, true, false, cond, ltb, Option, Some, None, length, refl, sym, ◌∙◌, ap, arith}
use Rattle.std.specs.Option.{unwrap_or}
use Rattle.std.specs.List.{position_or_len}
use Rattle.std.proofs.lemmas.List.Recursion.{is_position_or_len}
use borrow.Author.Tests.{ltb-false}
use Rattle.base_text.specs.Bytes.{Text, index_where}
use Rattle.base_text.proofs.Cutting.{index-within}

module _ (picks : ℕ → Bool) where
  index_is : (t : Text) → index_where picks t ≡ position_or_len picks t
  unfolding index_where
  index_is t = is_position_or_len (index_where picks) picks refl step t
    where
      step : (c : ℕ) (cs : Text) → cond (picks c) 0 (suc (index_where picks cs)) ≡ cond (picks c) 0 (1 + index_where picks cs)
      step c cs = let e : suc (index_where picks cs) ≡ 1 + index_where picks cs = omega arith in ap (cond (picks c) 0) e

  pub where_is : (t : Text) (n : ℕ) (r : Option ℕ) → length t ≡ n
      → r ≡ cond (ltb (position_or_len picks t) (length t)) (Some (position_or_len picks t)) None → unwrap_or r n ≡ index_where picks t
  where_is t n r size e = ap (λ (o : Option ℕ). unwrap_or o n) e ∙ go (ltb (position_or_len picks t) (length t)) refl ∙ sym (index_is t)
    where
      go : (b : Bool) → ltb (position_or_len picks t) (length t) ≡ b → unwrap_or (cond b (Some (position_or_len picks t)) None) n ≡ position_or_len picks t
      go true w = refl
      go false w = omega (arith, size, index_is t, index-within picks t, ltb-false _ _ w)
