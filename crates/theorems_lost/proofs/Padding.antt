-- Behind the byte 26 that ends a text there is padding alone: code 21 refuses anything else.
use mathlib.Core.Path.{◌≡◌, refl, sym, ◌∙◌, ap}
use mathlib.Core.Bool.{Bool, true, false, cond}
use mathlib.Core.List.{[], ◌∷◌, ◌++◌}
use mathlib.Core.Option.{some, none}
use Prim.Native.Nat.{ℕ, suc}
use native.Mathlib.Omega.{arith}
use lib.Dec.{eqb}
use lib.ListN.{length, take, drop}
use Rattle.base_exact.proofs.Decide.{clash}
use Rattle.base_text.specs.Bytes.{Text, index_where, index_of}
use Rattle.spec_tucson.specs.FileText.{substitute, unmarked, text_of, all_padding, is_fault, line_after, fault_line, is_wide, text_fault}
use Rattle.theorems_lost.specs.Lost.{PaddingBehind}
use Rattle.theorems_clean.proofs.Answers.{answered}

fault-behind : (t : Text) (line : ℕ) (after : Text) → fault_line line t ≡ none → t ≡ take (index_of substitute t) t ++ (substitute ∷ after) → all_padding after ≡ true
unfolding fault_line index_where
fault-behind [] line after e s = absurd (omega (arith, ap length s))
fault-behind (c ∷ cs) line after e s = go (eqb c substitute) refl e s (λ n. fault-behind cs n after)
  where
    padded : (b : Bool) → all_padding cs ≡ b → cond b none (some line) ≡ none → all_padding cs ≡ true
    padded true w e = w
    padded false w e = clash cc

    sound : (b : Bool) → cond b (some line) (fault_line (line_after c line) cs) ≡ none → fault_line (line_after c line) cs ≡ none
    sound true e = clash cc
    sound false e = e

    go : (b : Bool) → eqb c substitute ≡ b → cond b (cond (all_padding cs) none (some line)) (cond (is_fault c cs) (some line) (fault_line (line_after c line) cs)) ≡ none
        → c ∷ cs ≡ take (cond b 0 (suc (index_of substitute cs))) (c ∷ cs) ++ (substitute ∷ after)
        → ((n : ℕ) → fault_line n cs ≡ none → cs ≡ take (index_of substitute cs) cs ++ (substitute ∷ after) → all_padding after ≡ true)
        → all_padding after ≡ true
    go true w e s ih = ap all_padding (sym (ap (drop 1) s)) ∙ padded (all_padding cs) refl e
    go false w e s ih = ih (line_after c line) (sound (is_fault c cs) e) (ap (drop 1) s)

wide_fault : (b : Bool) (t : Text) → cond b (some 1) (fault_line 1 t) ≡ none → fault_line 1 t ≡ none
wide_fault true t e = clash cc
wide_fault false t e = e

pub padding-behind : PaddingBehind
unfolding text_fault text_of
padding-behind t header unit c e after s =
    let a = answered t header unit c e in
    fault-behind (unmarked t) 1 after (wide_fault (is_wide t) (unmarked t) a.sound) s
