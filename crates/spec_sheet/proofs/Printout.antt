-- Laws of the printout's lines as loops print them, one more at the end of those before.
use mathlib.Core.Path.{◌≡◌, refl, sym, ap, ◌∙◌}
use mathlib.Core.Bool.{Bool, true, false, cond}
use mathlib.Core.List.{List, [], ◌∷◌, ◌++◌, append_assoc, append-nil, map}
use Prim.Native.Nat.{ℕ, zero, suc, ◌<◌, ◌≤◌}
use native.Mathlib.Omega.{arith}
use lib.IntN.{ℤ, pos}
use lib.ListN.{length, get_or, take}
use lib.Seq.{take-suc}
use Rattle.spec_spline.specs.Listing.{Weight}
use Rattle.spec_spline.specs.Reading.{Pair}
use Rattle.base_text.specs.Bytes.{Text}
use Rattle.spec_sheet.specs.Printout.{joined, weight_line, weight_lines, value_line, value_lines, is_low, low_line, low_lines, low_positions}

-- ---- lines of lists
joined_append : {A : Type 0} (line : A → Text) (a b : List A) → joined (map line (a ++ b)) ≡ joined (map line a) ++ joined (map line b)
unfolding joined
joined_append line [] b = refl
joined_append line (x ∷ a) b = ap (λ t. line x ++ t) (joined_append line a b) ∙ sym (append_assoc (line x) (joined (map line a)) (joined (map line b)))

joined_one : {A : Type 0} (line : A → Text) (x : A) → joined (map line (x ∷ [])) ≡ line x
unfolding joined
joined_one line x = append-nil (line x)

joined-none : {A : Type 0} (line : A → Text) → joined (map line []) ≡ []
unfolding joined
joined-none line = refl

pub weight_lines_append : (a b : List Weight) → weight_lines (a ++ b) ≡ weight_lines a ++ weight_lines b
unfolding weight_lines
weight_lines_append a b = joined_append weight_line a b

pub weight_lines_one : (w : Weight) → weight_lines (w ∷ []) ≡ weight_line w
unfolding weight_lines
weight_lines_one w = joined_one weight_line w

pub weight_lines-none : weight_lines [] ≡ []
unfolding weight_lines
weight_lines-none = joined-none weight_line

low_lines_append : (a b : List ℤ) → low_lines (a ++ b) ≡ low_lines a ++ low_lines b
unfolding low_lines
low_lines_append a b = joined_append low_line a b

low_lines_one : (x : ℤ) → low_lines (x ∷ []) ≡ low_line x
unfolding low_lines
low_lines_one x = joined_one low_line x

pub low_lines-none : low_lines [] ≡ []
unfolding low_lines
low_lines-none = joined-none low_line

-- ---- one entry more

-- What stands past the end of a list of pairs.
abbrev pub zeros : Pair
zeros = record { early = pos 0; late = pos 0 }

pub value_lines-none : (vs : List Pair) → value_lines [] vs ≡ []
unfolding value_lines
value_lines-none vs = refl

pub value_lines_more : (xs : List ℤ) (vs : List Pair) (k : ℕ) → k < length xs → k < length vs
    → value_lines (take (suc k) xs) vs ≡ value_lines (take k xs) vs ++ value_line (get_or xs k (pos 0)) (get_or vs k zeros)
unfolding value_lines
value_lines_more [] vs k h l = absurd (omega arith)
value_lines_more (x ∷ xs) [] k h l = absurd (omega arith)
value_lines_more (x ∷ xs) (v ∷ vs) zero h l = append-nil (value_line x v)
value_lines_more (x ∷ xs) (v ∷ vs) (suc k) h l =
    ap (λ t. value_line x v ++ t) (value_lines_more xs vs k (omega arith) (omega arith))
    ∙ sym (append_assoc (value_line x v) (value_lines (take k xs) vs) (value_line (get_or xs k (pos 0)) (get_or vs k zeros)))

-- an entry is low or not, by the test of its values
pub entry_low : (x : ℤ) (v : Pair) → is_low v ≡ true → low_positions (x ∷ []) (v ∷ []) ≡ x ∷ []
unfolding low_positions
entry_low x v e = rw e

pub entry_not_low : (x : ℤ) (v : Pair) → is_low v ≡ false → low_positions (x ∷ []) (v ∷ []) ≡ []
unfolding low_positions
entry_not_low x v e = rw e

pub low_positions-none : (vs : List Pair) → low_positions [] vs ≡ []
unfolding low_positions
low_positions-none vs = refl

pub low_positions_more : (xs : List ℤ) (vs : List Pair) (k : ℕ) → k < length xs → k < length vs
    → low_positions (take (suc k) xs) vs ≡ low_positions (take k xs) vs ++ low_positions (get_or xs k (pos 0) ∷ []) (get_or vs k zeros ∷ [])
unfolding low_positions
low_positions_more [] vs k h l = absurd (omega arith)
low_positions_more (x ∷ xs) [] k h l = absurd (omega arith)
low_positions_more (x ∷ xs) (v ∷ vs) zero h l = refl
low_positions_more (x ∷ xs) (v ∷ vs) (suc k) h l =
    ap (λ t. cond (is_low v) (x ∷ t) t) (low_positions_more xs vs k (omega arith) (omega arith)) ∙ behind (is_low v) _ _
  where
    behind : (b : Bool) (t u : List ℤ) → cond b (x ∷ (t ++ u)) (t ++ u) ≡ cond b (x ∷ t) t ++ u
    behind true t u = refl
    behind false t u = refl

-- no more low positions than positions
pub low_positions_few : (xs : List ℤ) (vs : List Pair) → length (low_positions xs vs) ≤ length xs
unfolding low_positions
low_positions_few [] vs = omega arith
low_positions_few (x ∷ xs) [] = omega arith
low_positions_few (x ∷ xs) (v ∷ vs) = go (is_low v) (low_positions_few xs vs)
  where
    go : (b : Bool) → length (low_positions xs vs) ≤ length xs → length (cond b (x ∷ low_positions xs vs) (low_positions xs vs)) ≤ suc (length xs)
    go true h = omega arith
    go false h = omega arith

pub low_lines_more : (xs : List ℤ) (k : ℕ) → k < length xs → low_lines (take (suc k) xs) ≡ low_lines (take k xs) ++ low_line (get_or xs k (pos 0))
low_lines_more xs k h =
    ap low_lines (take-suc xs k (pos 0) h) ∙ low_lines_append (take k xs) (get_or xs k (pos 0) ∷ [])
    ∙ ap (λ t. low_lines (take k xs) ++ t) (low_lines_one (get_or xs k (pos 0)))
