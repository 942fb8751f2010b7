-- Rows of a table: after one is left out, and after some are made new.
use mathlib.Core.Path.{◌≡◌, sym, ◌∙◌, ap, ap₂}
use mathlib.Core.List.{[], ◌∷◌, ◌++◌, append_assoc}
use Prim.Native.Nat.{ℕ, suc, ◌+◌, ◌-◌, ◌<◌, ◌≤◌}
use native.Mathlib.Omega.{arith}
use lib.ListN.{length, set, take, drop, length-append, take-append-drop}
use lib.Seq.{length-take-le, drop-cons, set_at, take_at, drop-append-add}
use Rattle.spec_spline.specs.Table.{Row, Table, row}
use Rattle.spec_spline.proofs.Splice.{spliced_length, spliced-before, spliced-after}

-- ---- row l left out

pub row-without-before : (t : Table) (l i : ℕ) → l ≤ length t → i < l → row (take l t ++ drop (suc l) t) i ≡ row t i
row-without-before t l i h k = spliced-before t [] l (suc l) h i [] k

pub row-without_from : (t : Table) (l i : ℕ) → l ≤ length t → l ≤ i → row (take l t ++ drop (suc l) t) i ≡ row t (suc i)
row-without_from t l i h k = spliced-after t [] l (suc l) h i (suc i) [] (omega arith) (omega arith)

-- ---- rows from f up to i made new: where rs are those rows, the table is take f t ++ (rs ++ drop i t)

abbrev pub renewed : ℕ → Table → Table → ℕ → Table
renewed f t rs i = take f t ++ (rs ++ drop i t)

pub renewed_none : (f : ℕ) (t : Table) → t ≡ renewed f t [] f
renewed_none f t = sym (take-append-drop f t)

module _ (f : ℕ) (t rs : Table) (i : ℕ) (order : f ≤ i) (inside : i ≤ length t) (size : length rs ≡ i - f) where
  pub renewed_length : length (renewed f t rs i) ≡ length t
  renewed_length = spliced_length t rs f i (omega arith) ∙ omega arith

  -- the rows from i on are the old ones
  pub renewed_old : (k : ℕ) → i ≤ k → row (renewed f t rs i) k ≡ row t k
  renewed_old k h = spliced-after t rs f i (omega arith) k k [] (omega arith) (omega arith)

  -- one new row more
  pub renewed_more : (r : Row) → i < length t → set (renewed f t rs i) i r ≡ renewed f t (rs ++ (r ∷ [])) (suc i)
  renewed_more r h =
      ap (λ ys. set (take f t ++ (rs ++ ys)) i r) (drop-cons t i [] h)
      ∙ ap (λ ys. set ys i r) (sym (append_assoc (take f t) rs (row t i ∷ drop (suc i) t)))
      ∙ set_at (take f t ++ rs) (row t i) (drop (suc i) t) r i (length-append (take f t) rs ∙ omega (arith, length-take-le f t (omega arith)))
      ∙ append_assoc (take f t) rs (r ∷ drop (suc i) t)
      ∙ ap (λ ys. take f t ++ ys) (sym (append_assoc rs (r ∷ []) (drop (suc i) t)))

-- the rows up to l made new and row l left out: the table that a step leaves
pub renewed_without : (f : ℕ) (t rs : Table) (l : ℕ) → f ≤ l → l < length t → length rs ≡ l - f → take l (renewed f t rs l) ++ drop (suc l) (renewed f t rs l) ≡ renewed f t rs (suc l)
renewed_without f t rs l h k size =
    ap₂ ◌++◌ (ap (take l) split ∙ take_at (take f t ++ rs) (row t l ∷ drop (suc l) t) l long)
    (
    ap (drop (suc l)) split
    ∙ ap (λ n. drop n ((take f t ++ rs) ++ (row t l ∷ drop (suc l) t))) (let e : suc l ≡ length (take f t ++ rs) + 1 = omega (arith, long) in e)
    ∙ drop-append-add (take f t ++ rs) (row t l ∷ drop (suc l) t) 1
    )
    ∙ append_assoc (take f t) rs (drop (suc l) t)
  where
    split : renewed f t rs l ≡ (take f t ++ rs) ++ (row t l ∷ drop (suc l) t)
    split = ap (λ ys. take f t ++ (rs ++ ys)) (drop-cons t l [] k) ∙ sym (append_assoc (take f t) rs (row t l ∷ drop (suc l) t))

    long : length (take f t ++ rs) ≡ l
    long = length-append (take f t) rs ∙ omega (arith, length-take-le f t (omega arith))
