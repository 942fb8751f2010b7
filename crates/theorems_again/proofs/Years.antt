-- Code 23 looks at the first twelve columns of a line, its length and its neighbours' names, which a closing leaves as they are.
use mathlib.Core.Path.{◌≡◌, refl, sym, ◌∙◌, ap, ap₂}
use mathlib.Core.Bool.{Bool, true, false, cond, ◌&&◌, ◌||◌, not}
use mathlib.Core.List.{List, [], ◌∷◌, ◌++◌}
use mathlib.Core.Option.{Option, some, none}
use Prim.Native.Nat.{ℕ, zero, suc, ◌+◌, ◌-◌, ◌≤◌}
use native.Mathlib.Omega.{arith}
use lib.Dec.{eqb}
use lib.ListN.{length, take, drop, take-append-drop, length-append, length-drop}
use lib.Seq.{length-take-le, take-append-le}
use Rattle.base_exact.proofs.Decide.{clash}
use Rattle.base_text.specs.Bytes.{Text}
use Rattle.base_text.specs.Numeral.{is_digit, digits_up_to, digits, decimal}
use Rattle.spec_tucson.specs.Columns.{blank, columns}
use Rattle.spec_tucson.specs.Line.{name_columns, field_columns, thousandths}
use Rattle.spec_tucson.specs.Series.{hundredths}
use Rattle.spec_tucson.specs.StrictLine.{question_mark, is_strict, Kept, name_of}
use Rattle.spec_tucson.specs.KeptLines.{same_text, column}
use Rattle.spec_tucson.specs.CleanSeries.{continues, follows_its, digits_in, year_in_name, digits_behind, ends_in_number, is_shifted, runs_in}
use Rattle.spec_tucson.specs.CleanSeries.{year_fault, hundredths_said, closing_of, is_reclosed, reclosed, closed_lines}
use Rattle.tucson_strict.proofs.Strict.{strict_size}
use Rattle.tucson_judge.proofs.Reclosing.{reclosed-name}
use Rattle.theorems_clean.proofs.StrictLines.{AllStrict}
use Rattle.theorems_again.proofs.Renumbered.{as_line}
use Rattle.theorems_again.proofs.Closings.{second_lines, closed_text, second-continues}

-- ---- the columns in front

column-front : (n : ℕ) (p s u : Text) → 1 ≤ n → n ≤ length p → column n (p ++ s) ≡ column n (p ++ u)
unfolding column
column-front zero p s u l h = absurd (omega arith)
column-front (suc n) [] s u l h = absurd (omega arith)
column-front (suc zero) (c ∷ p) s u l h = refl
column-front (suc (suc n)) (c ∷ p) s u l h = column-front (suc n) p s u (omega arith) (omega arith)

digits-front : (n from : ℕ) (p s u : Text) → 1 ≤ from → from + n ≤ suc (length p) → digits_in from n (p ++ s) ≡ digits_in from n (p ++ u)
unfolding digits_in
digits-front zero from p s u l h = refl
digits-front (suc n) from p s u l h =
    ap₂ (λ (c : ℕ) (d : Bool). is_digit c && d) (column-front from p s u l (omega arith)) (digits-front n (suc from) p s u (omega arith) (omega arith))

behind-front : (n : ℕ) (p s u : Text) → n ≤ length p → digits_behind n (p ++ s) ≡ digits_behind n (p ++ u)
unfolding digits_behind
behind-front zero p s u h = refl
behind-front (suc n) p s u h =
    ap₂ (λ (c : ℕ) (d : Bool). cond (is_digit c) d (eqb c blank || eqb c question_mark)) (column-front (suc n) p s u (omega arith) h) (behind-front n p s u (omega arith))

runs_front : (alone : Bool) (p s u : Text) → 12 ≤ length p → length s ≡ length u → runs_in alone (p ++ s) ≡ runs_in alone (p ++ u)
unfolding runs_in year_in_name is_shifted ends_in_number
runs_front alone p s u h e =
    let name : take name_columns (p ++ s) ≡ take name_columns (p ++ u) = take-append-le name_columns p s (omega arith) ∙ sym (take-append-le name_columns p u (omega arith)) in
    let size : length (p ++ s) ≡ length (p ++ u) = length-append p s ∙ ap (λ (n : ℕ). length p + n) e ∙ sym (length-append p u) in
    rw (
      column-front 8 p s u (omega arith) (omega arith),
      column-front 7 p s u (omega arith) (omega arith),
      column-front 1 p s u (omega arith) (omega arith),
      digits-front 5 8 p s u (omega arith) (omega arith),
      behind-front 8 p s u (omega arith),
      name,
      size,
    )

closing_six : (unit : ℕ) → length (columns field_columns (closing_of unit)) ≡ field_columns
unfolding closing_of columns decimal digits digits_up_to
closing_six unit = go (eqb unit hundredths_said)
  where
    go : (b : Bool) → length (columns field_columns (cond b hundredths thousandths)) ≡ field_columns
    go true = refl
    go false = refl

runs_same : (alone : Bool) (unit : ℕ) (goes : Bool) (t : Text) → is_strict t ≡ true → runs_in alone (reclosed unit goes t) ≡ runs_in alone t
unfolding reclosed
runs_same alone unit goes t e = go (is_reclosed unit goes t)
  where
    go : (b : Bool) → runs_in alone (cond b (take (length t - field_columns) t ++ columns field_columns (closing_of unit)) t) ≡ runs_in alone t
    go false = refl
    go true =
        let long = strict_size t e in
        let n = length t - field_columns in
        let front : length (take n t) ≡ n = length-take-le n t (omega arith) in
        let six : length (columns field_columns (closing_of unit)) ≡ length (drop n t) = closing_six unit ∙ omega (arith, length-drop n t) in
        runs_front alone (take n t) (columns field_columns (closing_of unit)) (drop n t) (omega (arith, front)) six ∙ ap (runs_in alone) (take-append-drop n t)

-- ---- all lines

-- The line before has the same name in both, or there is none.
pub data Alike : Option Kept → Option Kept → Type 0 where
  neither : Alike none none
  named : {k l : Kept} → name_of k.text ≡ name_of l.text → Alike (some k) (some l)

pub follows_same : (b b' : Option Kept) (k k' : Kept) → Alike b' b → name_of k'.text ≡ name_of k.text → follows_its b' k' ≡ follows_its b k
follows_same b b' k k' neither e = refl
follows_same b b' k k' (named n) e = ap₂ same_text n e

passed : (b : Bool) (n : ℕ) (o : Option ℕ) → cond b (some n) o ≡ none → (b ≡ false) × (o ≡ none)
passed true n o e = clash cc
passed false n o e = (refl, e)

pub second_years : (ks : List Kept) (unit i : ℕ) (b b' : Option Kept) → Alike b' b → AllStrict ks → year_fault b ks ≡ none → year_fault b' (second_lines unit i ks) ≡ none
unfolding year_fault closed_lines
second_years [] unit i b b' a s e = refl
second_years (k ∷ ks) unit i b b' a s e =
    let t = closed_text unit k ks in
    let k' = as_line i t in
    let ks' = second_lines unit (suc i) ks in
    let name = reclosed-name unit (continues k ks) k.text in
    let p = passed (runs_in (not (follows_its b k) && not (continues k ks)) k.text) k.line (year_fault (some k) ks) e in
    ap₂ (λ (f c : Bool). cond (runs_in (not f && not c) t) (some i) (year_fault (some k') ks')) (follows_same b b' k k' a name) (second-continues unit i (suc i) k ks)
    ∙ ap (λ (r : Bool). cond r (some i) (year_fault (some k') ks')) (runs_same (not (follows_its b k) && not (continues k ks)) unit (continues k ks) k.text s.0 ∙ p.0)
    ∙ second_years ks unit (suc i) (some k) (some k') (named name) s.1 p.1
