-- Each line that is kept stands in the file: its number, its raw line, and the strict line that this is.
use mathlib.Core.Path.{◌≡◌, refl, sym, ◌∙◌, subst}
use mathlib.Core.Bool.{Bool, true, false}
use mathlib.Core.List.{List, [], ◌∷◌}
use mathlib.Core.Option.{Option}
use Prim.Native.Nat.{ℕ, suc, ◌+◌}
use native.Mathlib.Omega.{arith}
use Rattle.base_outcome.specs.Outcome.{answer}
use Rattle.base_outcome.proofs.Outcome.{answer_unique}
use Rattle.base_text.specs.Bytes.{Text}
use Rattle.spec_tucson.specs.StrictLine.{strict_line, Kept}
use Rattle.spec_tucson.specs.KeptLines.{is_data, kept_lines}
use Rattle.spec_tucson.proofs.Kept.{kept_other, kept_data}
use Rattle.theorems_clean.specs.Places.{At, here, later}
use Rattle.theorems_clean.proofs.StrictLines.{AllStrict}
use Rattle.theorems_clean.proofs.ShownBytes.{strict_reads}

-- Something holds of each of the lines.
abbrev pub Each : (Kept → Type 0) → List Kept → Type 0
Each P [] = Unit {0}
Each P (k ∷ ks) = P k × Each P ks

each_map : {P Q : Kept → Type 0} (ks : List Kept) → ((k : Kept) → P k → Q k) → Each P ks → Each Q ks
each_map [] f h = tt
each_map (k ∷ ks) f h = (f k h.0, each_map ks f h.1)

-- A line that is kept of these raw lines, the first of which has this number.
pub record Source (rs : List Text) (i : ℕ) (k : Kept) : Type 0 where
  pub index : ℕ
  pub at : At k.raw index rs
  pub number : k.line ≡ i + index
  pub is : strict_line k.line k.raw ≡ answer k.text

further : (r : Text) (rs : List Text) (i : ℕ) (k : Kept) → Source rs (suc i) k → Source (r ∷ rs) i k
further r rs i k s = record { index = suc s.index; at = later s.at; number = s.number ∙ omega arith; is = s.is }

pub kept-none : (h i : ℕ) (b : Option Kept) (ks : List Kept) → kept_lines h i b [] ≡ answer ks → ks ≡ []
unfolding kept_lines
kept-none h i b ks e = answer_unique e refl

pub kept-sources : (rs : List Text) (h i : ℕ) (b : Option Kept) (ks : List Kept) → kept_lines h i b rs ≡ answer ks → Each (Source rs i) ks
kept-sources [] h i b ks e = subst (Each (Source [] i)) (sym (kept-none h i b ks e)) tt
kept-sources (r ∷ rs) h i b ks e = go (is_data h i r) refl (λ c js. kept-sources rs h (suc i) c js)
  where
    go : (d : Bool) → is_data h i r ≡ d → ((c : Option Kept) (js : List Kept) → kept_lines h (suc i) c rs ≡ answer js → Each (Source rs (suc i)) js) → Each (Source (r ∷ rs) i) ks
    go true d ih =
        let k = kept_data h i b r rs ks d e in
        let first : Source (r ∷ rs) i (record { line = i; raw = r; text = k.text }) = record { index = 0; at = here; number = omega arith; is = k.strict } in
        subst (Each (Source (r ∷ rs) i)) (sym k.is) (first, each_map k.others (further r rs i) (ih _ k.others k.rest))
    go false d ih = each_map ks (further r rs i) (ih b ks (sym (kept_other h i b r rs d) ∙ e))

pub sources_strict : (rs : List Text) (i : ℕ) (ks : List Kept) → Each (Source rs i) ks → AllStrict ks
sources_strict rs i [] h = tt
sources_strict rs i (k ∷ ks) h = ((strict_reads k.line k.raw k.text h.0.is).strict, sources_strict rs i ks h.1)
