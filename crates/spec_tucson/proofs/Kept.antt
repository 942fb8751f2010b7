-- The lines that are kept, one raw line after another: what a line that is left out leaves, and what a line of data is.
use mathlib.Core.Path.{◌≡◌, refl, sym, ◌∙◌, ap}
use mathlib.Core.Bool.{Bool, true, false, cond, not}
use mathlib.Core.List.{List, [], ◌∷◌}
use mathlib.Core.Option.{Option, some, none}
use Prim.Native.Nat.{ℕ, suc, ◌<◌, ◌≤◌}
use native.Mathlib.Omega.{arith}
use lib.ListN.{length}
use Rattle.base_exact.proofs.Decide.{clash}
use Rattle.base_outcome.specs.Outcome.{Outcome, answer, refusal, refuse, ◌then◌, with_answer}
use Rattle.base_text.specs.Bytes.{Text}
use Rattle.spec_tucson.specs.StrictLine.{strict_line, Kept}
use Rattle.spec_tucson.specs.KeptLines.{is_misnamed, is_data, kept_then, kept_lines}
use Rattle.spec_tucson.specs.TextReading.{last_field}
use Rattle.spec_tucson.specs.CleanSeries.{continues, fields_of, closing_after}
use Rattle.spec_tucson.specs.CleanNotes.{Ahead, one_more, ahead}

pub kept_other : (h i : ℕ) (b : Option Kept) (r : Text) (rs : List Text) → is_data h i r ≡ false → kept_lines h i b (r ∷ rs) ≡ kept_lines h (suc i) b rs
unfolding kept_lines
kept_other h i b r rs e = ap (λ (d : Bool). cond d (strict_line i r then λ t. kept_then b (record { line = i; raw = r; text = t }) (λ c. kept_lines h (suc i) c rs))
    (kept_lines h (suc i) b rs)) e

-- a line of data, and the lines behind it
pub record KeptData (h i : ℕ) (b : Option Kept) (r : Text) (rs : List Text) (ks : List Kept) : Type 0 where
  pub text : Text
  pub others : List Kept
  pub strict : strict_line i r ≡ answer text
  pub is : ks ≡ record { line = i; raw = r; text = text } ∷ others
  pub rest : kept_lines h (suc i) (some (record { line = i; raw = r; text = text })) rs ≡ answer others

pub kept_data : (h i : ℕ) (b : Option Kept) (r : Text) (rs : List Text) (ks : List Kept) → is_data h i r ≡ true → kept_lines h i b (r ∷ rs) ≡ answer ks
    → KeptData h i b r rs ks
unfolding kept_lines
kept_data h i b r rs ks d e = strict (strict_line i r) refl (ap (λ (x : Bool). cond x (strict_line i r then λ t. kept_then b (record { line = i; raw = r; text = t })
    (λ c. kept_lines h (suc i) c rs)) (kept_lines h (suc i) b rs)) (sym d) ∙ e)
  where
    later : (t : Text) → strict_line i r ≡ answer t → (o : Outcome (List Kept)) → kept_lines h (suc i) (some (record { line = i; raw = r; text = t })) rs ≡ o
        → with_answer (λ ls. record { line = i; raw = r; text = t } ∷ ls) o ≡ answer ks → KeptData h i b r rs ks
    later t s (answer ls) k e = record { text = t; others = ls; strict = s; is = sym cc; rest = k }
    later t s (refusal code place) k e = clash cc

    named : (t : Text) → strict_line i r ≡ answer t → (m : Bool) → is_misnamed b (record { line = i; raw = r; text = t }) ≡ m
        → cond m (refuse 22 i) (with_answer (λ ls. record { line = i; raw = r; text = t } ∷ ls) (kept_lines h (suc i) (some (record { line = i; raw = r; text = t })) rs)) ≡ answer ks
        → KeptData h i b r rs ks
    named t s true m e = clash cc
    named t s false m e = later t s (kept_lines h (suc i) (some (record { line = i; raw = r; text = t })) rs) refl e

    strict : (o : Outcome Text) → strict_line i r ≡ o → (o then λ t. kept_then b (record { line = i; raw = r; text = t }) (λ c. kept_lines h (suc i) c rs)) ≡ answer ks
        → KeptData h i b r rs ks
    strict (answer t) s e = named t s (is_misnamed b (record { line = i; raw = r; text = t })) refl e
    strict (refusal code place) s e = clash cc

-- ---- what stands ahead of a line has that line
pub ahead_some : (unit : ℕ) (k : Kept) (ks : List Kept) → 1 ≤ (ahead unit (k ∷ ks)).count
unfolding ahead
ahead_some unit k ks = go (continues k ks)
  where
    last : Ahead
    last = record { count = 1; closing = closing_after unit (last_field (fields_of k.text)); last_fields = length (fields_of k.text) }

    go : (b : Bool) → 1 ≤ (cond b (one_more (ahead unit ks)) last).count
    go true = omega arith
    go false = omega arith
