-- What is made of the lines below a header, by what their check says.
use mathlib.Core.Path.{◌≡◌, refl, sym, ap}
use mathlib.Core.List.{List, map}
use mathlib.Core.Option.{Option, some, none}
use Prim.Native.Nat.{ℕ}
use Rattle.base_exact.proofs.Decide.{clash}
use Rattle.base_outcome.specs.Outcome.{Outcome, answer, refusal, ◌then◌}
use Rattle.base_outcome.specs.Tests.{refuse_first}
use Rattle.base_outcome.specs.Machine.{passed}
use Rattle.base_text.specs.Bytes.{Text}
use Rattle.spec_tucson.specs.Line.{lines_of}
use Rattle.spec_tucson.specs.Series.{Series}
use Rattle.spec_tucson.specs.FileText.{text_of}
use Rattle.spec_tucson.specs.StrictLine.{Kept}
use Rattle.spec_tucson.specs.KeptLines.{kept_lines}
use Rattle.spec_tucson.specs.CleanSeries.{Fault, year_fault, series_fault, refuse_fault, closed_lines, read_kept, strict_text}
use Rattle.spec_tucson.specs.CleanCall.{Cleaned, checked_lines, all_notes, cleaned_below}
use Rattle.tucson_clean.specs.Machine.{made_of}

-- the check answers the lines with their closings
checked-closed : (unit : ℕ) (ks cs : List Kept) → checked_lines unit ks ≡ answer cs → cs ≡ closed_lines unit ks
unfolding checked_lines
checked-closed unit ks cs e = go (year_fault none ks) (series_fault unit none ks) (read_kept none (closed_lines unit ks)) e
  where
    go : (y : Option ℕ) (f : Option Fault) (o : Outcome (List Series))
        → refuse_first 23 y (refuse_fault f (o then λ ss. answer (closed_lines unit ks))) ≡ answer cs → cs ≡ closed_lines unit ks
    go (some line) f o e = clash cc
    go none (some f) o e = clash cc
    go none none (answer ss) e = sym cc
    go none none (refusal code place) e = clash cc

-- The lines that are kept, and what is made of them.
pub record Made (t : Text) (unit h : ℕ) : Type 0 where
  pub lines : List Kept
  pub kept : kept_lines h 1 none (lines_of (text_of t)) ≡ answer lines
  pub made : cleaned_below t unit h ≡ answer (made_of t h unit lines)

module _ (t : Text) (unit h : ℕ) where
  abbrev finish : List Kept → List Kept → Outcome Cleaned
  finish ks cs = answer (record { text = strict_text cs; lines = map (λ k. k.line) cs; notes = all_notes t unit h ks })

  pub below_legal : passed (kept_lines h 1 none (lines_of (text_of t)) then checked_lines unit) ≡ answer tt → Made t unit h
  unfolding cleaned_below passed
  below_legal e = go (kept_lines h 1 none (lines_of (text_of t))) refl e
    where
      inner : (ks : List Kept) → kept_lines h 1 none (lines_of (text_of t)) ≡ answer ks → (o : Outcome (List Kept)) → checked_lines unit ks ≡ o → passed o ≡ answer tt → Made t unit h
      inner ks k (answer cs) c l = record {
        lines = ks;
        kept = k;
        made = rw k (rw c (ap (λ (x : List Kept). answer (record { text = strict_text x; lines = map (λ k. k.line) x; notes = all_notes t unit h ks })) (checked-closed unit ks cs c)));
      }
      inner ks k (refusal code place) c l = clash cc

      go : (o : Outcome (List Kept)) → kept_lines h 1 none (lines_of (text_of t)) ≡ o → passed (o then checked_lines unit) ≡ answer tt → Made t unit h
      go (answer ks) k l = inner ks k (checked_lines unit ks) refl l
      go (refusal code place) k l = clash cc

  pub below_refused : (code place : ℕ) → passed (kept_lines h 1 none (lines_of (text_of t)) then checked_lines unit) ≡ refusal code place
      → cleaned_below t unit h ≡ refusal code place
  unfolding cleaned_below passed
  below_refused code place e = go (kept_lines h 1 none (lines_of (text_of t))) e
    where
      inner : (ks : List Kept) (o : Outcome (List Kept)) → passed o ≡ refusal code place
          → (o then finish ks) ≡ refusal code place
      inner ks (answer cs) l = clash cc
      inner ks (refusal c p) l = cc

      go : (o : Outcome (List Kept)) → passed (o then checked_lines unit) ≡ refusal code place
          → (o then λ ks. checked_lines unit ks then finish ks) ≡ refusal code place
      go (answer ks) l = inner ks (checked_lines unit ks) l
      go (refusal c p) l = cc
