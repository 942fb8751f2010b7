-- What an answer of the cleaning call tells: no test refused, and the text, lines and notes are those of the lines that are kept.
use mathlib.Core.Path.{◌≡◌, refl, sym, ◌∙◌, ap}
use mathlib.Core.Bool.{Bool, true, false, cond}
use mathlib.Core.List.{List, map}
use mathlib.Core.Option.{Option, some, none}
use Prim.Native.Nat.{ℕ}
use lib.Dec.{leb}
use lib.ListN.{length}
use Rattle.base_outcome.specs.Outcome.{Outcome, answer, largest_place, refuse, ◌then◌}
use Rattle.base_outcome.specs.Tests.{refuse_first}
use Rattle.base_outcome.proofs.Outcome.{answer_unique, answer_not_refusal, then_inverts}
use Rattle.base_text.specs.Bytes.{Text}
use Rattle.spec_tucson.specs.Line.{lines_of}
use Rattle.spec_tucson.specs.Series.{Series}
use Rattle.spec_tucson.specs.FileText.{text_of, text_fault}
use Rattle.spec_tucson.specs.StrictLine.{Kept}
use Rattle.spec_tucson.specs.KeptLines.{header_of, kept_lines}
use Rattle.spec_tucson.specs.CleanSeries.{Fault, year_fault, series_fault, refuse_fault, closed_lines, strict_text, read_kept}
use Rattle.spec_tucson.specs.CleanCall.{Cleaned, is_header_option, is_unit_option, checked_lines, all_notes, cleaned_below, file_limit, cleaned_file, cleaned}

-- ---- tests that did not refuse

pub cond_answers : {A : Type 0} {a : A} (b : Bool) (o : Outcome A) (code place : ℕ) → cond b o (refuse code place) ≡ answer a → (b ≡ true) × (o ≡ answer a)
cond_answers true o code place e = (refl, e)
cond_answers false o code place e = absurd (answer_not_refusal e refl)

pub first-answers : {A : Type 0} {a : A} (code : ℕ) (i : Option ℕ) (o : Outcome A) → refuse_first code i o ≡ answer a → (i ≡ none) × (o ≡ answer a)
first-answers code none o e = (refl, e)
first-answers code (some i) o e = absurd (answer_not_refusal e refl)

pub fault-answers : {A : Type 0} {a : A} (f : Option Fault) (o : Outcome A) → refuse_fault f o ≡ answer a → (f ≡ none) × (o ≡ answer a)
fault-answers none o e = (refl, e)
fault-answers (some f) o e = absurd (answer_not_refusal e refl)

-- ---- the lines that are checked

pub record Checked (unit : ℕ) (ks cs : List Kept) : Type 0 where
  pub years : year_fault none ks ≡ none
  pub closings : series_fault unit none ks ≡ none
  pub series : List Series
  pub reads : read_kept none (closed_lines unit ks) ≡ answer series
  pub are : closed_lines unit ks ≡ cs

checked : (unit : ℕ) (ks cs : List Kept) → checked_lines unit ks ≡ answer cs → Checked unit ks cs
unfolding checked_lines
checked unit ks cs e =
    let y = first-answers 23 (year_fault none ks) _ e in
    let f = fault-answers (series_fault unit none ks) _ y.1 in
    let r = then_inverts (read_kept none (closed_lines unit ks)) (λ ss. answer (closed_lines unit ks)) f.1 in
    record { years = y.0; closings = f.0; series = r.middle; reads = r.before; are = answer_unique refl r.after }

-- ---- the whole call

pub record Answered (t : Text) (header unit : ℕ) (c : Cleaned) : Type 0 where
  pub header-option : is_header_option header ≡ true
  pub unit_option : is_unit_option unit ≡ true
  pub size : leb (length t) file_limit ≡ true
  pub sound : text_fault t ≡ none
  pub last : ℕ
  pub header_is : header_of header (lines_of (text_of t)) ≡ answer last
  pub kept : List Kept
  pub kept_are : kept_lines last 1 none (lines_of (text_of t)) ≡ answer kept
  pub years : year_fault none kept ≡ none
  pub closings : series_fault unit none kept ≡ none
  pub series : List Series
  pub reads : read_kept none (closed_lines unit kept) ≡ answer series
  pub text_is : c.text ≡ strict_text (closed_lines unit kept)
  pub lines_are : c.lines ≡ map (λ k. k.line) (closed_lines unit kept)
  pub notes_are : c.notes ≡ all_notes t unit last kept

-- what is made of the checked lines
abbrev made : Text → ℕ → ℕ → List Kept → List Kept → Cleaned
made t unit h ks cs = record { text = strict_text cs; lines = map (λ k. k.line) cs; notes = all_notes t unit h ks }

pub answered : (t : Text) (header unit : ℕ) (c : Cleaned) → cleaned t header unit ≡ answer c → Answered t header unit c
unfolding cleaned cleaned_file cleaned_below
answered t header unit c e =
    let p = cond_answers (is_header_option header) _ 26 0 e in
    let q = cond_answers (is_unit_option unit) _ 24 0 p.1 in
    let r = cond_answers (leb (length t) file_limit) _ 21 largest_place q.1 in
    let s = first-answers 21 (text_fault t) _ r.1 in
    let u = then_inverts (header_of header (lines_of (text_of t))) (cleaned_below t unit) s.1 in
    let v = then_inverts (kept_lines u.middle 1 none (lines_of (text_of t))) (λ ks. checked_lines unit ks then λ cs. answer (made t unit u.middle ks cs)) u.after in
    let w = then_inverts (checked_lines unit v.middle) (λ cs. answer (made t unit u.middle v.middle cs)) v.after in
    let k = checked unit v.middle w.middle w.before in
    let is : made t unit u.middle v.middle (closed_lines unit v.middle) ≡ c = ap (made t unit u.middle v.middle) k.are ∙ answer_unique refl w.after in
    record {
      header-option = p.0;
      unit_option = q.0;
      size = r.0;
      sound = s.0;
      last = u.middle;
      header_is = u.before;
      kept = v.middle;
      kept_are = v.before;
      years = k.years;
      closings = k.closings;
      series = k.series;
      reads = k.reads;
      text_is = ap (λ (x : Cleaned). x.text) (sym is);
      lines_are = ap (λ (x : Cleaned). x.lines) (sym is);
      notes_are = ap (λ (x : Cleaned). x.notes) (sym is);
    }
