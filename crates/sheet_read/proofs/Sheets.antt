-- The five lines one after the other: what reading ends with once the lines up to one are known, and what the scan's answer
-- says of it.
use mathlib.Core.Path.{◌≡◌, refl, ◌∙◌, ap, ap₂}
use mathlib.Core.Option as math
use Prim.Native.Nat.{ℕ, ◌+◌, ◌<◌, ◌≤◌}
use native.Mathlib.Omega.{arith}
use lib.ListN.{length, drop}
use lib.Seq.{drop-length, drop-cons}
use Rattle.std.specs.Prelude.{Option, Some, None, Ok, Err}
use Rattle.std.specs.Option.{ok_or}
use Rattle.base_exact.proofs.Decide.{clash}
use Rattle.base_outcome.specs.Outcome.{Outcome, answer, refusal, refuse, capped, ◌then◌}
use Rattle.base_text.specs.Bytes.{Text}
use Rattle.base_text.specs.Numeral.{numeral}
use Rattle.spec_sheet.specs.SheetReading.{sheet_limit, Line, line, read_line, breaks_key, Lists, ended, five_lines, read}
use Rattle.spec_sheet.proofs.FiveLines.{NumeralLine, read_short, line-answers, line-refuses, lists, after_one, after_five}
use Rattle.sheet_lines.specs.Machine.{Spans, LineAt}
use Rattle.sheet_lines.specs.declared.Span.{Span}
use Rattle.sheet_read.specs.Scanned.{ListsAt, Scanned}
use Rattle.sheet_read.specs.declared.FiveSpans.{FiveSpans}

-- ---- what the answer for a line says of it
module _ {A : Type 0} (entry : Text → math.Option A) (text : Text) where
  line-none : (o : math.Option (Line A)) (r : Option Span) (place : ℕ) {p : ℕ} → LineAt entry text o r → Err p ≡ ok_or {E = ℕ} r place
      → (o ≡ math.none) × (place ≡ p)
  line-none math.none None place h e = (refl, cc)
  line-none math.none (Some s) place h e = absurd h
  line-none (math.some l) None place h e = absurd h
  line-none (math.some l) (Some s) place h e = clash cc

  line_some : (o : math.Option (Line A)) (r : Option Span) (place : ℕ) (span : Span) → LineAt entry text o r
      → Ok span ≡ ok_or {E = ℕ} r place → (l : Line A) × (o ≡ math.some l) × Spans entry text l span.from span.to
  line_some math.none None place span h e = clash cc
  line_some math.none (Some s) place span h e = absurd h
  line_some (math.some l) None place span h e = absurd h
  line_some (math.some l) (Some s) place span h e = let same : s ≡ span = cc in (l, refl, rw same at h)

-- ---- the answer for the text
pub scan_refused : (text : Text) {place : ℕ} → read text ≡ refusal 10 place → Scanned text (read text) (Err place)
scan_refused text e = rw e (refl, refl)

pub scan_lists : (text : Text) {l : Lists} (s : FiveSpans) → read text ≡ answer l → ListsAt text l s → Scanned text (read text) (Ok s)
scan_lists text s e at = rw e at

-- A line is good, and reading goes on with it.
pub record Reached {A : Type 0} (entry : Text → math.Option A) (text : Text) (next : Line A → Outcome Lists) (span : Span) : Type 0 where
  pub line : Line A
  pub spans : Spans entry text line span.from span.to
  pub so-far : read text ≡ next line
  pub short : length text ≤ sheet_limit

-- a good line, and a bad one, at the head of what is left to read
module _ {A : Type 0} (entry : Text → math.Option A) (text : Text) (place : ℕ) (key : Text) (next : Line A → Outcome Lists) (at : ℕ) (left : Text)
    (same : left ≡ drop at text) (so-far : read text ≡ (read_line place entry key left then next)) (short : length text ≤ sheet_limit)
    (r : Option Span) (found : LineAt entry text (line entry key (drop at text)) r) where
  reach : {span : Span} → Ok span ≡ ok_or {E = ℕ} r place → Reached entry text next span
  reach {span} e =
      let good = line_some entry text (line entry key (drop at text)) r place span found e in
      record {
        line = good.0;
        spans = good.2;
        so-far = so-far ∙ ap (λ (o : Outcome (Line A)). o then next) (line-answers entry place key left (ap (line entry key) same ∙ good.1));
        short = short;
      }

  refuse-line : {p : ℕ} → capped place ≡ place → Err p ≡ ok_or {E = ℕ} r place → Scanned text (read text) (Err p)
  refuse-line small e =
      let bad = line-none entry text (line entry key (drop at text)) r place found e in
      let refuses = line-refuses entry place key left (ap (line entry key) same ∙ bad.0) in
      scan_refused text (so-far ∙ ap (λ (o : Outcome (Line A)). o then next) refuses ∙ ap (refusal 10) (small ∙ bad.1))

-- ---- the first line
module _ (text : Text) (short : length text ≤ sheet_limit) (r : Option Span)
    (found : LineAt numeral text (line numeral breaks_key text) r) where
  so_far_none : read text ≡ (read_line 1 numeral breaks_key text then after_one lists)
  unfolding five_lines
  so_far_none = read_short text short

  pub first-line : {span : Span} → Ok span ≡ ok_or {E = ℕ} r 1 → Reached numeral text (after_one lists) span
  first-line = reach numeral text 1 breaks_key (after_one lists) 0 text refl so_far_none short r found

  pub first-bad : {p : ℕ} → Err p ≡ ok_or {E = ℕ} r 1 → Scanned text (read text) (Err p)
  unfolding capped
  first-bad = refuse-line numeral text 1 breaks_key (after_one lists) 0 text refl so_far_none short r found refl

-- a line of entries of one kind, behind one of another
module _ {A B : Type 0} (before : Text → math.Option A) (entry : Text → math.Option B) (text : Text) (place : ℕ) (key : Text)
    (next : Line A → Line B → Outcome Lists) (s : Span) (prev : Reached before text (λ l. read_line place entry key l.rest then next l) s)
    (r : Option Span) (found : LineAt entry text (line entry key (drop (s.to + 1) text)) r) where
  pub next-line : {span : Span} → Ok span ≡ ok_or {E = ℕ} r place → Reached entry text (next prev.line) span
  next-line = reach entry text place key (next prev.line) (s.to + 1) prev.line.rest prev.spans.rest prev.so-far prev.short r found

  pub next-bad : {p : ℕ} → capped place ≡ place → Err p ≡ ok_or {E = ℕ} r place → Scanned text (read text) (Err p)
  next-bad = refuse-line entry text place key (next prev.line) (s.to + 1) prev.line.rest prev.spans.rest prev.so-far prev.short r found

module _ (text : Text) (make : NumeralLine → Lists) (s : Span) (prev : Reached numeral text (after_five make) s) where
  pub last_line : s.to + 1 ≡ length text → read text ≡ answer (make prev.line)
  last_line e =
      prev.so-far
      ∙ ap (λ (rest : Text). ended rest (make prev.line)) (prev.spans.rest ∙ ap (λ (n : ℕ). drop n text) e ∙ drop-length text)

  pub last_more : (s.to + 1 ≡ length text → ⊥) → read text ≡ refuse 10 6
  last_more h =
      let more : s.to + 1 < length text = omega (arith, prev.spans.ended) in
      prev.so-far
      ∙ ap (λ (rest : Text). ended rest (make prev.line)) (prev.spans.rest ∙ drop-cons text (s.to + 1) 0 more)

-- ---- what an answer says of the text
pub scanned-refusal : (text : Text) (o : Outcome Lists) {place : ℕ} → Scanned text o (Err place) → o ≡ refusal 10 place
scanned-refusal text (answer l) h = absurd h
scanned-refusal text (refusal code at) h = ap₂ refusal h.0 h.1

pub scanned_lists : (text : Text) (o : Outcome Lists) {s : FiveSpans} → Scanned text o (Ok s)
    → (l : Lists) × (o ≡ answer l) × ListsAt text l s
scanned_lists text (answer l) h = (l, refl, h)
scanned_lists text (refusal code at) h = absurd h
