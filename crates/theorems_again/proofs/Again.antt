-- A file that was cleaned is answered again: its text has no byte at fault and no header, all its lines are kept, none of the codes 23 to 25 applies that
-- did not before, the strict reader has read them, and the remarks are the same.
use mathlib.Core.Path.{◌≡◌, refl, sym, ◌∙◌, ap, ap₂}
use mathlib.Core.Bool.{Bool, true, false, cond, ◌&&◌}
use mathlib.Core.List.{List, [], ◌∷◌, ◌++◌, append-nil}
use mathlib.Core.Option.{Option, none}
use Prim.Native.Nat.{ℕ, suc, ◌≤◌}
use native.Mathlib.Omega.{arith}
use borrow.Author.Tests.{le-leb}
use lib.Dec.{leb}
use lib.ListN.{length}
use Rattle.base_outcome.specs.Outcome.{answer, largest_place, refuse, ◌then◌}
use Rattle.base_outcome.specs.Tests.{refuse_first}
use Rattle.base_outcome.proofs.Outcome.{then_answers}
use Rattle.base_text.specs.Bytes.{Text}
use Rattle.spec_tucson.specs.Line.{lines_of}
use Rattle.spec_tucson.specs.Series.{Series}
use Rattle.spec_tucson.specs.FileText.{is_marked, text_of, ends_early}
use Rattle.spec_tucson.specs.StrictLine.{Kept}
use Rattle.spec_tucson.specs.KeptLines.{header_of, kept_lines}
use Rattle.spec_tucson.specs.CleanSeries.{Fault, year_fault, series_fault, refuse_fault, closed_lines, strict_text, read_kept}
use Rattle.spec_tucson.specs.CleanNotes.{notes_of}
use Rattle.spec_tucson.specs.CleanCall.{Cleaned, is_header_option, is_unit_option, checked_lines, mark_note, all_ended, end_note, at_start, all_notes, cleaned_below, file_limit, cleaned_file, cleaned}
use Rattle.theorems_clean.proofs.Answers.{answered}
use Rattle.theorems_clean.proofs.StrictLines.{AllStrict, closed_strict, with_ends, strict_lines}
use Rattle.theorems_clean.proofs.Sources.{kept-sources, sources_strict}
use Rattle.theorems_clean.proofs.Lines.{numbers, closed-numbers}
use Rattle.theorems_again.specs.Again.{counted, remarks_alone, in_file, NoHeader, not_named, without, SameUnit, not_said, said, CleanedAgain}
use Rattle.theorems_again.proofs.Texts.{text-unmarked, text_same, text_not_early, text_sound}
use Rattle.theorems_again.proofs.Renumbered.{renumbered, renumbered-text, renumbered-numbers, no_header, all_kept, renumbered-reads}
use Rattle.theorems_again.proofs.Closings.{closed-again, series_fit, second-series}
use Rattle.theorems_again.proofs.Years.{neither, second_years}
use Rattle.theorems_again.proofs.Remarks.{remarks_from, first-remarks, second_notes, same-remarks}

-- ---- the options

header-option : (header : ℕ) → NoHeader header → is_header_option header ≡ true
unfolding is_header_option
header-option header not_named = refl
header-option header without = refl

unit_option : (unit unit' : ℕ) → SameUnit unit unit' → is_unit_option unit ≡ true → is_unit_option unit' ≡ true
unfolding is_unit_option
unit_option unit unit' not_said e = refl
unit_option unit unit' said e = e

-- ---- the notes

-- what is told of the whole file is no remark
mark-alone : (t : Text) (more : List ℕ) → remarks_alone (mark_note t ++ more) ≡ remarks_alone more
unfolding mark_note
mark-alone t more = go (is_marked t)
  where
    go : (b : Bool) → remarks_alone (cond b (1 ∷ 1 ∷ []) [] ++ more) ≡ remarks_alone more
    go true = refl
    go false = refl

end_alone : (t : Text) → remarks_alone (end_note t) ≡ []
unfolding end_note
end_alone t = go (ends_early t && all_ended (lines_of (text_of t)))
  where
    go : (b : Bool) → remarks_alone (cond b (2 ∷ suc (length (lines_of (text_of t))) ∷ []) []) ≡ []
    go true = refl
    go false = refl

first_alone : (t : Text) (unit h : ℕ) (ks : List Kept) → kept_lines h 1 none (lines_of (text_of t)) ≡ answer ks → remarks_alone (all_notes t unit h ks) ≡ remarks_from unit at_start ks
unfolding all_notes
first_alone t unit h ks e =
    mark-alone t _
    ∙ first-remarks (lines_of (text_of t)) unit h 1 (ends_early t) none at_start ks (end_note t) e
    ∙ ap (λ (ns : List ℕ). remarks_from unit at_start ks ++ ns) (end_alone t)
    ∙ append-nil (remarks_from unit at_start ks)

-- the notes of strict lines that are closed as they are
second-alone : (ks : List Kept) (unit : ℕ) → AllStrict ks → closed_lines unit (renumbered 1 ks) ≡ renumbered 1 ks
    → all_notes (strict_text ks) unit 0 (renumbered 1 ks) ≡ remarks_from unit at_start (renumbered 1 ks)
unfolding all_notes mark_note end_note
second-alone ks unit s e =
    let t = strict_text ks in
    let ks' = renumbered 1 ks in
    let raws : lines_of (text_of t) ≡ with_ends ks = ap lines_of (text_same ks s) ∙ strict_lines ks s in
    ap (λ (b : Bool). cond b (1 ∷ 1 ∷ []) [] ++ (notes_of unit 0 (ends_early t) 1 at_start (lines_of (text_of t)) ks'
    ++ cond (ends_early t && all_ended (lines_of (text_of t))) (2 ∷ suc (length (lines_of (text_of t))) ∷ []) [])) (text-unmarked ks s)
    ∙ ap (λ (b : Bool). notes_of unit 0 b 1 at_start (lines_of (text_of t)) ks'
    ++ cond (b && all_ended (lines_of (text_of t))) (2 ∷ suc (length (lines_of (text_of t))) ∷ []) []) (text_not_early ks s)
    ∙ append-nil (notes_of unit 0 false 1 at_start (lines_of (text_of t)) ks')
    ∙ ap (λ (rs : List Text). notes_of unit 0 false 1 at_start rs ks') raws
    ∙ second_notes ks unit 1 at_start s (omega arith) e

-- ---- the call

-- What answers a file of strict lines that stay.
module _ (ks : List Kept) (header unit : ℕ) (s : AllStrict ks) (ss : List Series) where
  abbrev ks' : List Kept
  ks' = renumbered 1 ks

  abbrev second : Cleaned
  second = record { text = strict_text ks'; lines = numbers ks'; notes = all_notes (strict_text ks) unit 0 ks' }

  lines-checked : year_fault none ks' ≡ none → series_fault unit none ks' ≡ none → closed_lines unit ks' ≡ ks' → read_kept none ks ≡ answer ss → checked_lines unit ks' ≡ answer ks'
  unfolding checked_lines
  lines-checked y f c r =
      ap (λ (o : Option ℕ). refuse_first 23 o (refuse_fault (series_fault unit none ks') (read_kept none (closed_lines unit ks') then λ us. answer (closed_lines unit ks')))) y
      ∙ ap (λ (o : Option Fault). refuse_fault o (read_kept none (closed_lines unit ks') then λ us. answer (closed_lines unit ks'))) f
      ∙ ap (λ (ls : List Kept). read_kept none ls then λ us. answer ls) c
      ∙ then_answers (λ us. answer ks') (renumbered-reads ks 1 none ss r)

  below : checked_lines unit ks' ≡ answer ks' → cleaned_below (strict_text ks) unit 0 ≡ answer second
  unfolding cleaned_below
  below c =
      ap (λ (rs : List Text). kept_lines 0 1 none rs then λ ls. checked_lines unit ls then λ cs.
      answer (record { text = strict_text cs; lines = numbers cs; notes = all_notes (strict_text ks) unit 0 ls })) (ap lines_of (text_same ks s) ∙ strict_lines ks s)
      ∙ then_answers (λ ls. checked_lines unit ls then λ cs. answer (record { text = strict_text cs; lines = numbers cs; notes = all_notes (strict_text ks) unit 0 ls }))
      (all_kept ks 1 none s (omega arith) tt)
      ∙ then_answers (λ cs. answer (record { text = strict_text cs; lines = numbers cs; notes = all_notes (strict_text ks) unit 0 ks' })) c

  calls : NoHeader header → is_unit_option unit ≡ true → length (strict_text ks) ≤ file_limit → checked_lines unit ks' ≡ answer ks' → cleaned (strict_text ks) header unit ≡ answer second
  unfolding cleaned cleaned_file
  calls h u l c =
      let t = strict_text ks in
      ap (λ (b : Bool). cond b (cond (is_unit_option unit) (cond (leb (length t) file_limit) (cleaned_file t header unit) (refuse 21 largest_place)) (refuse 24 0)) (refuse 26 0)) (header-option header h)
      ∙ ap (λ (b : Bool). cond b (cond (leb (length t) file_limit) (cleaned_file t header unit) (refuse 21 largest_place)) (refuse 24 0)) u
      ∙ ap (λ (b : Bool). cond b (cleaned_file t header unit) (refuse 21 largest_place)) (le-leb (length t) file_limit l)
      ∙ ap (λ (o : Option ℕ). refuse_first 21 o (header_of header (lines_of (text_of t)) then cleaned_below t unit)) (text_sound ks s)
      ∙ ap (λ (rs : List Text). header_of header rs then cleaned_below t unit) (ap lines_of (text_same ks s) ∙ strict_lines ks s)
      ∙ then_answers (cleaned_below t unit) (no_header header ks h s)
      ∙ below c

pub cleaned-again : CleanedAgain
cleaned-again t header unit c e l header' unit' h u =
    let a = answered t header unit c e in
    let ks = a.kept in
    let strict : AllStrict ks = sources_strict (lines_of (text_of t)) 1 ks (kept-sources (lines_of (text_of t)) a.last 1 none ks a.kept_are) in
    let cs = closed_lines unit ks in
    let s = closed_strict unit ks strict in
    let fits = series_fit ks unit none a.closings in
    let stay = closed-again ks unit unit' 1 strict fits in
    let checked = lines-checked cs header' unit' s a.series (second_years ks unit 1 none none neither strict a.years) (second-series ks unit unit' 1 none none u strict refl a.closings)
    stay a.reads in
    record {
      second = second cs header' unit' s a.series;
      answers = ap (λ (x : Text). cleaned x header' unit') a.text_is
          ∙ calls cs header' unit' s a.series h (unit_option unit unit' u a.unit_option) (omega (arith, ap length a.text_is, l)) checked;
      text = renumbered-text 1 cs ∙ sym a.text_is;
      lines = renumbered-numbers 1 cs ∙ ap (counted 1) (sym a.lines_are);
      notes = ap₂ in_file (a.lines_are ∙ closed-numbers unit ks) (second-alone cs unit' s stay)
          ∙ same-remarks ks unit unit' 0 at_start at_start (numbers ks) strict fits neither refl refl
          ∙ sym (ap remarks_alone a.notes_are ∙ first_alone t unit a.last ks a.kept_are);
    }
