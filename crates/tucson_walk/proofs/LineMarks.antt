-- The notes of a line by what was changed in it.
use mathlib.Core.Path.{◌≡◌, refl, sym, ◌∙◌, ap}
use mathlib.Core.Bool.{Bool, true, false, cond, not}
use mathlib.Core.List.{List, [], ◌∷◌}
use Prim.Native.Nat.{ℕ, ◌+◌, ◌<◌}
use native.Mathlib.Omega.{arith}
use borrow.Author.Tests.{eqb-true, eqb-false}
use lib.Dec.{eqb}
use lib.ListN.{length, drop, length-drop}
use lib.Seq.{slice, take_all}
use Rattle.base_print.specs.Buffer.{Puts}
use Rattle.base_print.proofs.Buffer.{puts_then, puts_within, puts_as}
use Rattle.base_text.specs.Bytes.{Text, newline, index_of, cut}
use Rattle.base_text.proofs.Cutting.{cut-none}
use Rattle.spec_tucson.specs.Shown.{is_blank_line, is_cut, has_end, has_return, has_tab}
use Rattle.spec_tucson.specs.CleanNotes.{note_if, is_cut_line, header_notes, line_notes, at_line}
use Rattle.tucson_lines.specs.Machine.{LineEnd}
use Rattle.tucson_lines.proofs.Lines.{cut_line, end_is, end_within, line-bytes}
use Rattle.tucson_notes.specs.Machine.{shown_marked, form_marked, marked, PutsMarks}
use Rattle.tucson_notes.specs.declared.Marks as machine-marks
use Rattle.tucson_walk.specs.Walking.{marks_of, other_notes}

-- ---- the end of a line
module _ (text : Text) (from end : ℕ) (at : LineEnd text from end) where
  abbrev raw : Text
  raw = slice from (end + 1) text

  abbrev left : Text
  left = drop from text

  no_end : end ≡ length text → has_end raw ≡ false
  unfolding has_end
  no_end e =
      let r : raw ≡ left = ap (drop from) (take_all (end + 1) text (omega arith)) in
      let z : index_of newline left ≡ length left = omega (arith, end_is text from end at, length-drop from text, end_within text from end at) in
      ap (λ (t : Text). is_cut (cut newline t)) r ∙ ap is_cut (cut-none newline left z)

  an_end : end < length text → has_end raw ≡ true
  unfolding has_end
  an_end h =
      let z : index_of newline left < length left = omega (arith, end_is text from end at, length-drop from text, end_within text from end at) in
      ap (λ (t : Text). is_cut (cut newline t)) (line-bytes text from end at) ∙ ap is_cut (cut_line left z)

  pub unended_is : eqb end (length text) ≡ not (has_end raw)
  unended_is = go (eqb end (length text)) refl
    where
      go : (b : Bool) → eqb end (length text) ≡ b → b ≡ not (has_end raw)
      go true e = sym (ap not (no_end (eqb-true end (length text) e)))
      go false e = sym (ap not (an_end (omega (arith, end_within text from end at, eqb-false end (length text) e))))

-- ---- a line that is left out
abbrev pub blank_marks : Bool → Text → machine-marks.Marks
blank_marks early raw = record {
  cut = is_cut_line early raw;
  returned = has_return raw;
  tabbed = has_tab raw;
  trailing = false;
  site = false;
  unended = false;
  high = false;
  reclosed = false;
}

pub blank_notes : (early : Bool) (raw : Text) → is_blank_line raw ≡ true → marked (blank_marks early raw) (6 ∷ []) ≡ other_notes early raw
unfolding shown_marked form_marked line_notes
blank_notes early raw e = sym (ap (λ (b : Bool). line_notes early raw (cond b (6 ∷ []) (header_notes raw))) e)

pub header-notes : (early : Bool) (raw : Text) → is_blank_line raw ≡ false → marked (marks_of early raw false false false) (9 ∷ []) ≡ other_notes early raw
unfolding shown_marked form_marked line_notes header_notes
header-notes early raw e = sym (ap (λ (b : Bool). line_notes early raw (cond b (6 ∷ []) (header_notes raw))) e)

-- marks, and one note behind them
pub marks_then : {at line : ℕ} {m : machine-marks.Marks} (note : ℕ) {ns : List ℕ} {before mid after : List ℕ} {next last : ℕ} → marked m (note ∷ []) ≡ ns
    → PutsMarks at line m before mid next → Puts 2 next (at_line line (note_if true note [])) mid after last → Puts 22 at (at_line line ns) before after last
marks_then {at} {line} note e p q = puts_as (p.before_all (note ∷ []) ∙ ap (at_line line) e) (puts_within (omega arith) (puts_then p.puts q))
