-- What the machine holds between two lines, and what it stands for.
use Rattle.std.specs.Prelude.{Some, None, Result, Ok, Err}
use Rattle.std.specs.Prelude as machine
use Rattle.std.specs.Prelude.{Bool, true, false, ◌&&◌, not, List, [], ◌∷◌, ◌≡◌, ℕ, ◌+◌, ◌-◌, ◌≤◌, pos, length, take}
use Rattle.std.proofs.Math.Option.{Option, some, none}
use Rattle.base_outcome.specs.Codes as codes
use Rattle.base_outcome.specs.Outcome.{Outcome, answer, refusal, capped, ◌then◌}
use Rattle.base_outcome.specs.Machine.{reply}
use Rattle.base_outcome.specs.declared.Refusal.{Refusal}
use Rattle.base_text.specs.Bytes.{Text}
use Rattle.spec_tucson.specs.Line.{name_columns}
use Rattle.spec_tucson.specs.TextReading.{Begun}
use Rattle.spec_tucson.specs.StrictLine.{is_strict, shown_fields, strict_line, Kept}
use Rattle.spec_tucson.specs.KeptLines.{same_text, kept_then}
use Rattle.spec_tucson.specs.CleanSeries.{follows_its}
use Rattle.tucson_shown.specs.Machine.{StrictTold}
use Rattle.tucson_shown.specs.declared.StrictLine.{StrictLine}
use Rattle.tucson_judge.specs.Judging.{TracksReader, Verdict, verdict}
use Rattle.tucson_judge.specs.declared.Judged.{Judged}
use Rattle.tucson_check.specs.declared.Held.{Held}

-- Nothing is held, and nothing was found.
abbrev pub unheld : Held
unheld = record {
  some = false;
  shown = 0;
  size = 0;
  number = 0;
  follows = false;
  judged = record {
    year = 0;
    fault = None;
    seen = 0;
    reader = Ok (record { begun = false; next = pos 0; small = true });
  };
}

-- The verdict on the lines that are kept, or the refusal of one of them.
abbrev pub judging : (List Kept → Verdict) → Outcome (List Kept) → Verdict
judging f (answer ks) = f ks
judging f (refusal code place) = refusal code place

-- No line is held, and the lines to come are these: they end so.
pub record NoneHeld (unit : ℕ) (j : Judged) (end : Verdict) (later : Option Kept → Outcome (List Kept)) : Type 0 where
  pub tracks : TracksReader none j.reader
  pub ends : end ≡ judging (verdict unit j none none) (later none)

-- A line is held, with these bytes shown of it and these that it has; with the lines to come it ends so.
pub record LineHeld (unit : ℕ) (h : Held) (shown text : Text) (end : Verdict) (later : Option Kept → Outcome (List Kept)) : Type 0 where
  pub line : Kept
  pub before : Option Kept
  pub begun : Option Begun
  pub is_shown : shown_fields line.raw ≡ shown
  pub is_text : line.text ≡ text
  pub is_number : line.line ≡ h.number
  pub numbered : 1 ≤ h.number
  pub strict : is_strict text ≡ true
  pub follows_is : follows_its before line ≡ h.follows
  pub tracks : TracksReader begun h.judged.reader
  pub ends : end ≡ judging (λ ks. verdict unit h.judged begun before (line ∷ ks)) (later (some line))

abbrev pub HoldsBy : Bool → ℕ → Held → Text → Text → Verdict → (Option Kept → Outcome (List Kept)) → Type 0
HoldsBy true unit h shown text end later = LineHeld unit h shown text end later
HoldsBy false unit h shown text end later = NoneHeld unit h.judged end later

-- What is held, with the lines to come, ends so.
abbrev pub Holds : ℕ → Held → Text → Text → Verdict → (Option Kept → Outcome (List Kept)) → Type 0
Holds unit h shown text end later = HoldsBy h.some unit h shown text end later

-- ---- taking up a line

-- The bytes that are shown in the columns of the names of two lines are the same.
abbrev pub same_name_bytes : Text → Text → Text → Text → Bool
same_name_bytes shown text later_shown later_text =
    same_text (take (length shown + name_columns - length text) shown) (take (length later_shown + name_columns - length later_text) later_shown)

-- Two lines with a name each.
pub record NamesAsk (text old : Text) : Type 0 where
  pub named : name_columns ≤ length text
  pub named-old : name_columns ≤ length old

-- A strict line with a number from 1 on, and another if one is held.
pub record FollowAsks (h : Held) (old text : Text) (number : ℕ) : Type 0 where
  pub strict : is_strict text ≡ true
  pub strict_old : h.some ≡ true → is_strict old ≡ true
  pub numbered : 1 ≤ number
  pub numbered-old : h.some ≡ true → 1 ≤ h.number

-- The line is held: how many bytes are shown of it and how many it has, and that it ends so.
pub record HeldNow (unit : ℕ) (shown text : Text) (end : Verdict) (later : Option Kept → Outcome (List Kept)) (h : Held) : Type 0 where
  pub shown_is : h.shown ≡ length shown
  pub size_is : h.size ≡ length text
  pub holds : Holds unit h shown text end later

-- What is held behind a line, or that its name is refused.
abbrev pub NextTold : ℕ → Text → Text → Verdict → (Option Kept → Outcome (List Kept)) → ℕ → machine.Option Held → Type 0
NextTold unit shown text end later number (Some h) = HeldNow unit shown text end later h
NextTold unit shown text end later number None = end ≡ refusal codes.file_bytes (capped number)

abbrev pub FollowTold : ℕ → Held → Text → Text → Text → Text → ℕ → machine.Option Held → Type 0
FollowTold unit h old_shown old shown text number r = (end : Verdict) (raw : Text) (later : Option Kept → Outcome (List Kept))
    → shown_fields raw ≡ shown
    → Holds unit h old_shown old end (λ before. kept_then before (record { line = number; raw = raw; text = text }) later)
    → NextTold unit shown text end later number r

-- What stands at the fronts of the two arrays of the line that is held.
pub record HeldBytes (unit : ℕ) (h : Held) (shown text : Text) (end : Verdict) (later : Option Kept → Outcome (List Kept)) : Type 0 where
  pub shown-fits : h.shown ≤ length shown
  pub text-fits : h.size ≤ length text
  pub holds : Holds unit h (take h.shown shown) (take h.size text) end later

-- The bytes of a strict line at the fronts of two arrays.
abbrev pub StrictFits : Result StrictLine ℕ → Text → Text → Type 0
StrictFits (Ok l) shown text = (l.shown ≤ length shown) × ((l.size ≤ length text) × (is_strict (take l.size text) ≡ true))
StrictFits (Err code) shown text = Unit {0}

-- A line with a number from 1 on, and a strict line at the front of an array, if one is held.
pub record TakeAsks (s : Result StrictLine ℕ) (h : Held) (old_shown old shown text : Text) (number : ℕ) : Type 0 where
  pub fits : StrictFits s shown text
  pub shown-fits : h.shown ≤ length old_shown
  pub text-fits : h.size ≤ length old
  pub strict_old : h.some ≡ true → is_strict (take h.size old) ≡ true
  pub numbered : 1 ≤ number
  pub numbered-old : h.some ≡ true → 1 ≤ h.number

-- The line in front of the later ones, unless it is refused.
abbrev pub taking : ℕ → Text → (Option Kept → Outcome (List Kept)) → Option Kept → Outcome (List Kept)
taking number raw later before = strict_line number raw then λ t. kept_then before (record { line = number; raw = raw; text = t }) later

abbrev pub TakenTold : ℕ → Text → Text → Verdict → (Option Kept → Outcome (List Kept)) → ℕ → Result Held ℕ → Type 0
TakenTold unit shown text end later number (Ok h) = HeldBytes unit h shown text end later
TakenTold unit shown text end later number (Err code) = end ≡ refusal code (capped number)

abbrev pub TakeTold : ℕ → Result StrictLine ℕ → Held → Text → Text → ℕ → Text → Text → Result Held ℕ → Type 0
TakeTold unit s h old_shown old number shown text r = (end : Verdict) (raw : Text) (later : Option Kept → Outcome (List Kept))
    → StrictTold raw s shown text
    → HeldBytes unit h old_shown old end (taking number raw later) → TakenTold unit shown text end later number r

-- ---- the end

-- A strict line, if one is held.
pub record FinishAsks (h : Held) (old : Text) : Type 0 where
  pub strict : h.some ≡ true → is_strict old ≡ true
  pub numbered : h.some ≡ true → 1 ≤ h.number

abbrev pub FinishTold : ℕ → Held → Text → Result (Unit {0}) Refusal → Type 0
FinishTold unit h old r = (end : Verdict) (shown : Text) → Holds unit h shown old end (λ before. answer []) → reply r ≡ end
