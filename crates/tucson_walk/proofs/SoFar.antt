-- The walk between two raw lines: what is put of the whole, and what is left.
use mathlib.Core.Path.{◌≡◌, refl, sym, ◌∙◌, ap}
use mathlib.Core.Bool.{Bool, false}
use mathlib.Core.List.{List, [], ◌∷◌, ◌++◌, append_assoc, append-nil}
use mathlib.Core.Option.{none}
use Prim.Native.Nat.{ℕ, ◌+◌, ◌*◌, ◌<◌, ◌≤◌}
use native.Mathlib.Omega.{arith}
use lib.IntN.{pos}
use lib.ListN.{length, drop, drop_of_length-le}
use Rattle.base_outcome.specs.Outcome.{Outcome, answer}
use Rattle.base_print.specs.Buffer.{Puts}
use Rattle.base_print.proofs.Buffer.{puts_none, puts_within, puts_then, puts_as}
use Rattle.base_text.specs.Bytes.{Text}
use Rattle.spec_tucson.specs.Line.{lines_of}
use Rattle.spec_tucson.specs.StrictLine.{Kept}
use Rattle.spec_tucson.specs.KeptLines.{kept_lines}
use Rattle.spec_tucson.specs.CleanSeries.{closed_lines, strict_text}
use Rattle.spec_tucson.specs.CleanNotes.{Before, notes_of}
use Rattle.spec_tucson.specs.CleanCall.{at_start}
use Rattle.tucson_lines.specs.Machine.{LineEnd}
use Rattle.tucson_lines.proofs.Lines.{end_within, lines_step}
use Rattle.tucson_walk.specs.declared.Turn.{Turn}
use Rattle.tucson_walk.specs.Tracking.{Begins}
use Rattle.tucson_walk.specs.Walking.{Walks, numbers_of, FarFrom, Stepped, TurnTold, WalkAsks, WalkedAll}

-- What is put of the lines that are kept and of all notes.
pub record Going (unit h : ℕ) (early : Bool) (text : Text) (at : ℕ) (all : List Kept) (out₀ out : Text) (lines₀ lines notes₀ notes : List ℕ) (t : Turn) (from number : ℕ) : Type 0 where
  pub before : Before
  pub others : List Kept
  pub walks : Walks unit h text from number before others t.series
  pub bytes : Text
  pub bytes-put : Puts (79 * number) 0 bytes out₀ out t.walked.bytes
  pub bytes_are : strict_text (closed_lines unit all) ≡ bytes ++ strict_text (closed_lines unit others)
  pub numbers : List ℕ
  pub numbers-put : Puts number 0 numbers lines₀ lines t.walked.lines
  pub numbers_are : numbers_of (closed_lines unit all) ≡ numbers ++ numbers_of (closed_lines unit others)
  pub cells : List ℕ
  pub cells-put : Puts (22 * number) at cells notes₀ notes t.walked.cells
  pub cells_are : notes_of unit h early 1 at_start (lines_of text) all ≡ cells ++ notes_of unit h early number before (lines_of (drop from text)) others

pub record SoFar (unit h : ℕ) (early : Bool) (text : Text) (at : ℕ) (out₀ out : Text) (lines₀ lines notes₀ notes : List ℕ) (t : Turn) (from number : ℕ) : Type 0 where
  pub within : from ≤ length text + 1
  pub few : number ≤ from + 1
  pub fewer : number ≤ length text + 1
  pub counted : length (lines_of text) + 1 ≡ number + length (lines_of (drop from text))
  pub bytes_near : t.walked.bytes ≤ 79 * number
  pub lines_near : t.walked.lines ≤ number
  pub cells_near : t.walked.cells ≤ at + 22 * number
  pub out_long : length out ≡ length out₀
  pub lines_long : length lines ≡ length lines₀
  pub notes_long : length notes ≡ length notes₀
  pub going : (all : List Kept) → kept_lines h 1 none (lines_of text) ≡ answer all
      → Going unit h early text at all out₀ out lines₀ lines notes₀ notes t from number

-- ---- at the start
abbrev pub nothing_yet : ℕ → Turn
nothing_yet at = record {
  series = record { ahead = record { count = 0; closing = pos 0; fields = 0 }; known = false; first = pos 0 };
  walked = record { bytes = 0; lines = 0; cells = at };
}

begins-first : (ks : List Kept) → Begins none ks
begins-first [] = tt
begins-first (k ∷ ks) = refl

pub so_far_start : (unit h : ℕ) (early : Bool) (text : Text) (at : ℕ) (out : Text) (lines notes : List ℕ)
    → SoFar unit h early text at out out lines lines notes notes (nothing_yet at) 0 1
so_far_start unit h early text at out lines notes = record {
  within = omega arith;
  few = omega arith;
  fewer = omega arith;
  counted = omega arith;
  bytes_near = omega arith;
  lines_near = omega arith;
  cells_near = omega arith;
  out_long = refl;
  lines_long = refl;
  notes_long = refl;
  going = λ all e. record {
    before = at_start;
    others = all;
    walks = record { kept = e; holds = record { tracks = begins-first all; knows = (refl, refl) } };
    bytes = [];
    bytes-put = puts_within (omega arith) (puts_none 0 out);
    bytes_are = refl;
    numbers = [];
    numbers-put = puts_within (omega arith) (puts_none 0 lines);
    numbers_are = refl;
    cells = [];
    cells-put = puts_within (omega arith) (puts_none at notes);
    cells_are = refl;
  };
}

-- ---- one raw line more
longer : {A : Type 0} (done part later : List A) {whole rest : List A} → whole ≡ done ++ rest → rest ≡ part ++ later → whole ≡ (done ++ part) ++ later
longer {A} done part later {whole} {rest} e f = e ∙ ap (λ (l : List A). done ++ l) f ∙ sym (append_assoc done part later)

module _ {unit h : ℕ} {early : Bool} {text : Text} {at : ℕ} {out₀ out : Text} {lines₀ lines notes₀ notes : List ℕ} {t : Turn} {from number : ℕ}
    (s : SoFar unit h early text at out₀ out lines₀ lines notes₀ notes t from number) where
  pub far_from : WalkAsks text at → FarFrom t.walked
  far_from a = record {
    bytes_near = omega (arith, s.bytes_near, s.fewer, a.few);
    lines_near = omega (arith, s.lines_near, s.fewer, a.few);
    cells_near = omega (arith, s.cells_near, s.fewer, a.few, a.near);
  }

  going_on : {all : List Kept} {past : ℕ} {out' : Text} {lines' notes' : List ℕ} {r : Turn} (g : Going unit h early text at all out₀ out lines₀ lines notes₀ notes t from number)
      → Stepped unit h early text from past number g.before g.others t.walked out out' lines lines' notes notes' r
      → Going unit h early text at all out₀ out' lines₀ lines' notes₀ notes' r past (number + 1)
  going_on g x = record {
    before = x.later;
    others = x.others;
    walks = x.walks;
    bytes = g.bytes ++ x.bytes;
    bytes-put = puts_within (omega arith) (puts_then g.bytes-put x.bytes-put);
    bytes_are = longer g.bytes x.bytes _ g.bytes_are x.bytes_are;
    numbers = g.numbers ++ x.numbers;
    numbers-put = puts_within (omega arith) (puts_then g.numbers-put x.numbers-put);
    numbers_are = longer g.numbers x.numbers _ g.numbers_are x.numbers_are;
    cells = g.cells ++ x.cells;
    cells-put = puts_within (omega arith) (puts_then g.cells-put x.cells-put);
    cells_are = longer g.cells x.cells _ g.cells_are x.cells_are;
  }

  pub so_far_next : {end : ℕ} {out' : Text} {lines' notes' : List ℕ} {r : Turn} → LineEnd text from end → from < length text
      → TurnTold unit h early text from (end + 1) number t out out' lines lines' notes notes' r
      → length out' ≡ length out → length lines' ≡ length lines → length notes' ≡ length notes
      → SoFar unit h early text at out₀ out' lines₀ lines' notes₀ notes' r (end + 1) (number + 1)
  so_far_next {end} l more x o p q = record {
    within = omega (arith, end_within text from end l);
    few = omega (arith, end_within text from end l, s.few);
    fewer = omega (arith, s.few, more);
    counted = omega (arith, s.counted, ap length (lines_step text from end l more));
    bytes_near = omega (arith, s.bytes_near, x.near.bytes_near);
    lines_near = omega (arith, s.lines_near, x.near.lines_near);
    cells_near = omega (arith, s.cells_near, x.near.cells_near);
    out_long = o ∙ s.out_long;
    lines_long = p ∙ s.lines_long;
    notes_long = q ∙ s.notes_long;
    going = λ all e. let g = s.going all e in going_on g (x.told g.before g.others g.walks);
  }

  -- ---- at the end
  module _ (over : length text ≤ from) (all : List Kept) (kept : kept_lines h 1 none (lines_of text) ≡ answer all) where
    g : Going unit h early text at all out₀ out lines₀ lines notes₀ notes t from number
    g = s.going all kept

    answer-same : (x y : List Kept) → ◌≡◌ {A = Outcome (List Kept)} (answer x) (answer y) → x ≡ y
    answer-same x y e = cc

    none_left : g.others ≡ []
    unfolding kept_lines lines_of
    none_left = answer-same g.others [] (sym g.walks.kept ∙ ap (λ (u : Text). kept_lines h number g.before.kept (lines_of u)) (drop_of_length-le text over))

    lines_are : number ≡ length (lines_of text) + 1
    unfolding lines_of
    lines_are = sym (s.counted ∙ ap (λ (u : Text). number + length (lines_of u)) (drop_of_length-le text over) ∙ omega arith)

    pub walked_all : WalkedAll unit h early text at all out₀ out lines₀ lines notes₀ notes t.walked
    unfolding strict_text closed_lines notes_of lines_of
    walked_all = record {
      bytes-put = puts_as (sym (g.bytes_are ∙ ap (λ (l : List Kept). g.bytes ++ strict_text (closed_lines unit l)) none_left ∙ append-nil g.bytes))
          (puts_within (omega (arith, lines_are)) g.bytes-put);
      numbers-put = puts_as (sym (g.numbers_are ∙ ap (λ (l : List Kept). g.numbers ++ numbers_of (closed_lines unit l)) none_left ∙ append-nil g.numbers))
          (puts_within (omega (arith, lines_are)) g.numbers-put);
      cells-put = puts_as (sym (g.cells_are ∙ ap (λ (u : Text). g.cells ++ notes_of unit h early number g.before (lines_of u) g.others) (drop_of_length-le text over)
          ∙ append-nil g.cells)) (puts_within (omega (arith, lines_are)) g.cells-put);
    }
