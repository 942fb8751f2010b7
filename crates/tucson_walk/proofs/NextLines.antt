-- The line behind another one: the first that is not blank.
use mathlib.Core.Path.{◌≡◌, sym, ◌∙◌, ap, ap₂}
use mathlib.Core.Bool.{Bool, true, false, ◌&&◌, not}
use mathlib.Core.List.{List, []}
use mathlib.Core.Option.{some}
use Prim.Native.Nat.{ℕ, suc, ◌+◌, ◌<◌, ◌≤◌}
use native.Mathlib.Omega.{arith}
use borrow.Author.Tests.{lt-ltb}
use lib.ListN.{length, take, drop, drop_of_length-le}
use lib.Seq.{slice, take-take, length-take-le}
use Rattle.base_exact.proofs.Decide.{clash}
use Rattle.base_outcome.specs.Outcome.{Outcome, answer, refuse}
use Rattle.base_text.specs.Bytes.{Text}
use Rattle.spec_tucson.specs.Line.{name_columns, lines_of}
use Rattle.spec_tucson.specs.Shown.{is_blank_line}
use Rattle.spec_tucson.specs.StrictLine.{strict_line, Kept, name_of}
use Rattle.spec_tucson.specs.KeptLines.{same_text, is_data, kept_lines}
use Rattle.spec_tucson.specs.CleanSeries.{same_name, continues}
use Rattle.tucson_fields.proofs.LineFields.{stands}
use Rattle.tucson_lines.specs.Machine.{LineEnd}
use Rattle.tucson_lines.proofs.Lines.{lines_step}
use Rattle.tucson_shown.specs.Machine.{LineTold}
use Rattle.tucson_check.proofs.HeldLines.{answer_strict}
use Rattle.tucson_walk.specs.Skipping.{Skipped}
use Rattle.tucson_walk.specs.Following.{KeptBehind, NextBy, StandsIn, Follows}
use Rattle.tucson_walk.proofs.Kept.{KeptData, kept_data}

-- ---- answers
answer-same : {A : Type 0} (x y : A) → ◌≡◌ {A = Outcome A} (answer x) (answer y) → x ≡ y
answer-same x y e = cc

pub strict_same : (i : ℕ) (raw t u : Text) → strict_line i raw ≡ answer t → strict_line i raw ≡ answer u → t ≡ u
strict_same i raw t u e f = answer-same t u (sym e ∙ f)

-- ---- a strict line at the front of an array
pub told_stands : {raw : Text} {m n : ℕ} {site : Bool} {shown bytes : Text} → LineTold raw m n site shown bytes → StandsIn bytes n
told_stands {raw} {m} {n} {site} {shown} {bytes} t = record { fits = t.line-fits; strict = answer_strict 0 raw (take n bytes) (t.is_line 0) }

pub stands_long : {bytes : Text} {n : ℕ} → StandsIn bytes n → 18 ≤ n
stands_long {bytes} {n} s = let l = stands (take n bytes) s.strict in omega (arith, l.size, l.some_field, length-take-le n bytes s.fits)

pub stands_name : {bytes : Text} {n : ℕ} → StandsIn bytes n → name_of (take n bytes) ≡ take name_columns bytes
stands_name {bytes} {n} s = take-take name_columns n bytes (omega (arith, stands_long s))

-- ---- a line that is not blank, below the header
pub data_line : (h i : ℕ) (raw : Text) → is_blank_line raw ≡ false → h < i → is_data h i raw ≡ true
unfolding is_data
data_line h i raw e l = ap₂ (λ (b c : Bool). not b && c) e (lt-ltb h i l)

-- ---- behind the blank lines
module _ {text : Text} {past at : ℕ} (s : Skipped text past at) {h i : ℕ} {k : Kept} {ks : List Kept} (b : KeptBehind text h i k past ks) where
  abbrev number : ℕ
  number = (s.passed.kept h i (some k) b.below).line

  below : h < number
  below = (s.passed.kept h i (some k) b.below).below

  are : kept_lines h number (some k) (lines_of (drop at text)) ≡ answer ks
  are = sym (s.passed.kept h i (some k) b.below).same ∙ b.are

  pub none-behind : length text ≤ at → continues k ks ≡ false
  unfolding kept_lines lines_of continues
  none-behind over = ap (continues k) (sym (answer-same [] ks (sym (ap (λ (t : Text). kept_lines h number (some k) (lines_of t)) (drop_of_length-le text over)) ∙ are)))

  module _ {end : ℕ} (l : LineEnd text at end) (more : at < length text) where
    abbrev raw : Text
    raw = slice at (end + 1) text

    is-data : is_data h number raw ≡ true
    is-data = data_line h number raw (s.unblank end l more) below

    pub line-behind : KeptData h number (some k) raw (lines_of (drop (end + 1) text)) ks
    line-behind = kept_data h number (some k) raw (lines_of (drop (end + 1) text)) ks is-data
        (ap (kept_lines h number (some k)) (sym (lines_step text at end l more)) ∙ are)

    pub not_refused : {A : Type 0} (code : ℕ) → ((place : ℕ) → strict_line place raw ≡ refuse code place) → A
    not_refused code e = clash_of line-behind.strict (e number)
      where
        clash_of : {A : Type 0} {t : Text} → strict_line number raw ≡ answer t → strict_line number raw ≡ refuse code number → A
        clash_of p q = clash cc

    pub next-line : {m n : ℕ} {site : Bool} {shown bytes : Text} (line : Text) → LineTold raw m n site shown bytes → name_of k.text ≡ take name_columns line
        → (found : Bool) → found ≡ same_text (take name_columns line) (take name_columns bytes) → NextBy found text h k ks (end + 1) n bytes
    unfolding continues
    next-line {m} {n} {site} {shown} {bytes} line t name found e = go found names
      where
        d : KeptData h number (some k) raw (lines_of (drop (end + 1) text)) ks
        d = line-behind

        next : Kept
        next = record { line = number; raw = raw; text = d.text }

        text_is : d.text ≡ take n bytes
        text_is = strict_same number raw d.text (take n bytes) d.strict (t.is_line number)

        names : same_name k next ≡ found
        names = ap₂ (λ (u v : Text). same_text u (name_of v)) name text_is ∙ ap (same_text (take name_columns line)) (stands_name (told_stands t)) ∙ sym e

        go : (b : Bool) → same_name k next ≡ b → NextBy b text h k ks (end + 1) n bytes
        go true z = record {
          line = next;
          others = d.others;
          number = suc number;
          is = d.is;
          same = z;
          text_is = text_is;
          behind = record { below = omega (arith, below); are = d.rest };
        }
        go false z = ap (continues k) d.is ∙ z

-- nothing is found
pub nothing-named : {text : Text} {past : ℕ} {line bytes : Text} {at : ℕ} → at ≤ length text + 1
    → ((h i : ℕ) (k : Kept) (ks : List Kept) → KeptBehind text h i k past ks → name_of k.text ≡ take name_columns line → continues k ks ≡ false)
    → Follows text past line bytes (record { found = false; past = at; size = 0 })
nothing-named w f = record { within = w; further = λ e. clash cc; stands = λ e. clash cc; told = f }

pub nothing-follows : {text : Text} {past : ℕ} {line bytes : Text} {at : ℕ} → at ≤ length text + 1
    → ((h i : ℕ) (k : Kept) (ks : List Kept) → KeptBehind text h i k past ks → continues k ks ≡ false)
    → Follows text past line bytes (record { found = false; past = at; size = 0 })
nothing-follows w f = nothing-named w (λ h i k ks b name. f h i k ks b)
