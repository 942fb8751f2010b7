-- Blank lines passed over, one after another.
use mathlib.Core.Path.{◌≡◌, refl, sym, ◌∙◌, ap}
use mathlib.Core.Bool.{Bool, true, false, ◌&&◌, not}
use Prim.Native.Nat.{ℕ, suc, ◌+◌, ◌<◌, ◌≤◌}
use native.Mathlib.Omega.{arith}
use lib.Dec.{ltb}
use lib.ListN.{length}
use lib.Seq.{slice}
use Rattle.base_text.specs.Bytes.{Text}
use Rattle.spec_tucson.specs.Shown.{is_blank_line}
use Rattle.spec_tucson.specs.KeptLines.{is_data, kept_lines}
use Rattle.tucson_lines.specs.Machine.{LineEnd}
use Rattle.tucson_lines.proofs.Lines.{end_within, lines_step}
use Rattle.tucson_walk.specs.Skipping.{Passed, Skipped}
use Rattle.tucson_walk.proofs.Kept.{kept_other}

-- a blank line is no line of data
pub blank_other : (h i : ℕ) (raw : Text) → is_blank_line raw ≡ true → is_data h i raw ≡ false
unfolding is_data
blank_other h i raw e = ap (λ (b : Bool). not b && ltb h i) e

pub passed_none : (text : Text) (from : ℕ) → from ≤ length text + 1 → Passed text from from
passed_none text from w = record { within = w; after = omega arith; kept = λ h i b l. record { line = i; below = l; same = refl } }

pub passed-line : {text : Text} {from at end : ℕ} → Passed text from at → LineEnd text at end → at < length text → is_blank_line (slice at (end + 1) text) ≡ true
    → Passed text from (end + 1)
passed-line {text} {from} {at} {end} p l more blank = record {
  within = omega (arith, end_within text at end l);
  after = omega (arith, end_within text at end l, p.after);
  kept = λ h i b below.
      let k = p.kept h i b below in
      record {
        line = suc k.line;
        below = omega (arith, k.below);
        same = k.same ∙ ap (kept_lines h k.line b) (lines_step text at end l more)
            ∙ kept_other h k.line b _ _ (blank_other h k.line _ blank);
      };
}

pub skipped_at : {text : Text} {from at end : ℕ} → Passed text from at → LineEnd text at end → is_blank_line (slice at (end + 1) text) ≡ false → Skipped text from at
skipped_at {text} {from} {at} {end} p l e = record {
  passed = p;
  unblank = λ other k more. ap (λ (n : ℕ). is_blank_line (slice at (n + 1) text)) (k.is ∙ sym l.is) ∙ e;
}

pub skipped_all : {text : Text} {from at : ℕ} → Passed text from at → length text ≤ at → Skipped text from at
skipped_all {text} {from} {at} p over = record { passed = p; unblank = λ end l more. absurd (omega (arith, more, over)) }
