-- The first pass between two lines: what was counted, with what the lines to come are told to end with, is what the whole text
-- is told to end with.
use mathlib.Core.Path.{◌≡◌, refl, sym, ◌∙◌, ap, ap₂}
use mathlib.Core.Bool.{Bool, true, false, cond}
use mathlib.Core.List.{List, ◌∷◌, ◌++◌}
use mathlib.Core.Option.{Option, some, none}
use Prim.Native.Nat.{ℕ, suc, ◌+◌, ◌-◌, ◌<◌, ◌≤◌}
use native.Mathlib.Numerals.{add-one}
use native.Mathlib.Omega.{arith}
use Rattle.std.specs.Prelude.{Result, Ok, Err}
use lib.IntN.{ℤ}
use lib.ListN.{length, drop, length-append, drop_of_length-le}
use lib.Seq.{slice}
use Rattle.base_exact.proofs.Decide.{true_not_false}
use Rattle.base_outcome.specs.Outcome.{Outcome, answer, refusal, capped, ◌then◌, with_answer}
use Rattle.base_outcome.specs.Machine.{refused}
use Rattle.base_outcome.specs.declared.Refusal.{Refusal}
use Rattle.base_text.specs.Bytes.{Text}
use Rattle.spec_tucson.specs.Line.{lines_of}
use Rattle.spec_tucson.specs.Series.{Series}
use Rattle.spec_tucson.specs.TextReading.{Begun, goes_on, Step, opened, closed, after, read_line, read_lines, read_text}
use Rattle.spec_tucson.specs.ReadCall.{widths_of}
use Rattle.tucson_lines.specs.Machine.{LineEnd}
use Rattle.tucson_lines.proofs.Lines.{end_within, lines_step}
use Rattle.tucson_scan.specs.Scan.{so_far, Tracks, Told, Ahead, totals, scan_told}
use Rattle.tucson_scan.specs.declared.Passed.{Passed}
use Rattle.tucson_scan.specs.declared.Totals.{Totals}

-- What holds before a line: its place and the counts are no larger than the text before it, and the series that is begun, if
-- one is, is known.
pub record Scans (text : Text) (from lines series total : ℕ) (begun : Bool) (next : ℤ) (small : Bool) : Type 0 where
  pub within : from ≤ length text
  pub few_lines : lines ≤ from + 1
  pub few_series : series ≤ from
  pub few_widths : total ≤ from
  pub series-begun : Option Begun
  pub tracks : Tracks series-begun begun next small
  pub counted : length (so_far series-begun) ≤ total
  pub told : scan_told 0 0 (read_text text) ≡ scan_told series (total - length (so_far series-begun)) (read_lines lines series-begun (lines_of (drop from text)))
  pub alive : begun ≡ true → from < length text

pub scans-start : (text : Text) (next : ℤ) → Scans text 0 1 0 0 false next true
unfolding read_text
scans-start text next = record {
  within = omega arith;
  few_lines = omega arith;
  few_series = omega arith;
  few_widths = omega arith;
  series-begun = none;
  tracks = (refl, refl);
  counted = omega arith;
  told = refl;
  alive = λ e. absurd (true_not_false e refl);
}

-- one series more
told_series : (series total : ℕ) (s : Series) (o : Outcome (List Series))
    → scan_told series total (with_answer (λ ss. s ∷ ss) o) ≡ scan_told (series + 1) (total + length s.widths) o
unfolding scan_told widths_of
told_series series total s (answer ss) =
    let e : series + suc (length ss) ≡ series + 1 + length ss = omega arith in
    let f : total + length (s.widths ++ widths_of ss) ≡ total + length s.widths + length (widths_of ss) =
    omega (arith, length-append s.widths (widths_of ss)) in
    ap₂ (λ (k w : ℕ). Ok (totals k w)) e f
told_series series total s (refusal code place) = refl

-- what an answer says of a line's step
refused_step : (place : ℕ) (b : Option Begun) (o : Outcome Step) (code : ℕ) → Told place b o (Err code) → o ≡ refusal code (capped place)
refused_step place b (answer (opened c)) code h = absurd h
refused_step place b (answer (closed s)) code h = absurd h
refused_step place b (refusal n at) code h = ap₂ refusal h.0 h.1

module _ {text : Text} {from lines series total : ℕ} {begun : Bool} {next : ℤ} {small : Bool}
    (now : Scans text from lines series total begun next small) where
  -- ---- at the end
  pub scans_end : length text ≤ from → Ok (totals series total) ≡ scan_told 0 0 (read_text text)
  unfolding read_lines lines_of scan_told widths_of
  scans_end h = go now.series-begun now.tracks now.told
    where
      go : (b : Option Begun) → Tracks b begun next small
          → scan_told 0 0 (read_text text) ≡ scan_told series (total - length (so_far b)) (read_lines lines b (lines_of (drop from text)))
          → Ok (totals series total) ≡ scan_told 0 0 (read_text text)
      go none t e =
          let a : series + 0 ≡ series = omega arith in
          let w : total - 0 + 0 ≡ total = omega arith in
          sym (e ∙ ap (λ (u : Text). scan_told series (total - 0) (read_lines lines none (lines_of u))) (drop_of_length-le text h) ∙ ap₂ (λ (k m : ℕ). Ok (totals k m)) a w)
      go (some c) t e = absurd (omega (arith, now.alive t.is_begun))

  -- ---- at a line
  module _ {end : ℕ} (at : LineEnd text from end) (more-text : from < length text) where
    abbrev t : Text
    t = slice from (end + 1) text

    abbrev later : List Text
    later = lines_of (drop (end + 1) text)

    abbrev b : Option Begun
    b = now.series-begun

    abbrev step : Outcome Step
    step = read_line lines b (goes_on t later) t

    -- what is told where the line's step ends so
    abbrev ended_by : Outcome Step → Result Totals Refusal
    ended_by o = scan_told series (total - length (so_far b)) (o then after (λ c. read_lines (suc lines) c later))

    so-far : scan_told 0 0 (read_text text) ≡ ended_by step
    unfolding read_lines
    so-far = now.told ∙ ap (λ (ts : List Text). scan_told series (total - length (so_far b)) (read_lines lines b ts)) (lines_step text from end at more-text)

    pub scans_refused : {code : ℕ} → Told lines b step (Err code) → Err (refused code (capped lines)) ≡ scan_told 0 0 (read_text text)
    unfolding scan_told
    scans_refused {code} h = sym (so-far ∙ ap ended_by (refused_step lines b step code h))

    pub scans-next : {p : Passed} → Told lines b step (Ok p) → Ahead text from end p.more p.count
        → Scans text (end + 1) (lines + 1) (series + cond p.more 0 1) (total + p.count) p.more p.next p.small
    scans-next {p} h ahead = go step refl h
      where
        sizes : (from ≤ end) × (end ≤ length text)
        sizes = end_within text from end at

        go : (o : Outcome Step) → step ≡ o → Told lines b o (Ok p)
            → Scans text (end + 1) (lines + 1) (series + cond p.more 0 1) (total + p.count) p.more p.next p.small
        go (answer (opened c)) e h =
            let none_more : series + cond p.more 0 1 ≡ series = ap (λ (m : Bool). series + cond m 0 1) h.0.is_begun ∙ omega arith in
            let same_total : total - length (so_far b) ≡ total + p.count - length c.widths = omega (arith, h.1, now.counted) in
            record {
              within = omega (arith, ahead.ended);
              few_lines = omega (arith, now.few_lines, sizes);
              few_series = omega (arith, none_more, now.few_series, sizes);
              few_widths = omega (arith, now.few_widths, ahead.longer);
              series-begun = some c;
              tracks = h.0;
              counted = omega (arith, h.1, now.counted);
              told =
                  so-far ∙ ap ended_by e
                  ∙ ap₂ (λ (w k : ℕ). scan_told series w (read_lines k (some c) later)) same_total (sym (add-one lines))
                  ∙ ap (λ (k : ℕ). scan_told k (total + p.count - length c.widths) (read_lines (lines + 1) (some c) later)) (sym none_more);
              alive = ahead.followed;
            }
        go (answer (closed s)) e h =
            let one_more : series + cond p.more 0 1 ≡ series + 1 = ap (λ (m : Bool). series + cond m 0 1) h.over in
            let same_total : total - length (so_far b) + length s.widths ≡ total + p.count - 0 = omega (arith, h.count, now.counted) in
            record {
              within = omega (arith, ahead.ended);
              few_lines = omega (arith, now.few_lines, sizes);
              few_series = omega (arith, one_more, now.few_series, sizes);
              few_widths = omega (arith, now.few_widths, ahead.longer);
              series-begun = none;
              tracks = (h.over, h.none_large);
              counted = omega arith;
              told =
                  so-far ∙ ap ended_by e
                  ∙ told_series series (total - length (so_far b)) s (read_lines (suc lines) none later)
                  ∙ ap₂ (λ (w k : ℕ). scan_told (series + 1) w (read_lines k none later)) same_total (sym (add-one lines))
                  ∙ ap (λ (k : ℕ). scan_told k (total + p.count - 0) (read_lines (lines + 1) none later)) (sym one_more);
              alive = ahead.followed;
            }
        go (refusal code place) e h = absurd h
