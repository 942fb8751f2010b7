-- `put_series` meets its contract: what is written and the lines to come are the lines of the series.
use native.Mathlib.Omega.{arith}
use mathlib.Core.Path.{◌≡◌, refl, sym, ◌∙◌, ap}
use mathlib.Core.List.{List, [], ◌++◌, append_assoc}
use Prim.Native.Nat.{ℕ, ◌+◌, ◌-◌, ◌%◌, ◌≤◌}
use lib.IntN.{ℤ}
use lib.ListN.{length, length-append}
use lib.Seq.{slice}
use mir.Syntax.{w32}
use mir.Val.{SFits}
use Rattle.base_exact.proofs.Word.{to_z-of_z}
use Rattle.base_text.specs.Bytes.{Text}
use Rattle.spec_tucson.specs.Writing.{line_text, lines_text, series_lines}
use Rattle.tucson_series.specs.Sizes.{series, years_left, year_at, most_left}
use Rattle.tucson_putting.specs.Putting.{Wrote, line}
use Rattle.tucson_series.proofs.Tests.{part_is, part-rest}
use Rattle.tucson_series.proofs.Years.{year-at, year_dated, closing-parts}
use Rattle.tucson_putting.proofs.Lines.{rest, rest-begins, rest-full, rest-last, full-bytes, last-bytes, widths_slice, widths_drop}
use Rattle.tucson_putting.proofs.Wrote.{wrote_none, wrote_then, wrote_as, wrote_length}
use Rattle.tucson_putting.proofs.put_series.Statement.{statement}
use Rattle.tucson_putting.proofs.put_series.Tie as tie

record Inv (text₀ : List ℕ) (at : ℕ) (name : Text) (widths : List ℤ) (left₀ : ℕ) (text : List ℕ) (next left from : ℕ) : Type 0 where
  within : from ≤ length widths
  few : left ≤ most_left
  enough : length widths - from ≤ left
  so_far : Text
  whole : so_far ++ rest name widths left from ≡ rest name widths left₀ 0
  wrote : Wrote at so_far text₀ text next

abbrev invariant-loop : tie.invariant-loop-left
invariant-loop text₀ at name first widths next₀ left₀ from₀ text next left from = Inv text₀ at name widths left₀ text next left from

abbrev decreases-loop : tie.decreases-loop-left
decreases-loop text₀ at name first widths next₀ left₀ from₀ text next left from = length widths - from

years-left-requires : tie.Need-years_left-left-requires invariant-loop decreases-loop
years-left-requires c κs =
    let s = c in
    let f : SFits w32 s.args.first = s.ranges.first in
    simp to_z-of_z (closing-parts s.args.first (length s.args.widths.now) s.requires.dated).dated

loop-holds : tie.Need-loop-left-init invariant-loop decreases-loop
loop-holds c =
    let s = c in
    let f : SFits w32 s.args.first = s.ranges.first in
    let e : c.years_left-left.result ≡ years_left s.args.first = simp to_z-of_z at c.years_left-left.ensures in
    let p = closing-parts s.args.first (length s.args.widths.now) s.requires.dated in
    record {
      within = omega arith;
      few = omega (arith, e, (year_dated s.args.first p.dated).few);
      enough = omega (arith, e, p.enough);
      so_far = [];
      whole = refl;
      wrote = wrote_none _ _;
    }

-- a turn: the year's line from `from` up to `to`, and what is left of the room
module _ (l : tie.At-loop-left invariant-loop decreases-loop) where
  abbrev s : tie.Start invariant-loop decreases-loop
  s = l.before.before.before.before

  abbrev name : Text
  name = s.args.name.now

  abbrev ws : List ℤ
  ws = s.args.widths.now

  abbrev to : ℕ
  to = l.loop-left.from + l.loop-left.left % 10 + 1

  all_lines : rest name ws l.years_left-left.result 0 ≡ lines_text (series_lines (series name s.args.first ws))
  all_lines =
      let f : SFits w32 s.args.first = s.ranges.first in
      let e : l.years_left-left.result ≡ years_left s.args.first = simp to_z-of_z at l.years_left-left.ensures in
      ap (λ (k : ℕ). rest name ws k 0) e ∙ rest-begins name ws s.args.first (closing-parts s.args.first (length ws) s.requires.dated).dated

  room-left : l.loop-left.next + length (rest name ws l.loop-left.left l.loop-left.from) ≤ length l.loop-left.text
  room-left =
      let i = l.loop-left.invariant in
      omega (
        arith,
        s.requires.fits,
        i.wrote.behind,
        wrote_length i.wrote,
        ap length all_lines,
        ap length i.whole,
        length-append i.so_far (rest name ws l.loop-left.left l.loop-left.from),
      )

put-line-requires : tie.Need-put_line-next-requires invariant-loop decreases-loop
put-line-requires c κs =
    let t = c in
    let l = t.loop-left in
    let i = l.invariant in
    let p = (s t.before.before.before.before).requires in
    let y = c.year_at-year in
    let f : SFits w32 y.result = record { sfits = y.type_inv } in
    let taken = c.loop-left-test.true in
    simp to_z-of_z (rw (y.ensures, part_is l.from (to t.before.before.before.before) (ws t.before.before.before.before) (omega arith)) (record {
      named = p.named;
      dated = year-at l.left i.few;
      allowed = widths_slice l.from (to t.before.before.before.before) (ws t.before.before.before.before) p.allowed;
      fits = omega (
        arith,
        room-left t.before.before.before.before,
        full-bytes (name t.before.before.before.before) (ws t.before.before.before.before) l.left l.from i.within p.named p.allowed i.few taken i.enough,
      );
    }))

sub-left-2 : tie.Need-overflow_sub-left-in-loop-left invariant-loop decreases-loop
sub-left-2 c = let i = c.loop-left.invariant in omega (arith, i.within, i.enough)

loop-less : tie.Need-loop-left-smaller invariant-loop decreases-loop
loop-less c = let i = c.loop-left.invariant in omega (arith, i.within, i.enough)

loop-again : tie.Need-loop-left-preserved invariant-loop decreases-loop
loop-again c =
    let t = c in
    let l = t.loop-left in
    let i = l.invariant in
    let y = c.year_at-year in
    let f : SFits w32 y.result = record { sfits = y.type_inv } in
    let text = line_text (line (name t.before.before.before.before.before.before.before) (year_at l.left) (slice l.from (to t.before.before.before.before.before.before.before) (ws t.before.before.before.before.before.before.before))) in
    let taken = c.loop-left-test.true in
    let put = simp to_z-of_z at c.put_line-next.ensures in
    record {
      within = omega (arith, i.within);
      few = omega (arith, i.few);
      enough = omega (arith, i.within, i.enough);
      so_far = i.so_far ++ text;
      whole =
          append_assoc i.so_far text _
          ∙ ap (λ (u : Text). i.so_far ++ u) (sym (rest-full (name t.before.before.before.before.before.before.before) (ws t.before.before.before.before.before.before.before) l.left l.from i.within taken i.enough))
          ∙ i.whole;
      wrote = wrote_then i.wrote (rw (y.ensures, part_is l.from (to t.before.before.before.before.before.before.before) (ws t.before.before.before.before.before.before.before) (omega arith)) at put);
    }

put-last-line-requires : tie.Need-put_last_line-requires invariant-loop decreases-loop
put-last-line-requires c κs =
    let t = c in
    let l = t.loop-left in
    let i = l.invariant in
    let p = (s t.before.before.before.before).requires in
    let y = c.year_at-year-2 in
    let f : SFits w32 y.result = record { sfits = y.type_inv } in
    let left = c.loop-left-test.false in
    simp to_z-of_z (rw (y.ensures, part-rest l.from (ws t.before.before.before.before)) (record {
      named = p.named;
      dated = year-at l.left i.few;
      allowed = widths_drop l.from (ws t.before.before.before.before) p.allowed;
      fits = omega (
        arith,
        room-left t.before.before.before.before,
        last-bytes (name t.before.before.before.before) (ws t.before.before.before.before) l.left l.from i.within p.named p.allowed i.few left,
      );
    }))

same_length : tie.Need-shape_of-text invariant-loop decreases-loop
same_length c =
    let l = c.loop-left in
    let y = c.year_at-year-2 in
    let f : SFits w32 y.result = record { sfits = y.type_inv } in
    wrote_length c.put_last_line.ensures ∙ wrote_length l.invariant.wrote

returns : tie.Need-returns invariant-loop decreases-loop
returns c =
    let t = c in
    let l = t.loop-left in
    let i = l.invariant in
    let y = c.year_at-year-2 in
    let f : SFits w32 y.result = record { sfits = y.type_inv } in
    let left = c.loop-left-test.false in
    let last = rest-last (name t.before.before.before.before.before.before.before) (ws t.before.before.before.before.before.before.before) l.left l.from i.within left in
    let put = simp to_z-of_z at c.put_last_line.ensures in
    wrote_as (ap (λ (u : Text). i.so_far ++ u) (sym last) ∙ i.whole ∙ all_lines t.before.before.before.before.before.before.before)
    (wrote_then i.wrote (rw (y.ensures, part-rest l.from (ws t.before.before.before.before.before.before.before)) at put))

pub put_series_spec : {M : Type 1} → statement M
put_series_spec =
    tie.close (tie.spec invariant-loop decreases-loop years-left-requires loop-holds (λ c. c.loop-left.invariant.within)
    (λ c. omega (arith, c.loop-left.invariant.within)) (λ c. omega (arith, c.loop-left.invariant.within))
    (λ c κs. c.loop-left.invariant.few) (λ c. omega (arith, c.loop-left.invariant.within)) (λ c. omega arith)
    (λ c. omega arith) (λ c. omega (arith, c.loop-left.invariant.within)) put-line-requires (λ c. omega arith) sub-left-2
    loop-less loop-again (λ c κs. c.loop-left.invariant.few) (λ c. omega (arith, c.loop-left.invariant.within))
    (λ c. omega (arith, c.loop-left.invariant.within)) (λ c. omega (arith, c.loop-left.invariant.within))
    (λ c. omega (arith, c.loop-left.invariant.within)) put-last-line-requires same_length returns)
