-- A good line is its series' last or not by the next line's name; a bad one is refused.
use Rattle.std.proofs.Common.{arith, Bool, true, false, ◌≡◌, sym, ◌∙◌, subst, ℕ, ◌+◌, length, drop, Result, Some}
use Rattle.std.proofs.lemmas.Result.{err_from_is_err_and}
use mathlib.Core.Option.{Option}
use lib.Seq.{slice}
use mir.Syntax.{w32}
use mir.Val.{SFits}
use Rattle.base_exact.proofs.Word.{to_z-of_z, sfits_abs}
use Rattle.base_text.specs.Bytes.{Text}
use Rattle.spec_tucson.specs.Line.{lines_of, good_line}
use Rattle.spec_tucson.specs.TextReading.{Begun, goes_on, read_line}
use Rattle.tucson_lines.specs.Machine.{line_told, LineEnd}
use Rattle.tucson_lines.specs.declared.LineNumbers.{LineNumbers}
use Rattle.tucson_lines.proofs.GoodLines.{GoodLine, good-line, IsLine, line-none, line_some}
use Rattle.tucson_scan.specs.Scan.{Told, Within, Advances}
use Rattle.tucson_scan.specs.declared.Passed.{Passed}
use Rattle.tucson_scan.proofs.Passing.{says, line_refused, followed_by, advances}
use Rattle.tucson_scan.proofs.pass.Goals as goal

-- the good line between two indices, told so
module _ {text : Text} {from end : ℕ} (at : LineEnd text from end) {r : LineNumbers}
    (told : line_told (good_line true (slice from (end + 1) text)) ≡ Some r) where
  abbrev t : Text
  t = slice from (end + 1) text

  is_line : IsLine (good_line true t) r
  is_line = line_some (good_line true t) r told

  good : GoodLine text from end is_line.line
  good = good-line text from end at is_line.line is_line.is

  year_is : is_line.line.year ≡ r.year
  year_is = (says is_line.told).year_is

  count : length is_line.line.fields ≡ r.count
  count = (says is_line.told).count_is

  year-fits : SFits w32 r.year
  year-fits = let g = good in sfits_abs {w = w32} (omega (arith, rw year_is at g.year-small))

  last-fits : SFits w32 r.last
  last-fits = let g = good in sfits_abs {w = w32} (omega (arith, rw (says is_line.told).last_is at g.last-small))

  -- what is told of the line's step, by whether its series goes on
  step_told : {more goes : Bool} → goes ≡ goes_on t (lines_of (drop (end + 1) text)) → goes ≡ more → (place : ℕ) (b : Option Begun)
      (p : Result Passed ℕ) → Told place b (read_line place b more t) p
      → Told place b (read_line place b (goes_on t (lines_of (drop (end + 1) text))) t) p
  step_told g e place b p h = subst (λ (m : Bool). Told place b (read_line place b m t) p) (sym e ∙ g) h

  ahead : {goes : Bool} (more : Bool) (p : Result Passed ℕ) → goes ≡ goes_on t (lines_of (drop (end + 1) text)) → goes ≡ more
      → Within more r.count p → Advances text from end p
  ahead more p g e w =
      let l = good in
      advances text from end more r.count p w l.ended (omega (arith, l.size, count))
      (λ yes. followed_by text t (end + 1) (sym g ∙ e ∙ yes))

pub returns-in_err-line : goal.returns-in_err-line
returns-in_err-line c =
    let none_told = c.in_err-line.ensures.ok_part in
    let bad = line-none _ (sym c.line.ensures ∙ none_told) in
    let code : c.in_err-line.field-0.0 ≡ 11 = let v = rw none_told at c.in_err-line.ensures.value in cc in
    let p = err_from_is_err_and c.from_residual.result c.from_residual.ensures.1 in
    rw (p.1, p.2, code) (record { told = λ place b tracks. line_refused place b _ _ bad; advances = tt })

pub goes_on-requires : goal.goes_on-requires
goes_on-requires c =
    let g = good c.requires (sym c.line.ensures ∙ c.in_ok-line.ensures.ok_part) in
    record { longer = omega (arith, g.size); ended = omega (arith, g.ended); named = g.named }

pub extend-requires : goal.extend-requires
extend-requires c =
    let told = sym c.line.ensures ∙ c.in_ok-line.ensures.ok_part in
    let g = good c.requires told in
    let n = count c.requires told in
    let fits = year-fits c.requires told in
    simp to_z-of_z (record {
      year-small = rw (year_is c.requires told) at g.year-small;
      some_field = omega (arith, n, g.some_field);
      few = omega (arith, n, g.few);
    })

pub returns-then-goes_on : goal.returns-then-goes_on
returns-then-goes_on c =
    let told = sym c.line.ensures ∙ c.in_ok-line.ensures.ok_part in
    let y = year-fits c.requires told in
    let l = last-fits c.requires told in
    let x = c.ranges.next in
    let passed = simp to_z-of_z at c.extend.ensures in
    let p = c.extend.result in
    let goes = c.if-goes_on.true in
    record {
      told = λ place b tracks. step_told c.requires told c.goes_on.ensures goes place b p (passed.told place b _ tracks told);
      advances = ahead c.requires told true p c.goes_on.ensures goes passed.within;
    }

pub close-requires : goal.close-requires
close-requires c =
    let told = sym c.line.ensures ∙ c.in_ok-line.ensures.ok_part in
    let g = good c.requires told in
    omega (arith, count c.requires told, g.some_field)

pub returns : goal.returns
returns c =
    let told = sym c.line.ensures ∙ c.in_ok-line.ensures.ok_part in
    let y = year-fits c.requires told in
    let l = last-fits c.requires told in
    let x = c.ranges.next in
    let passed = simp to_z-of_z at c.close.ensures in
    let p = c.close.result in
    let goes = c.if-goes_on.false in
    record {
      told = λ place b tracks. step_told c.requires told c.goes_on.ensures goes place b p (passed.told place b _ tracks told);
      advances = ahead c.requires told false p c.goes_on.ensures goes passed.within;
    }
