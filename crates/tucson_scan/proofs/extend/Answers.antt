-- Each return is one of the cases of a line whose series goes on.
use Rattle.std.proofs.Common.{arith, ℕ, Bool, ◌&&◌, ◌≡◌, refl, sym, ◌∙◌, ap}
use lib.IntN.{ℤ, pos, ◌+ℤ◌}
use lib.Signed.{le_z}
use mir.Syntax.{w32}
use mir.Val.{SFits, to_z, of_z}
use Rattle.base_exact.proofs.Word.{to_z-of_z, to_z_pos, sfits_abs, abs-add}
use Rattle.spec_tucson.specs.Series.{hundredths_limit}
use Rattle.tucson_scan.specs.Scan.{ExtendAsks}
use Rattle.tucson_scan.proofs.Passing.{extend_malformed, extend_not_next, extend_on}
use Rattle.tucson_scan.proofs.extend.Goals as goal

pub returns-then-not-is_width : goal.returns-then-not-is_width
returns-then-not-is_width c =
    let l = c.ranges.last in
    let no = sym (simp to_z-of_z at c.is_width.ensures) ∙ c.if-not-is_width.true in
    record { told = λ place b t tracks told. extend_malformed place b t _ _ _ tracks told no; within = tt }

pub returns-then-not-follows : goal.returns-then-not-follows
returns-then-not-follows c =
    let y = c.ranges.year in
    let x = c.ranges.next in
    let l = c.ranges.last in
    let is-width = sym (simp to_z-of_z at c.is_width.ensures) ∙ c.if-not-is_width.false in
    let no = sym (simp to_z-of_z at c.follows.ensures) ∙ c.if-not-follows.true in
    record { told = λ place b t tracks told. extend_not_next place b t _ _ _ tracks told is-width no; within = tt }

-- the year after the line
module _ {year : ℤ} {n : ℕ} (asks : ExtendAsks year n) (year-fits : SFits w32 year) where
  count : to_z w32 n ≡ pos n
  count = to_z_pos w32 n (omega (arith, asks))

  sum_fits : SFits w32 (year +ℤ pos n)
  sum_fits = sfits_abs (omega (arith, asks, abs-add year (pos n)))

  sum_is : to_z w32 (of_z w32 (to_z w32 (of_z w32 year) +ℤ to_z w32 n)) ≡ year +ℤ pos n
  sum_is = let s = sum_fits in rw count (simp to_z-of_z)

pub returns : goal.returns
returns c =
    let y = c.ranges.year in
    let x = c.ranges.next in
    let l = c.ranges.last in
    let is-width = sym (simp to_z-of_z at c.is_width.ensures) ∙ c.if-not-is_width.false in
    let follows = sym (simp to_z-of_z at c.follows.ensures) ∙ c.if-not-follows.false in
    let all_is : c.both-all.result ≡ (c.args.small && c.args.front && le_z c.args.last (pos hundredths_limit)) =
    (simp to_z-of_z at c.both-all.ensures) ∙ ap (λ (b : Bool). b && le_z c.args.last (pos hundredths_limit)) c.both-before.ensures in
    record {
      told = λ place b t tracks told.
          rw (sum_is c.requires y, all_is) (extend_on place b t _ _ _ tracks told c.requires.some_field is-width follows);
      within = (refl, omega arith);
    }
