-- The first line behind the blank ones, if it has the name.
use Rattle.std.proofs.Common.{arith}
use Rattle.tucson_lines.proofs.Lines.{end_within}
use Rattle.tucson_walk.proofs.NextLines.{told_stands, none-behind, not_refused, next-line, nothing-follows, nothing-named}
use Rattle.tucson_walk.proofs.follow.Goals as goal

pub returns-then-differs : goal.returns-then-differs
returns-then-differs c = nothing-named c.requires.within (c.differs.ensures c.if-differs.true)

pub returns-then-at-text : goal.returns-then-at-text
returns-then-at-text c =
    let s = c.skip_blank-unblank.ensures.skipped in
    nothing-follows s.passed.within (λ h i k ks b. none-behind s b c.if-at-text.true)

pub returns-in_default : goal.returns-in_default
returns-in_default c =
    let s = c.skip_blank-unblank.ensures.skipped in
    let more = c.if-at-text.false in
    let at = c.skip_blank-unblank.ensures.ends more in
    nothing-follows s.passed.within (λ h i k ks x. not_refused s x at more c.in_default.field-0 c.in_default.ensures)

pub overflow_add-result : goal.overflow_add-result
overflow_add-result c =
    let u = c.skip_blank-unblank.result in
    omega (arith, end_within c.args.text.now u.at u.end (c.skip_blank-unblank.ensures.ends c.if-at-text.false), c.well_formed)

pub returns : goal.returns
returns c =
    let s = c.skip_blank-unblank.ensures.skipped in
    let u = c.skip_blank-unblank.result in
    let more = c.if-at-text.false in
    let at = c.skip_blank-unblank.ensures.ends more in
    let sizes = end_within c.args.text.now u.at u.end at in
    record {
      within = omega (arith, sizes);
      further = λ e. omega (arith, sizes, s.passed.after);
      stands = λ e. told_stands c.in-Ok.ensures;
      told = λ h i k ks x name.
          next-line s x at more c.args.line.now c.in-Ok.ensures name c.same_name-same.result c.same_name-same.ensures;
    }
