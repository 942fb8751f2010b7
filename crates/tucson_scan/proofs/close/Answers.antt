-- Each return is one of the cases of a series' last line.
use Rattle.std.proofs.Common.{arith, ◌&&◌, ◌≡◌, refl, sym, ◌∙◌, ap₂}
use Rattle.base_exact.proofs.Word.{to_z-of_z}
use Rattle.spec_tucson.specs.Line.{same}
use Rattle.spec_tucson.specs.Series.{hundredths}
use Rattle.tucson_scan.proofs.Passing.{close_not_next, close_thousandths, close_hundredths, close_unclosed}
use Rattle.tucson_scan.proofs.close.Goals as goal

pub returns-then-not-follows : goal.returns-then-not-follows
returns-then-not-follows c =
    let y = c.ranges.year in
    let x = c.ranges.next in
    let no = sym (simp to_z-of_z at c.follows.ensures) ∙ c.if-not-follows.true in
    record { told = λ place b t tracks told. close_not_next place b t _ _ _ tracks told no; within = tt }

pub returns-then-same : goal.returns-then-same
returns-then-same c =
    let y = c.ranges.year in
    let x = c.ranges.next in
    let l = c.ranges.last in
    let follows = sym (simp to_z-of_z at c.follows.ensures) ∙ c.if-not-follows.false in
    let closed = sym (simp to_z-of_z at c.same.ensures) ∙ c.if-same.true in
    record { told = λ place b t tracks told. close_thousandths place b t _ _ _ tracks told follows closed; within = (refl, omega arith) }

pub returns-then-both : goal.returns-then-both
returns-then-both c =
    let y = c.ranges.year in
    let x = c.ranges.next in
    let l = c.ranges.last in
    let follows = sym (simp to_z-of_z at c.follows.ensures) ∙ c.if-not-follows.false in
    let no = sym (simp to_z-of_z at c.same.ensures) ∙ c.if-same.false in
    let test : c.both.result ≡ (same c.args.last hundredths && (c.args.small && c.args.front)) =
    c.both.ensures ∙ ap₂ ◌&&◌ (simp to_z-of_z at c.same-2.ensures) c.both-all.ensures in
    let closed = sym test ∙ c.if-both.true in
    record { told = λ place b t tracks told. close_hundredths place b t _ _ _ tracks told follows no closed; within = (refl, omega arith) }

pub returns : goal.returns
returns c =
    let y = c.ranges.year in
    let x = c.ranges.next in
    let l = c.ranges.last in
    let follows = sym (simp to_z-of_z at c.follows.ensures) ∙ c.if-not-follows.false in
    let no = sym (simp to_z-of_z at c.same.ensures) ∙ c.if-same.false in
    let test : c.both.result ≡ (same c.args.last hundredths && (c.args.small && c.args.front)) =
    c.both.ensures ∙ ap₂ ◌&&◌ (simp to_z-of_z at c.same-2.ensures) c.both-all.ensures in
    let unclosed = sym test ∙ c.if-both.false in
    record { told = λ place b t tracks told. close_unclosed place b t _ _ _ tracks told follows no unclosed; within = tt }
