-- A strict line is taken as it is; another one is tried with ? where it has bytes over 127 and no tab.
use Rattle.std.proofs.Common.{Bool, false, cond, ◌≡◌, sym, ◌∙◌, ap, ℕ, ◌+◌, take}
use borrow.Author.Tests.{eq-eqb, ne_eqb}
use mathlib.Core.Option.{some, none}
use lib.Seq.{slice}
use Rattle.base_text.specs.Bytes.{Text}
use Rattle.spec_tucson.specs.StrictLine.{any_high, is_strict, masked, shown_fields}
use Rattle.tucson_shown.specs.Machine.{FitAsks}
use Rattle.tucson_shown.proofs.Told.{fields_are, strict_told, line-told, told_malformed, told_tabbed, told_masked, told_unmasked}
use Rattle.tucson_shown.proofs.fit_line.Goals as goal

-- what is shown, at the front of the array
module _ {text : Text} {from end : ℕ} {bytes : Text} {count : ℕ} {site : Bool} {line : Text} (asks : FitAsks text from end bytes count site line) where
  are : take count bytes ≡ shown_fields (slice from (end + 1) text)
  are = fields_are (slice from (end + 1) text) bytes line count site asks.size asks.room asks.fields

  no_strict : {b : Bool} → b ≡ is_strict (take count bytes) → b ≡ false → is_strict (shown_fields (slice from (end + 1) text)) ≡ false
  no_strict e f = ap is_strict (sym are) ∙ sym e ∙ f

  high : {b c : Bool} → b ≡ any_high (take count bytes) → b ≡ c → any_high (shown_fields (slice from (end + 1) text)) ≡ c
  high e f = ap any_high (sym are) ∙ sym e ∙ f

pub returns-then-is_strict : goal.returns-then-is_strict
returns-then-is_strict c =
    let a = c.args in
    strict_told (slice a.from (a.end + 1) a.text.now) a.bytes.now c.mask_bytes.new.line a.count a.site c.requires.size
    (c.mask_bytes.auto.line ∙ c.requires.room) c.requires.fields (sym c.is_strict.ensures ∙ c.if-is_strict.true) c.mask_bytes.ensures

pub returns-then-not-any_high : goal.returns-then-not-any_high
returns-then-not-any_high c =
    told_malformed (slice c.args.from (c.args.end + 1) c.args.text.now) (no_strict c.requires c.is_strict.ensures c.if-is_strict.false)
    (high c.requires c.any_high.ensures c.if-not-any_high.true)

pub returns-then-has_tab : goal.returns-then-has_tab
returns-then-has_tab c =
    told_tabbed (slice c.args.from (c.args.end + 1) c.args.text.now) (high c.requires c.any_high.ensures c.if-not-any_high.false)
    (sym c.has_tab.ensures ∙ c.if-has_tab.true)

pub returns-then-n-eq-NO_LINE : goal.returns-then-n-eq-NO_LINE
returns-then-n-eq-NO_LINE c =
    let n = c.masked-n.result in
    let line = c.masked-n.new.line in
    told_unmasked (slice c.args.from (c.args.end + 1) c.args.text.now) (high c.requires c.any_high.ensures c.if-not-any_high.false)
    (ap masked (sym (are c.requires)) ∙ c.masked-n.ensures.is
    ∙ ap (λ (x : Bool). cond x none (some (take n line))) (eq-eqb n 0 c.if-n-eq-NO_LINE.true))

pub returns : goal.returns
returns c =
    let a = c.args in
    let raw = slice a.from (a.end + 1) a.text.now in
    let n = c.masked-n.result in
    let line = c.masked-n.new.line in
    line-told raw a.bytes.now line a.count a.site c.requires.size (c.masked-n.auto.line ∙ c.requires.room) c.requires.fields n
    c.masked-n.ensures.few
    (told_masked raw (high c.requires c.any_high.ensures c.if-not-any_high.false) (take n line) (sym c.has_tab.ensures ∙ c.if-has_tab.false)
    (ap masked (sym (are c.requires)) ∙ c.masked-n.ensures.is
    ∙ ap (λ (x : Bool). cond x none (some (take n line))) (ne_eqb n 0 c.if-n-eq-NO_LINE.false)))
