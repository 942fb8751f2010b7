-- The first 72 columns come first; behind them a site name, or columns up to the array's end.
use Rattle.std.proofs.Common.{arith, ◌≡◌, sym, ◌∙◌, ap, ℕ, ◌<◌, ◌++◌, take}
use lib.Seq.{slice}
use Rattle.base_text.specs.Bytes.{Text}
use Rattle.spec_tucson.specs.Shown.{expanded}
use Rattle.spec_tucson.specs.StrictLine.{line_columns}
use Rattle.tucson_shown.proofs.Fields.{short-fields, whole_fields, site_is, site-fields, long_fields}
use Rattle.tucson_shown.proofs.show_columns.Goals as goal

pub returns-then-at-to : goal.returns-then-at-to
returns-then-at-to c =
    let a = c.args in
    let f = c.expand-front in
    short-fields a.text.now a.to (expanded 0 (slice a.from a.to a.text.now)) f.new.bytes f.result.at f.result.count
    (f.auto.bytes ∙ c.requires.size) (omega (arith, f.ensures.fits)) f.ensures.is c.if-at-to.true f.ensures.fits

pub returns-then-has_site : goal.returns-then-has_site
returns-then-has_site c =
    let a = c.args in
    let f = c.expand-front in
    let t = expanded 0 (slice a.from a.to a.text.now) in
    let size = f.auto.bytes ∙ c.requires.size in
    let full : f.result.count ≡ line_columns = f.ensures.full (omega (arith, f.ensures.within, c.if-at-to.false)) in
    let site = site_is a.text.now a.to t f.new.bytes f.result.at f.result.count size (omega (arith, f.ensures.fits)) f.ensures.is full
    ∙ sym c.has_site.ensures in
    site-fields a.text.now a.to t f.new.bytes f.result.at f.result.count size (omega (arith, f.ensures.fits)) f.ensures.is full
    c.trim_blanks.result c.trim_blanks.ensures.fewer c.trim_blanks.ensures.is (site ∙ c.if-has_site.true)

-- behind the first columns, what is shown of the whole part
whole_is : (text : Text) (to count at : ℕ) (t bytes shown : Text) → count ≡ line_columns
    → take count bytes ++ expanded count (slice at to text) ≡ t
    → shown ≡ take line_columns bytes ++ expanded line_columns (slice at to text) → shown ≡ t
whole_is text to count at t bytes shown full is e =
    e ∙ ap (λ (n : ℕ). take n bytes ++ expanded n (slice at to text)) (sym full) ∙ is

pub returns-then-whole-to : goal.returns-then-whole-to
returns-then-whole-to c =
    let a = c.args in
    let f = c.expand-front in
    let w = c.expand-whole in
    let t = expanded 0 (slice a.from a.to a.text.now) in
    let size = f.auto.bytes ∙ c.requires.size in
    let full : f.result.count ≡ line_columns = f.ensures.full (omega (arith, f.ensures.within, c.if-at-to.false)) in
    let site = site_is a.text.now a.to t f.new.bytes f.result.at f.result.count size (omega (arith, f.ensures.fits)) f.ensures.is full
    ∙ sym c.has_site.ensures in
    whole_fields a.text.now a.to t w.new.bytes w.result.at w.result.count (w.auto.bytes ∙ size) w.ensures.fits
    (whole_is a.text.now a.to f.result.count f.result.at t f.new.bytes _ full f.ensures.is w.ensures.is) c.if-whole-to.true (site ∙ c.if-has_site.false)

pub returns : goal.returns
returns c =
    let a = c.args in
    let f = c.expand-front in
    let w = c.expand-whole in
    let t = expanded 0 (slice a.from a.to a.text.now) in
    let size = f.auto.bytes ∙ c.requires.size in
    let full : f.result.count ≡ line_columns = f.ensures.full (omega (arith, f.ensures.within, c.if-at-to.false)) in
    let site = site_is a.text.now a.to t f.new.bytes f.result.at f.result.count size (omega (arith, f.ensures.fits)) f.ensures.is full
    ∙ sym c.has_site.ensures in
    let more : w.result.at < a.to = omega (arith, w.ensures.within, c.if-whole-to.false) in
    long_fields a.text.now a.to t w.new.bytes w.result.at w.result.count (w.auto.bytes ∙ size) w.ensures.fits
    (whole_is a.text.now a.to f.result.count f.result.at t f.new.bytes _ full f.ensures.is w.ensures.is) more c.requires.range.within (w.ensures.full more) (site ∙ c.if-has_site.false)
