-- The definition's index is what the method finds.
use Rattle.std.proofs.Common.{ℕ, ◌+◌, Bool, not, ◌∙◌, ap, rules}
use Rattle.std.proofs.Math.Seq.{slice, length-slice}
use Rattle.std.proofs.lemmas.Iterator.{YieldsList-from_slice}
use Rattle.std.proofs.lemmas.Iterator.Search.{position_from_yields_List}
use borrow.Author.Tests.{tests}
use Rattle.base_text.proofs.Slice.{slice_range_is}
use Rattle.base_text.specs.Numeral.{is_digit}
use Rattle.tucson_site.proofs.Where.{where_is}
use Rattle.tucson_site.proofs.digits_end.Goals as goal

abbrev picks : ℕ → Bool
picks b = not (is_digit b)

pub returns : goal.returns
returns c =
    let s = c.args in
    let t = slice s.from s.to s.text.now in
    let digits = c.position-digits.result in
    let part = c.iter.ensures.rest ∙ slice_range_is s.from s.to s.text.now c.requires.ordered in
    let ran = c.position-digits.ensures.ran in
    let found = position_from_yields_List picks _ _ digits ran (YieldsList-from_slice t part) (λ x b q k. search (rules, tests)) in
    let size = length-slice s.from s.to s.text.now c.requires.within in
    ap (λ (n : ℕ). s.from + n) (c.unwrap_or.ensures ∙ where_is picks t _ digits size found)
