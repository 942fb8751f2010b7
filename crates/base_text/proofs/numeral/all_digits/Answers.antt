-- `all` gives what the definition gives, byte by byte.
use Rattle.std.proofs.Common.{rules, tests, ◌∙◌, ap, take, drop, ◌-◌}
use Rattle.std.proofs.lemmas.Iterator.{YieldsList-from_slice}
use Rattle.std.proofs.lemmas.Iterator.Search.{all_from_yields_List}
use Rattle.std.proofs.lemmas.Slice.{between_is}
use Rattle.base_text.specs.Numeral.{is_digit, all_digits}
use Rattle.base_text.proofs.Digits.{all_is}
use Rattle.base_text.proofs.numeral.all_digits.Goals as goal

pub returns : goal.returns
returns c =
    let a = c.args in
    let part = take (a.to - a.from) (drop a.from a.text.now) in
    let h = all_from_yields_List is_digit _ _ c.all.result c.all.ensures.ran (YieldsList-from_slice part cc)
    (λ x b q k. search (rules, tests)) in
    h ∙ all_is part ∙ ap all_digits (between_is a.text.now a.from a.to)
