-- The call looks at the bytes of the part, and so does the definition, byte by byte.
use Rattle.std.proofs.Common.{◌+◌, ◌-◌, ◌∙◌, take, drop, rules, tests}
use Rattle.std.proofs.lemmas.Iterator.{YieldsList-from_slice}
use Rattle.std.proofs.lemmas.Iterator.Search.{all_from_yields_List}
use Rattle.base_text.specs.Numeral.{is_digit}
use Rattle.tucson_names.proofs.NameColumns.{digits_all}
use Rattle.tucson_names.proofs.digits_in.Goals as goal

pub returns : goal.returns
returns c =
    let a = c.args in
    let part = take (a.from + a.n - a.from) (drop a.from a.line.now) in
    all_from_yields_List is_digit _ _ _ c.all.ensures.ran (YieldsList-from_slice part cc) (λ x b q k. search (rules, tests))
    ∙ digits_all a.from a.n a.line.now c.requires
