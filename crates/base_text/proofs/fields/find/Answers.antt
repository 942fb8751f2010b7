-- `position` gives the index that the definition gives, or nothing where that is the part's length.
use Rattle.std.proofs.Common.{rules, tests, eqb, ◌∙◌, sym, ap, take, drop, ◌-◌, arith}
use Rattle.std.proofs.lemmas.Iterator.{YieldsList-from_slice}
use Rattle.std.proofs.lemmas.Iterator.Search.{position_from_yields_List}
use Rattle.std.proofs.lemmas.List.Edits.{length-between}
use Rattle.std.proofs.lemmas.Slice.{between_is}
use Rattle.base_text.specs.Bytes.{index_of}
use Rattle.base_text.proofs.Cutting.{position_found, position_none}
use Rattle.base_text.proofs.fields.find.Goals as goal

pub returns-in-Some : goal.returns-in-Some
returns-in-Some c =
    let a = c.args in
    let part = take (a.to - a.from) (drop a.from a.text.now) in
    let h = position_from_yields_List (λ x. eqb x a.byte) _ _ c.position.result c.position.ensures.ran (YieldsList-from_slice part cc)
    (λ x b q k. search (rules, tests)) in
    let e = ap (index_of a.byte) (between_is a.text.now a.from a.to) in
    omega (arith, e, position_found a.byte part c.in-Some.k (sym h ∙ c.in-Some.is))

pub returns-in-None : goal.returns-in-None
returns-in-None c =
    let a = c.args in
    let part = take (a.to - a.from) (drop a.from a.text.now) in
    let h = position_from_yields_List (λ x. eqb x a.byte) _ _ c.position.result c.position.ensures.ran (YieldsList-from_slice part cc)
    (λ x b q k. search (rules, tests)) in
    let e = ap (index_of a.byte) (between_is a.text.now a.from a.to) in
    omega (arith, e, position_none a.byte part (sym h ∙ c.in-None.is), length-between a.text.now a.from a.to c.requires.within)
