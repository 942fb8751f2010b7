-- The call asks of each width what the definition asks of it.
use Rattle.std.proofs.Common.{Bool, ◌&&◌, ℤ, ◌∙◌, refl, rules, tests}
use Rattle.std.specs.List.{list_all}
use Rattle.std.proofs.lemmas.Int.{ints}
use Rattle.std.proofs.lemmas.Iterator.{YieldsList-from_slice}
use Rattle.std.proofs.lemmas.Iterator.Search.{all_from_yields_List}
use Rattle.std.proofs.lemmas.List.Recursion.{same_from_clauses}
use Rattle.spec_tucson.specs.Line.{is_width}
use Rattle.spec_tucson.specs.Writing.{all_widths}
use Rattle.tucson_series.proofs.writable.all_widths.Goals as goal

pub returns : goal.returns
unfolding is_width all_widths
returns c =
    let ws = c.args.widths.now in
    all_from_yields_List is_width _ _ _ c.all.ensures.ran (YieldsList-from_slice ws cc)
    (λ x b q k. (search rules, search (rules, tests, ints)))
    ∙ same_from_clauses (list_all is_width) all_widths (λ (w : ℤ) (b : Bool). is_width w && b) refl (λ _ _. refl) (λ _ _. refl) ws
