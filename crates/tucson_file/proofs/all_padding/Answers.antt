-- The call asks of each byte what the definition asks of it.
use Rattle.std.proofs.Common.{Bool, ◌&&◌, ℕ, ◌∙◌, refl, ap, length, take, drop, ◌-◌, rules, tests}
use Rattle.std.specs.List.{list_all}
use Rattle.std.proofs.lemmas.Iterator.{YieldsList-from_slice}
use Rattle.std.proofs.lemmas.Iterator.Search.{all_from_yields_List}
use Rattle.std.proofs.lemmas.List.Recursion.{same_from_clauses}
use Rattle.spec_tucson.specs.FileText.{is_padding, all_padding}
use Rattle.tucson_file.proofs.Faults.{rest_lent}
use Rattle.tucson_file.proofs.all_padding.Goals as goal

pub returns : goal.returns
unfolding all_padding
returns c =
    let t = c.args.text.now in
    let from = c.args.from in
    let rest = take (length t - from) (drop from t) in
    all_from_yields_List is_padding _ _ _ c.all.ensures.ran (YieldsList-from_slice rest cc) (λ x b q k. search (rules, tests))
    ∙ same_from_clauses (list_all is_padding) all_padding (λ (c : ℕ) (b : Bool). is_padding c && b) refl (λ _ _. refl) (λ _ _. refl) rest
    ∙ ap all_padding (rest_lent t from)
