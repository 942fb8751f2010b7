-- The definition is the test for such a byte at every byte, and so is the method's.
use Rattle.std.proofs.Common.{◌≡◌, ◌&&◌, refl, ◌∙◌, rules}
use Rattle.std.specs.List.{list_all}
use Rattle.std.proofs.lemmas.Iterator.{YieldsList-from_slice}
use Rattle.std.proofs.lemmas.Iterator.Search.{all_from_yields_List}
use Rattle.std.proofs.lemmas.List.Recursion.{same_from_clauses}
use borrow.Author.Tests.{tests}
use Rattle.base_text.specs.Bytes.{Text}
use Rattle.base_text.proofs.Slice.{slice_range_is}
use Rattle.spec_tucson.specs.StrictLine.{in_range}
use Rattle.tucson_masks.specs.Machine.{all_continue}
use Rattle.tucson_masks.proofs.all_continue.Goals as goal

is_all : (t : Text) → list_all (in_range 128 191) t ≡ all_continue t
unfolding all_continue
is_all t = same_from_clauses (list_all (in_range 128 191)) all_continue (λ c b. in_range 128 191 c && b) refl (λ _ _. refl) (λ _ _. refl) t

pub returns : goal.returns
returns c =
    let s = c.args in
    let part = c.iter.ensures.rest ∙ slice_range_is s.from s.to s.text.now c.requires.ordered in
    all_from_yields_List (in_range 128 191) _ _ _ c.all.ensures.ran (YieldsList-from_slice _ part) (λ x b q k. search (rules, tests))
    ∙ is_all _
