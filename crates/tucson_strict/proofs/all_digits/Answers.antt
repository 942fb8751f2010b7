-- The definition is the test for a digit at every byte, and so is the method's.
use Rattle.std.proofs.Common.{◌≡◌, ◌&&◌, refl, ◌∙◌, rules}
use Rattle.std.specs.List.{list_all}
use Rattle.std.proofs.lemmas.Iterator.{YieldsList-from_slice}
use Rattle.std.proofs.lemmas.Iterator.Search.{all_from_yields_List}
use Rattle.std.proofs.lemmas.List.Recursion.{same_from_clauses}
use borrow.Author.Tests.{tests}
use Rattle.base_text.specs.Bytes.{Text}
use Rattle.base_text.specs.Numeral.{is_digit, all_digits}
use Rattle.base_text.proofs.Slice.{slice_range_is}
use Rattle.tucson_strict.proofs.all_digits.Goals as goal

is_all : (t : Text) → list_all is_digit t ≡ all_digits t
unfolding all_digits
is_all t = same_from_clauses (list_all is_digit) all_digits (λ c b. is_digit c && b) refl (λ _ _. refl) (λ _ _. refl) t

pub returns : goal.returns
returns c =
    let s = c.args in
    let part = c.iter.ensures.rest ∙ slice_range_is s.from s.to s.text.now c.requires.ordered in
    all_from_yields_List is_digit _ _ _ c.all.ensures.ran (YieldsList-from_slice _ part) (λ x b q k. search (rules, tests)) ∙ is_all _
