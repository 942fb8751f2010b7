-- The definition is the test for a letter or a high byte at every byte, and so is the method's.
use Rattle.std.proofs.Common.{◌≡◌, ◌||◌, ℕ, Bool, refl, ◌∙◌, rules}
use Rattle.std.specs.List.{list_any}
use Rattle.std.proofs.lemmas.Iterator.{YieldsList-from_slice}
use Rattle.std.proofs.lemmas.Iterator.Search.{any_from_yields_List}
use Rattle.std.proofs.lemmas.List.Recursion.{same_from_clauses}
use borrow.Author.Tests.{tests}
use Rattle.base_text.specs.Bytes.{Text}
use Rattle.base_text.proofs.Slice.{slice_range_is}
use Rattle.spec_tucson.specs.StrictLine.{is_letter, is_high}
use Rattle.spec_tucson.specs.KeptLines.{any_word}
use Rattle.tucson_caption.proofs.any_word.Goals as goal

abbrev is_word : ℕ → Bool
is_word c = is_letter c || is_high c

is_any : (t : Text) → list_any is_word t ≡ any_word t
unfolding any_word
is_any t = same_from_clauses (list_any is_word) any_word (λ c b. is_word c || b) refl (λ _ _. refl) (λ _ _. refl) t

pub returns : goal.returns
returns c =
    let s = c.args in
    let part = c.iter.ensures.rest ∙ slice_range_is s.from s.to s.text.now c.requires.ordered in
    any_from_yields_List is_word _ _ _ c.any.ensures.ran (YieldsList-from_slice _ part) (λ x b q k. search (rules, tests)) ∙ is_any _
