-- The definition is the test for a blank at every byte, and so is the method's.
use Rattle.std.proofs.Common.{◌≡◌, ◌&&◌, ℕ, Bool, eqb, refl, ◌∙◌, rules}
use Rattle.std.specs.List.{list_all}
use Rattle.std.proofs.lemmas.Iterator.{YieldsList-from_slice}
use Rattle.std.proofs.lemmas.Iterator.Search.{all_from_yields_List}
use Rattle.std.proofs.lemmas.List.Recursion.{same_from_clauses}
use borrow.Author.Tests.{tests}
use Rattle.base_text.specs.Bytes.{Text}
use Rattle.base_text.proofs.Slice.{slice_range_is}
use Rattle.spec_tucson.specs.Columns.{blank}
use Rattle.spec_tucson.specs.Line.{all_blank}
use Rattle.tucson_lines.proofs.all_blank.Goals as goal

abbrev is_blank : ℕ → Bool
is_blank c = eqb c blank

is_all : (t : Text) → list_all is_blank t ≡ all_blank t
unfolding all_blank
is_all t = same_from_clauses (list_all is_blank) all_blank (λ c b. is_blank c && b) refl (λ _ _. refl) (λ _ _. refl) t

pub returns : goal.returns
returns c =
    let s = c.args in
    let part = c.iter.ensures.rest ∙ slice_range_is s.from s.to s.text.now c.requires.ordered in
    all_from_yields_List is_blank _ _ _ c.all.ensures.ran (YieldsList-from_slice _ part) (λ x b q k. search (rules, tests)) ∙ is_all _
