-- A byte asks for quotation marks where it is one of the two: the definition goes through the bytes as `any` does.
use Rattle.std.proofs.Common.{◌≡◌, ◌||◌, rules, tests, List, ℕ, [], ◌∷◌, refl, ap, ◌∙◌}
use Rattle.std.specs.List.{list_any}
use Rattle.std.proofs.lemmas.Iterator.{YieldsList-from_slice}
use Rattle.std.proofs.lemmas.Iterator.Search.{any_from_yields_List}
use Rattle.spec_table.specs.RingLines.{asks_quotes, holds_quoted}
use Rattle.table_name.proofs.holds_quoted.Goals as goal

quoted_any : (t : List ℕ) → list_any asks_quotes t ≡ holds_quoted t
unfolding holds_quoted
quoted_any [] = refl
quoted_any (c ∷ cs) = ap (λ b. asks_quotes c || b) (quoted_any cs)

pub returns : goal.returns
returns c =
    let bytes = c.args.bytes.now in
    any_from_yields_List asks_quotes _ _ _ c.any.ensures.ran (YieldsList-from_slice bytes cc) (λ x b q k. search (rules, tests))
    ∙ quoted_any bytes
