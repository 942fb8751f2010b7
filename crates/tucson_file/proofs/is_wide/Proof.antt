-- The two bytes in either order.
use borrow.Author.Rules.{rules}
use mathlib.Core.List.{[], ◌∷◌}
use mathlib.Core.Path.{◌∙◌, ap, sym}
use lib.Seq.{take-length}
use Rattle.base_text.specs.Bytes.{begins_with}
use Rattle.spec_tucson.specs.FileText.{is_wide}
use Rattle.tucson_file.proofs.is_wide.Statement.{statement}
use Rattle.tucson_file.proofs.is_wide.Tie as tie

returns : tie.Need-returns-then-begins
unfolding is_wide
returns c =
    let t = c.args.text.now in
    let e = sym (c.begins.ensures ∙ ap (begins_with (255 ∷ 254 ∷ [])) (take-length t)) ∙ c.if-begins.true in
    rw e

returns-2 : tie.Need-returns
unfolding is_wide
returns-2 c =
    let f = c in
    let t = f.args.text.now in
    let e = sym (f.begins.ensures ∙ ap (begins_with (255 ∷ 254 ∷ [])) (take-length t)) ∙ f.if-begins.false in
    rw e (c.begins-2.ensures ∙ ap (begins_with (254 ∷ 255 ∷ [])) (take-length t))

pub is_wide_spec : {M : Type 1} → statement M
is_wide_spec = tie.close (tie.spec (λ c κs. search rules) returns (λ c κs. search rules) returns-2)
