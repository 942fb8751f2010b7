-- Without a special byte the text goes on to the end.
use borrow.Author.Rules.{rules}
use mathlib.Core.Path.{sym, ◌∙◌, ap}
use native.Mathlib.Omega.{arith}
use lib.ListN.{drop, length-drop}
use Rattle.base_text.specs.Bytes.{index_of}
use Rattle.spec_tucson.specs.FileText.{substitute}
use Rattle.tucson_file.proofs.Faults.{rest_is, plain-index}
use Rattle.tucson_file.proofs.stop.Statement.{statement}
use Rattle.tucson_file.proofs.stop.Tie as tie

returns : tie.Need-returns-then-not-any_special
returns c =
    let s = c in
    let t = s.args.text.now in
    let i = s.args.from in
    omega (
      arith,
      s.requires,
      length-drop i t,
      ap (index_of substitute) (rest_is t i),
      plain-index (drop i t) (sym c.any_special.ensures ∙ c.if-not-any_special.true),
    )

pub stop_spec : {M : Type 1} → statement M
stop_spec = tie.close (tie.spec (λ c κs. search rules) returns (λ c κs. search rules) (λ c. search rules))
