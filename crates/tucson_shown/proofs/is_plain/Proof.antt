-- Both arrays have the part, which is a strict line.
use borrow.Author.Rules.{rules}
use mathlib.Core.Path.{sym, ◌∙◌, ap}
use native.Mathlib.Omega.{arith}
use lib.Seq.{length-slice}
use Rattle.base_exact.proofs.Decide.{clash}
use Rattle.spec_tucson.specs.StrictLine.{is_strict}
use Rattle.tucson_shown.proofs.is_plain.Statement.{statement}
use Rattle.tucson_shown.proofs.is_plain.Tie as tie

returns-3 : tie.Need-returns
returns-3 c e =
    let l = c in
    let x = l in
    let k = x in
    let b = k in
    let s = b in
    let text = s.args.text.now in
    record {
      long = length-slice s.args.from s.args.to text s.requires.range.within;
      short = omega arith;
      is-strict = ap is_strict (sym b.copy_cells.ensures) ∙ sym k.is_strict.ensures ∙ x.if-not-is_strict.false;
      are = b.copy_cells.ensures;
      is_line = l.copy_cells-2.ensures;
    }

pub is_plain_spec : {M : Type 1} → statement M
is_plain_spec =
    tie.close
    (tie.spec
    (λ c. search rules)
    (λ c e. clash cc)
    (λ c κs. search rules)
    (λ c κs. search rules)
    (λ c. search rules)
    (λ c e. clash cc)
    (λ c κs. search rules)
    (λ c. search rules)
    (λ c. search rules)
    returns-3)
