-- What is shown up to column 24, all of it where it is shorter.
use borrow.Author.Rules.{rules}
use mathlib.Core.Path.{refl, ◌∙◌}
use native.Mathlib.Omega.{arith}
use Rattle.tucson_lines.proofs.Lines.{end_within}
use Rattle.tucson_caption.proofs.Captions.{front_told}
use Rattle.tucson_caption.proofs.front.Statement.{statement}
use Rattle.tucson_caption.proofs.front.Tie as tie

expand-requires : tie.Need-expand-head-requires
expand-requires c κs =
    let k = c in
    let s = k in
    record {
      size = s.requires.size;
      range = record {
        ordered = k.shown_to-to.ensures.after;
        within = omega (arith, k.shown_to-to.ensures.before, end_within s.args.text.now s.args.from s.args.end s.requires.at);
      };
      fewer = omega arith;
      fits = omega arith;
      whole = refl;
    }

returns : tie.Need-returns
returns c =
    let x = c in
    let k = x in
    let s = k in
    front_told s.args.text.now s.args.from s.args.end k.shown_to-to.result s.args.bytes.now x.expand-head.new.bytes k.shown_to-to.ensures
    (x.expand-head.auto.bytes ∙ s.requires.size) x.expand-head.result.at x.expand-head.result.count x.expand-head.ensures

pub front_spec : {M : Type 1} → statement M
front_spec = tie.close (tie.spec (λ c κs. search rules) expand-requires (λ c. search rules) returns)
