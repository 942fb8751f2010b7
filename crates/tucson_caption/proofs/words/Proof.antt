-- The words behind the first eight columns stand behind the index up to which these reach.
use borrow.Author.Rules.{rules}
use mathlib.Core.Path.{refl, ◌∙◌}
use native.Mathlib.Omega.{arith}
use Prim.Native.Nat.{◌≤◌}
use lib.ListN.{length}
use Rattle.tucson_lines.proofs.Lines.{end_within}
use Rattle.tucson_caption.proofs.Captions.{words_told}
use Rattle.tucson_caption.proofs.words.Statement.{statement}
use Rattle.tucson_caption.proofs.words.Tie as tie

module _ (k : tie.After-shown_to-to) where
  abbrev s : tie.Start
  s = k.before.before.before

  within : k.shown_to-to.result ≤ length s.args.text.now
  within = omega (arith, k.shown_to-to.ensures.before, end_within s.args.text.now s.args.from s.args.end s.requires.at)

expand-requires : tie.Need-expand-head-requires
expand-requires c κs =
    let k = c in
    record {
      size = (s k.before).requires.size;
      range = record { ordered = k.shown_to-to.ensures.after; within = within k.before };
      fewer = omega arith;
      fits = omega arith;
      whole = refl;
    }

any-word-requires : tie.Need-any_word-requires
any-word-requires c κs =
    let x = c in
    let k = x in
    record { ordered = x.expand-head.ensures.within; within = within k.before.before.before.before }

returns : tie.Need-returns
returns c =
    let x = c in
    let k = x in
    c.any_word.ensures
    ∙ words_told (s k.before.before.before.before.before).args.text.now (s k.before.before.before.before.before).args.from (s k.before.before.before.before.before).args.end k.shown_to-to.result (s k.before.before.before.before.before).args.bytes.now x.expand-head.new.bytes
    k.shown_to-to.ensures (x.expand-head.auto.bytes ∙ (s k.before.before.before.before.before).requires.size) x.expand-head.result.at x.expand-head.result.count x.expand-head.ensures

pub words_spec : {M : Type 1} → statement M
words_spec = tie.close (tie.spec (λ c κs. search rules) expand-requires any-word-requires (λ c. search rules) returns)
