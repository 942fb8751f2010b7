-- Named, or guessed.
use Rattle.std.proofs.Common.{Bool, cond, sym, ◌∙◌, ap}
use borrow.Author.Tests.{le-leb, lt-leb}
use Rattle.base_outcome.specs.Outcome.{answer}
use Rattle.spec_tucson.specs.Line.{lines_of}
use Rattle.spec_tucson.specs.KeptLines.{header_limit, header_of, named_header, guessed_header, unblank}
use Rattle.tucson_header.proofs.header.Goals as goal

pub returns-then-named_lines-le-HEADER_LIMIT : goal.returns-then-named_lines-le-HEADER_LIMIT
unfolding header_of
returns-then-named_lines-le-HEADER_LIMIT c =
    let a = c.args in
    let raws = lines_of a.body.now in
    c.named.ensures
    ∙ sym (ap (λ (b : Bool). cond b (named_header a.named_lines raws) (answer (guessed_header (unblank 1 raws))))
    (le-leb a.named_lines header_limit c.if-named_lines-le-HEADER_LIMIT.true))

pub returns : goal.returns
unfolding header_of
returns c =
    let a = c.args in
    let raws = lines_of a.body.now in
    ap answer (c.unwrap_or.ensures ∙ c.guessed.ensures)
    ∙ sym (ap (λ (b : Bool). cond b (named_header a.named_lines raws) (answer (guessed_header (unblank 1 raws))))
    (lt-leb a.named_lines header_limit c.if-named_lines-le-HEADER_LIMIT.false))
