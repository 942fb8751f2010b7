-- Two tests.
use mathlib.Core.Bool.{Bool, ◌&&◌, not}
use mathlib.Core.Path.{sym, ◌∙◌, ap, ap₂}
use Prim.Native.Nat.{◌+◌}
use lib.Seq.{slice}
use Rattle.spec_tucson.specs.KeptLines.{reads_strictly, captions}
use Rattle.tucson_header.proofs.is_caption.Statement.{statement}
use Rattle.tucson_header.proofs.is_caption.Tie as tie

returns : tie.Need-returns-then-is_header_line
unfolding captions
returns c =
    let k = c in
    sym (ap₂ (λ (x y : Bool). x && not y) (sym k.is_header_line.ensures ∙ c.if-is_header_line.true) (sym c.reads_strictly.ensures))

returns-2 : tie.Need-returns
unfolding captions
returns-2 c =
    let a = c.args in
    sym (ap (λ (x : Bool). x && not (reads_strictly (slice a.from (a.end + 1) a.body.now))) (sym c.is_header_line.ensures ∙ c.if-is_header_line.false))

pub is_caption_spec : {M : Type 1} → statement M
is_caption_spec =
    tie.close
    (tie.spec (λ c κs. let p = c.requires in (p.first-line, (p.line, p.small))) (λ c κs. c.requires.line) returns returns-2)
