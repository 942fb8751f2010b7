-- Buffers that are long enough whatever is put, or others that are measured.
use Rattle.std.proofs.Common.{◌∙◌, ap, length}
use Rattle.base_text.specs.Bytes.{Text}
use Rattle.spec_tucson.specs.Line.{lines_of}
use Rattle.tucson_clean.proofs.Room.{ends-ample}
use Rattle.tucson_clean.proofs.fill.Goals as goal

pub returns-then-is_ample : goal.returns-then-is_ample
returns-then-is_ample c ks e =
    let tail = c.count_lines-tail in
    ends-ample tail.result.count (tail.ensures.count_is ∙ ap (λ (x : Text). length (lines_of x)) c.requires.body_is)
    (c.is_ample.ensures c.if-is_ample.true) (c.put_all-put.ensures ks e)
