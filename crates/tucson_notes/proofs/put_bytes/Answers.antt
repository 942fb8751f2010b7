-- The one copy leaves the text written, whole.
use Rattle.std.proofs.Common.{◌+◌, ◌-◌, refl, length, arith}
use Rattle.base_print.proofs.Buffer.{written_copy}
use Rattle.tucson_notes.proofs.put_bytes.Goals as goal

pub returns : goal.returns
returns c =
    let a = c.args in
    let n = length a.line.now in
    record {
      contents = written_copy a.at (a.at + n - a.at) a.line.now _ a.out.now (omega arith) (omega arith) c.copy_from_slice.ensures.after;
      behind = refl;
      near = omega arith;
    }
