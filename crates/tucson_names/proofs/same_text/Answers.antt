-- `==` compares the texts byte by byte, and so does the definition.
use Rattle.std.proofs.Common.{◌∙◌}
use Rattle.tucson_names.proofs.NameColumns.{same_by_bytes}
use Rattle.tucson_names.proofs.same_text.Goals as goal

pub returns : goal.returns
returns c = c.eq.ensures ∙ same_by_bytes c.args.a.now c.args.b.now
