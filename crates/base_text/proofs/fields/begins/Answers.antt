-- The slice's `starts_with` compares as the definition does.
use Rattle.std.proofs.Common.{◌∙◌, ap}
use Rattle.std.proofs.lemmas.Slice.{between_is}
use Rattle.base_text.specs.Bytes.{begins_with}
use Rattle.base_text.proofs.Cutting.{starts_is}
use Rattle.base_text.proofs.fields.begins.Goals as goal

pub returns : goal.returns
returns c =
    let a = c.args in
    c.starts_with.ensures.value ∙ starts_is a.key.now _ ∙ ap (begins_with a.key.now) (between_is a.text.now a.from a.to)
