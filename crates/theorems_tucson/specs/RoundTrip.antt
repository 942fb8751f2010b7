-- What is proved of reading and writing: "What is written reads back to the same series; what reading accepts is written in as many
-- bytes as were read." (§ 14) The proofs are in proofs/.
use Rattle.std.specs.Prelude.{List, ◌≡◌, length}
use Rattle.std.proofs.Math.Option.{none}
use Rattle.base_outcome.specs.Outcome.{answer}
use Rattle.base_text.specs.Bytes.{Text}
use Rattle.spec_tucson.specs.Series.{Series}
use Rattle.spec_tucson.specs.TextReading.{read_text}
use Rattle.spec_tucson.specs.Writing.{written, unwritable}

-- Writing allows each of the series.
abbrev pub Writable : List Series → Type 0
Writable ss = unwritable ss ≡ none

-- What is written for series that writing allows reads back to them.
abbrev pub WrittenReadsBack : Type 0
WrittenReadsBack = (ss : List Series) → Writable ss → read_text (written ss) ≡ answer ss

-- What reading accepts, writing allows.
abbrev pub ReadIsWritable : Type 0
ReadIsWritable = (t : Text) (ss : List Series) → read_text t ≡ answer ss → Writable ss

-- It is written in as many bytes as were read.
abbrev pub ReadKeepsLength : Type 0
ReadKeepsLength = (t : Text) (ss : List Series) → read_text t ≡ answer ss → length (written ss) ≡ length t

-- What is written for it reads back to the same series, although the text may have been in hundredths.
abbrev pub RewrittenReadsBack : Type 0
RewrittenReadsBack = (t : Text) (ss : List Series) → read_text t ≡ answer ss → read_text (written ss) ≡ answer ss
