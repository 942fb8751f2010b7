-- What reading accepts, writing allows, and writes in as many bytes, whatever the closing said of the unit; and what is so
-- written reads back.
use mathlib.Core.Path.{◌≡◌, refl, ◌∙◌}
use mathlib.Core.Bool.{true, false}
use mathlib.Core.List.{List, [], ◌∷◌}
use mathlib.Core.Option.{none}
use native.Mathlib.Omega.{arith}
use Rattle.base_outcome.specs.Outcome.{answer}
use Rattle.base_text.specs.Bytes.{Text, begins_with}
use Rattle.spec_tucson.specs.Line.{lines_of, is_name}
use Rattle.spec_tucson.specs.Series.{Series}
use Rattle.spec_tucson.specs.TextReading.{read_lines, read_text}
use Rattle.theorems_tucson.specs.RoundTrip.{ReadIsWritable, ReadKeepsLength, RewrittenReadsBack}
use Rattle.theorems_tucson.proofs.Lines.{name-parts}
use Rattle.theorems_tucson.proofs.GoodLines.{AllAtEndOnly, lines_end, lines-bytes}
use Rattle.theorems_tucson.proofs.ReadsBack.{written-reads-back}
use Rattle.theorems_tucson.proofs.FirstSeries.{Later, none-later, all_writable, all_bytes, first-series}

no_name-before : (name : Text) → is_name name ≡ true → begins_with name [] ≡ false
unfolding begins_with
no_name-before [] n = absurd (omega (arith, (name-parts [] n).0))
no_name-before (c ∷ name) n = refl

text_writable : (t : Text) (ss : List Series) → read_text t ≡ answer ss → Later [] (lines_of t) ss
unfolding read_text
text_writable t ss e = go (lines_of t) (lines_end t) e
  where
    go : (ts : List Text) → AllAtEndOnly ts → read_lines 1 none ts ≡ answer ss → Later [] ts ss
    go [] once e = none-later [] ss 1 e
    go (l ∷ ls) once e =
        let f = first-series ls l 1 none ss once e in
        record { writable = all_writable f [] (no_name-before f.name f.named); bytes = all_bytes f }

pub read_is_writable : ReadIsWritable
read_is_writable t ss e = (text_writable t ss e).writable 0

pub read-keeps_length : ReadKeepsLength
read-keeps_length t ss e = (text_writable t ss e).bytes ∙ lines-bytes t

pub rewritten_reads-back : RewrittenReadsBack
rewritten_reads-back t ss e = written-reads-back ss (read_is_writable t ss e)
