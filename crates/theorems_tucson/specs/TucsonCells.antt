-- The same of the cells after the two calls (§ 14): what the write call writes the read call reads
-- back, and what the read call has left in its buffers the write call writes, in as many bytes as were read. The proofs are in
-- proofs/TucsonCells.
use Rattle.std.specs.Prelude.{List, ◌≡◌, ℕ, ◌*◌, ◌≤◌, ℤ, length, take}
use Rattle.base_outcome.specs.Outcome.{answer}
use Rattle.base_text.specs.Bytes.{Text}
use Rattle.spec_tucson.specs.Line.{name_columns}
use Rattle.spec_tucson.specs.ReadCall.{overwritten, ReadEnd, read_end}
use Rattle.spec_tucson.specs.WriteCall.{total, WriteEnd, write_end}

-- Where the write call answers with n, the first n bytes of its buffer, given to the read call with buffers long enough, leave
-- the four lists at the front of these.
abbrev pub WrittenCellsReadBack : Type 0
WrittenCellsReadBack =
    (names : Text) (years : List ℤ) (counts : List ℕ) (widths : List ℤ) (text : Text) (n : ℕ) →
    (write_end names years counts widths text).answers ≡ answer n →
    (names_buffer : Text) (years_buffer : List ℤ) (counts_buffer : List ℕ) (widths_buffer : List ℤ) →
    length names ≤ length names_buffer → length years ≤ length years_buffer → length counts ≤ length counts_buffer
    → length widths ≤ length widths_buffer →
    read_end (take n (write_end names years counts widths text).text) names_buffer years_buffer counts_buffer widths_buffer
    ≡ record {
      answers = answer (length years);
      names = overwritten names names_buffer;
      years = overwritten years years_buffer;
      counts = overwritten counts counts_buffer;
      widths = overwritten widths widths_buffer;
    }

-- The write call with the lists of so many series that a read call has left in its buffers.
abbrev pub rewrite_end : ReadEnd → ℕ → Text → WriteEnd
rewrite_end e n text = write_end (take (n * name_columns) e.names) (take n e.years) (take n e.counts)
    (take (total (take n e.counts)) e.widths) text

-- Where the read call answers with n, the write call writes the n series in as many bytes as were read, if its buffer has them.
abbrev pub ReadCellsAreWritten : Type 0
ReadCellsAreWritten =
    (t names : Text) (years : List ℤ) (counts : List ℕ) (widths : List ℤ) (n : ℕ) →
    (read_end t names years counts widths).answers ≡ answer n →
    (text : Text) → length t ≤ length text →
    (rewrite_end (read_end t names years counts widths) n text).answers ≡ answer (length t)

-- And these bytes, read with the same buffers, leave the same in them.
abbrev pub RewrittenCellsReadBack : Type 0
RewrittenCellsReadBack =
    (t names : Text) (years : List ℤ) (counts : List ℕ) (widths : List ℤ) (n : ℕ) →
    (read_end t names years counts widths).answers ≡ answer n →
    (text : Text) → length t ≤ length text →
    read_end (take (length t) (rewrite_end (read_end t names years counts widths) n text).text) names years counts widths
    ≡ read_end t names years counts widths
