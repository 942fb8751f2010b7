-- From the contracts of reading and writing to what the filter gives, for a text that it holds and buffers of its sizes: code 1
-- never comes, a refusal is printed as it is, and what was read is written, whatever it is.
use mathlib.Core.Path.{◌≡◌, refl, sym, ◌∙◌, ap}
use mathlib.Core.List.{List, []}
use Prim.Native.Nat.{ℕ, ◌+◌, ◌*◌, ◌≤◌}
use native.Mathlib.Omega.{arith}
use lib.IntN.{ℤ}
use lib.ListN.{length, take}
use Rattle.base_outcome.specs.Outcome.{Outcome, answer, refusal}
use Rattle.base_outcome.proofs.Outcome.{then_refuses, with_refuses}
use Rattle.base_text.specs.Bytes.{Text}
use Rattle.base_print.specs.Buffer
use Rattle.base_print.specs.Refusal.{refusal_line}
use Rattle.spec_tucson.specs.Line.{name_columns}
use Rattle.spec_tucson.specs.Series.{Series}
use Rattle.spec_tucson.specs.TextReading.{read_text}
use Rattle.spec_tucson.specs.ReadCall.{widths_of, read_outcome, overwritten, ReadEnd, read_end}
use Rattle.spec_tucson.specs.Writing.{written}
use Rattle.spec_tucson.specs.WriteCall.{total, write_end}
use Rattle.theorems_tucson.specs.TucsonCells.{rewrite_end}
use Rattle.theorems_tucson.proofs.Rewritten.{read_is_writable, read-keeps_length}
use Rattle.theorems_tucson.proofs.TucsonCells.{HasRead, has_read, roomy_reads, room_yes, read_lists_fit, years_count, rewritten_end, counts-total}
use Rattle.tucson_putting.proofs.Wrote.{written-whole}
use Rattle.spec_tucson.specs.Filter.{text_limit, outcome_text}
use Rattle.tucson_text.proofs.Room.{series_cells, name_bytes, width_cells, bytes_at_least}

-- Buffers of the filter's sizes.
pub record Cells (names : Text) (years : List ℤ) (counts : List ℕ) (widths : List ℤ) : Type 0 where
  pub names_are : length names ≡ name_bytes
  pub years_are : length years ≡ series_cells
  pub counts_are : length counts ≡ series_cells
  pub widths_are : length widths ≡ width_cells

module _ (t : Text) (short : length t ≤ text_limit) where
  few : (ss : List Series) → read_text t ≡ answer ss → 19 * length ss + 6 * length (widths_of ss) ≤ text_limit
  few ss e = omega (arith, short, bytes_at_least ss 0 [] (read_is_writable t ss e), read-keeps_length t ss e)

  module _ {names : Text} {years : List ℤ} {counts : List ℕ} {widths : List ℤ} (cells : Cells names years counts widths) where
    abbrev end : ReadEnd
    end = read_end t names years counts widths

    abbrev outcome : Outcome (List Series)
    outcome = read_outcome t (length names) (length years) (length counts) (length widths)

    -- the read call's outcome is the text's
    pub reads_whole : outcome ≡ read_text t
    unfolding read_outcome
    reads_whole = go (read_text t) refl
      where
        go : (o : Outcome (List Series)) → read_text t ≡ o → outcome ≡ o
        go (answer ss) e =
            let f = read_lists_fit t ss e in
            let h = few ss e in
            let n = years_count ss in
            roomy_reads t names years counts widths ss e
            (room_yes ss (length names) (length years) (length counts) (length widths)
            (omega (arith, cells.names_are, f.names_fit)) (omega (arith, cells.years_are))
            (omega (arith, cells.counts_are, f.counts_fit)) (omega (arith, cells.widths_are)))
        go (refusal code place) e = then_refuses _ e

    -- so a refusal is printed as it is
    pub refused_text : (code place : ℕ) → end.answers ≡ refusal code place → refusal_line code place ≡ outcome_text (read_text t)
    unfolding outcome_text
    refused_text code place e = ap outcome_text (sym (with_refuses length outcome e) ∙ reads_whole)

    module _ {n : ℕ} (e : end.answers ≡ answer n) where
      pub read : HasRead t names years counts widths n
      read = has_read t names years counts widths n e

      -- the lists lie within the buffers
      pub series-within : n ≤ series_cells
      series-within = omega (arith, few read.series read.reads, read.count)

      pub widths_within : total (take n end.counts) ≤ width_cells
      widths_within = omega (arith, few read.series read.reads, counts-total t names years counts widths n read)

      text_is : outcome_text (read_text t) ≡ written read.series
      unfolding outcome_text
      text_is = ap outcome_text read.reads

      pub text-length : length (outcome_text (read_text t)) ≡ length t
      text-length = ap length text_is ∙ read-keeps_length t read.series read.reads

      module _ (out : Text) (l : length out ≡ text_limit) where
        text-written : overwritten (written read.series) out ≡ Buffer.written 0 (outcome_text (read_text t)) out
        text-written =
            sym (written-whole (written read.series) out (omega (arith, short, read-keeps_length t read.series read.reads)))
            ∙ ap (λ (u : Text). Buffer.written 0 u out) (sym text_is)

        -- and are written in full: the write call's end, with the lists from the buffers
        pub writes-whole : {names' : Text} {years' : List ℤ} {counts' : List ℕ} {widths' : List ℤ} {m : ℕ}
            → names' ≡ end.names → years' ≡ end.years → counts' ≡ end.counts → widths' ≡ end.widths → m ≡ total (take n counts')
            → write_end (take (n * name_columns) names') (take n years') (take n counts') (take m widths') out
            ≡ record { answers = answer (length t); text = Buffer.written 0 (outcome_text (read_text t)) out }
        writes-whole {names'} {years'} {counts'} {widths'} {m} p q r s h =
            let all : m ≡ total (take n end.counts) = h ∙ ap (λ (ns : List ℕ). total (take n ns)) r in
            lists (take (n * name_columns) names') (take n years') (take n counts') (take m widths')
            (ap (take (n * name_columns)) p) (ap (take n) q) (ap (take n) r) (ap (take m) s ∙ ap (λ (k : ℕ). take k end.widths) all)
            ∙ rewritten_end t names years counts widths n read out (omega (arith, short))
            ∙ ap (λ (u : Text). record { answers = answer (length t); text = u }) text-written
          where
            lists : (a : Text) (b : List ℤ) (c : List ℕ) (d : List ℤ) → a ≡ take (n * name_columns) end.names → b ≡ take n end.years
                → c ≡ take n end.counts → d ≡ take (total (take n end.counts)) end.widths → write_end a b c d out ≡ rewrite_end end n out
            lists a b c d p q u v = rw (p, q, u, v)
