-- The reader finds in the lines what they were written from: one line, then all of them.
use mathlib.Core.Path.{◌≡◌, refl, ap, ap₂, ◌∙◌}
use mathlib.Core.Bool.{Bool, true, false, cond, ◌&&◌, not}
use mathlib.Core.List.{List, [], ◌∷◌, ◌++◌, map, append_assoc}
use mathlib.Core.Option.{Option, some, none}
use Prim.Native.Nat.{ℕ, zero, suc}
use lib.Dec.{eqb, leb}
use lib.ListN.{length, take, drop}
use lib.Seq.{take_at}
use Rattle.base_exact.specs.Tabulate.{tab}
use Rattle.base_exact.proofs.Decide.{and-true}
use Rattle.base_outcome.specs.Outcome.{Outcome, answer, refuse, with_answer}
use Rattle.base_outcome.proofs.Outcome.{answer_unique, answer_not_refusal}
use Rattle.base_text.specs.Bytes.{Text, newline, comma}
use Rattle.base_text.specs.Numeral.{decimal}
use Rattle.base_text.proofs.Lacking.{lacks, lacks-first, byte}
use Rattle.spec_spline.specs.Reading.{Wood}
use Rattle.spec_tucson.specs.Columns.{blank}
use Rattle.spec_tucson.specs.Line.{name_columns, all_printable, all_blank, is_name}
use Rattle.spec_tucson.specs.Shown.{unless_trailing, trimmed}
use Rattle.spec_tucson.specs.WriteCall.{text_after}
use Rattle.spec_table.specs.Decimals.{width_text, curve_text, index_text, millionths}
use Rattle.spec_table.specs.RingLines.{without_leading, bare_name, quoted_name, name_text, numbers_text, Ring, ring_line, lines_of_rings, IndexedSeries, ring_at, rings_of, ring_lines}
use Rattle.spec_table.specs.RingLinesCall.{ring_lists_fit, ring_lines_outcome}
use Rattle.spec_tucson.proofs.Lines.{printable_lacks}
use Rattle.theorems_table.specs.Reader.{Lines, outside, field_first, lines_from, whole_of, parts_of, index_in, Row, row_of, rows_of}
use Rattle.theorems_table.specs.ReadsBack.{said_of, LinesReadBack, WrittenLinesReadBack}
use Rattle.theorems_table.proofs.Numbers.{whole-reads, three_read, six_read, index_reads}
use Rattle.theorems_table.proofs.Fields.{special, text_first, text-alone, plain-first, comma-next, end_next, name-first, whole-lacks, index-lacks, decimals_lack}

-- ---- the name has no byte 10

leading-lacks : (t : Text) → lacks (byte newline) t ≡ true → lacks (byte newline) (without_leading t) ≡ true
unfolding without_leading
leading-lacks [] e = e
leading-lacks (c ∷ t) e = go (eqb c blank) (leading-lacks t (lacks-first (byte newline) c t e).1)
  where
    go : (b : Bool) → lacks (byte newline) (without_leading t) ≡ true → lacks (byte newline) (cond b (without_leading t) (c ∷ t)) ≡ true
    go true ih = ih
    go false ih = e

trailing-lacks : (c : ℕ) (t : Text) → not (eqb c newline) ≡ true → lacks (byte newline) t ≡ true → lacks (byte newline) (unless_trailing c t) ≡ true
trailing-lacks c [] h e = go (eqb c blank)
  where
    go : (b : Bool) → lacks (byte newline) (cond b [] (c ∷ [])) ≡ true
    go true = refl
    go false = ap (λ (a : Bool). a && true) h
trailing-lacks c (d ∷ ds) h e = ap₂ (λ (a b : Bool). a && b) h e

trimmed-lacks : (t : Text) → lacks (byte newline) t ≡ true → lacks (byte newline) (trimmed t) ≡ true
unfolding trimmed
trimmed-lacks [] e = refl
trimmed-lacks (c ∷ t) e =
    let both = and-true (not (eqb c newline)) (lacks (byte newline) t) e in
    trailing-lacks c (trimmed t) both.0 (trimmed-lacks t both.1)

name-lacks : (name : Text) → is_name name ≡ true → lacks (byte newline) (bare_name name) ≡ true
unfolding is_name bare_name
name-lacks name e =
    let outer = and-true (eqb (length name) name_columns && all_printable name) (not (all_blank name)) e in
    let inner = and-true (eqb (length name) name_columns) (all_printable name) outer.0 in
    trimmed-lacks (without_leading name) (leading-lacks name (printable_lacks name inner.1))

-- ---- one line

-- The fields of a ring's line.
abbrev fields_of : Ring → List Text
fields_of r = bare_name r.name ∷ decimal r.year ∷ width_text r.width ∷ curve_text r.value ∷ index_text r.index ∷ []

-- one field more, before a comma and what else is on the line
field_next : (t u rest : Text) (fs : List Text) (ls : Lines) → lacks special t ≡ true → lines_from outside (u ++ rest) ≡ (fs ∷ ls)
    → lines_from outside ((t ++ (comma ∷ u)) ++ rest) ≡ (t ∷ fs) ∷ ls
field_next t u rest fs ls h e =
    ap (lines_from outside) (append_assoc t (comma ∷ u) rest) ∙ plain-first t (comma ∷ (u ++ rest)) h
    ∙ ap (text_first t) (comma-next (u ++ rest) ∙ ap field_first e) ∙ text-alone t fs ls

field-last : (t rest : Text) → lacks special t ≡ true → lines_from outside ((t ++ (newline ∷ [])) ++ rest) ≡ (t ∷ []) ∷ lines_from outside rest
field-last t rest h =
    ap (lines_from outside) (append_assoc t (newline ∷ []) rest) ∙ plain-first t (newline ∷ rest) h
    ∙ ap (text_first t) (end_next rest) ∙ text-alone t [] (lines_from outside rest)

field-name : (t u rest : Text) (fs : List Text) (ls : Lines) → lacks (byte newline) t ≡ true → lines_from outside (u ++ rest) ≡ (fs ∷ ls)
    → lines_from outside ((quoted_name t ++ (comma ∷ u)) ++ rest) ≡ (t ∷ fs) ∷ ls
field-name t u rest fs ls h e =
    ap (lines_from outside) (append_assoc (quoted_name t) (comma ∷ u) rest) ∙ name-first t (u ++ rest) h
    ∙ ap (λ (l : Lines). text_first t (field_first l)) e ∙ text-alone t fs ls

line_read : (r : Ring) (rest : Text) → is_name r.name ≡ true → lines_from outside (ring_line r ++ rest) ≡ fields_of r ∷ lines_from outside rest
unfolding ring_line numbers_text
line_read r rest n =
    let ls = lines_from outside rest in
    let index = index_text r.index ++ (newline ∷ []) in
    let curve = curve_text r.value ++ (comma ∷ index) in
    let width = width_text r.width ++ (comma ∷ curve) in
    let year = decimal r.year ++ (comma ∷ width) in
    field-name (bare_name r.name) year rest _ ls (name-lacks r.name n)
    (field_next (decimal r.year) width rest _ ls (whole-lacks r.year)
    (field_next (width_text r.width) curve rest _ ls (decimals_lack 3 r.width)
    (field_next (curve_text r.value) index rest _ ls (decimals_lack 6 (millionths r.value))
    (field-last (index_text r.index) rest (index-lacks r.index)))))

line_row : (r : Ring) → row_of (fields_of r) ≡ some (said_of r)
line_row r = rw (whole-reads r.year, three_read r.width, six_read (millionths r.value), index_reads r.index)

-- ---- all lines

all_read : (name : Text) → is_name name ≡ true → (n : ℕ) (f : ℕ → Ring) → ((j : ℕ) → (f j).name ≡ name)
    → lines_from outside (lines_of_rings (tab n f)) ≡ map fields_of (tab n f)
unfolding tab lines_of_rings lines_from
all_read name e zero f h = refl
all_read name e (suc n) f h =
    line_read (f 0) (lines_of_rings (tab n (λ i. f (suc i)))) (ap is_name (h 0) ∙ e)
    ∙ ap (λ (ls : Lines). fields_of (f 0) ∷ ls) (all_read name e n (λ i. f (suc i)) (λ j. h (suc j)))

all_rows : (rs : List Ring) → map row_of (map fields_of rs) ≡ map (λ r. some (said_of r)) rs
all_rows [] = refl
all_rows (r ∷ rs) = ap₂ ◌∷◌ (line_row r) (all_rows rs)

pub lines-read-back : LinesReadBack
unfolding ring_lines
lines-read-back wood s n =
    ap (map row_of) (all_read s.name n (length s.widths) (ring_at wood s) (λ j. refl)) ∙ all_rows (rings_of wood s)

-- ---- the bytes of a call

pub written-lines-read-back : WrittenLinesReadBack
unfolding ring_lines_outcome text_after
written-lines-read-back wood s out n = go (ring_lists_fit s) (is_name s.name) refl (leb (length (ring_lines wood s)) (length out))
  where
    outcome : Bool → Bool → Bool → Outcome Text
    outcome a b c = cond a (cond b (cond c (answer (ring_lines wood s)) (refuse 1 0)) (refuse 11 0)) (refuse 2 0)

    go : (a b : Bool) → is_name s.name ≡ b → (c : Bool) → with_answer length (outcome a b c) ≡ answer n
        → rows_of (take n (text_after (outcome a b c) out)) ≡ map (λ r. some (said_of r)) (rings_of wood s)
    go true true e true h =
        ap rows_of (take_at (ring_lines wood s) (drop (length (ring_lines wood s)) out) n (answer_unique refl h)) ∙ lines-read-back wood s e
    go true true e false h = absurd (answer_not_refusal h refl)
    go true false e c h = absurd (answer_not_refusal h refl)
    go false b e c h = absurd (answer_not_refusal h refl)
