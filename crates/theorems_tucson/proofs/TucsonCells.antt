-- The cells after the two calls: the four lists of a list of series and back, what each call has done where it answers, and so
-- what the calls leave of each other's work.
use mathlib.Core.Path.{◌≡◌, refl, sym, ◌∙◌, ap, ap₂}
use mathlib.Core.Bool.{Bool, true, false, cond, ◌&&◌}
use mathlib.Core.List.{List, [], ◌∷◌, ◌++◌}
use mathlib.Core.Option.{Option, some, none}
use Prim.Native.Nat.{ℕ, suc, ◌+◌, ◌*◌, ◌≤◌}
use native.Mathlib.Omega.{arith}
use borrow.Author.Tests.{eqb-true, eq-eqb, le-leb}
use lib.Dec.{eqb, leb}
use lib.IntN.{ℤ}
use lib.ListN.{length, take, drop, length-append, length-drop, length-map, take-append-drop}
use lib.Seq.{take_at, drop_at, length-take-le}
use Rattle.base_exact.proofs.Decide.{and-true, cond_true}
use Rattle.base_outcome.specs.Outcome.{Outcome, answer, refuse, with_answer}
use Rattle.base_outcome.specs.Tests.{refuse_first}
use Rattle.base_outcome.proofs.Outcome.{answer_unique, answer_not_refusal, then_inverts, then_answers, Changed, with_inverts}
use Rattle.base_text.specs.Bytes.{Text}
use Rattle.spec_tucson.specs.Line.{name_columns}
use Rattle.spec_tucson.specs.Series.{Series}
use Rattle.spec_tucson.specs.TextReading.{read_text}
use Rattle.spec_tucson.specs.ReadCall.{names_of, years_of, counts_of, widths_of, room_for, read_outcome, overwritten, filled, ReadEnd, read_end}
use Rattle.spec_tucson.specs.Writing.{written, first_unwritable, unwritable}
use Rattle.spec_tucson.specs.WriteCall.{total, lists_fit, series_of, series_outcome, write_outcome, text_after, WriteEnd, write_end}
use Rattle.theorems_tucson.specs.RoundTrip.{Writable}
use Rattle.theorems_tucson.specs.TucsonCells.{WrittenCellsReadBack, rewrite_end, ReadCellsAreWritten, RewrittenCellsReadBack}
use Rattle.theorems_tucson.proofs.Lines.{name-parts}
use Rattle.theorems_tucson.proofs.ReadsBack.{first-parts, written-reads-back}
use Rattle.theorems_tucson.proofs.Rewritten.{read_is_writable, read-keeps_length, rewritten_reads-back}

-- ---- four lists and their series

-- The lists fit each other.
pub record ListsFit (names : Text) (years : List ℤ) (counts : List ℕ) (widths : List ℤ) : Type 0 where
  pub names_fit : length names ≡ length years * name_columns
  pub counts_fit : length counts ≡ length years
  pub widths_fit : total counts ≡ length widths

pub fits-parts : (names : Text) (years : List ℤ) (counts : List ℕ) (widths : List ℤ) → lists_fit names years counts widths ≡ true → ListsFit names years counts widths
unfolding lists_fit
fits-parts names years counts widths e =
    let outer = and-true (eqb (length names) (length years * name_columns) && eqb (length counts) (length years)) (eqb (total counts) (length widths)) e in
    let inner = and-true (eqb (length names) (length years * name_columns)) (eqb (length counts) (length years)) outer.0 in
    record { names_fit = eqb-true _ _ inner.0; counts_fit = eqb-true _ _ inner.1; widths_fit = eqb-true _ _ outer.1 }

parts_fit : (names : Text) (years : List ℤ) (counts : List ℕ) (widths : List ℤ) → ListsFit names years counts widths → lists_fit names years counts widths ≡ true
unfolding lists_fit
parts_fit names years counts widths f =
    ap₂ (λ (a b : Bool). a && b)
    (ap₂ (λ (a b : Bool). a && b) (eq-eqb (length names) (length years * name_columns) f.names_fit) (eq-eqb (length counts) (length years) f.counts_fit))
    (eq-eqb (total counts) (length widths) f.widths_fit)

-- The lists of these series are these.
record ListsOf (ss : List Series) (names : Text) (years : List ℤ) (counts : List ℕ) (widths : List ℤ) : Type 0 where
  names_are : names_of ss ≡ names
  years_are : years_of ss ≡ years
  counts_are : counts_of ss ≡ counts
  widths_are : widths_of ss ≡ widths

no_elements : {A : Type 0} (xs : List A) → length xs ≡ 0 → [] ≡ xs
no_elements [] e = refl
no_elements (x ∷ xs) e = absurd (omega arith)

-- the series of lists that fit have these lists
lists_back : (years : List ℤ) (names : Text) (counts : List ℕ) (widths : List ℤ) → ListsFit names years counts widths → ListsOf (series_of names years counts widths) names years counts widths
unfolding series_of names_of years_of counts_of widths_of total
lists_back [] names [] widths f = record { names_are = no_elements names f.names_fit; years_are = refl; counts_are = refl; widths_are = no_elements widths (sym f.widths_fit) }
lists_back [] names (n ∷ counts) widths f = absurd (omega (arith, f.counts_fit))
lists_back (y ∷ years) names [] widths f = absurd (omega (arith, f.counts_fit))
lists_back (y ∷ years) names (n ∷ counts) widths f =
    let rest : ListsFit (drop name_columns names) years counts (drop n widths) = record {
      names_fit = length-drop name_columns names ∙ omega (arith, f.names_fit);
      counts_fit = omega (arith, f.counts_fit);
      widths_fit = omega (arith, f.widths_fit, length-drop n widths);
    } in
    let l = lists_back years (drop name_columns names) counts (drop n widths) rest in
    record {
      names_are = ap (λ (t : Text). take name_columns names ++ t) l.names_are ∙ take-append-drop name_columns names;
      years_are = ap (λ (ys : List ℤ). y ∷ ys) l.years_are;
      counts_are = ap₂ (λ (m : ℕ) (ns : List ℕ). m ∷ ns) (length-take-le n widths (omega (arith, f.widths_fit))) l.counts_are;
      widths_are = ap (λ (ws : List ℤ). take n widths ++ ws) l.widths_are ∙ take-append-drop n widths;
    }

-- Every name has eight bytes.
abbrev AllNamed : List Series → Type 0
AllNamed [] = Unit {0}
AllNamed (s ∷ ss) = (length s.name ≡ name_columns) × AllNamed ss

writable_named : (ss : List Series) (place : ℕ) (before : Text) → first_unwritable place before ss ≡ none → AllNamed ss
writable_named [] place before e = tt
writable_named (s ∷ ss) place before e =
    let parts = first-parts place before s ss e in
    ((name-parts s.name parts.0.named).0, writable_named ss (suc place) s.name parts.1)

lists_of_fit : (ss : List Series) → AllNamed ss → ListsFit (names_of ss) (years_of ss) (counts_of ss) (widths_of ss)
unfolding names_of years_of counts_of widths_of total
lists_of_fit [] h = record { names_fit = refl; counts_fit = refl; widths_fit = refl }
lists_of_fit (s ∷ ss) h = let f = lists_of_fit ss h.1 in record {
  names_fit = length-append s.name (names_of ss) ∙ omega (arith, h.0, f.names_fit);
  counts_fit = ap suc f.counts_fit;
  widths_fit = ap (λ (n : ℕ). length s.widths + n) f.widths_fit ∙ sym (length-append s.widths (widths_of ss));
}

-- the series of the lists of series are these
series-back : (ss : List Series) → AllNamed ss → series_of (names_of ss) (years_of ss) (counts_of ss) (widths_of ss) ≡ ss
unfolding series_of names_of years_of counts_of widths_of
series-back [] h = refl
series-back (s ∷ ss) h =
    ap₂ (λ (n : Text) (ws : List ℤ). record { name = n; first_year = s.first_year; widths = ws } ∷ series_of (drop name_columns (s.name ++ names_of ss)) (years_of ss)
    (counts_of ss) (drop (length s.widths) (s.widths ++ widths_of ss)))
    (take_at s.name (names_of ss) name_columns h.0) (take_at s.widths (widths_of ss) (length s.widths) refl)
    ∙ ap₂ (λ (n : Text) (ws : List ℤ). s ∷ series_of n (years_of ss) (counts_of ss) ws) (drop_at s.name (names_of ss) name_columns h.0) (drop_at s.widths (widths_of ss) (length s.widths) refl)
    ∙ ap (λ (us : List Series). s ∷ us) (series-back ss h.1)

-- what reading accepts has lists that fit
pub read_lists_fit : (t : Text) (ss : List Series) → read_text t ≡ answer ss → ListsFit (names_of ss) (years_of ss) (counts_of ss) (widths_of ss)
read_lists_fit t ss e = lists_of_fit ss (writable_named ss 0 [] (read_is_writable t ss e))

-- ---- a read call that answers

pub years_count : (ss : List Series) → length (years_of ss) ≡ length ss
unfolding years_of
years_count ss = length-map ss (λ s. s.first_year)

counts-count : (ss : List Series) → length (counts_of ss) ≡ length ss
unfolding counts_of
counts-count ss = length-map ss (λ s. length s.widths)

-- the end of a call whose text reads to these series, with room for them
abbrev end_with : List Series → Text → List ℤ → List ℕ → List ℤ → ReadEnd
end_with ss names years counts widths = record {
  answers = answer (length ss);
  names = overwritten (names_of ss) names;
  years = overwritten (years_of ss) years;
  counts = overwritten (counts_of ss) counts;
  widths = overwritten (widths_of ss) widths;
}

module _ (t names : Text) (years : List ℤ) (counts : List ℕ) (widths : List ℤ) where
  abbrev outcome : Outcome (List Series)
  outcome = read_outcome t (length names) (length years) (length counts) (length widths)

  end_of : (o : Outcome (List Series)) → ReadEnd
  end_of o = record { answers = with_answer length o; names = filled names_of o names; years = filled years_of o years; counts = filled counts_of o counts; widths = filled widths_of o widths }

  answered_end : (ss : List Series) → outcome ≡ answer ss → read_end t names years counts widths ≡ end_with ss names years counts widths
  unfolding filled end_of
  answered_end ss e = ap end_of e

  pub roomy_reads : (ss : List Series) → read_text t ≡ answer ss → room_for ss (length names) (length years) (length counts) (length widths) ≡ true → outcome ≡ answer ss
  unfolding read_outcome
  roomy_reads ss e r =
      then_answers (λ us. cond (room_for us (length names) (length years) (length counts) (length widths)) (answer us) (refuse 1 0)) e
      ∙ cond_true (answer ss) (refuse 1 0) r

  -- what a call that answers has read
  pub record HasRead (n : ℕ) : Type 0 where
    pub series : List Series
    pub reads : read_text t ≡ answer series
    pub roomy : room_for series (length names) (length years) (length counts) (length widths) ≡ true
    pub count : length series ≡ n

  pub has_read : (n : ℕ) → (read_end t names years counts widths).answers ≡ answer n → HasRead n
  unfolding read_outcome
  has_read n e = go (with_inverts length outcome e)
    where
      room : (ss : List Series) → read_text t ≡ answer ss → (b : Bool) → room_for ss (length names) (length years) (length counts) (length widths) ≡ b → (us : List Series)
          → cond b (answer ss) (refuse 1 0) ≡ answer us → length us ≡ n → HasRead n
      room ss r true w us e c = record { series = ss; reads = r; roomy = w; count = ap length (answer_unique refl e) ∙ c }
      room ss r false w us e c = absurd (answer_not_refusal e refl)

      go : Changed length outcome n → HasRead n
      go c =
          let m = then_inverts (read_text t) (λ us. cond (room_for us (length names) (length years) (length counts) (length widths)) (answer us) (refuse 1 0)) c.answers in
          room m.middle m.before (room_for m.middle (length names) (length years) (length counts) (length widths)) refl c.before m.after c.changed

-- four lists that fit their buffers
pub room_yes : (ss : List Series) (a b c d : ℕ) → length (names_of ss) ≤ a → length (years_of ss) ≤ b → length (counts_of ss) ≤ c → length (widths_of ss) ≤ d → room_for ss a b c d ≡ true
unfolding room_for
room_yes ss a b c d h i j k = rw (le-leb (length (names_of ss)) a h, le-leb (length (years_of ss)) b i, le-leb (length (counts_of ss)) c j, le-leb (length (widths_of ss)) d k)

-- ---- a write call that answers

module _ (names : Text) (years : List ℤ) (counts : List ℕ) (widths : List ℤ) (text : Text) where
  abbrev listed : List Series
  listed = series_of names years counts widths

  abbrev text_outcome : Outcome Text
  text_outcome = write_outcome names years counts widths (length text)

  series-written : (ss : List Series) → Writable ss → length (written ss) ≤ length text → series_outcome ss (length text) ≡ answer (written ss)
  unfolding series_outcome
  series-written ss w h =
      ap (λ (o : Option ℕ). refuse_first 11 o (cond (leb (length (written ss)) (length text)) (answer (written ss)) (refuse 1 0))) w
      ∙ cond_true (answer (written ss)) (refuse 1 0) (le-leb (length (written ss)) (length text) h)

  fitting-written : (ss : List Series) → ListsFit names years counts widths → listed ≡ ss → Writable ss → length (written ss) ≤ length text → text_outcome ≡ answer (written ss)
  unfolding write_outcome
  fitting-written ss f e w h =
      cond_true (series_outcome listed (length text)) (refuse 2 0) (parts_fit names years counts widths f)
      ∙ ap (λ (us : List Series). series_outcome us (length text)) e
      ∙ series-written ss w h

  end_text : (t : Text) (n : ℕ) → text_outcome ≡ answer t → length t ≡ n → take n (write_end names years counts widths text).text ≡ t
  unfolding text_after
  end_text t n e h = ap (λ (o : Outcome Text). take n (text_after o text)) e ∙ take_at t (drop (length t) text) n h

  -- what a call that answers has written
  record HasWritten (n : ℕ) : Type 0 where
    fitting : ListsFit names years counts widths
    writable : Writable listed
    answers : text_outcome ≡ answer (written listed)
    count : length (written listed) ≡ n

  has_written : (n : ℕ) → (write_end names years counts widths text).answers ≡ answer n → HasWritten n
  unfolding write_outcome series_outcome
  has_written n e = go (with_inverts length text_outcome e)
    where
      short : ListsFit names years counts widths → Writable listed → (b : Bool) (t : Text) → cond b (answer (written listed)) (refuse 1 0) ≡ answer t
          → text_outcome ≡ answer t → length t ≡ n → HasWritten n
      short f w true t e a c = let same : written listed ≡ t = answer_unique refl e in record { fitting = f; writable = w; answers = a ∙ ap answer (sym same); count = ap length same ∙ c }
      short f w false t e a c = absurd (answer_not_refusal e refl)

      allowed : ListsFit names years counts widths → (o : Option ℕ) → unwritable listed ≡ o → (t : Text)
          → refuse_first 11 o (cond (leb (length (written listed)) (length text)) (answer (written listed)) (refuse 1 0)) ≡ answer t → text_outcome ≡ answer t → length t ≡ n
          → HasWritten n
      allowed f none w t e a c = short f w (leb (length (written listed)) (length text)) t e a c
      allowed f (some i) w t e a c = absurd (answer_not_refusal e refl)

      fits : (b : Bool) → lists_fit names years counts widths ≡ b → (t : Text) → cond b (series_outcome listed (length text)) (refuse 2 0) ≡ answer t
          → text_outcome ≡ answer t → length t ≡ n → HasWritten n
      fits true w t e a c = allowed (fits-parts names years counts widths w) (unwritable listed) refl t e a c
      fits false w t e a c = absurd (answer_not_refusal e refl)

      go : Changed length text_outcome n → HasWritten n
      go c = fits (lists_fit names years counts widths) refl c.before c.answers c.answers c.changed

-- ---- the two calls in turn

pub written-cells-read-back : WrittenCellsReadBack
written-cells-read-back names years counts widths text n e nb yb cb wb hn hy hc hw =
    let w = has_written names years counts widths text n e in
    let ss = series_of names years counts widths in
    let l = lists_back years names counts widths w.fitting in
    let room =
    room_yes ss (length nb) (length yb) (length cb) (length wb) (omega (arith, ap length l.names_are)) (omega (arith, ap length l.years_are))
    (omega (arith, ap length l.counts_are)) (omega (arith, ap length l.widths_are)) in
    ap (λ (t : Text). read_end t nb yb cb wb) (end_text names years counts widths text (written ss) n w.answers w.count)
    ∙ answered_end (written ss) nb yb cb wb ss (roomy_reads (written ss) nb yb cb wb ss (written-reads-back ss w.writable) room)
    ∙ ends (length ss) (length years) (names_of ss) names (years_of ss) years (counts_of ss) counts (widths_of ss) widths (sym (years_count ss) ∙ ap length l.years_are)
    l.names_are l.years_are l.counts_are l.widths_are
  where
    ends : (k m : ℕ) (a a' : Text) (b b' : List ℤ) (c c' : List ℕ) (d d' : List ℤ) → k ≡ m → a ≡ a' → b ≡ b' → c ≡ c' → d ≡ d' →
        ◌≡◌ {A = ReadEnd} (record { answers = answer k; names = overwritten a nb; years = overwritten b yb; counts = overwritten c cb; widths = overwritten d wb })
        (record { answers = answer m; names = overwritten a' nb; years = overwritten b' yb; counts = overwritten c' cb; widths = overwritten d' wb })
    ends k m a a' b b' c c' d d' p q r s t = cc

module _ (t names : Text) (years : List ℤ) (counts : List ℕ) (widths : List ℤ) (n : ℕ) (r : HasRead t names years counts widths n) where
  abbrev ss : List Series
  ss = r.series

  can_be_written : Writable ss
  can_be_written = read_is_writable t ss r.reads

  read_fit : ListsFit (names_of ss) (years_of ss) (counts_of ss) (widths_of ss)
  read_fit = read_lists_fit t ss r.reads

  read-end : read_end t names years counts widths ≡ end_with ss names years counts widths
  read-end = answered_end t names years counts widths ss (roomy_reads t names years counts widths ss r.reads r.roomy)

  counts-taken : take n (overwritten (counts_of ss) counts) ≡ counts_of ss
  counts-taken = take_at (counts_of ss) (drop (length (counts_of ss)) counts) n (counts-count ss ∙ r.count)

  widths_taken : take (total (take n (overwritten (counts_of ss) counts))) (overwritten (widths_of ss) widths) ≡ widths_of ss
  widths_taken = take_at (widths_of ss) (drop (length (widths_of ss)) widths) (total (take n (overwritten (counts_of ss) counts))) (sym (ap total counts-taken ∙ read_fit.widths_fit))

  -- the counts at the front of their buffer add up to the widths
  pub counts-total : total (take n (read_end t names years counts widths).counts) ≡ length (widths_of ss)
  counts-total = ap (λ (e : ReadEnd). total (take n e.counts)) read-end ∙ ap total counts-taken ∙ read_fit.widths_fit

  names-total : length (names_of ss) ≡ n * name_columns
  names-total = read_fit.names_fit ∙ ap (λ (k : ℕ). k * name_columns) (years_count ss ∙ r.count)

  -- the lists at the front of the buffers are those of the series
  rewrites : (text : Text) → rewrite_end (read_end t names years counts widths) n text ≡ write_end (names_of ss) (years_of ss) (counts_of ss) (widths_of ss) text
  rewrites text =
      ap (λ (e : ReadEnd). rewrite_end e n text) read-end
      ∙ lists (take (n * name_columns) (overwritten (names_of ss) names)) (take n (overwritten (years_of ss) years)) (take n (overwritten (counts_of ss) counts))
      (take (total (take n (overwritten (counts_of ss) counts))) (overwritten (widths_of ss) widths))
      (take_at (names_of ss) (drop (length (names_of ss)) names) (n * name_columns) names-total)
      (take_at (years_of ss) (drop (length (years_of ss)) years) n (years_count ss ∙ r.count))
      counts-taken widths_taken
    where
      lists : (a : Text) (b : List ℤ) (c : List ℕ) (d : List ℤ) → a ≡ names_of ss → b ≡ years_of ss → c ≡ counts_of ss → d ≡ widths_of ss
          → write_end a b c d text ≡ write_end (names_of ss) (years_of ss) (counts_of ss) (widths_of ss) text
      lists a b c d p q u v = rw (p, q, u, v)

  module _ (text : Text) (long : length t ≤ length text) where
    write-answers : write_outcome (names_of ss) (years_of ss) (counts_of ss) (widths_of ss) (length text) ≡ answer (written ss)
    write-answers =
        fitting-written (names_of ss) (years_of ss) (counts_of ss) (widths_of ss) text ss read_fit (series-back ss (writable_named ss 0 [] can_be_written)) can_be_written
        (omega (arith, read-keeps_length t ss r.reads))

    -- the write call's end
    pub rewritten_end : rewrite_end (read_end t names years counts widths) n text ≡ record { answers = answer (length t); text = overwritten (written ss) text }
    unfolding text_after
    rewritten_end =
        rewrites text
        ∙ ap (λ (o : Outcome Text). record { answers = with_answer length o; text = text_after o text }) write-answers
        ∙ ap (λ (k : ℕ). record { answers = answer k; text = overwritten (written ss) text }) (read-keeps_length t ss r.reads)

    rewritten_read : read_end (take (length t) (rewrite_end (read_end t names years counts widths) n text).text) names years counts widths ≡ read_end t names years counts widths
    rewritten_read =
        ap (λ (e : WriteEnd). read_end (take (length t) e.text) names years counts widths) rewritten_end
        ∙ ap (λ (u : Text). read_end u names years counts widths) (take_at (written ss) (drop (length (written ss)) text) (length t) (read-keeps_length t ss r.reads))
        ∙ answered_end (written ss) names years counts widths ss (roomy_reads (written ss) names years counts widths ss (rewritten_reads-back t ss r.reads) r.roomy)
        ∙ sym read-end

pub read-cells_are_written : ReadCellsAreWritten
read-cells_are_written t names years counts widths n e text long = ap (λ (w : WriteEnd). w.answers) (rewritten_end t names years counts widths n (has_read t names years counts widths n e) text long)

pub rewritten_cells-read-back : RewrittenCellsReadBack
rewritten_cells-read-back t names years counts widths n e text long = rewritten_read t names years counts widths n (has_read t names years counts widths n e) text long
