-- The rings' positions, and those that the code hands on: one past 32 bits lies outside every legal span before and after it is
-- brought to the nearest end, and 4,097 positions are refused like more. So the curve call ends alike on both.
use mathlib.Core.Path.{◌≡◌, refl, sym, ◌∙◌, ap, ap₂, subst}
use mathlib.Core.Logic.{◌⊎◌, inl, inr}
use mathlib.Core.Bool.{Bool, true, false, cond, not, ◌&&◌}
use mathlib.Core.List.{List}
use mathlib.Core.Option.{Option, none}
use Prim.Native.Nat.{ℕ, zero, suc, ◌*◌, ◌/◌, ◌<◌, ◌≤◌}
use native.Mathlib.Omega.{arith}
use borrow.Author.Tests.{lt-ltb, le-ltb}
use lib.Dec.{ltb, eqb}
use lib.IntN.{ℤ, pos, negsuc, neg_ℤ, ◌+ℤ◌}
use lib.ListN.{length, get_or}
use lib.Signed.{le_z, ◌<ℤ◌, ◌≤ℤ◌}
use Rattle.base_exact.proofs.Decide.{le_or_lt, cond_true, cond_false, or-false}
use Rattle.base_exact.proofs.Integer.{bal_*, ≤_in, ≤_out, <_in, <_out, ≤_or_>, ≤-<_trans, <-≤_trans}
use Rattle.base_exact.proofs.Tabulate.{tab_length, tab_get_d, tab_ext}
use Rattle.base_exact.proofs.Word.{lt_test, not_lt_test, not_le_test}
use Rattle.base_outcome.specs.Outcome.{Outcome, answer, refusal, refuse, largest_place, ◌then◌}
use Rattle.base_outcome.specs.Search.{first}
use Rattle.spec_spline.specs.Space.{Space, segments, break, bad_break, break_limit, lengths_fit, checked, checked_entries, row_count}
use Rattle.base_outcome.specs.Tests.{between, refuse_first}
use Rattle.spec_spline.specs.Reading.{fine}
use Rattle.spec_spline.specs.CurveCall.{CurveResult, position_limit, bad_coefficient, bad_position, legal_entries, curve_checked, curve_read, curve_outcome}
use Rattle.base_outcome.proofs.Search.{first_ext, first-none_inverts}
use Rattle.spec_spline.proofs.Space.{between_inverts}
use Rattle.spec_spline.proofs.Build.{long-enough}
use Rattle.spec_spline.proofs.Legal.{Checked, checked_inverts}
use Rattle.spec_spline.specs.Table.{table_cells}
use Rattle.theorems_values.proofs.LegalCall.{checks-passed}
use Rattle.spec_calls.specs.Indices.{ring_positions}
use Rattle.theorems_indices.proofs.Cells.{exact_length, exact_at}
use Rattle.indices.specs.Words.{least_word, greatest_word, nearest_word, word_position, word_positions, rings_taken}
use Rattle.indices.proofs.Words.{nearest-below, nearest-above, nearest-inside}

-- ---- a number and the nearest of 32 bits, against bounds well inside

module _ (low high z : ℤ) (l : least_word <ℤ low) (h : high <ℤ greatest_word) where
  data Word : Type 0 where
    beneath : z <ℤ least_word → Word
    beyond : least_word ≤ℤ z → greatest_word <ℤ z → Word
    within : least_word ≤ℤ z → z ≤ℤ greatest_word → Word

  word : Word
  word = go (≤_or_> least_word z) (≤_or_> z greatest_word)
    where
      go : (least_word ≤ℤ z) ⊎ (z <ℤ least_word) → (z ≤ℤ greatest_word) ⊎ (greatest_word <ℤ z) → Word
      go (inr p) q = beneath p
      go (inl p) (inr q) = beyond p q
      go (inl p) (inl q) = within p q

  below_both : (y : ℤ) → y ≤ℤ least_word → between low high y ≡ false
  below_both y p = ap (λ b. b && le_z y high) (not_le_test {a = low} {b = y} (≤-<_trans y least_word low p l))

  above-both : (y : ℤ) → greatest_word ≤ℤ y → between low high y ≡ false
  above-both y p = go (le_z low y) (not_le_test {a = y} {b = high} (<-≤_trans high greatest_word y h p))
    where
      go : (b : Bool) → le_z y high ≡ false → (b && le_z y high) ≡ false
      go true e = e
      go false e = refl

  pub between-nearest : between low high (nearest_word z) ≡ between low high z
  between-nearest = go word
    where
      go : Word → between low high (nearest_word z) ≡ between low high z
      go (beneath p) = ap (between low high) (sym (nearest-below z (lt_test p))) ∙ below_both least_word (≤_in least_word least_word (omega arith))
          ∙ sym (below_both z (≤_in z least_word (omega (arith, <_out z least_word p))))
      go (beyond p q) = ap (between low high) (sym (nearest-above z (not_lt_test p) (lt_test q)))
          ∙ above-both greatest_word (≤_in greatest_word greatest_word (omega arith))
          ∙ sym (above-both z (≤_in greatest_word z (omega (arith, <_out greatest_word z q))))
      go (within p q) = ap (between low high) (sym (nearest-inside z (not_lt_test p) (not_lt_test q)))

  pub nearest-between : (low ≤ℤ z) × (z ≤ℤ high) → z ≡ nearest_word z
  nearest-between b = nearest-inside z
      (not_lt_test (≤_in least_word z (omega (arith, <_out least_word low l, ≤_out low z b.0))))
      (not_lt_test (≤_in z greatest_word (omega (arith, <_out high greatest_word h, ≤_out z high b.1))))

-- ---- a legal span is well inside

fine-above : (b : ℤ) → neg_ℤ (pos break_limit) ≤ℤ b → least_word <ℤ fine b
fine-above b p = <_in least_word (fine b) (omega (arith, bal_* (pos 256) b, ≤_out (negsuc 9999) b p))

fine-below : (b : ℤ) → b ≤ℤ pos break_limit → fine b <ℤ greatest_word
fine-below b p = <_in (fine b) greatest_word (omega (arith, bal_* (pos 256) b, ≤_out b (pos break_limit) p))

break_in_range : (s : Space) (i : ℕ) → bad_break s i ≡ false → (neg_ℤ (pos break_limit) ≤ℤ break s i) × (break s i ≤ℤ pos break_limit)
unfolding bad_break
break_in_range s zero e = between_inverts (neg_ℤ (pos break_limit)) (pos break_limit) (break s zero) e
break_in_range s (suc i) e =
    between_inverts (neg_ℤ (pos break_limit)) (pos break_limit) (break s (suc i))
    (or-false (not (between (neg_ℤ (pos break_limit)) (pos break_limit) (break s (suc i)))) (le_z (break s (suc i)) (break s i)) e).0

module _ (s : Space) (c : Checked s) where
  span_low : least_word <ℤ fine (break s 0)
  span_low = fine-above (break s 0) (break_in_range s 0 (c.breaks 0 (omega arith))).0

  span-high : fine (break s (segments s)) <ℤ greatest_word
  span-high = fine-below (break s (segments s)) (break_in_range s (segments s) (c.breaks (segments s) (omega arith))).1

-- ---- the first n rings

module _ (first_ring : ℤ) (n : ℕ) where
  abbrev exact : List ℤ
  exact = ring_positions first_ring n

  abbrev words : List ℤ
  words = word_positions first_ring n

  pub words_length : length words ≡ n
  words_length = tab_length n (word_position first_ring)

  words_at : (i : ℕ) → i < n → get_or words i (pos 0) ≡ nearest_word (fine (first_ring +ℤ pos i))
  unfolding word_position
  words_at i h = tab_get_d n (λ k. nearest_word (fine (first_ring +ℤ pos k))) i (pos 0) h

  module _ (s : Space) (c : Checked s) where
    same_test : (i : ℕ) → i < n → bad_position s words i ≡ bad_position s exact i
    unfolding bad_position
    same_test i h =
        ap (λ (z : ℤ). not (between (fine (break s 0)) (fine (break s (segments s))) z)) (words_at i h)
        ∙ ap not (between-nearest (fine (break s 0)) (fine (break s (segments s))) (fine (first_ring +ℤ pos i)) (span_low s c) (span-high s c))
        ∙ sym (ap (λ (z : ℤ). not (between (fine (break s 0)) (fine (break s (segments s))) z)) (exact_at first_ring n i h))

    same_first : first (length words) (bad_position s words) ≡ first (length exact) (bad_position s exact)
    same_first = ap (λ k. first k (bad_position s words)) words_length ∙ first_ext n same_test
        ∙ sym (ap (λ k. first k (bad_position s exact)) (exact_length first_ring n))

    -- positions in the span are handed on as they are
    same-inside : first (length exact) (bad_position s exact) ≡ none → words ≡ exact
    unfolding ring_positions word_position bad_position
    same-inside e = tab_ext n (λ i h.
        sym (nearest-between (fine (break s 0)) (fine (break s (segments s))) (fine (first_ring +ℤ pos i)) (span_low s c) (span-high s c)
        (subst (λ (z : ℤ). (fine (break s 0) ≤ℤ z) × (z ≤ℤ fine (break s (segments s)))) (exact_at first_ring n i h)
        (between_inverts (fine (break s 0)) (fine (break s (segments s))) (get_or exact i (pos 0))
        (first-none_inverts (bad_position s exact) (length exact) e i (rw (exact_length first_ring n) h))))))

  module _ (s : Space) (coefs : List ℤ) where
    entries-same : Checked s → legal_entries s coefs words (answer s) ≡ legal_entries s coefs exact (answer s)
    entries-same c =
        ap
        (λ (o : Option ℕ). cond (eqb (length coefs) (2 * row_count s))
        (refuse_first 6 (first (length coefs) (bad_coefficient coefs)) (refuse_first 7 o (answer s))) (refuse 6 largest_place)) (same_first s c)

    abbrev rest : List ℤ → Outcome Space → Outcome Space
    rest p o = cond (ltb position_limit (length p)) (refuse 2 1) (o then λ legal. legal_entries legal coefs p (answer legal))

    rest-same : (o : Outcome Space) → (o then λ legal. legal_entries legal coefs words (answer legal))
        ≡ (o then λ legal. legal_entries legal coefs exact (answer legal)) → rest words o ≡ rest exact o
    rest-same o e = ap₂ (λ (k : ℕ) (r : Outcome Space). cond (ltb position_limit k) (refuse 2 1) r) (words_length ∙ sym (exact_length first_ring n)) e

    checks-same : curve_checked s coefs words ≡ curve_checked s coefs exact
    unfolding curve_checked checked
    checks-same = go (lengths_fit s) refl (checked_entries s) refl
      where
        go : (b : Bool) → lengths_fit s ≡ b → (o : Outcome Space) → checked_entries s ≡ o
            → cond b (rest words o) (refuse 2 0) ≡ cond b (rest exact o) (refuse 2 0)
        go false fit o e = refl
        go true fit (refusal code place) e = rest-same (refusal code place) refl
        go true fit (answer t) e =
            rest-same (answer t) (subst (λ (u : Space). legal_entries u coefs words (answer u) ≡ legal_entries u coefs exact (answer u)) legal.0
            (entries-same legal.1))
          where
            legal : (s ≡ t) × Checked s
            legal = checked_inverts s (cond_true (checked_entries s) (refuse 2 0) fit ∙ e)

    read_same : (curve_checked s coefs words then curve_read coefs words) ≡ (curve_checked s coefs exact then curve_read coefs exact)
    read_same = ap (λ (o : Outcome Space). o then curve_read coefs words) checks-same ∙ go (curve_checked s coefs exact) refl
      where
        go : (o : Outcome Space) → curve_checked s coefs exact ≡ o → (o then curve_read coefs words) ≡ (o then curve_read coefs exact)
        go (refusal code place) e = refl
        go (answer t) e =
            let p = (checks-passed s coefs exact e).0 in
            ap (λ (l : List ℤ). curve_read coefs l t) (same-inside s (checked_inverts s p.space).1 p.entries.positions_inside)

-- ---- more than the curve call takes

too_many : (s : Space) (coefs p q : List ℤ) → position_limit < length p → position_limit < length q → curve_checked s coefs p ≡ curve_checked s coefs q
unfolding curve_checked
too_many s coefs p q h k =
    ap (λ (o : Outcome Space). cond (lengths_fit s) o (refuse 2 0)) (cond_true _ _ (lt-ltb position_limit (length p) h)
    ∙ sym (cond_true _ _ (lt-ltb position_limit (length q) k)))

too_many_refused : (s : Space) (coefs p : List ℤ) (r : Outcome CurveResult) → position_limit < length p
    → (curve_checked s coefs p then curve_read coefs p) ≡ (curve_checked s coefs p then λ _. r)
unfolding curve_checked
too_many_refused s coefs p r h = go (lengths_fit s)
  where
    inner : cond (ltb position_limit (length p)) (refuse 2 1) (checked_entries s then λ legal. legal_entries legal coefs p (answer legal)) ≡ refuse 2 1
    inner = cond_true _ _ (lt-ltb position_limit (length p) h)

    go : (b : Bool)
        → (cond b (cond (ltb position_limit (length p)) (refuse 2 1) (checked_entries s then λ legal. legal_entries legal coefs p (answer legal)))
        (refuse 2 0) then curve_read coefs p)
        ≡ (cond b (cond (ltb position_limit (length p)) (refuse 2 1) (checked_entries s then λ legal. legal_entries legal coefs p (answer legal)))
        (refuse 2 0) then λ _. r)
    go true = ap (λ (o : Outcome Space). o then curve_read coefs p) inner ∙ sym (ap (λ (o : Outcome Space). o then λ _. r) inner)
    go false = refl

-- ---- the outcome

all_long : (s : Space) (coefs p : List ℤ) (num_length den_length values_length : ℕ) → table_cells ≤ num_length → table_cells ≤ den_length → length p ≤ values_length / 2
    → curve_outcome s coefs p num_length den_length values_length ≡ (curve_checked s coefs p then curve_read coefs p)
unfolding curve_outcome
all_long s coefs p num_length den_length values_length h k l = long-enough num_length den_length _ h k ∙ cond_false _ _ (le-ltb (values_length / 2) (length p) l)

module _ (s : Space) (coefs : List ℤ) (first_ring : ℤ) (n : ℕ) where
  taken-same : (curve_checked s coefs (word_positions first_ring (rings_taken n)) then curve_read coefs (word_positions first_ring (rings_taken n)))
      ≡ (curve_checked s coefs (ring_positions first_ring n) then curve_read coefs (ring_positions first_ring n))
  taken-same = go (le_or_lt n position_limit)
    where
      go : (n ≤ position_limit) ⊎ (position_limit < n)
          → (curve_checked s coefs (word_positions first_ring (rings_taken n)) then curve_read coefs (word_positions first_ring (rings_taken n)))
          ≡ (curve_checked s coefs (ring_positions first_ring n) then curve_read coefs (ring_positions first_ring n))
      go (inl h) =
          ap (λ (k : ℕ). curve_checked s coefs (word_positions first_ring k) then curve_read coefs (word_positions first_ring k))
          (let e : rings_taken n ≡ n = omega arith in e) ∙ read_same first_ring n s coefs
      go (inr h) =
          let p = word_positions first_ring (rings_taken n) in
          let q = ring_positions first_ring n in
          let a : position_limit < length p = rw (words_length first_ring (rings_taken n)) (omega arith) in
          let b : position_limit < length q = rw (exact_length first_ring n) h in
          too_many_refused s coefs p (refusal 0 0) a ∙ ap (λ (o : Outcome Space). o then λ _. refusal 0 0) (too_many s coefs p q a b)
          ∙ sym (too_many_refused s coefs q (refusal 0 0) b)

  pub outcome-same : (num_length den_length values_length : ℕ) → table_cells ≤ num_length → table_cells ≤ den_length → n ≤ values_length / 2
      → curve_outcome s coefs (word_positions first_ring (rings_taken n)) num_length den_length values_length
      ≡ curve_outcome s coefs (ring_positions first_ring n) num_length den_length values_length
  outcome-same num_length den_length values_length h k l =
      all_long s coefs (word_positions first_ring (rings_taken n)) num_length den_length values_length h k (rw (words_length first_ring (rings_taken n)) (omega arith))
      ∙ taken-same
      ∙ sym (all_long s coefs (ring_positions first_ring n) num_length den_length values_length h k (rw (exact_length first_ring n) l))
