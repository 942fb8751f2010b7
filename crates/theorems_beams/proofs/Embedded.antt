-- A step on a table that lies in a larger one: p rows above it and q rows below it have no jump, a columns of zeros stand before
-- its columns and b behind them. The larger table's step is the smaller one's, moved.
use mathlib.Core.Path.{◌≡◌, refl, sym, ◌∙◌, ap, ap₂}
use mathlib.Core.Logic.{◌⊎◌, inl, inr}
use mathlib.Core.Bool.{Bool, true, false, cond, not, ◌&&◌}
use mathlib.Core.List.{List, [], ◌∷◌, ◌++◌, map, map-append}
use mathlib.Core.Option.{Option, some, none}
use Prim.Native.Nat.{ℕ, zero, suc, ◌+◌, ◌-◌, ◌<◌, ◌≤◌}
use native.Mathlib.Omega.{arith}
use lib.IntN.{pos}
use lib.ListN.{length, take, drop, length-append, length-map, get_or-append}
use lib.Seq.{get_or-append-add}
use Rattle.base_exact.specs.Rational.{ℚ, int, ◌+ᵠ◌, ◌*ᵠ◌, ◌-ᵠ◌, ◌/ᵠ◌}
use Rattle.base_exact.specs.Order.{is_zero, ltᵠ}
use Rattle.base_exact.specs.Sum.{sum}
use Rattle.base_exact.proofs.Decide.{le_or_lt}
use Rattle.base_exact.proofs.Order.{zero_test}
use Rattle.base_exact.proofs.Rational.{mul-zero, add-zero}
use Rattle.base_exact.proofs.Sum.{sum_ext}
use Rattle.base_exact.proofs.Tabulate.{tab_length, tab_get_d}
use Rattle.base_fraction.specs.Size.{fits}
use Rattle.base_outcome.specs.Outcome.{Outcome, answer, refusal, refuse, capped, collect}
use Rattle.base_outcome.specs.Search.{first, last, found}
use Rattle.spec_spline.specs.Conditions.{Entry}
use Rattle.spec_spline.specs.Table.{Row, Table, entry, row}
use Rattle.spec_spline.specs.Step.{count, jump, jumps, jumps_at, Span, zero_between, span_of, span, partial_sum, quotient_factor, factor, factors, new_entry, new_row, new_rows, rows_renewed, step}
use Rattle.base_outcome.proofs.Outcome.{then_answers}
use Rattle.base_outcome.proofs.Search.{at, nowhere, Searched, search_first, first_at, first-none, first_ext, SearchedBack, search_last, last_at, last_none}
use Rattle.spec_spline.proofs.Planned.{mixed, step_in_order}
use Rattle.spec_spline.proofs.Table.{entry_past}
use Rattle.spec_spline.proofs.Shape.{Wide}
use Rattle.spec_spline.proofs.Step.{count_fits}
use Rattle.spec_spline.proofs.Splice.{spliced-within}
use Rattle.spec_spline.proofs.Answers.{jumps_length, Spans, span_inverts}
use Rattle.spec_spline.proofs.TableFits.{zero-fits}
use Rattle.theorems_beams.specs.Sections.{zeros}
use Rattle.theorems_beams.proofs.Carried.{carried, carried_then, carried-collect, framed_collect}

-- ---- zeros around a row or a list of jumps

-- a zeros before and b behind
abbrev pub padded : ℕ → ℕ → Row → Row
padded a b r = zeros a ++ r ++ zeros b

pub zeros-entry : (n c : ℕ) → entry (zeros n) c ≡ int (pos 0)
zeros-entry n c = go (le_or_lt n c)
  where
    go : (n ≤ c) ⊎ (c < n) → entry (zeros n) c ≡ int (pos 0)
    go (inl h) = entry_past (zeros n) c (rw (tab_length n (λ _. int (pos 0))) h)
    go (inr h) = tab_get_d n (λ _. int (pos 0)) c (int (pos 0)) h

-- an entry of the first list, also where it is past its end and zeros follow
pub zeros-behind : (r : Row) (b c : ℕ) → entry (r ++ zeros b) c ≡ entry r c
zeros-behind r b c = go (le_or_lt (length r) c)
  where
    go : (length r ≤ c) ⊎ (c < length r) → entry (r ++ zeros b) c ≡ entry r c
    go (inl h) =
        ap (entry (r ++ zeros b)) (let e : c ≡ length r + (c - length r) = omega arith in e) ∙ get_or-append-add r (zeros b) (c - length r) (int (pos 0))
        ∙ zeros-entry b (c - length r) ∙ sym (entry_past r c h)
    go (inr h) = get_or-append r (zeros b) (int (pos 0)) c h

pub zeros-before : (a : ℕ) (r : Row) (c : ℕ) → entry (zeros a ++ r) (a + c) ≡ entry r c
zeros-before a r c = ap (λ n. entry (zeros a ++ r) (n + c)) (sym (tab_length a (λ _. int (pos 0)))) ∙ get_or-append-add (zeros a) r c (int (pos 0))

pub zeros_low : (a : ℕ) (r : Row) (c : ℕ) → c < a → entry (zeros a ++ r) c ≡ int (pos 0)
zeros_low a r c h = get_or-append (zeros a) r (int (pos 0)) c (rw (tab_length a (λ _. int (pos 0))) h) ∙ zeros-entry a c

pub padded_at : (a b : ℕ) (r : Row) (c : ℕ) → entry (padded a b r) (a + c) ≡ entry r c
padded_at a b r c = zeros-behind (zeros a ++ r) b (a + c) ∙ zeros-before a r c

pub padded-before : (a b : ℕ) (r : Row) (c : ℕ) → c < a → entry (padded a b r) c ≡ int (pos 0)
padded-before a b r c h = zeros-behind (zeros a ++ r) b c ∙ zeros_low a r c h

pub padded-behind : (a b : ℕ) (r : Row) (c : ℕ) → length r ≤ c → entry (padded a b r) (a + c) ≡ int (pos 0)
padded-behind a b r c h = padded_at a b r c ∙ entry_past r c h

pub padded_length : (a b : ℕ) (r : Row) → length (padded a b r) ≡ a + length r + b
padded_length a b r = length-append (zeros a ++ r) (zeros b) ∙ omega (arith, length-append (zeros a) r, tab_length a (λ (_ : ℕ). int (pos 0)), tab_length b (λ (_ : ℕ). int (pos 0)))

-- ---- the searches in padded jumps
abbrev shifted : ℕ → Option ℕ → Option ℕ
shifted p none = none
shifted p (some i) = some (p + i)

module _ (p q : ℕ) (js : List ℚ) where
  pub jumps-before : (i : ℕ) → i < p → jumps_at (padded p q js) i ≡ false
  jumps-before i h = ap (λ x. not (is_zero x)) (padded-before p q js i h) ∙ ap not (zero_test refl)

  pub jumps-inside : (i : ℕ) → jumps_at (padded p q js) (p + i) ≡ jumps_at js i
  jumps-inside i = ap (λ x. not (is_zero x)) (padded_at p q js i)

  pub jumps-behind : (i : ℕ) → length js ≤ i → jumps_at (padded p q js) (p + i) ≡ false
  jumps-behind i h = ap (λ x. not (is_zero x)) (padded-behind p q js i h) ∙ ap not (zero_test refl)

  -- a test of an index that is at least p, and of one that is not
  jumps_anywhere : (i : ℕ) → ((k : ℕ) → i ≡ p + k → jumps_at (padded p q js) (p + k) ≡ false) → jumps_at (padded p q js) i ≡ false
  jumps_anywhere i h = go (le_or_lt p i)
    where
      go : (p ≤ i) ⊎ (i < p) → jumps_at (padded p q js) i ≡ false
      go (inl l) = let e : i ≡ p + (i - p) = omega arith in ap (jumps_at (padded p q js)) e ∙ h (i - p) e
      go (inr l) = jumps-before i l

  first-moved : first (length (padded p q js)) (jumps_at (padded p q js)) ≡ shifted p (first (length js) (jumps_at js))
  first-moved = go (search_first (jumps_at js) (length js))
    where
      go : Searched (jumps_at js) (length js) → first (length (padded p q js)) (jumps_at (padded p q js)) ≡ shifted p (first (length js) (jumps_at js))
      go (at i s e) = first_at (jumps_at (padded p q js)) (length (padded p q js)) (p + i) (omega (arith, padded_length p q js, s.below)) (jumps-inside i ∙ s.meets)
          (λ k l. jumps_anywhere k (λ d z. jumps-inside d ∙ s.before d (omega arith))) ∙ ap (shifted p) (sym e)
      go (nowhere h e) = first-none (jumps_at (padded p q js)) (length (padded p q js)) (λ k l. jumps_anywhere k (λ d z. none_at d (le_or_lt (length js) d))) ∙ ap (shifted p) (sym e)
        where
          none_at : (d : ℕ) → (length js ≤ d) ⊎ (d < length js) → jumps_at (padded p q js) (p + d) ≡ false
          none_at d (inl l) = jumps-behind d l
          none_at d (inr l) = jumps-inside d ∙ h d l

  last-moved : last (length (padded p q js)) (jumps_at (padded p q js)) ≡ shifted p (last (length js) (jumps_at js))
  last-moved = go (search_last (jumps_at js) (length js))
    where
      go : SearchedBack (jumps_at js) (length js) → last (length (padded p q js)) (jumps_at (padded p q js)) ≡ shifted p (last (length js) (jumps_at js))
      go (at i s e) = last_at (jumps_at (padded p q js)) (length (padded p q js)) (p + i) (omega (arith, padded_length p q js, s.below)) (jumps-inside i ∙ s.meets)
          (λ k l m. jumps_anywhere k (λ d z. later_at d (omega arith) (le_or_lt (length js) d))) ∙ ap (shifted p) (sym e)
        where
          later_at : (d : ℕ) → i < d → (length js ≤ d) ⊎ (d < length js) → jumps_at (padded p q js) (p + d) ≡ false
          later_at d m (inl l) = jumps-behind d l
          later_at d m (inr l) = jumps-inside d ∙ s.after d m l
      go (nowhere h e) = last_none (jumps_at (padded p q js)) (length (padded p q js)) (λ k l. jumps_anywhere k (λ d z. none_at d (le_or_lt (length js) d))) ∙ ap (shifted p) (sym e)
        where
          none_at : (d : ℕ) → (length js ≤ d) ⊎ (d < length js) → jumps_at (padded p q js) (p + d) ≡ false
          none_at d (inl l) = jumps-behind d l
          none_at d (inr l) = jumps-inside d ∙ h d l

  between-moved : (f l : ℕ) → zero_between (padded p q js) (p + f) (p + l) ≡ zero_between js f l
  between-moved f l =
      ap (λ n. found (first n (λ d. is_zero (entry (padded p q js) (p + f + d))))) (let e : p + l - (p + f) ≡ l - f = omega arith in e)
      ∙ ap found (first_ext (l - f) (λ d h. ap (λ k. is_zero (entry (padded p q js) k)) (let e : p + f + d ≡ p + (f + d) = omega arith in e) ∙ ap is_zero (padded_at p q js (f + d))))

  partial_moved : (f i : ℕ) → partial_sum (padded p q js) (p + f) (p + i) ≡ partial_sum js f i
  unfolding partial_sum
  partial_moved f i =
      ap (λ n. sum n (λ d. entry (padded p q js) (p + f + d))) (let e : suc (p + i) - (p + f) ≡ suc i - f = omega arith in e)
      ∙ sum_ext (suc i - f) (λ d h. ap (entry (padded p q js)) (let e : p + f + d ≡ p + (f + d) = omega arith in e) ∙ padded_at p q js (f + d))

pub mapped-row : (g : Row → Row) (t : Table) (i : ℕ) → i < length t → row (map g t) i ≡ g (row t i)
mapped-row g [] i h = absurd (omega arith)
mapped-row g (r ∷ t) zero h = refl
mapped-row g (r ∷ t) (suc i) h = mapped-row g t i (omega arith)

map_take : (g : Row → Row) (n : ℕ) (t : Table) → take n (map g t) ≡ map g (take n t)
map_take g zero t = refl
map_take g (suc n) [] = refl
map_take g (suc n) (r ∷ t) = ap (λ x. g r ∷ x) (map_take g n t)

map_drop : (g : Row → Row) (n : ℕ) (t : Table) → drop n (map g t) ≡ map g (drop n t)
map_drop g zero t = refl
map_drop g (suc n) [] = refl
map_drop g (suc n) (r ∷ t) = map_drop g n t

-- The span with its rows counted in the larger table.
abbrev pub moved_span : ℕ → Span → Span
moved_span p g = record { f = p + g.f; l = p + g.l }

-- ---- the parts of a step at joins j and j', whose places correspond
module _ (ρ : ℕ → ℕ) (j j' : ℕ) (place : ρ (capped j) ≡ capped j') where
  pub count-carried : (x : ℚ) → count j' x ≡ carried ρ (λ y. y) (count j x)
  unfolding count
  count-carried x = go (fits x)
    where
      go : (b : Bool) → cond b (answer x) (refuse 8 j') ≡ carried ρ (λ y. y) (cond b (answer x) (refuse 8 j))
      go true = refl
      go false = ap (refusal 8) (sym place)

  pub span-carried : (p q : ℕ) (js : List ℚ) → span j' (padded p q js) ≡ carried ρ (moved_span p) (span j js)
  unfolding span
  span-carried p q js = ap₂ (span_of j' (padded p q js)) (first-moved p q js) (last-moved p q js) ∙ go (first (length js) (jumps_at js)) (last (length js) (jumps_at js))
    where
      ends : (f l : ℕ) (b : Bool) → cond b (refuse 9 j') (answer (moved_span p (record { f = f; l = l }))) ≡ carried ρ (moved_span p) (cond b (refuse 9 j) (answer (record { f = f; l = l })))
      ends f l true = ap (refusal 9) (sym place)
      ends f l false = refl

      go : (a b : Option ℕ) → span_of j' (padded p q js) (shifted p a) (shifted p b) ≡ carried ρ (moved_span p) (span_of j js a b)
      go none b = ap (refusal 9) (sym place)
      go (some f) none = ap (refusal 9) (sym place)
      go (some f) (some l) = ap (λ b. cond b (refuse 9 j') (answer (moved_span p (record { f = f; l = l })))) (between-moved p q js f l) ∙ ends f l (zero_between js f l)

  factor-carried : (s x : ℚ) → quotient_factor j' s x ≡ carried ρ (λ y. y) (quotient_factor j s x)
  unfolding quotient_factor
  factor-carried s x =
      carried_then ρ (λ y. y) (λ y. y) (count j s) _ _ (count-carried s)
      (λ a e. carried_then ρ (λ y. y) (λ y. y) (count j (a /ᵠ x)) _ _ (count-carried (a /ᵠ x)) (λ w h. tests w (ltᵠ (int (pos 0)) w && ltᵠ w (int (pos 1)))))
    where
      tests : (w : ℚ) (b : Bool) → cond b (answer w) (refuse 9 j') ≡ carried ρ (λ y. y) (cond b (answer w) (refuse 9 j))
      tests w true = refl
      tests w false = ap (refusal 9) (sym place)

  pub factors-carried : (p q : ℕ) (js : List ℚ) (g : Span) → factors j' (padded p q js) (moved_span p g) ≡ carried ρ (λ ws. ws) (factors j js g)
  unfolding factors
  factors-carried p q js g = carried_then ρ (λ ws. ws) (λ ws. ws) (collect (g.l - g.f - 1) (λ d. factor j js g.f (g.f + 1 + d))) _ _
      (ap (λ n. collect n (λ d. factor j' (padded p q js) (p + g.f) (p + g.f + 1 + d))) (let e : p + g.l - (p + g.f) - 1 ≡ g.l - g.f - 1 = omega arith in e)
      ∙ carried-collect ρ (λ y. y) (λ ws. ws) (λ xs x. refl) (g.l - g.f - 1) (λ d. factor j js g.f (g.f + 1 + d))
      (λ d. factor j' (padded p q js) (p + g.f) (p + g.f + 1 + d)) refl (λ d h. one d))
      (λ ws e. refl)
    where
      one : (d : ℕ) → factor j' (padded p q js) (p + g.f) (p + g.f + 1 + d) ≡ carried ρ (λ y. y) (factor j js g.f (g.f + 1 + d))
      one d =
          ap (factor j' (padded p q js) (p + g.f)) (let e : p + g.f + 1 + d ≡ p + (g.f + 1 + d) = omega arith in e)
          ∙ ap₂ (quotient_factor j') (partial_moved p q js g.f (g.f + 1 + d)) (padded_at p q js (g.f + 1 + d))
          ∙ factor-carried (partial_sum js g.f (g.f + 1 + d)) (entry js (g.f + 1 + d))

  -- ---- new rows
  new_entry-carried : (w v x y : ℚ) → new_entry j' w v x y ≡ carried ρ (λ z. z) (new_entry j w v x y)
  unfolding new_entry
  new_entry-carried w v x y =
      carried_then ρ (λ z. z) (λ z. z) (count j (w *ᵠ x)) _ _ (count-carried (w *ᵠ x))
      (λ m e. carried_then ρ (λ z. z) (λ z. z) (count j ((int (pos 1) -ᵠ v) *ᵠ y)) _ _ (count-carried ((int (pos 1) -ᵠ v) *ᵠ y)) (λ n h. count-carried (m +ᵠ n)))

  new_entry-zero : (w v : ℚ) → new_entry j' w v (int (pos 0)) (int (pos 0)) ≡ answer (int (pos 0))
  unfolding new_entry
  new_entry-zero w v =
      then_answers _ (ap (count j') (mul-zero w) ∙ count_fits j' (int (pos 0)) zero-fits)
      ∙ then_answers _ (ap (count j') (mul-zero (int (pos 1) -ᵠ v)) ∙ count_fits j' (int (pos 0)) zero-fits)
      ∙ ap (count j') (add-zero (int (pos 0))) ∙ count_fits j' (int (pos 0)) zero-fits

  new_row-carried : (a b : ℕ) (w v : ℚ) (r r' : Row) → length r' ≡ length r → new_row j' w v (padded a b r) (padded a b r') ≡ carried ρ (padded a b) (new_row j w v r r')
  new_row-carried a b w v r r' same =
      ap (λ n. collect n new) (padded_length a b r)
      ∙ framed_collect ρ (int (pos 0)) a b (length r) (λ c. new_entry j w v (entry r c) (entry r' c)) new b
      (λ c h. ap₂ (new_entry j' w v) (padded-before a b r c h) (padded-before a b r' c h) ∙ new_entry-zero w v)
      (λ c h. ap₂ (new_entry j' w v) (padded_at a b r c) (padded_at a b r' c) ∙ new_entry-carried w v (entry r c) (entry r' c))
      (λ c h. ap new (let e : a + length r + c ≡ a + (length r + c) = omega arith in e)
      ∙ ap₂ (new_entry j' w v) (padded-behind a b r (length r + c) (omega arith)) (padded-behind a b r' (length r + c) (omega (arith, same))) ∙ new_entry-zero w v)
    where
      new : ℕ → Outcome ℚ
      new c = new_entry j' w v (entry (padded a b r) c) (entry (padded a b r') c)

-- ---- a table in a larger one

-- The same step at join j on a table and at join j' on a larger one, with the places corresponding by ρ: zeros stand before and behind
-- the columns of the table, whose rows jump as they do by themselves, and the rows above and below it do not jump.
pub record Around (ρ : ℕ → ℕ) (j j' : ℕ) (κ κ' : List Entry) : Type 0 where
  pub place : ρ (capped j) ≡ capped j'
  pub before : ℕ
  pub behind : ℕ
  pub above : Table
  pub below : Table
  pub same : (r : Row) → jump j' κ' (padded before behind r) ≡ carried ρ (λ x. x) (jump j κ r)
  pub above_quiet : (i : ℕ) → i < length above → jump j' κ' (row above i) ≡ answer (int (pos 0))
  pub below_quiet : (i : ℕ) → i < length below → jump j' κ' (row below i) ≡ answer (int (pos 0))

module _ {ρ : ℕ → ℕ} {j j' : ℕ} {κ κ' : List Entry} (E : Around ρ j j' κ κ') where
  abbrev pad : Row → Row
  pad = padded E.before E.behind

  abbrev pub embedded : Table → Table
  embedded t = E.above ++ map pad t ++ E.below

  -- how many rows stand above and below
  abbrev p : ℕ
  p = length E.above

  abbrev q : ℕ
  q = length E.below

  module _ (t : Table) where
    front_length : length (E.above ++ map pad t) ≡ p + length t
    front_length = length-append E.above (map pad t) ∙ omega (arith, length-map t pad)

    pub embedded_length : length (embedded t) ≡ p + length t + q
    embedded_length = length-append (E.above ++ map pad t) E.below ∙ omega (arith, front_length)

    row-above : (i : ℕ) → i < p → row (embedded t) i ≡ row E.above i
    row-above i h = get_or-append (E.above ++ map pad t) E.below [] i (omega (arith, front_length)) ∙ get_or-append E.above (map pad t) [] i h

    row_inside : (i : ℕ) → i < length t → row (embedded t) (p + i) ≡ pad (row t i)
    row_inside i h =
        get_or-append (E.above ++ map pad t) E.below [] (p + i) (omega (arith, front_length))
        ∙ get_or-append-add E.above (map pad t) i []
        ∙ mapped-row pad t i h

    row_below : (i : ℕ) → row (embedded t) (p + length t + i) ≡ row E.below i
    row_below i = ap (λ n. row (embedded t) (n + i)) (sym front_length) ∙ get_or-append-add (E.above ++ map pad t) E.below i []

    -- the jumps, with none above and below
    pub jumps-carried : jumps j' κ' (embedded t) ≡ carried ρ (padded p q) (jumps j κ t)
    jumps-carried =
        ap (λ n. collect n (λ i. jump j' κ' (row (embedded t) i))) embedded_length
        ∙ framed_collect ρ (int (pos 0)) p q (length t) (λ i. jump j κ (row t i)) (λ i. jump j' κ' (row (embedded t) i)) q
        (λ i h. ap (jump j' κ') (row-above i h) ∙ E.above_quiet i h)
        (λ i h. ap (jump j' κ') (row_inside i h) ∙ E.same (row t i))
        (λ i h. ap (jump j' κ') (row_below i) ∙ E.below_quiet i h)

    module _ (n : ℕ) (wide : Wide n t) where
      new_rows-carried : (g : Span) (ws : List ℚ) → g.l < length t → new_rows j' (moved_span p g) ws (embedded t) ≡ carried ρ (map pad) (new_rows j g ws t)
      unfolding new_rows
      new_rows-carried g ws within =
          ap (λ k. collect k new) (let e : p + g.l - (p + g.f) ≡ g.l - g.f = omega arith in e)
          ∙ carried-collect ρ pad (map pad) (λ xs x. map-append pad xs (x ∷ [])) (g.l - g.f) old new refl (λ d h. one d h)
        where
          old : ℕ → Outcome Row
          old d = new_row j (entry ws d) (entry ws (suc d)) (row t (g.f + d)) (row t (g.f + suc d))

          new : ℕ → Outcome Row
          new d = new_row j' (entry ws d) (entry ws (suc d)) (row (embedded t) (p + g.f + d)) (row (embedded t) (p + g.f + suc d))

          there : (d : ℕ) → g.f + d < length t → row (embedded t) (p + g.f + d) ≡ pad (row t (g.f + d))
          there d h = ap (row (embedded t)) (let e : p + g.f + d ≡ p + (g.f + d) = omega arith in e) ∙ row_inside (g.f + d) h

          one : (d : ℕ) → d < g.l - g.f → new d ≡ carried ρ pad (old d)
          one d h =
              ap₂ (new_row j' (entry ws d) (entry ws (suc d))) (there d (omega arith)) (there (suc d) (omega arith))
              ∙ new_row-carried ρ j j' E.place E.before E.behind (entry ws d) (entry ws (suc d)) (row t (g.f + d)) (row t (g.f + suc d))
              (wide.each (g.f + suc d) (omega arith) ∙ sym (wide.each (g.f + d) (omega arith)))

      -- the rows replaced in the larger table
      spliced : (f l : ℕ) (rs : Table) → f ≤ length t → suc l ≤ length t → take (p + f) (embedded t) ++ (map pad rs ++ drop (suc (p + l)) (embedded t)) ≡ embedded (take f t ++ (rs ++ drop (suc l) t))
      spliced f l rs h k =
          spliced-within E.above (map pad t) E.below (map pad rs) f l (rw (length-map t pad) h) (rw (length-map t pad) k)
          ∙ ap (λ x. E.above ++ x ++ E.below) (ap₂ (λ x y. x ++ (map pad rs ++ y)) (map_take pad f t) (map_drop pad (suc l) t) ∙ sym (mapped (take f t) rs (drop (suc l) t)))
        where
          mapped : (x y z : Table) → map pad (x ++ (y ++ z)) ≡ map pad x ++ (map pad y ++ map pad z)
          mapped x y z = map-append pad x (y ++ z) ∙ ap (λ u. map pad x ++ u) (map-append pad y z)

      -- the second half of a step, for rows of the table
      pub renewed_carried : (g : Span) (ws : List ℚ) → g.f ≤ g.l → g.l < length t → rows_renewed j' (moved_span p g) ws (embedded t) ≡ carried ρ embedded (rows_renewed j g ws t)
      unfolding rows_renewed
      renewed_carried g ws order within =
          carried_then ρ (map pad) embedded (new_rows j g ws t) _ _ (new_rows-carried g ws within) (λ rs h. ap answer (spliced g.f g.l rs (omega arith) (omega arith)))

      mixed_carried : (js : List ℚ) (g : Span) → Spans js g.f g.l → length js ≡ length t → mixed j' (embedded t) (padded p q js) (moved_span p g) ≡ carried ρ embedded (mixed j t js g)
      unfolding rows_renewed
      mixed_carried js g s size =
          carried_then ρ (λ ws. ws) embedded (factors j js g) _ _ (factors-carried ρ j j' E.place p q js g)
          (λ ws e. renewed_carried g ws s.ordered (omega (arith, s.below, size)))

      pub embedded_step : step j' κ' (embedded t) ≡ carried ρ embedded (step j κ t)
      embedded_step =
          step_in_order j' κ' (embedded t)
          ∙ carried_then ρ (padded p q) embedded (jumps j κ t) _ _ jumps-carried
          (λ js e. carried_then ρ (moved_span p) embedded (span j js) _ _ (span-carried ρ j j' E.place p q js)
          (λ g h. mixed_carried js g (span_inverts j js h) (jumps_length j κ t e)))
          ∙ ap (carried ρ embedded) (sym (step_in_order j κ t))
