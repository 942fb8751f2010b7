-- Two tables side by side: a step by a condition on the columns of one acts on that table alone, and the identity is two identities
-- side by side. So tables are a kind of state that a beam is cut with.
use mathlib.Core.Path.{◌≡◌, refl, sym, ◌∙◌, ap, ap₂}
use mathlib.Core.Bool.{true, cond}
use mathlib.Core.List.{List, [], ◌∷◌, ◌++◌, map, append-nil}
use Prim.Native.Nat.{ℕ, ◌+◌, ◌<◌}
use native.Mathlib.Omega.{arith}
use native.Mathlib.Decide.{ℕ_discrete}
use native.Mathlib.Nat.{zero-add as nothing-add}
use borrow.Author.Tests.{eq-eqb, ne_eqb}
use lib.Dec.{eqb}
use lib.IntN.{pos}
use lib.ListN.{length, length-map}
use Rattle.base_exact.specs.Rational.{ℚ, int, ◌+ᵠ◌, ◌*ᵠ◌}
use Rattle.base_exact.specs.Tabulate.{tab}
use Rattle.base_exact.proofs.Decide.{cond_false}
use Rattle.base_exact.proofs.Rational.{zero-mul, add-zero}
use Rattle.base_exact.proofs.Tabulate.{tab_ext, tab-add, map_tab}
use Rattle.base_outcome.specs.Outcome.{answer, capped}
use Rattle.base_outcome.proofs.Outcome.{then_answers}
use Rattle.spec_spline.specs.Space.{Space, segments, starts_part, column_count}
use Rattle.spec_spline.specs.Conditions.{Entry}
use Rattle.spec_spline.specs.Table.{Row, Table, entry, row, identity}
use Rattle.spec_spline.specs.Step.{add_products, count, jump, step}
use Rattle.spec_spline.specs.Build.{order_steps, join_steps, weights}
use Rattle.spec_spline.proofs.Conditions.{Inside, none, more}
use Rattle.spec_spline.proofs.Table.{entry_past, identity-rows, identity_wide}
use Rattle.spec_spline.proofs.Step.{count_fits, products_none, products_more, one_more}
use Rattle.spec_spline.proofs.Shape.{Wide, step_shaped}
use Rattle.spec_spline.proofs.TableFits.{zero-fits}
use Rattle.theorems_beams.specs.Sections.{section, zeros, beside}
use Rattle.theorems_beams.proofs.Carried.{carried, carried_ext, capped-later, carried_then, joined}
use Rattle.theorems_beams.proofs.Embedded.{padded, padded_at, zeros-behind, zeros_low, count-carried, mapped-row, Around, embedded, embedded_step}
use Rattle.theorems_beams.proofs.Sections.{moved, OrdersFit}
use Rattle.theorems_beams.proofs.Cut.{Kind, cut-run}

-- ---- jumps of padded rows, and of rows that have zeros in the condition's columns

pub products_carried : (ρ : ℕ → ℕ) (j j' : ℕ) → ρ (capped j) ≡ capped j' → (a : ℕ) (r r' : Row) → ((c : ℕ) → entry r' (a + c) ≡ entry r c) → (s : ℚ) (κ : List Entry)
    → add_products j' r' s (moved a κ) ≡ carried ρ (λ x. x) (add_products j r s κ)
unfolding add_products
products_carried ρ j j' place a r r' same s [] = refl
products_carried ρ j j' place a r r' same s (e ∷ κ) =
    carried_then ρ (λ x. x) (λ x. x) (count j (entry r e.column *ᵠ int e.condition)) _ _
    (ap (λ x. count j' (x *ᵠ int e.condition)) (same e.column) ∙ count-carried ρ j j' place (entry r e.column *ᵠ int e.condition))
    (λ p h. carried_then ρ (λ x. x) (λ x. x) (count j (s +ᵠ p)) _ _ (count-carried ρ j j' place (s +ᵠ p)) (λ t k. products_carried ρ j j' place a r r' same t κ))

quiet : (j a n : ℕ) (r : Row) → ((c : ℕ) → c < n → entry r (a + c) ≡ int (pos 0)) → {κ : List Entry} → Inside n κ → jump j (moved a κ) r ≡ answer (int (pos 0))
quiet j a n r nothing none = products_none j r (int (pos 0))
quiet j a n r nothing (more {e = e} {es = es} h I) = products_more j r (int (pos 0)) (record { column = a + e.column; condition = e.condition }) (moved a es) product ∙ quiet j a n r nothing I
  where
    product : one_more j r (int (pos 0)) (record { column = a + e.column; condition = e.condition }) ≡ answer (int (pos 0))
    product =
        then_answers (λ p. count j (int (pos 0) +ᵠ p))
        (ap (λ x. count j (x *ᵠ int e.condition)) (nothing e.column h) ∙ ap (count j) (zero-mul (int e.condition)) ∙ count_fits j (int (pos 0)) zero-fits)
        ∙ ap (count j) (add-zero (int (pos 0))) ∙ count_fits j (int (pos 0)) zero-fits

-- ---- one step on two tables side by side
module _ (left right : ℕ) where
  -- on the left one: its rows jump as they do by themselves, the others do not
  pub left_quiet : (j : ℕ) {κ : List Entry} → Inside left κ → (r : Row) → jump j (moved 0 κ) (zeros left ++ r) ≡ answer (int (pos 0))
  left_quiet j inside r = quiet j 0 left (zeros left ++ r) (λ c l. ap (entry (zeros left ++ r)) (nothing-add c) ∙ zeros_low left r c l) inside

  unfoldable pub left_around : (j : ℕ) (κ : List Entry) (u : Table) → Inside left κ → Around (λ p. p) j j κ (moved 0 κ)
  left_around j κ u inside = record {
    place = refl;
    before = 0;
    behind = right;
    above = [];
    below = map (λ r. zeros left ++ r) u;
    same = λ r. products_carried (λ p. p) j j refl 0 r (padded 0 right r) (padded_at 0 right r) (int (pos 0)) κ;
    above_quiet = λ i h. absurd (omega arith);
    below_quiet = λ i h. ap (jump j (moved 0 κ)) (mapped-row (λ r. zeros left ++ r) u i (rw (length-map u (λ r. zeros left ++ r)) at h)) ∙ left_quiet j inside (row u i);
  }

  pub left_step : (j : ℕ) (κ : List Entry) (t u : Table) → Wide left t → Inside left κ → step j (moved 0 κ) (beside left right t u) ≡ carried (λ p. p) (λ t'. beside left right t' u) (step j κ t)
  unfolding beside tab left_around
  left_step j κ t u wide inside = embedded_step (left_around j κ u inside) t left wide

  -- on the right one, d joins later
  pub right_quiet : (j : ℕ) {κ : List Entry} → Inside right κ → (r : Row) → length r ≡ left → jump j (moved left κ) (r ++ zeros right) ≡ answer (int (pos 0))
  right_quiet j inside r size = quiet j left right (r ++ zeros right) (λ c l. zeros-behind r right (left + c) ∙ entry_past r (left + c) (rw size (omega arith))) inside

  unfoldable pub right_around : (d j : ℕ) (κ : List Entry) (t : Table) → Wide left t → Inside right κ → Around (λ p. capped (d + p)) j (d + j) κ (moved left κ)
  right_around d j κ t wide inside = record {
    place = capped-later d j;
    before = left;
    behind = 0;
    above = map (λ r. r ++ zeros right) t;
    below = [];
    same = λ r. products_carried (λ p. capped (d + p)) j (d + j) (capped-later d j) left r (padded left 0 r) (padded_at left 0 r) (int (pos 0)) κ;
    above_quiet = λ i h. let k : i < length t = rw (length-map t (λ r. r ++ zeros right)) at h in
        ap (jump (d + j) (moved left κ)) (mapped-row (λ r. r ++ zeros right) t i k) ∙ right_quiet (d + j) inside (row t i) (wide.each i k);
    below_quiet = λ i h. absurd (omega arith);
  }

  pub right_embedded : (d j : ℕ) (κ : List Entry) (t u : Table) (wide : Wide left t) (inside : Inside right κ) → embedded (right_around d j κ t wide inside) u ≡ beside left right t u
  unfolding beside tab right_around
  right_embedded d j κ t u wide inside = append-nil (map (λ r. r ++ zeros right) t ++ map (padded left 0) u) ∙ ap (λ x. map (λ r. r ++ zeros right) t ++ x) (rows u)
    where
      rows : (u : Table) → map (padded left 0) u ≡ map (λ r. zeros left ++ r) u
      rows [] = refl
      rows (r ∷ u) = ap₂ ◌∷◌ (append-nil (zeros left ++ r)) (rows u)

  pub right-step : (d j : ℕ) (κ : List Entry) (t u : Table) → Wide left t → Wide right u → Inside right κ
      → step (d + j) (moved left κ) (beside left right t u) ≡ carried (λ p. capped (d + p)) (beside left right t) (step j κ u)
  right-step d j κ t u wide wide' inside =
      ap (step (d + j) (moved left κ)) (sym (right_embedded d j κ t u wide inside))
      ∙ embedded_step (right_around d j κ t wide inside) u right wide'
      ∙ carried_ext (λ p. capped (d + p)) (step j κ u) (λ x. right_embedded d j κ t x wide inside)

  -- ---- the identity
  eqb_moved : (i k : ℕ) → eqb (left + i) (left + k) ≡ eqb i k
  eqb_moved i k = go (ℕ_discrete i k)
    where
      go : Dec (i ≡ k) → eqb (left + i) (left + k) ≡ eqb i k
      go (yes e) = eq-eqb (left + i) (left + k) (ap (λ n. left + n) e) ∙ sym (eq-eqb i k e)
      go (no n) = ne_eqb (left + i) (left + k) (λ e. n (omega arith)) ∙ sym (ne_eqb i k n)

  pub identity-beside : identity (left + right) ≡ beside left right (identity left) (identity right)
  unfolding identity beside
  identity-beside =
      tab-add left right (λ i. tab (left + right) (one i))
      ∙ ap₂ ◌++◌ (tab_ext left (λ i h. upper i h) ∙ sym (map_tab (λ r. r ++ zeros right) left (λ i. tab left (one i))))
      (tab_ext right (λ i h. lower i) ∙ sym (map_tab (λ r. zeros left ++ r) right (λ i. tab right (one i))))
    where
      one : ℕ → ℕ → ℚ
      one i k = cond (eqb i k) (int (pos 1)) (int (pos 0))

      upper : (i : ℕ) → i < left → tab (left + right) (one i) ≡ tab left (one i) ++ zeros right
      upper i h = tab-add left right (one i) ∙ ap (λ x. tab left (one i) ++ x) (tab_ext right (λ k l. cond_false (int (pos 1)) (int (pos 0)) (ne_eqb i (left + k) (λ e. omega arith))))

      lower : (i : ℕ) → tab (left + right) (one (left + i)) ≡ zeros left ++ tab right (one i)
      lower i =
          tab-add left right (one (left + i))
          ∙ ap₂ ◌++◌ (tab_ext left (λ k l. cond_false (int (pos 1)) (int (pos 0)) (ne_eqb (left + i) k (λ e. omega arith))))
          (tab_ext right (λ k l. ap (λ b. cond b (int (pos 1)) (int (pos 0))) (eqb_moved i k)))

-- ---- tables as a kind of state

pub keeps_wide : (width j : ℕ) (κ : List Entry) (t t' : Table) → Wide width t → step j κ t ≡ answer t' → Wide width t'
keeps_wide width j κ t t' W e = (step_shaped width (length t) j κ t (record { wide = W; rows = refl }) e).wide

pub identity_is_wide : (n : ℕ) → Wide n (identity n)
identity_is_wide n = record { each = λ i h. identity_wide n i (rw (identity-rows n) at h) }

-- the table at the start is the identity, whatever the columns
abbrev pub tables : ℕ → Kind Table
tables columns = record {
  act = step;
  Fits = Wide;
  beside = beside;
  keeps = keeps_wide;
  on-left = left_step;
  on-right = right-step;
  columns = columns;
  start = λ c n. identity n;
  start_fits = λ c n h. identity_is_wide n;
  start-beside = λ c m n. identity-beside m n;
}

-- the weights of a beam that is cut before segment a
pub cut-weights : (s : Space) → OrdersFit s → (a n : ℕ) → a + n ≡ segments s → starts_part s a ≡ true → 0 < n
    → weights s ≡ joined a (beside (column_count (section s 0 a)) (column_count (section s a n))) (weights (section s 0 a)) (weights (section s a n))
unfolding weights join_steps order_steps
cut-weights s F a n whole starts some = cut-run (tables (column_count s)) s F a n whole starts some 0 (omega arith)
