-- A piece by the ordinates of all columns: code 17, the piece of the definition, and the call's outcome.
use mathlib.Core.Path.{◌≡◌, refl, sym, ◌∙◌, ap, subst}
use mathlib.Core.Logic.{◌⊎◌, inl, inr}
use mathlib.Core.Bool.{true, false, cond}
use mathlib.Core.List.{List, ◌++◌}
use Prim.Native.Nat.{ℕ, suc, ◌+◌, ◌<◌, ◌≤◌}
use native.Mathlib.Omega.{arith}
use borrow.Author.Tests.{lt-ltb, le-ltb, le-leb, lt-leb}
use lib.IntN.{ℤ, pos}
use lib.ListN.{get_or, get_or-append}
use Rattle.std.specs.Prelude.{Result, Ok, Err}
use Rattle.base_outcome.specs.declared.Refusal.{Refusal}
use Rattle.base_outcome.specs.Machine as machine
use Rattle.base_exact.proofs.Decide.{le_or_lt, cond_true, cond_false}
use Rattle.base_exact.proofs.Tabulate.{tab_get_d, tab_ext}
use Rattle.base_outcome.specs.Outcome.{answer, refusal, refuse, largest_place}
use Rattle.spec_spline.specs.Space.{Space, segments, break, degree, first_column, column_count}
use Rattle.spec_spline.specs.Table.{Table}
use Rattle.spec_spline.specs.Reading.{Wood, coefficient, ordinate, ordinates}
use Rattle.spec_spline.specs.CurveCall.{CurveResult}
use Rattle.base_outcome.proofs.Outcome.{capped_small, then_answers, then_refuses}
use Rattle.theorems_values.proofs.Value.{segment-column}
use Rattle.curve_parts.proofs.Fronts.{ordinates_length}
use Rattle.spec_calls.specs.CurveAlone.{curve_alone}
use Rattle.spec_calls.specs.Pieces.{is_drawable, drawable_degree, piece_of, piece_outcome}
use Rattle.curve_pieces.specs.Machine.{Shows, Replies, drawn, refused, piece_held, drawn_held}
use Rattle.curve_pieces.specs.declared.Drawing.{Drawing}

-- ---- code 17

module _ (s : Space) (os : List ℤ) (k : ℕ) where
  drawable : k < segments s → degree s k ≤ drawable_degree → is_drawable s k ≡ true
  unfolding is_drawable
  drawable h l = rw (lt-ltb k (segments s) h) (le-leb (degree s k) drawable_degree l)

  missing : segments s ≤ k → is_drawable s k ≡ false
  unfolding is_drawable
  missing h = rw (le-ltb k (segments s) h) refl

  too_high : k < segments s → drawable_degree < degree s k → is_drawable s k ≡ false
  unfolding is_drawable
  too_high h l = rw (lt-ltb k (segments s) h) (lt-leb (degree s k) drawable_degree l)

  not-drawn : k ≤ largest_place → is_drawable s k ≡ false → Replies (Err (machine.refused 17 k)) (drawn_held s os k)
  not-drawn h e =
      subst (Replies (Err (machine.refused 17 k))) (ap (refusal 17) (sym (capped_small k h))
      ∙ sym (cond_false (answer (piece_held s os k)) (refuse 17 k) e)) refused

  pub missing_replies : k ≤ largest_place → segments s ≤ k → Replies (Err (machine.refused 17 k)) (drawn_held s os k)
  missing_replies h l = not-drawn h (missing l)

  pub high-replies : k ≤ largest_place → k < segments s → drawable_degree < degree s k → Replies (Err (machine.refused 17 k)) (drawn_held s os k)
  high-replies h l m = not-drawn h (too_high l m)

  pub drawn_replies : {r : Drawing} → k < segments s → degree s k ≤ drawable_degree → Shows r (piece_held s os k)
      → Replies (Ok r) (drawn_held s os k)
  drawn_replies {r} h l p = subst (Replies (Ok r)) (sym (cond_true (answer (piece_held s os k)) (refuse 17 k) (drawable h l))) (drawn p)

-- ---- the piece of the definition

module _ (s : Space) (t : Table) (wood : Wood) (coefs rest : List ℤ) (k : ℕ) where
  abbrev own : ℕ → ℤ
  own = ordinate t (coefficient wood coefs)

  abbrev all : List ℤ
  all = ordinates s t (coefficient wood coefs) ++ rest

  column-held : k < segments s → (i : ℕ) → i < suc (degree s k) → get_or all (first_column s k + i) (pos 0) ≡ own (first_column s k + i)
  unfolding ordinates
  column-held h i l =
      let c = segment-column s k i h (omega arith) in
      get_or-append (ordinates s t (coefficient wood coefs)) rest (pos 0) (first_column s k + i)
      (rw (ordinates_length s t (coefficient wood coefs)) c)
      ∙ tab_get_d (column_count s) own (first_column s k + i) (pos 0) c

  held_is : k < segments s → piece_held s all k ≡ piece_of s t wood coefs k
  unfolding piece_of
  held_is h = ap (λ os. record { ordinates = os; start = break s k; end = break s (suc k) }) (tab_ext (suc (degree s k)) (column-held h))

  pub drawn_is : drawn_held s all k ≡ cond (is_drawable s k) (answer (piece_of s t wood coefs k)) (refuse 17 k)
  drawn_is = go (le_or_lt (segments s) k)
    where
      go : (segments s ≤ k) ⊎ (k < segments s) → drawn_held s all k ≡ cond (is_drawable s k) (answer (piece_of s t wood coefs k)) (refuse 17 k)
      go (inl h) = cond_false _ _ (missing s all k h) ∙ sym (cond_false _ _ (missing s all k h))
      go (inr h) = ap (λ p. cond (is_drawable s k) (answer p) (refuse 17 k)) (held_is h)

-- ---- the call's outcome

module _ (s : Space) (wood : Wood) (coefs : List ℤ) (k num_length den_length : ℕ) where
  pub piece_refused : {code place : ℕ} → curve_alone s coefs num_length den_length ≡ refusal code place
      → Replies (Err (machine.refused code place)) (piece_outcome s wood coefs k num_length den_length)
  unfolding piece_outcome
  piece_refused {code} {place} e =
      subst (Replies (Err (machine.refused code place))) (sym
      (then_refuses (λ r. cond (is_drawable s k) (answer (piece_of s r.table wood coefs k)) (refuse 17 k)) e)) refused

  pub piece_drawn : {a : Result Drawing Refusal} {os : List ℤ} (rest : List ℤ) (c : CurveResult) → curve_alone s coefs num_length den_length ≡ answer c
      → os ≡ ordinates s c.table (coefficient wood coefs) ++ rest
      → Replies a (drawn_held s os k) → Replies a (piece_outcome s wood coefs k num_length den_length)
  unfolding piece_outcome
  piece_drawn {a} rest c e o r = subst (Replies a)
      (ap (λ os. drawn_held s os k) o ∙ drawn_is s c.table wood coefs rest k
      ∙ sym (then_answers (λ r. cond (is_drawable s k) (answer (piece_of s r.table wood coefs k)) (refuse 17 k)) e)) r
