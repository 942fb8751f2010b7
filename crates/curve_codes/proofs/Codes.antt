-- Which numbers the reach and piece calls can give, proved test by test: without positions two tests of the curve call never refuse.
use mathlib.Core.Path.{◌≡◌, subst}
use mathlib.Core.Bool.{cond}
use mathlib.Core.List.{List, []}
use mathlib.Core.Option.{Option, some, none}
use Prim.Native.Nat.{ℕ, ◌*◌, ◌<◌}
use native.Mathlib.Omega.{arith}
use lib.Dec.{eqb}
use lib.IntN.{ℤ}
use lib.ListN.{length}
use Rattle.base_outcome.specs.Outcome.{Outcome, answer, refuse, largest_place, ◌then◌}
use Rattle.base_outcome.specs.Search.{first}
use Rattle.base_outcome.proofs.Outcome.{RefusedAs, answer_refused, then_refused}
use Rattle.spec_spline.specs.Space.{Space, lengths_fit, checked_entries, row_count}
use Rattle.spec_spline.specs.Build.{weights}
use Rattle.spec_spline.specs.Reading.{values}
use Rattle.spec_spline.specs.CurveCall.{bad_coefficient, legal_entries, curve_checked, curve_read, curve_outcome}
use Rattle.spec_spline.proofs.Legal.{checked_inverts}
use Rattle.theorems_values.proofs.LegalCall.{checks-passed}
use Rattle.theorems_codes.specs.Codes.{SpaceRefusal}
use Rattle.theorems_codes.proofs.Refused.{refuse_as, cond_as, first_as, with_as, more_as}
use Rattle.theorems_codes.proofs.Codes.{small, long_as, listed_as, lengths_as, weights_as, space-above}
use Rattle.spec_calls.specs.CurveAlone.{curve_alone}
use Rattle.spec_calls.specs.Positions.{position_count}
use Rattle.spec_calls.specs.Reach.{reaches, reached_at, reach_outcome}
use Rattle.spec_calls.specs.Pieces.{is_drawable, piece_of, piece_outcome}
use Rattle.curve_codes.specs.Codes.{AloneRefusal, short_buffer, of_space, coefficient_count, at_coefficient, ReachRefusal, PieceRefusal, of_curve, unreached, undrawable, ReachNumbers, PieceNumbers}

module _ (s : Space) (coefs : List ℤ) where
  abbrev A : ℕ → ℕ → Type 0
  A = AloneRefusal s coefs

  of_space_lem : {B : Type 0} (o : Outcome B) → RefusedAs (SpaceRefusal s) o → RefusedAs A o
  of_space_lem o h = more_as (SpaceRefusal s) A o (λ c p r. of_space r) h

  entries_as : (l : Space) → RefusedAs A (legal_entries l coefs [] (answer l))
  unfolding first
  entries_as l = cond_as A (eqb (length coefs) (2 * row_count l)) _ (refuse 6 largest_place)
      (first_as A 6 (length coefs) (bad_coefficient coefs) _ (λ i h. at_coefficient i h) (answer_refused A l))
      (refuse_as A 6 largest_place (small (A 6) largest_place (omega arith) coefficient_count))

  checked_as : RefusedAs A (curve_checked s coefs [])
  unfolding curve_checked
  checked_as = cond_as A (lengths_fit s) _ (refuse 2 0)
      (then_refused A (checked_entries s) (λ legal. legal_entries legal coefs [] (answer legal)) (of_space_lem (checked_entries s) (listed_as s)) (λ l e. entries_as l))
      (of_space_lem (refuse 2 0) (lengths_as s))

  alone_as : (num_length den_length : ℕ) → RefusedAs A (curve_alone s coefs num_length den_length)
  unfolding curve_outcome curve_read
  alone_as num_length den_length =
      long_as A num_length den_length _ (λ i h. short_buffer i h)
      (then_refused A (curve_checked s coefs []) (curve_read coefs []) checked_as read)
    where
      read : (l : Space) → curve_checked s coefs [] ≡ answer l → RefusedAs A (curve_read coefs [] l)
      read l e = let c = checks-passed s coefs [] e in subst (λ r. RefusedAs A (curve_read coefs [] r)) c.1
          (with_as A (λ t. record { table = t; values = values s t coefs [] }) (weights s) (of_space_lem (weights s) (weights_as s (checked_inverts s c.0.space).1)))

-- ---- none is 0

alone-above : {s : Space} {coefs : List ℤ} {code place : ℕ} → AloneRefusal s coefs code place → 0 < code
alone-above (short_buffer i h) = omega arith
alone-above (of_space r) = space-above r
alone-above coefficient_count = omega arith
alone-above (at_coefficient i h) = omega arith

reach_above : {s : Space} {coefs : List ℤ} {code place : ℕ} → ReachRefusal s coefs code place → 0 < code
reach_above (of_curve r) = alone-above r
reach_above unreached = omega arith

piece-above : {s : Space} {coefs : List ℤ} {k code place : ℕ} → PieceRefusal s coefs k code place → 0 < code
piece-above (of_curve r) = alone-above r
piece-above undrawable = omega arith

-- ---- the calls

pub reach_numbers : ReachNumbers
unfolding reach_outcome
reach_numbers s wood coefs width num den code place e = let r = all code place e in (r, reach_above r)
  where
    P : ℕ → ℕ → Type 0
    P = ReachRefusal s coefs

    found : (o : Option ℕ) → RefusedAs P (reached_at s o)
    found (some i) = answer_refused P _
    found none = refuse_as P 16 0 (small (P 16) 0 (omega arith) unreached)

    all : RefusedAs P (curve_alone s coefs (length num) (length den) then λ r. reached_at s (first (position_count s) (reaches s r.table wood coefs width)))
    all = then_refused P (curve_alone s coefs (length num) (length den)) _ (more_as (AloneRefusal s coefs) P _ (λ c p r. of_curve r) (alone_as s coefs (length num) (length den)))
        (λ r h. found (first (position_count s) (reaches s r.table wood coefs width)))

pub piece-numbers : PieceNumbers
unfolding piece_outcome
piece-numbers s wood coefs k num den code place e = let r = all code place e in (r, piece-above r)
  where
    P : ℕ → ℕ → Type 0
    P = PieceRefusal s coefs k

    all : RefusedAs P (curve_alone s coefs (length num) (length den) then λ r. cond (is_drawable s k) (answer (piece_of s r.table wood coefs k)) (refuse 17 k))
    all = then_refused P (curve_alone s coefs (length num) (length den)) _ (more_as (AloneRefusal s coefs) P _ (λ c p r. of_curve r) (alone_as s coefs (length num) (length den)))
        (λ r h. cond_as P (is_drawable s k) (answer (piece_of s r.table wood coefs k)) (refuse 17 k) (answer_refused P _) (refuse_as P 17 k undrawable))
