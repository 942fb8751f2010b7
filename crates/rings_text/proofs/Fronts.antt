-- A text at the front of a buffer, and another put behind it.
use mathlib.Core.Path.{◌≡◌, sym, ◌∙◌, ap}
use mathlib.Core.Logic.{◌⊎◌, inl, inr}
use mathlib.Core.List.{List, ◌++◌}
use Prim.Native.Nat.{ℕ, ◌+◌, ◌-◌, ◌<◌, ◌≤◌}
use native.Mathlib.Omega.{arith}
use borrow.Author.Tests.{eq-eqb, ne_eqb}
use lib.ListN.{length, take, get_or, length-append, get_or-append}
use lib.Seq.{ext_get_or, get_or-take, get_or-append-add, length-take-le}
use Rattle.base_exact.proofs.Decide.{le_or_lt}
use Rattle.base_text.specs.Bytes.{Text}
use Rattle.base_print.specs.Buffer.{written, Puts}
use Rattle.base_print.proofs.Buffer.{written_length, written-before, written-inside}
use Rattle.spec_spline.specs.CurveCall.{position_limit}
use Rattle.spec_rings.specs.Rings.{faulty_ring}
use Rattle.rings_read.specs.Machine.{Front}

module _ {a t : Text} {n l r : ℕ} {out end : List ℕ} (f : Front a n out) (p : Puts l n t out end r) (room : n + l ≤ length out) where
  size : length a ≡ n
  size = ap length (sym f.is) ∙ length-take-le n out f.fits

  last : r ≡ n + length t
  last = p.behind

  fits_out : r ≤ length out
  fits_out = omega (arith, p.near)

  same_length : length end ≡ length out
  same_length = ap length p.contents ∙ written_length n t out

  fits_end : r ≤ length end
  fits_end = omega (arith, fits_out, same_length)

  taken : length (take r end) ≡ r
  taken = length-take-le r end fits_end

  each : (k : ℕ) → k < r → get_or (take r end) k 0 ≡ get_or (a ++ t) k 0
  each k h = get_or-take r end k 0 h ∙ ap (λ (xs : List ℕ). get_or xs k 0) p.contents ∙ go (le_or_lt n k)
    where
      go : (n ≤ k) ⊎ (k < n) → get_or (written n t out) k 0 ≡ get_or (a ++ t) k 0
      go (inl m) =
          written-inside n t out k (omega (arith, fits_out)) m (omega (arith, last))
          ∙ sym (ap (λ (i : ℕ). get_or (a ++ t) i 0) (let e : k ≡ length a + (k - n) = omega (arith, size) in e) ∙ get_or-append-add a t (k - n) 0)
      go (inr m) =
          written-before n t out k (omega (arith, fits_out)) m
          ∙ sym (get_or-take n out k 0 m)
          ∙ ap (λ (xs : List ℕ). get_or xs k 0) f.is
          ∙ sym (get_or-append a t 0 k (omega (arith, size)))

  -- both texts are the front
  pub front_then : Front (a ++ t) r end
  front_then = record {
    fits = fits_end;
    is = ext_get_or 0 (take r end) (a ++ t) (omega (arith, taken, length-append a t, size, last)) (λ k h. each k (omega (arith, taken)));
  }

-- ---- the first ring at fault
pub faulty_many : (code place : ℕ) → code ≡ 2 → position_limit ≡ faulty_ring code place
unfolding faulty_ring
faulty_many code place e = rw (eq-eqb code 2 e)

pub faulty_place : (code place : ℕ) → (code ≡ 2 → ⊥) → place ≡ faulty_ring code place
unfolding faulty_ring
faulty_place code place e = rw (ne_eqb code 2 e)
