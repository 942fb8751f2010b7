-- A position within the span of legal lists: the segment that holds it, its offset there and the segment's columns, which are
-- its location; and the value at a location.
use mathlib.Core.Path.{◌≡◌, refl, sym, ◌∙◌, ap, subst}
use mathlib.Core.Bool.{Bool, true, false, ◌&&◌}
use mathlib.Core.List.{List, [], ◌++◌}
use Prim.Native.Nat.{ℕ, ◌+◌, ◌<◌, ◌≤◌}
use native.Mathlib.Omega.{arith}
use borrow.Author.Tests.{lt-ltb, le-ltb}
use lib.Dec.{T}
use lib.IntN.{ℤ, pos, nat_abs}
use lib.ListN.{length, get_or, drop, replicate}
use lib.Signed.{le_z}
use Rattle.base_exact.specs.Tabulate.{tab}
use Rattle.base_exact.proofs.Decide.{cond_true, cond_false}
use Rattle.base_exact.proofs.Integer.{≤_in, <_in}
use Rattle.base_exact.proofs.Tabulate.{tab_length, tab_get_d, tab-rest}
use Rattle.spec_spline.specs.Space.{Space, degree, first_column}
use Rattle.spec_spline.specs.Reading.{fine, segment_at, fine_width, offset, triangle, blended}
use Rattle.spec_spline.proofs.Legal.{Checked, checked_inverts}
use Rattle.theorems_values.specs.ValueLimits.{InSpan}
use Rattle.theorems_values.proofs.Segment.{Located, located}
use Rattle.build_space.specs.Machine.{space}
use Rattle.build_space.specs.Legal.{ListsLegal}
use Rattle.build_space.proofs.Legal.{legal_checked, legal_width-high, legal_degree-high, legal_columns-within, legal_column-count-high}
use Rattle.build_space.proofs.Partial.{first-column_partial}
use Rattle.curve_rate.specs.Rate.{Offset}
use Rattle.curve_places.specs.Offsets.{columns_of, local_of, Within}
use Rattle.curve_places.specs.Location.{location_of, value_of}
use Rattle.curve_places.specs.declared.Location.{Location}
use Rattle.curve_triangle.proofs.Stages.{triangle_ext}
use Rattle.curve_places.proofs.Local.{local_at}

both : (a b : Bool) → T a → T b → T (a && b)
both true b p q = q
both false b p q = elim p [ ]

module _ (b d o : List ℤ) (h : ListsLegal b d o) (x : ℤ) (w : Within (space b d o) x) (i : ℕ) (at : i ≡ segment_at (space b d o) x) where
  checks : Checked (space b d o)
  checks = (checked_inverts (space b d o) (legal_checked b d o h)).1

  inside : InSpan (space b d o) x
  inside = both (le_z (fine (get_or b 0 (pos 0))) x) _ w.low.le w.high.le

  held : Located (space b d o) x i
  held = subst (Located (space b d o) x) (sym at) (located (space b d o) checks x inside)

  pub segment-within : i < length d
  segment-within = held.below

  pub offset-within : Offset (offset (space b [] []) i x) (pos (fine_width (space b [] []) i))
  offset-within = record {
    above = held.from;
    below = held.to;
    long = <_in _ _ (omega (arith, held.positive));
    short = ≤_in _ _ (omega (arith, legal_width-high b d o h i segment-within));
  }

-- ---- the columns of a segment

-- the array of first columns
pub columns-filled : (d : List ℤ) → length d ≤ 48
    → tab (length d) (first_column (space [] d [])) ++ drop (length d) (replicate 48 0) ≡ columns_of (space [] d [])
unfolding columns_of
columns-filled d h =
    tab-rest 48 (length d) h (λ i l. sym (cond_true (first_column (space [] d []) i) 0 (lt-ltb i (length d) l)))
    (λ i l. cond_false (first_column (space [] d []) i) 0 (le-ltb i (length d) l))

pub columns_long : (d : List ℤ) → length (columns_of (space [] d [])) ≡ 48
unfolding columns_of
columns_long d = tab_length 48 _

module _ (b d o : List ℤ) (h : ListsLegal b d o) (i : ℕ) (l : i < length d) where
  pub column_at : get_or (columns_of (space [] d [])) i 0 ≡ first_column (space [] d []) i
  unfolding columns_of
  column_at = tab_get_d 48 _ i 0 (omega (arith, h.few)) ∙ cond_true (first_column (space [] d []) i) 0 (lt-ltb _ _ l)

  pub columns-within : first_column (space [] d []) i + degree (space [] d []) i < 288
  columns-within = omega (arith, first-column_partial b d o i, legal_columns-within b d o h i l, legal_column-count-high b d o h)

  pub degree-within : degree (space [] d []) i ≤ 5
  degree-within = legal_degree-high b d o h i l

-- ---- the location

module _ (b d o : List ℤ) (x : ℤ) (i : ℕ) (at : i ≡ segment_at (space b d o) x) where
  pub location_is : {c p : ℕ} {u e : ℤ} → c ≡ first_column (space [] d []) i → p ≡ degree (space [] d []) i → u ≡ offset (space b [] []) i x
      → e ≡ pos (fine_width (space b [] []) i)
      → record { column = c; degree = p; offset = u; width = e } ≡ location_of (space b d o) x
  unfolding location_of
  location_is c-is p-is u_is e-is = λ z. record {
    column = (c-is ∙ first-column_partial b d o i ∙ ap (first_column (space b d o)) at) z;
    degree = (p-is ∙ ap (degree (space b d o)) at) z;
    offset = (u_is ∙ ap (λ n. offset (space b d o) n x) at) z;
    width = (e-is ∙ ap (λ n. pos (fine_width (space b d o) n)) at) z;
  }

pub location-width : (s : Space) (x : ℤ) → (location_of s x).width ≡ pos (fine_width s (segment_at s x))
unfolding location_of
location-width s x = refl

-- ---- the value

-- from the segment's ordinates in an array of six
pub value_local : (os : List ℤ) (c p : ℕ) (u : ℤ) (d : ℕ) → p < 6
    → triangle d u (λ k. get_or (local_of os c p) k (pos 0)) p 0 ≡ triangle d u (λ k. get_or os (c + k) (pos 0)) p 0
value_local os c p u d l =
    triangle_ext d u (λ k. get_or (local_of os c p) k (pos 0)) (λ k. get_or os (c + k) (pos 0)) p (λ k h. local_at os c p k l h) p 0
    (omega arith)

-- in the arm of its degree
pub value_arm : (os : List ℤ) (location : Location) (p : ℕ) (r : ℤ) → location.degree ≡ p
    → r ≡ triangle (nat_abs location.width) location.offset (λ k. get_or os (location.column + k) (pos 0)) p 0 → r ≡ value_of os location
unfolding value_of
value_arm os location p r e h =
    h ∙ ap (λ (n : ℕ). triangle (nat_abs location.width) location.offset (λ k. get_or os (location.column + k) (pos 0)) n 0) (sym e)

-- at a position's location it is the definition's
pub value-blended : (s : Space) (os : List ℤ) (x : ℤ) → value_of os (location_of s x) ≡ blended s os (segment_at s x) x
unfolding value_of location_of blended
value-blended s os x = refl
