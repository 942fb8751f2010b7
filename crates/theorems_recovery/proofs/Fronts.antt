-- The fronts of a beam, from its first segment to the end of a part, as a loop over the parts recovers them: the table and the coefficients
-- of a front from those of the front before it and of the part; and a front that is refused refuses the beam.
use mathlib.Core.Path.{◌≡◌, refl, sym, ◌∙◌, ap}
use mathlib.Core.List.{List, []}
use Prim.Native.Nat.{ℕ, ◌+◌, ◌≤◌}
use native.Mathlib.Omega.{arith}
use lib.IntN.{ℤ}
use lib.ListN.{length, take, drop}
use lib.Seq.{take_all}
use Rattle.base_exact.specs.Tabulate.{tab}
use Rattle.base_outcome.specs.Outcome.{answer, refusal, capped, repeat}
use Rattle.spec_spline.specs.Space.{Space, segments, part_end, first_column, column_count}
use Rattle.spec_spline.specs.Table.{identity}
use Rattle.spec_spline.proofs.Parts.{Boundary, part-ends}
use Rattle.spec_spline.proofs.Space.{first_column_mono}
use Rattle.spec_spline.proofs.Legal.{Checked}
use Rattle.theorems_beams.specs.Sections.{section, part_at}
use Rattle.theorems_beams.specs.Parts.{Starts}
use Rattle.theorems_beams.proofs.Carried.{joined, joined-answers, joined-refuses}
use Rattle.theorems_beams.proofs.Sections.{front-columns, OrdersFit}
use Rattle.theorems_beams.proofs.Cut.{front-run, refused_run}
use Rattle.spec_calls.specs.Recovery.{Combination, recover_orders, recover_joins, recovered}
use Rattle.theorems_recovery.proofs.Cut.{side_by_side, with_coefficients}

-- the front with no segment
pub no_front : (s : Space) → recovered (section s 0 0) [] ≡ answer (record { table = []; coefficients = [] })
unfolding recovered recover_joins repeat identity tab first_column
no_front s = refl

-- ---- the front up to the end of a part: the ordinates of the front before it, and the part's own
module _ (s : Space) (F : OrdersFit s) (a : ℕ) (A : Starts s a) (ordinates : List ℤ) (size : length ordinates ≡ column_count s) where
  abbrev b : ℕ
  b = part_end s a

  abbrev part : Space
  part = part_at s a

  abbrev before : List ℤ
  before = take (first_column s a) ordinates

  abbrev own : List ℤ
  own = take (column_count part) (drop (first_column s a) ordinates)

  within : b ≤ segments s
  within = (part-ends s a A.below).boundary.within

  -- the two side by side
  abbrev joined_here : Combination → Combination → Combination
  joined_here = side_by_side (first_column s a) (column_count part)

  front_of : (m : ℕ) → m ≤ segments s → recovered (section s 0 m) (take (first_column s m) ordinates) ≡ recovered (section s 0 m) (take (column_count (section s 0 m)) ordinates)
  front_of m h = ap (λ n. recovered (section s 0 m) (take n ordinates)) (sym (front-columns s m h))

  pub front-recovered : recovered (section s 0 b) (take (first_column s b) ordinates) ≡ joined a joined_here (recovered (section s 0 a) before) (recovered part own)
  unfolding recovered recover_joins recover_orders
  front-recovered =
      front_of b within
      ∙ front-run (with_coefficients ordinates) s F a A (omega (arith, size, first_column_mono s b (segments s) within))
      ∙ ap (λ o. joined a joined_here o (recovered part own)) (sym (front_of a (omega (arith, A.below))))

  pub front-answers : {r q : Combination} → recovered (section s 0 a) before ≡ answer r → recovered part own ≡ answer q
      → recovered (section s 0 b) (take (first_column s b) ordinates) ≡ answer (joined_here r q)
  front-answers e h = front-recovered ∙ joined-answers a joined_here e h

  pub front-refuses : {r : Combination} {code place : ℕ} → recovered (section s 0 a) before ≡ answer r → recovered part own ≡ refusal code place
      → recovered (section s 0 b) (take (first_column s b) ordinates) ≡ refusal code (capped (a + place))
  front-refuses e h = front-recovered ∙ joined-refuses a joined_here e h

-- a front that is refused
pub refused_front : (s : Space) → Checked s → (b : ℕ) → Boundary s b → (ordinates : List ℤ) → length ordinates ≡ column_count s → {code place : ℕ}
    → recovered (section s 0 b) (take (first_column s b) ordinates) ≡ refusal code place → recovered s ordinates ≡ refusal code place
unfolding recovered recover_joins recover_orders
refused_front s c b B ordinates size e =
    ap (recovered s) (sym (take_all (column_count s) ordinates (omega (arith, size))))
    ∙ refused_run (with_coefficients ordinates) s c (omega (arith, size)) b B (ap (λ n. recovered (section s 0 b) (take n ordinates)) (front-columns s b B.within) ∙ e)
