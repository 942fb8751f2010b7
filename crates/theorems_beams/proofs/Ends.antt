-- The last part of a front of the beam, the part before a boundary, and induction from part to part.
use mathlib.Core.Path.{◌≡◌, ◌∙◌, ap, subst}
use mathlib.Core.Logic.{◌⊎◌, inl, inr}
use mathlib.Core.Bool.{true}
use mathlib.Core.Option.{get_or}
use Prim.Native.Nat.{ℕ, zero, suc, ◌<◌, ◌≤◌}
use native.Mathlib.Omega.{arith}
use Rattle.base_exact.proofs.Decide.{le_or_lt, true_not_false}
use Rattle.base_outcome.specs.Search.{last}
use Rattle.spec_spline.specs.Space.{Space, segments, starts_part, part_end, last_part_start}
use Rattle.base_outcome.proofs.Search.{at, nowhere, SearchedBack, search_last, last_at}
use Rattle.spec_spline.proofs.Parts.{Boundary, first-starts, Ends, ends_unique}
use Rattle.theorems_beams.specs.Sections.{section}
use Rattle.theorems_beams.specs.Parts.{Starts}
use Rattle.theorems_beams.proofs.Sections.{section-segments, front-starts}

pub starts_boundary : {s : Space} {a : ℕ} → Starts s a → Boundary s a
starts_boundary h = record { within = omega (arith, h.below); starts = λ _. h.starts }

pub boundary_starts : {s : Space} {b : ℕ} → Boundary s b → b < segments s → Starts s b
boundary_starts h l = record { below = l; starts = h.starts l }

-- the last part of the front that ends with the part of segment a
pub front-last_part_start : (s : Space) (a b : ℕ) → starts_part s a ≡ true → Ends s a b → last_part_start (section s 0 b) ≡ a
unfolding last_part_start
front-last_part_start s a b starts E =
    ap (λ m. get_or (last m (starts_part (section s 0 b))) 0) (section-segments s 0 b (omega (arith, E.boundary.within)))
    ∙ ap (λ o. get_or o 0) (last_at (starts_part (section s 0 b)) b a E.above (front-starts s b a E.above ∙ starts) (λ k l m. front-starts s b k m ∙ E.between k l m))

-- the part before a boundary
pub record Before (s : Space) (b : ℕ) : Type 0 where
  pub start : ℕ
  pub starts : Starts s start
  pub ends : Ends s start b

pub part-before : (s : Space) (b : ℕ) → 0 < b → Boundary s b → Before s b
part-before s b inner B = go (search_last (starts_part s) b)
  where
    go : SearchedBack (starts_part s) b → Before s b
    go (at i l e) = record { start = i; starts = record { below = omega (arith, l.below, B.within); starts = l.meets }; ends = record { above = l.below; boundary = B; between = l.after } }
    go (nowhere h e) = absurd (true_not_false (first-starts s) (h 0 inner))

-- what holds at first and is kept by each part holds at each boundary
pub by_parts : (s : Space) (P : ℕ → Type 0) → P 0 → ((a : ℕ) → Starts s a → P a → P (part_end s a)) → (b : ℕ) → Boundary s b → P b
by_parts s P start more b B = go b b (omega arith) B
  where
    one : (b : ℕ) → Boundary s b → ((a : ℕ) → a < b → Boundary s a → P a) → (b ≤ 0) ⊎ (0 < b) → P b
    one b B earlier (inl h) = subst P (let e : 0 ≡ b = omega arith in e) start
    one b B earlier (inr h) =
        let x = part-before s b h B in
        subst P (ends_unique s x.start b x.ends) (more x.start x.starts (earlier x.start x.ends.above (starts_boundary x.starts)))

    go : (fuel b : ℕ) → b ≤ fuel → Boundary s b → P b
    go zero b h B = one b B (λ a l C. absurd (omega arith)) (le_or_lt b 0)
    go (suc fuel) b h B = one b B (λ a l C. go fuel a (omega arith) C) (le_or_lt b 0)
