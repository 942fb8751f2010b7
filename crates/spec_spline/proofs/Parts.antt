-- Where the parts of a beam start and end: a part ends behind its start, at the next start or at the beam's end, with no start
-- between; and the part that a segment lies in.
use mathlib.Core.Path.{◌≡◌, refl, sym, ◌∙◌, ap, subst}
use mathlib.Core.Logic.{◌⊎◌, inl, inr}
use mathlib.Core.Bool.{Bool, true, false, ◌&&◌}
use mathlib.Core.Option.{get_or}
use Prim.Native.Nat.{ℕ, suc, ◌<◌, ◌≤◌}
use native.Mathlib.Omega.{arith}
use borrow.Author.Tests.{lt-ltb, le-ltb, ltb-true}
use lib.Dec.{ltb}
use Rattle.base_exact.proofs.Decide.{le_or_lt, and-true, true_not_false}
use Rattle.base_outcome.specs.Search.{first}
use Rattle.spec_spline.specs.Space.{Space, segments, starts_part, part_end}
use Rattle.base_outcome.proofs.Search.{at, nowhere, Searched, search_first, first-none, first_at, Last, SearchedBack, search_last}

-- Segment b starts a part, or the beam ends before it.
pub record Boundary (s : Space) (b : ℕ) : Type 0 where
  pub within : b ≤ segments s
  pub starts : b < segments s → starts_part s b ≡ true

pub whole_boundary : (s : Space) → Boundary s (segments s)
whole_boundary s = record { within = omega arith; starts = λ h. absurd (omega arith) }

pub first-starts : (s : Space) → starts_part s 0 ≡ true
unfolding starts_part
first-starts s = refl

-- The part that starts with segment a ends before segment b.
pub record Ends (s : Space) (a b : ℕ) : Type 0 where
  pub above : a < b
  pub boundary : Boundary s b
  pub between : (k : ℕ) → a < k → k < b → starts_part s k ≡ false

-- the test of part_end
abbrev starts_later : Space → ℕ → ℕ → Bool
starts_later s a k = ltb a k && starts_part s k

not_later : (s : Space) (a k : ℕ) → (a < k → starts_part s k ≡ false) → starts_later s a k ≡ false
not_later s a k h = go (le_or_lt k a)
  where
    go : (k ≤ a) ⊎ (a < k) → starts_later s a k ≡ false
    go (inl l) = ap (λ b. b && starts_part s k) (le-ltb a k l)
    go (inr l) = ap (λ b. b && starts_part s k) (lt-ltb a k l) ∙ h l

is_later : (s : Space) (a k : ℕ) → a < k → starts_later s a k ≡ starts_part s k
is_later s a k l = ap (λ b. b && starts_part s k) (lt-ltb a k l)

pub part-ends : (s : Space) (a : ℕ) → a < segments s → Ends s a (part_end s a)
unfolding part_end
part-ends s a h = go (search_first (starts_later s a) (segments s))
  where
    go : Searched (starts_later s a) (segments s) → Ends s a (get_or (first (segments s) (starts_later s a)) (segments s))
    go (at i f e) = subst (Ends s a) (sym (ap (λ o. get_or o (segments s)) e)) (let t = and-true (ltb a i) (starts_part s i) f.meets in record {
      above = ltb-true a i t.0;
      boundary = record { within = omega (arith, f.below); starts = λ _. t.1 };
      between = λ k l m. sym (is_later s a k l) ∙ f.before k m;
    })
    go (nowhere f e) = subst (Ends s a) (sym (ap (λ o. get_or o (segments s)) e)) (record { above = h; boundary = whole_boundary s; between = λ k l m. sym (is_later s a k l) ∙ f k m })

pub ends_unique : (s : Space) (a b : ℕ) → Ends s a b → part_end s a ≡ b
unfolding part_end
ends_unique s a b E = go (le_or_lt (segments s) b)
  where
    go : (segments s ≤ b) ⊎ (b < segments s) → get_or (first (segments s) (starts_later s a)) (segments s) ≡ b
    go (inl h) = ap (λ o. get_or o (segments s)) (first-none (starts_later s a) (segments s) (λ k l. not_later s a k (λ m. E.between k m (omega arith)))) ∙ omega (arith, E.boundary.within)
    go (inr h) = ap (λ o. get_or o (segments s)) (first_at (starts_later s a) (segments s) b h (is_later s a b E.above ∙ E.boundary.starts h) (λ k l. not_later s a k (λ m. E.between k m l)))

-- The part that segment i lies in.
pub record InPart (s : Space) (i : ℕ) : Type 0 where
  pub start : ℕ
  pub starts : starts_part s start ≡ true
  pub from : start ≤ i
  pub to : i < part_end s start

pub segment_in_part : (s : Space) (i : ℕ) → i < segments s → InPart s i
segment_in_part s i l = go (search_last (starts_part s) (suc i))
  where
    found_at : (a : ℕ) → Last (starts_part s) (suc i) a → InPart s i
    found_at a f = record { start = a; starts = f.meets; from = omega (arith, f.below); to = beyond (le_or_lt (part_end s a) i) }
      where
        ends : Ends s a (part_end s a)
        ends = part-ends s a (omega (arith, f.below))

        beyond : (part_end s a ≤ i) ⊎ (i < part_end s a) → i < part_end s a
        beyond (inr b) = b
        beyond (inl b) = absurd (true_not_false (ends.boundary.starts (omega arith)) (f.after (part_end s a) ends.above (omega arith)))

    go : SearchedBack (starts_part s) (suc i) → InPart s i
    go (at a f p) = found_at a f
    go (nowhere h p) = absurd (true_not_false (first-starts s) (h 0 (omega arith)))
