-- Sections of a beam (§ 4): some segments in a row as a space of their own, tables that lie in one table without
-- a common row or column, and places counted over the beam.
use Rattle.std.specs.Prelude.{List, ◌++◌, map, ℕ, suc, ◌+◌, ◌-◌, pos, take, drop}
use Rattle.base_exact.specs.Rational.{int}
use Rattle.base_exact.specs.Tabulate.{tab}
use Rattle.base_outcome.specs.Outcome.{Outcome, answer, refusal, capped}
use Rattle.spec_spline.specs.Space.{Space, part_end}
use Rattle.spec_spline.specs.Table.{Row, Table}

-- The n segments from segment a on: the middle parts of the three lists.
abbrev pub section : Space → ℕ → ℕ → Space
section s a n = record {
  breaks = take (suc n) (drop a s.breaks);
  degrees = take n (drop a s.degrees);
  orders = take (n - 1) (drop a s.orders);
}

-- The part that starts with segment a.
abbrev pub part_at : Space → ℕ → Space
part_at s a = section s a (part_end s a - a)

-- A row of n zeros.
abbrev pub zeros : ℕ → Row
zeros n = tab n (λ _. int (pos 0))

-- The one table above and to the left of the other, "with zeros elsewhere" (§ 4); the one has `left` columns, the other `right`.
unfoldable pub beside : ℕ → ℕ → Table → Table → Table
beside left right t u = map (λ r. r ++ zeros right) t ++ map (λ r. zeros left ++ r) u

-- The outcome of a later part, its place counted over the beam: n segments, and so n joins, come before its own.
abbrev pub later : {A : Type 0} → ℕ → Outcome A → Outcome A
later n (answer a) = answer a
later n (refusal code place) = refusal code (capped (n + place))
