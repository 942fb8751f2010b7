-- A line that is kept by its number, 0 where there is none: the first that was found stays, and a later one is found only where none was.
use mathlib.Core.Path.{◌≡◌, refl, sym, ap}
use mathlib.Core.Option.{Option, some, none}
use Prim.Native.Nat.{ℕ, zero, suc, ◌≤◌}
use native.Mathlib.Omega.{arith}
use Rattle.base_outcome.specs.Search.{or_else}
use Rattle.tucson_lines.specs.Machine.{line_found}

pub line_kept : (line : ℕ) (o : Option ℕ) → (line ≡ 0 → ⊥) → line_found line ≡ or_else (line_found line) o
unfolding line_found
line_kept zero o h = absurd (h refl)
line_kept (suc n) o h = refl

pub no_line : (line : ℕ) (o : Option ℕ) → line ≡ 0 → o ≡ or_else (line_found line) o
unfolding line_found
no_line line o e = sym (ap (λ (n : ℕ). or_else (line_found n) o) e)

pub line_some : (n : ℕ) → 1 ≤ n → line_found n ≡ some n
unfolding line_found
line_some zero h = absurd (omega arith)
line_some (suc n) h = refl

pub line-none : line_found 0 ≡ none
unfolding line_found
line-none = refl
