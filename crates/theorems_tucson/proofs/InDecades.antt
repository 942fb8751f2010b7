-- Widths and a closing in lines: the first line has room for so many fields after its first, each line that is not the last is
-- full, and each later one has room for a decade. Writing cuts a series so, and the lines of a series that is read are cut so;
-- the count of widths then decides the lines' years and bytes.
use mathlib.Core.Path.{◌≡◌, refl, sym, ◌∙◌, ap, ap₂}
use mathlib.Core.Bool.{Bool, true, ◌&&◌}
use mathlib.Core.List.{List, [], ◌∷◌, ◌++◌, map}
use Prim.Native.Nat.{ℕ, zero, suc, ◌+◌, ◌-◌, ◌≤◌}
use native.Mathlib.Omega.{arith}
use lib.IntN.{ℤ, pos, ◌+ℤ◌}
use lib.ListN.{length, length-append}
use Rattle.base_exact.proofs.Decide.{and-true}
use Rattle.base_outcome.specs.Tests.{between}
use Rattle.base_text.specs.Bytes.{Text}
use Rattle.spec_tucson.specs.Line.{decade, is_width}
use Rattle.spec_tucson.specs.Writing.{onto_first, in_lines, lines_from, years_fit, all_widths, least_year, greatest_year}
use Rattle.spec_tucson.proofs.Lines.{no_lines}
use Rattle.theorems_tucson.proofs.Lines.{line_bytes}

-- Lines of these widths with the closing c behind them.
pub data InDecades (c : ℤ) : ℕ → List (List ℤ) → List ℤ → Type 0 where
  ends : {room : ℕ} {ws : List ℤ} → length ws ≤ room → all_widths ws ≡ true → InDecades c room ((ws ++ (c ∷ [])) ∷ []) ws
  goes : {room : ℕ} {fs : List ℤ} {more : List (List ℤ)} {ws : List ℤ} → length fs ≡ suc room → all_widths fs ≡ true → InDecades c (decade - 1) more ws → InDecades c room (fs ∷ more) (fs ++ ws)

-- ---- writing cuts so

widths_more : (w : ℤ) (ws : List ℤ) → is_width w ≡ true → all_widths ws ≡ true → all_widths (w ∷ ws) ≡ true
unfolding all_widths
widths_more w ws h k = ap₂ (λ (a b : Bool). a && b) h k

pub widths_parts : (w : ℤ) (ws : List ℤ) → all_widths (w ∷ ws) ≡ true → (is_width w ≡ true) × (all_widths ws ≡ true)
unfolding all_widths
widths_parts w ws h = and-true (is_width w) (all_widths ws) h

-- one width more in front
onto-first : {c : ℤ} {room : ℕ} {lines : List (List ℤ)} {ws : List ℤ} (w : ℤ) → is_width w ≡ true → InDecades c room lines ws → InDecades c (suc room) (onto_first w lines) (w ∷ ws)
onto-first w h (ends {room = room} {ws = ws} l k) = ends {room = suc room} {ws = w ∷ ws} (omega arith) (widths_more w ws h k)
onto-first w h (goes {room = room} {fs = fs} l k d) = goes {room = suc room} {fs = w ∷ fs} (omega arith) (widths_more w fs h k) d

no_widths : all_widths [] ≡ true
unfolding all_widths
no_widths = refl

pub lines_in_decades : (c : ℤ) (room : ℕ) (ws : List ℤ) → all_widths ws ≡ true → InDecades c room (in_lines room (ws ++ (c ∷ []))) ws
unfolding in_lines
lines_in_decades c zero [] h = ends {room = 0} {ws = []} (omega arith) no_widths
lines_in_decades c (suc room) [] h = rw (no_lines room) (ends {room = suc room} {ws = []} (omega arith) no_widths)
lines_in_decades c zero (w ∷ ws) h =
    let parts = widths_parts w ws h in
    goes {room = 0} {fs = w ∷ []} refl (widths_more w [] parts.0 no_widths) (lines_in_decades c (decade - 1) ws parts.1)
lines_in_decades c (suc room) (w ∷ ws) h =
    let parts = widths_parts w ws h in
    onto-first w parts.0 (lines_in_decades c room ws parts.1)

-- ---- the count of widths decides the lines' sizes

-- How many fields each line has.
abbrev pub sizes : List (List ℤ) → List ℕ
sizes lines = map length lines

pub same_sizes : {c d : ℤ} {room : ℕ} {lines others : List (List ℤ)} {ws vs : List ℤ} → InDecades c room lines ws → InDecades d room others vs → length ws ≡ length vs → sizes lines ≡ sizes others
same_sizes {c} {d} (ends {ws = ws} l k) (ends {ws = vs} m n) e = ap (λ (s : ℕ). s ∷ []) (length-append ws (c ∷ []) ∙ omega (arith, length-append vs (d ∷ [])))
same_sizes (ends {ws = ws} l k) (goes {fs = fs} {ws = vs} m n b) e = absurd (omega (arith, length-append fs vs))
same_sizes (goes {fs = fs} {ws = ws} l k a) (ends {ws = vs} m n) e = absurd (omega (arith, length-append fs ws))
same_sizes (goes {fs = fs} {ws = ws} l k a) (goes {fs = gs} {ws = vs} m n b) e =
    ap₂ (λ (s : ℕ) (ss : List ℕ). s ∷ ss) (omega arith) (same_sizes a b (omega (arith, length-append fs ws, length-append gs vs)))

-- ---- the lines' sizes decide their years and bytes

-- The bytes of lines with so many fields.
abbrev pub bytes_of : List ℕ → ℕ
bytes_of [] = 0
bytes_of (n ∷ ns) = line_bytes n + bytes_of ns

-- Every line's year fits its columns, from this year on, with so many fields each.
abbrev years_of_sizes : ℤ → List ℕ → Bool
years_of_sizes year [] = true
years_of_sizes year (n ∷ ns) = between least_year greatest_year year && years_of_sizes (year +ℤ pos n) ns

years_by_sizes : (name : Text) (year : ℤ) (lines : List (List ℤ)) → years_fit (lines_from name year lines) ≡ years_of_sizes year (sizes lines)
unfolding lines_from years_fit
years_by_sizes name year [] = refl
years_by_sizes name year (fs ∷ more) = ap (λ (b : Bool). between least_year greatest_year year && b) (years_by_sizes name (year +ℤ pos (length fs)) more)

pub same_years : (name other : Text) (year : ℤ) (lines others : List (List ℤ)) → sizes lines ≡ sizes others → years_fit (lines_from name year lines) ≡ years_fit (lines_from other year others)
same_years name other year lines others e = years_by_sizes name year lines ∙ ap (years_of_sizes year) e ∙ sym (years_by_sizes other year others)
