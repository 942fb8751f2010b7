-- Laws of the lines of a series: one line more, how many bytes they have, and the numbers of a line.
use mathlib.Core.Path.{◌≡◌, refl, sym, ap, ap₂, ◌∙◌}
use mathlib.Core.List.{List, [], ◌∷◌, ◌++◌, append-nil, append_assoc}
use Prim.Native.Nat.{ℕ, zero, suc, ◌+◌, ◌-◌, ◌*◌, ◌≤◌}
use native.Mathlib.Numerals.{add-one}
use native.Mathlib.Omega.{arith}
use lib.IntN.{ℤ, pos, ◌+ℤ◌}
use lib.ListN.{length, get_or, length-append}
use mir.Syntax.{w32, w64}
use mir.Val.{SFits, of_z, to_z}
use Rattle.base_exact.proofs.Word.{to_z-of_z}
use Rattle.base_exact.specs.Tabulate.{tab}
use Rattle.base_exact.proofs.Tabulate.{tab_snoc}
use Rattle.base_text.specs.Bytes.{Text}
use Rattle.spec_spline.specs.Reading.{Wood, wood_index}
use Rattle.spec_table.specs.RingLines.{name_text, numbers_text, Ring, ring_line, lines_of_rings, IndexedSeries, ring_at, ring_lines}
use Rattle.table_lines.specs.Machine.{Rows, rows, row_numbers, row_text, rows_text}

pub rows_none : (r : Rows) → [] ≡ rows_text r 0
unfolding rows_text
rows_none r = refl

pub rows_more : (r : Rows) (j : ℕ) → rows_text r j ++ row_text r j ≡ rows_text r (j + 1)
unfolding rows_text
rows_more r j = ap (rows_text r) (sym (add-one j))

pub rows_length : (r : Rows) (j : ℕ) → length (rows_text r (j + 1)) ≡ length (rows_text r j) + (length r.label + length (row_numbers r j))
rows_length r j =
    ap length (sym (rows_more r j)) ∙ omega (arith, length-append (rows_text r j) (row_text r j), length-append r.label (row_numbers r j))

-- more lines have no fewer bytes
pub rows_grow : (r : Rows) (k n : ℕ) → length (rows_text r k) ≤ length (rows_text r (n + k))
rows_grow r k zero = omega (arith, ap (λ (m : ℕ). length (rows_text r m)) (let e : 0 + k ≡ k = omega arith in e))
rows_grow r k (suc n) = omega (arith, rows_grow r k n, rows_length r (n + k), ap (λ (m : ℕ). length (rows_text r m)) (let e : suc n + k ≡ n + k + 1 = omega arith in e))

pub rows-within : (r : Rows) (k n : ℕ) → k ≤ n → length (rows_text r k) ≤ length (rows_text r n)
rows-within r k n h = omega (arith, rows_grow r k (n - k), ap (λ (m : ℕ). length (rows_text r m)) (let e : n - k + k ≡ n = omega arith in e))

-- the numbers of a line, read back from their words
pub numbers_are : (r : Rows) (j : ℕ) (year : ℤ) → let width = get_or r.widths j (pos 0) in
    let value = get_or r.values (2 * j + r.cell) (pos 0) in
    let index = get_or r.indices j (pos 0) in
    SFits w32 r.first → SFits w64 year → SFits w32 width → SFits w32 value → SFits w64 index → year ≡ to_z w32 (of_z w32 r.first) +ℤ pos j
    → numbers_text (to_z w64 (of_z w64 year)) (to_z w32 (of_z w32 width)) (to_z w32 (of_z w32 value)) (to_z w64 (of_z w64 index))
    ≡ row_numbers r j
numbers_are r j year f g w v i e =
    let width = get_or r.widths j (pos 0) in
    let value = get_or r.values (2 * j + r.cell) (pos 0) in
    let index = get_or r.indices j (pos 0) in
    simp to_z-of_z (ap (λ (z : ℤ). numbers_text z width value index) (simp to_z-of_z at e))

-- ---- the lines of the definition

append_line : (rs : List Ring) (g : Ring) → lines_of_rings (rs ++ (g ∷ [])) ≡ lines_of_rings rs ++ ring_line g
unfolding lines_of_rings
append_line [] g = append-nil (ring_line g)
append_line (h ∷ rs) g = ap (λ (t : Text). ring_line h ++ t) (append_line rs g) ∙ sym (append_assoc (ring_line h) (lines_of_rings rs) (ring_line g))

module _ (wood : Wood) (s : IndexedSeries) where
  -- the lists with the name as the table has it
  abbrev pub rows_of : Rows
  rows_of = rows (name_text s.name) s.first_year (wood_index wood) s.widths s.values s.indices

  line_is : (j : ℕ) → ring_line (ring_at wood s j) ≡ row_text rows_of j
  unfolding ring_line
  line_is j = refl

  lines_are : (n : ℕ) → lines_of_rings (tab n (ring_at wood s)) ≡ rows_text rows_of n
  unfolding rows_text lines_of_rings tab
  lines_are zero = refl
  lines_are (suc n) =
      ap lines_of_rings (tab_snoc n (ring_at wood s)) ∙ append_line (tab n (ring_at wood s)) (ring_at wood s n)
      ∙ ap₂ (λ (t u : Text). t ++ u) (lines_are n) (line_is n)

  pub ring-lines_are : ring_lines wood s ≡ rows_text rows_of (length s.widths)
  unfolding ring_lines
  ring-lines_are = lines_are (length s.widths)
