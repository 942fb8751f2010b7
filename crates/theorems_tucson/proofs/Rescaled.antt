-- Widths that a closing has brought into thousandths: as many as before, and all allowed where they were; and the bytes of lines
-- that are written.
use mathlib.Core.Path.{◌≡◌, refl, sym, ◌∙◌, ap, ap₂}
use mathlib.Core.Bool.{Bool, true, false, cond, ◌&&◌}
use mathlib.Core.List.{List, [], ◌∷◌, ◌++◌, map}
use mathlib.Core.Option.{some, none, some-injective}
use Prim.Native.Nat.{ℕ, ◌*◌, ◌-◌, ◌<◌}
use native.Mathlib.Omega.{arith}
use lib.IntN.{ℤ, pos, negsuc, ◌+ℤ◌, ◌*ℤ◌}
use lib.ListN.{length, length-append, length-map}
use lib.Signed.{le_z}
use Rattle.base_exact.proofs.Decide.{and-true, true_not_false, clash}
use Rattle.base_exact.proofs.Integer.{≤_in, ≤_out}
use Rattle.base_exact.proofs.Word.{le_z_true, le_test}
use Rattle.base_outcome.specs.Tests.{between}
use Rattle.base_text.specs.Bytes.{Text}
use Rattle.spec_tucson.specs.Line.{Line, decade, thousandths, width_limit, is_name, same, is_width}
use Rattle.spec_tucson.specs.Series.{hundredths, hundredths_limit, per_hundredth, all_hundredths, from_hundredths, closed_by}
use Rattle.spec_tucson.specs.Writing.{lines_from, line_text, lines_text, years_fit, all_widths, least_year, greatest_year}
use Rattle.spec_tucson.proofs.Lines.{widths_append}
use Rattle.theorems_tucson.proofs.Lines.{line_length}
use Rattle.theorems_tucson.proofs.InDecades.{InDecades, ends, goes, sizes, bytes_of}
use Rattle.theorems_tucson.proofs.ReadsBack.{full_fit, closing_fit}

-- ---- a closing's widths

pub widths-length : (c : ℤ) (ws vs : List ℤ) → closed_by c ws ≡ some vs → length vs ≡ length ws
unfolding closed_by from_hundredths
widths-length c ws vs e = go (same c thousandths) (same c hundredths && all_hundredths ws) e
  where
    go : (a b : Bool) → cond a (some ws) (cond b (some (map (λ w. w *ℤ pos per_hundredth) ws)) none) ≡ some vs → length vs ≡ length ws
    go true b e = ap length (sym (some-injective ws vs e))
    go false true e = ap length (sym (some-injective (map (λ w. w *ℤ pos per_hundredth) ws) vs e)) ∙ length-map ws (λ w. w *ℤ pos per_hundredth)
    go false false e = clash cc

-- a width of at most 9,999 hundredths is one in thousandths
tenfold_width : (w : ℤ) → is_width w ≡ true → le_z w (pos hundredths_limit) ≡ true → is_width (w *ℤ pos per_hundredth) ≡ true
unfolding is_width
tenfold_width (pos n) h k =
    ap₂ (λ (a b : Bool). a && b) (le_test (≤_in (pos 0) (pos (n * per_hundredth)) (omega arith)))
    (le_test (≤_in (pos (n * per_hundredth)) (pos width_limit) (omega (arith, ≤_out (pos n) (pos hundredths_limit) (le_z_true (pos n) (pos hundredths_limit) k)))))
tenfold_width (negsuc n) h k = absurd (true_not_false h refl)

hundredths_widths : (ws : List ℤ) → all_widths ws ≡ true → all_hundredths ws ≡ true → all_widths (map (λ w. w *ℤ pos per_hundredth) ws) ≡ true
unfolding all_widths all_hundredths
hundredths_widths [] h k = refl
hundredths_widths (w ∷ ws) h k =
    let widths = and-true (is_width w) (all_widths ws) h in
    let limits = and-true (le_z w (pos hundredths_limit)) (all_hundredths ws) k in
    ap₂ (λ (a b : Bool). a && b) (tenfold_width w widths.0 limits.0) (hundredths_widths ws widths.1 limits.1)

pub closed_widths : (c : ℤ) (ws vs : List ℤ) → all_widths ws ≡ true → closed_by c ws ≡ some vs → all_widths vs ≡ true
unfolding closed_by from_hundredths
closed_widths c ws vs h e = go (same c thousandths) (same c hundredths && all_hundredths ws) refl e
  where
    go : (a b : Bool) → (same c hundredths && all_hundredths ws) ≡ b → cond a (some ws) (cond b (some (map (λ w. w *ℤ pos per_hundredth) ws)) none) ≡ some vs → all_widths vs ≡ true
    go true b k e = ap all_widths (sym (some-injective ws vs e)) ∙ h
    go false true k e = ap all_widths (sym (some-injective (map (λ w. w *ℤ pos per_hundredth) ws) vs e)) ∙ hundredths_widths ws h (and-true (same c hundredths) (all_hundredths ws) k).1
    go false false k e = clash cc

-- ---- lines in decades, again

pub decades_widths : {c : ℤ} {room : ℕ} {lines : List (List ℤ)} {ws : List ℤ} → InDecades c room lines ws → all_widths ws ≡ true
decades_widths (ends h k) = k
decades_widths (goes {fs = fs} {ws = ws} h k d) = widths_append fs ws k (decades_widths d)

-- the bytes of lines that are written
pub lines-length : (name : Text) → is_name name ≡ true → (year : ℤ) {room : ℕ} {lines : List (List ℤ)} {ws : List ℤ} → room < decade → InDecades thousandths room lines ws
    → years_fit (lines_from name year lines) ≡ true → length (lines_text (lines_from name year lines)) ≡ bytes_of (sizes lines)
unfolding lines_text lines_from years_fit
lines-length name named year r (ends {ws = ws} h k) years =
    let l : Line = record { name = name; year = year; fields = ws ++ (thousandths ∷ []) } in
    length-append (line_text l) []
    ∙ omega (arith, line_length l (closing_fit name named year ws (omega arith) (and-true (between least_year greatest_year year) true years).0 k))
lines-length name named year r (goes {fs = fs} {more = more} h k d) years =
    let l : Line = record { name = name; year = year; fields = fs } in
    let both = and-true (between least_year greatest_year year) (years_fit (lines_from name (year +ℤ pos (length fs)) more)) years in
    length-append (line_text l) (lines_text (lines_from name (year +ℤ pos (length fs)) more))
    ∙ omega (
      arith,
      line_length l (full_fit name named year fs (omega arith) (omega arith) both.0 k),
      lines-length name named (year +ℤ pos
          (length fs)) {room = decade - 1} (omega arith) d both.1,
    )
