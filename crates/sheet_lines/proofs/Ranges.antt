-- What a part of a text stands for: a pair, by where its first colon stands and whether its sides are numerals.
use mathlib.Core.Path.{◌≡◌, refl, sym, ◌∙◌, ap, ap₂}
use mathlib.Core.Bool.{true, false}
use mathlib.Core.Option.{Option, some, none}
use Prim.Native.Nat.{ℕ, suc, ◌+◌, ◌<◌}
use native.Mathlib.Omega.{arith}
use lib.IntN.{ℤ}
use lib.Seq.{slice, length-slice}
use Rattle.base_exact.proofs.Decide.{clash}
use Rattle.base_text.specs.Bytes.{Text, colon, Range, index_of}
use Rattle.base_text.specs.Numeral.{numeral}
use Rattle.base_text.proofs.Slice.{take_slice, drop-slice}
use Rattle.base_text.proofs.Cutting.{cut-none, cut_some}
use Rattle.base_text.proofs.Lacking.{byte}
use Rattle.spec_sheet.specs.SheetReading.{both_of, sides_of, pair}
use Rattle.sheet_lines.specs.Machine.{is_some}
use Rattle.sheet_lines.proofs.Entries.{stop_within}

-- ---- pairs

pub one_bad : (a b : Option ℤ) → is_some a ≡ false → is_some (both_of a b) ≡ false
one_bad none b e = refl
one_bad (some y) b e = clash cc

pub one_good : (a b : Option ℤ) → is_some a ≡ true → is_some (both_of a b) ≡ is_some b
one_good none b e = clash cc
one_good (some y) none e = refl
one_good (some y) (some z) e = refl

module _ (text : Text) (from to stop : ℕ) (range : Range text from to) (is : stop ≡ from + index_of colon (slice from to text)) where
  pub pair_uncut : stop ≡ to → pair (slice from to text) ≡ none
  unfolding pair
  pair_uncut e = ap sides_of (cut-none colon (slice from to text) (omega (arith, length-slice from to text range.within)))

  pub pair-cut : (stop ≡ to → ⊥) → pair (slice from to text) ≡ both_of (numeral (slice from stop text)) (numeral (slice (stop + 1) to text))
  unfolding pair
  pair-cut h =
      let size = length-slice from to text range.within in
      let k = index_of colon (slice from to text) in
      let more : stop < to = omega (arith, stop_within (byte colon) text from to stop range is) in
      let after : from + suc k ≡ stop + 1 = omega arith in
      ap sides_of (cut_some colon (slice from to text) (omega arith))
      ∙ ap₂ (λ (f g : Text). both_of (numeral f) (numeral g))
      (take_slice k from to text (omega arith) ∙ ap (λ (n : ℕ). slice from n text) (sym is))
      (drop-slice (suc k) from to text ∙ ap (λ (n : ℕ). slice n to text) after)
