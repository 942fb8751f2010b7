-- The definitions of reading on small texts, by computation: what a list may be, and the place that a malformed sheet gets.
use mathlib.Core.List.{List, [], ◌∷◌, ◌++◌}
use mathlib.Core.Option.{some, none}
use mathlib.Core.Path.{◌≡◌, refl, sym, ap, ◌∙◌}
use Prim.Native.Nat.{ℕ, zero, suc, ◌<◌, ◌≤◌}
use native.Mathlib.Omega.{arith}
use Prim.Native.String.{String}
use lib.IntN.{ℤ, pos, neg_ℤ, nat_abs}
use lib.ListN.{take, length, get_or}
use Rattle.base_outcome.specs.Outcome.{answer, refusal, capped}
use Rattle.spec_spline.specs.Reading.{Pair, side_by_side}
use Rattle.base_text.specs.Bytes.{Text, newline, bytes, lines, cut, fields_between, stripped}
use Rattle.base_text.specs.Numeral.{all_digits, digits_value, is_natural, numeral, digits_up_to, digits, decimal, numeral_limit}
use Rattle.spec_sheet.specs.SheetReading.{pair, entries, list_of, line, read_line, five_lines, read, Lists, sheet_limit}
use Rattle.spec_sheet.specs.SheetText.{pair_text, comma_joined, list_text, line_text, sheet_text, WritableNumerals, WritablePairs}
use Rattle.spec_sheet.proofs.RoundTrip.{sheet_reads-back}

-- ---- "commas between entries", "a list may be empty" (§ 13)
abbrev IsList : String → List ℤ → Type 0
IsList s zs = list_of numeral (bytes s) ≡ some zs

abbrev NoList : String → Type 0
NoList s = list_of numeral (bytes s) ≡ none

listed : IsList "" [] × IsList "5" (pos 5 ∷ []) × IsList "0,-1,2" (pos 0 ∷ neg_ℤ (pos 1) ∷ pos 2 ∷ [])
unfolding fields_between all_digits digits_value is_natural numeral entries list_of bytes
listed = (refl, refl, refl)

not_listed : NoList "," × NoList "1," × NoList ",1" × NoList "1,,2" × NoList "1, 2" × NoList "1;2"
unfolding fields_between all_digits digits_value is_natural numeral entries list_of bytes
not_listed = (refl, refl, refl, refl, refl, refl)

-- ---- "a pair earlywood:latewood" (§ 13)
abbrev both : ℤ → ℤ → Pair
both early late = record { early = early; late = late }

abbrev IsPairs : String → List Pair → Type 0
IsPairs s ps = list_of pair (bytes s) ≡ some ps

abbrev NoPairs : String → Type 0
NoPairs s = list_of pair (bytes s) ≡ none

paired : IsPairs "" [] × IsPairs "5:6" (both (pos 5) (pos 6) ∷ []) × IsPairs "0:-1,-2:3" (both (pos 0) (neg_ℤ (pos 1)) ∷ both (neg_ℤ (pos 2)) (pos 3) ∷ [])
unfolding cut fields_between all_digits digits_value is_natural numeral pair entries list_of bytes
paired = (refl, refl, refl)

not_paired : NoPairs "5" × NoPairs "5:6,7" × NoPairs "5:" × NoPairs ":6" × NoPairs ":" × NoPairs "5:6:7" × NoPairs "5::6" × NoPairs "5: 6"
    × NoPairs "5:6," × NoPairs "5:-0" × NoPairs "5,6" × NoPairs "5:10000000"
unfolding cut fields_between all_digits digits_value is_natural numeral pair entries list_of bytes
not_paired = (refl, refl, refl, refl, refl, refl, refl, refl, refl, refl, refl, refl)

-- no pair stands in a list of numbers
not_numerals : NoList "5:6"
unfolding fields_between all_digits digits_value is_natural numeral entries list_of bytes
not_numerals = refl

-- ---- "the first bad or missing line; 6 for anything after a good line five" (§ 13)
abbrev RefusedAt : Text → ℕ → Type 0
RefusedAt text place = read text ≡ refusal 10 place

-- The sheet of W1, 71 bytes.
abbrev w1 : Text
w1 = lines ("breaks=0,1,3" ∷ "degrees=2,2" ∷ "orders=1" ∷ "coefs=0:0,100:100,0:0,0:0" ∷ "at=256,512" ∷ [])

-- an input that stops after line k is missing line k + 1, and a last line without byte 10 is bad
missing : RefusedAt [] 1 × RefusedAt (lines ("breaks=0,1" ∷ "degrees=1" ∷ [])) 3 × RefusedAt (take 70 w1) 5
unfolding capped cut fields_between stripped all_digits digits_value is_natural numeral pair entries list_of line read_line five_lines read bytes lines
missing = (refl, refl, refl)

-- the keys stand in their order
misplaced : RefusedAt (lines ("degrees=1" ∷ "breaks=0,1" ∷ "orders=" ∷ "coefs=0:0,1:1" ∷ "at=" ∷ [])) 1
    × RefusedAt (lines ("breaks=0,1" ∷ "degrees =1" ∷ "orders=" ∷ "coefs=0:0,1:1" ∷ "at=" ∷ [])) 2
unfolding capped cut fields_between stripped all_digits digits_value is_natural numeral pair entries list_of line read_line five_lines read bytes lines
misplaced = (refl, refl)

-- a plain number in coefs, or a pair in another line
unpaired : RefusedAt (lines ("breaks=0,1" ∷ "degrees=1" ∷ "orders=" ∷ "coefs=0:0,1" ∷ "at=" ∷ [])) 4
    × RefusedAt (lines ("breaks=0,1" ∷ "degrees=1" ∷ "orders=" ∷ "coefs=0:0,1:1" ∷ "at=0:0" ∷ [])) 5
unfolding capped cut fields_between stripped all_digits digits_value is_natural numeral pair entries list_of line read_line five_lines read bytes lines
unpaired = (refl, refl)

-- anything after line five, unless a line before it is bad
trailing : RefusedAt (w1 ++ (newline ∷ [])) 6 × RefusedAt (w1 ++ bytes "x") 6
    × RefusedAt (lines ("breaks=0,1" ∷ "degrees=1" ∷ "orders=" ∷ "coefs=0:0,01:1" ∷ "at=" ∷ "" ∷ [])) 4
unfolding capped cut fields_between stripped all_digits digits_value is_natural numeral pair entries list_of line read_line five_lines read bytes lines
trailing = (refl, refl, refl)

-- ---- what is written for W1's lists is its sheet, and reads back to them

abbrev lists1 : Lists
lists1 = record {
  breaks = pos 0 ∷ pos 1 ∷ pos 3 ∷ [];
  degrees = pos 2 ∷ pos 2 ∷ [];
  orders = pos 1 ∷ [];
  coefs = both (pos 0) (pos 0) ∷ both (pos 100) (pos 100) ∷ both (pos 0) (pos 0) ∷ both (pos 0) (pos 0) ∷ [];
  positions = pos 256 ∷ pos 512 ∷ [];
}

abbrev Small : List ℤ → Type 0
Small zs = (i : ℕ) → nat_abs (get_or zs i (pos 0)) < numeral_limit

none-small : Small []
none-small i = omega arith

one_more : (z : ℤ) (zs : List ℤ) → nat_abs z < numeral_limit → Small zs → Small (z ∷ zs)
one_more z zs h k zero = h
one_more z zs h k (suc i) = k i

text1 : sheet_text lists1 ≡ w1
unfolding sheet_text line_text list_text pair_text comma_joined decimal digits digits_up_to bytes lines
text1 = refl

short1 : length (sheet_text lists1) ≤ sheet_limit
unfolding bytes lines
short1 = omega (arith, ap length text1)

breaks1 : WritableNumerals lists1.breaks
breaks1 =
    record {
      few = omega arith;
      small =
          one_more (pos 0) (pos 1 ∷ pos 3 ∷ []) (omega arith)
          (one_more (pos 1) (pos 3 ∷ []) (omega arith) (one_more (pos 3) [] (omega arith) none-small));
    }

degrees1 : WritableNumerals lists1.degrees
degrees1 = record { few = omega arith; small = one_more (pos 2) (pos 2 ∷ []) (omega arith) (one_more (pos 2) [] (omega arith) none-small) }

orders1 : WritableNumerals lists1.orders
orders1 = record { few = omega arith; small = one_more (pos 1) [] (omega arith) none-small }

one_pair_more : (p : Pair) (zs : List ℤ) → nat_abs p.early < numeral_limit → nat_abs p.late < numeral_limit → Small zs → Small (p.early ∷ p.late ∷ zs)
one_pair_more p zs h k s = one_more p.early (p.late ∷ zs) h (one_more p.late zs k s)

coefs1 : WritablePairs lists1.coefs
unfolding side_by_side
coefs1 =
    let zeros = both (pos 0) (pos 0) in
    let one = one_pair_more zeros [] (omega arith) (omega arith) none-small in
    let two = one_pair_more zeros (side_by_side (zeros ∷ [])) (omega arith) (omega arith) one in
    let three = one_pair_more (both (pos 100) (pos 100)) (side_by_side (zeros ∷ zeros ∷ [])) (omega arith) (omega arith) two in
    record { few = omega arith; small = one_pair_more zeros (side_by_side (both (pos 100) (pos 100) ∷ zeros ∷ zeros ∷ [])) (omega arith) (omega arith) three }

positions1 : WritableNumerals lists1.positions
positions1 = record { few = omega arith; small = one_more (pos 256) (pos 512 ∷ []) (omega arith) (one_more (pos 512) [] (omega arith) none-small) }

read1 : read w1 ≡ answer lists1
read1 = ap read (sym text1) ∙ sheet_reads-back lists1 breaks1 degrees1 orders1 coefs1 positions1 short1
