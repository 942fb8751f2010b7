-- Series with numbers: a line from 3 in the year 0 to -3 in the year 2, and of earlywood three series. The first has a ring in the year 1,
-- where the curve is 0, and gives 14 there; the second a ring in the year 3, behind the last breakpoint, and gives 7 there; the third has
-- no widths and prints nothing. A series of 4,097 widths gives 2 in the year of the last.
use mathlib.Core.Path.{◌≡◌, refl, subst}
use mathlib.Core.Logic.{◌≢◌}
use mathlib.Core.List.{List, [], ◌∷◌}
use mathlib.Core.Option.{some}
use Prim.Native.String.{String}
use native.Mathlib.Omega.{arith}
use lib.IntN.{ℤ, pos, negsuc}
use lib.ListN.{length, replicate, length-replicate}
use lib.Signed.{◌≤ℤ◌}
use Rattle.base_outcome.specs.Outcome.{Outcome, answer, refusal}
use Rattle.base_outcome.specs.Search.{first}
use Rattle.base_text.specs.Bytes.{Text, bytes, lines}
use Rattle.spec_spline.specs.Reading.{earlywood}
use Rattle.spec_spline.specs.CurveCall.{CurveResult}
use Rattle.spec_spline.proofs.Computing.{calling}
use Rattle.spec_calls.specs.Indices.{is_refused, bad_ring}
use Rattle.spec_tucson.specs.Series.{Series}
use Rattle.spec_rings.specs.Ready.{Ready, ready}
use Rattle.spec_rings.specs.Rings.{fault_line}
use Rattle.spec_rings.proofs.Computing.{reading, indexing, writing}
use Rattle.theorems_series.specs.SeriesNumbers.{index_call, printed, year_of, SeriesEnd, answered, many_widths, outside, at_ring}
use Rattle.theorems_series.proofs.SeriesNumbers.{series-numbers, empty-series-print-nothing, fourteen_is_low}

abbrev input : Text
input = lines (
    "wood=earlywood" ∷
    "breaks=0,2" ∷
    "degrees=1" ∷
    "orders=" ∷
    "coefs=3:5,-3:5" ∷
    "at=" ∷
    "ABC01      0     7     8 -9999" ∷
    "ABC02      2     0     9 -9999" ∷
    "ABC03      5 -9999" ∷ [])

abbrev series : String → ℤ → List ℤ → Series
series name year widths = record { name = bytes name; first_year = year; widths = widths }

abbrev low_series : Series
low_series = series "ABC01   " (pos 0) (pos 7 ∷ pos 8 ∷ [])

abbrev late_series : Series
late_series = series "ABC02   " (pos 2) (pos 0 ∷ pos 9 ∷ [])

abbrev empty_series : Series
empty_series = series "ABC03   " (pos 5) []

abbrev three : Ready
three = record {
  wood = earlywood;
  lists = record {
    breaks = pos 0 ∷ pos 2 ∷ [];
    degrees = pos 1 ∷ [];
    orders = [];
    coefs = record { early = pos 3; late = pos 5 } ∷ record { early = negsuc 2; late = pos 5 } ∷ [];
    positions = [];
  };
  series = low_series ∷ late_series ∷ empty_series ∷ [];
}

three_ready : ready input ≡ answer three
unfolding calling reading
three_ready = refl

-- ---- 14
low_refused : index_call three low_series ≡ refusal 14 1
unfolding calling indexing
low_refused = refl

low_printed : printed three low_series ≡ lines ("ABC01,1,,,no=14" ∷ [])
unfolding calling indexing writing
low_printed = refl

low_ends : SeriesEnd three low_series (refusal 14 1) (lines ("ABC01,1,,,no=14" ∷ []))
low_ends =
    subst (λ (t : Text). SeriesEnd three low_series (refusal 14 1) t) low_printed
    (subst (λ (o : Outcome (List ℤ)). SeriesEnd three low_series o (printed three low_series)) low_refused
    (series-numbers input three three_ready low_series))

-- the values under its rings: 768 and 0
abbrev values : CurveResult
values = record { table = []; values = record { early = pos 768; late = pos 1280 } ∷ record { early = pos 0; late = pos 1280 } ∷ [] }

bad-ring : first 2 (bad_ring earlywood low_series.widths values.values) ≡ some 1
unfolding first bad_ring is_refused
bad-ring = refl

low_under_present : (pos 8 ≢ pos 0) × (pos 0 ≤ℤ pos 0)
low_under_present = fourteen_is_low input three three_ready [] (late_series ∷ empty_series ∷ []) low_series refl values 1 bad-ring

-- ---- 7
late_refused : index_call three late_series ≡ refusal 7 1
unfolding calling indexing
late_refused = refl

late_printed : printed three late_series ≡ lines ("ABC02,3,,,no=7" ∷ [])
unfolding calling indexing writing
late_printed = refl

late_ends : SeriesEnd three late_series (refusal 7 1) (lines ("ABC02,3,,,no=7" ∷ []))
late_ends =
    subst (λ (t : Text). SeriesEnd three late_series (refusal 7 1) t) late_printed
    (subst (λ (o : Outcome (List ℤ)). SeriesEnd three late_series o (printed three late_series)) late_refused
    (series-numbers input three three_ready late_series))

-- ---- no widths
empty_prints_nothing : (index_call three empty_series ≡ answer []) × (printed three empty_series ≡ [])
empty_prints_nothing = empty-series-print-nothing input three three_ready empty_series refl

-- ---- 2: no other end has so many widths
unfoldable many_series : Series
many_series = series "ABC04   " (pos 0) (replicate 4097 (pos 7))

many-widths : length many_series.widths ≡ 4097
unfolding many_series
many-widths = length-replicate {0} {A = ℤ} 4097 (pos 7)

many_ends : (index_call three many_series ≡ refusal 2 1) × (printed three many_series ≡ fault_line many_series.name (year_of many_series 4096) 2)
many_ends = go (series-numbers input three three_ready many_series)
  where
    go : {o : Outcome (List ℤ)} {t : Text} → SeriesEnd three many_series o t
        → (o ≡ refusal 2 1) × (t ≡ fault_line many_series.name (year_of many_series 4096) 2)
    go (answered v h zs e) = absurd (omega (arith, many-widths, h.few))
    go (many_widths h) = (refl, refl)
    go (outside h i l e) = absurd (omega (arith, many-widths, h))
    go (at_ring v h i l e) = absurd (omega (arith, many-widths, h.few))
