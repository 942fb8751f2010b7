-- With equal pairs the coefficients of both woods are one function, so the values, the indices and the lines are the same.
use mathlib.Core.Path.{◌≡◌, refl, sym, ◌∙◌, ap}
use mathlib.Core.Bool.{Bool, true, false, cond}
use mathlib.Core.List.{List, [], ◌∷◌, ◌++◌, map}
use mathlib.Core.Option.{Option, some, none}
use Prim.Native.Nat.{ℕ, zero, suc, ◌+◌, ◌*◌, ◌/◌, ◌≤◌}
use native.Mathlib.Omega.{arith}
use borrow.Author.Tests.{le-ltb}
use lib.Dec.{ltb}
use lib.IntN.{ℤ, pos}
use lib.ListN.{length, get_or, length-append}
use Rattle.base_exact.specs.Tabulate.{tab}
use Rattle.base_exact.proofs.Decide.{cond_false}
use Rattle.base_outcome.specs.Outcome.{Outcome, answer, refusal, refuse, ◌then◌, with_answer}
use Rattle.base_outcome.specs.Search.{first}
use Rattle.base_outcome.specs.Tests.{refuse_first}
use Rattle.base_text.specs.Bytes.{Text, stripped}
use Rattle.base_text.proofs.Lacking.{stripped-key}
use Rattle.spec_spline.specs.Space.{Space}
use Rattle.spec_spline.specs.Table.{Table, table_cells}
use Rattle.spec_spline.specs.Build.{weights}
use Rattle.spec_spline.specs.Reading.{Wood, earlywood, latewood, wood_index, Pair, side_by_side, coefficient, segment_at, blended, ordinates, value_at, pair_at, values}
use Rattle.spec_spline.specs.CurveCall.{CurveResult, curve_checked, curve_read, curve_outcome}
use Rattle.spec_calls.specs.Indices.{no_pair, of_wood, ring_width, ring_value, is_refused, bad_ring, index_of, ring_indices, ring_positions, rings_read, rings_indexed}
use Rattle.spec_sheet.specs.SheetReading.{Lists}
use Rattle.spec_sheet.specs.Sheet.{arguments_of, space_of}
use Rattle.spec_sheet.specs.Printout.{joined}
use Rattle.spec_tucson.specs.Series.{Series}
use Rattle.spec_table.specs.RingLines.{Ring, lines_of_rings, IndexedSeries, ring_at, ring_lines}
use Rattle.spec_rings.specs.Parts.{earlywood_line, latewood_line, Headed, headed, sheet_part, series_part}
use Rattle.spec_rings.specs.Ready.{text_limit, sheet_read, series_read, sheet_curve, Ready, ready_of, ready_if, ready}
use Rattle.spec_rings.specs.Rings.{header_line, indexed_series, series_values, indexed_text, valued_text, series_text, pieces, ready_text, rings}
use Rattle.theorems_woods.specs.BothWoods.{Equal, BothWoodsGiveTheSame}

-- ---- numbers side by side
sides : (ps : List Pair) → Equal ps → (k : ℕ) → get_or (side_by_side ps) (2 * k + 0) (pos 0) ≡ get_or (side_by_side ps) (2 * k + 1) (pos 0)
unfolding side_by_side
sides [] e k = refl
sides (p ∷ ps) e zero = e 0
sides (p ∷ ps) e (suc k) =
    ap (λ (j : ℕ). get_or (p.early ∷ p.late ∷ side_by_side ps) j (pos 0)) (let z : 2 * suc k + 0 ≡ suc (suc (2 * k + 0)) = omega arith in z)
    ∙ sides ps (λ j. e (suc j)) k
    ∙ sym (ap (λ (j : ℕ). get_or (p.early ∷ p.late ∷ side_by_side ps) j (pos 0)) (let z : 2 * suc k + 1 ≡ suc (suc (2 * k + 1)) = omega arith in z))

-- ---- the values
module _ (s : Space) (t : Table) (ps : List Pair) (e : Equal ps) where
  value_same : (x : ℤ) → value_at s t earlywood (side_by_side ps) x ≡ value_at s t latewood (side_by_side ps) x
  unfolding value_at
  value_same x i = blended s (ordinates s t (λ k. sides ps e k i)) (segment_at s x) x

  values_same : (xs : List ℤ) → Equal (values s t (side_by_side ps) xs)
  unfolding values pair_at
  values_same [] k = refl
  values_same (x ∷ xs) zero = value_same x
  values_same (x ∷ xs) (suc k) = values_same xs k

-- ---- one series
module _ (s : Series) (r : CurveResult) (e : Equal r.values) where
  abbrev n : ℕ
  n = length s.widths

  indexed-same : rings_indexed earlywood s.widths r ≡ rings_indexed latewood s.widths r
  unfolding rings_indexed bad_ring ring_indices
  indexed-same i =
      refuse_first 14 (first n (λ k. is_refused (ring_width s.widths k) (e k i)))
      (answer (tab n (λ k. index_of (ring_width s.widths k) (e k i))))

  lines_same : (zs : List ℤ) → ring_lines earlywood (indexed_series s r zs) ≡ ring_lines latewood (indexed_series s r zs)
  unfolding ring_lines
  lines_same zs i = lines_of_rings (tab n (λ j. record {
    name = (ring_at earlywood (indexed_series s r zs) j).name;
    year = (ring_at earlywood (indexed_series s r zs) j).year;
    width = (ring_at earlywood (indexed_series s r zs) j).width;
    value = sides r.values e j i;
    index = (ring_at earlywood (indexed_series s r zs) j).index;
  }))

  text_same : (o : Outcome (List ℤ)) → indexed_text earlywood s r o ≡ indexed_text latewood s r o
  unfolding indexed_text
  text_same (answer zs) = lines_same zs
  text_same (refusal code place) = refl

  answered_same : valued_text earlywood s (answer r) ≡ valued_text latewood s (answer r)
  unfolding valued_text
  answered_same = text_same (rings_indexed earlywood s.widths r) ∙ ap (indexed_text latewood s r) indexed-same

module _ (space : Space) (ps : List Pair) (e : Equal ps) (s : Series) where
  abbrev coefs : List ℤ
  coefs = side_by_side ps

  abbrev positions : List ℤ
  positions = ring_positions s.first_year (length s.widths)

  abbrev Same : Outcome CurveResult → Type 0
  Same o = valued_text earlywood s o ≡ valued_text latewood s o

  refused_same : (code place : ℕ) → Same (refusal code place)
  unfolding valued_text
  refused_same code place = refl

  cond_same : (b : Bool) (code place : ℕ) (o : Outcome CurveResult) → Same o → Same (cond b (refuse code place) o)
  cond_same true code place o h = refused_same code _
  cond_same false code place o h = h

  read_same : (q : Space) → Same (curve_read coefs positions q)
  unfolding curve_read
  read_same q = go (weights q)
    where
      go : (w : Outcome Table) → Same (with_answer (λ t. record { table = t; values = values q t coefs positions }) w)
      go (answer t) = answered_same s (record { table = t; values = values q t coefs positions }) (values_same q t ps e positions)
      go (refusal code place) = refused_same code place

  checked-same : (o : Outcome Space) → Same (o then curve_read coefs positions)
  checked-same (answer q) = read_same q
  checked-same (refusal code place) = refused_same code place

  outcome-same : (v : ℕ) → Same (curve_outcome space coefs positions table_cells table_cells v)
  unfolding curve_outcome
  outcome-same v = cond_same (ltb (v / 2) (length positions)) 1 2 (curve_checked space coefs positions then curve_read coefs positions) (checked-same (curve_checked space coefs positions))

  series-same : series_text earlywood space coefs s ≡ series_text latewood space coefs s
  unfolding series_text series_values rings_read
  series-same =
      cond_same (ltb (2 * length s.widths / 2) (length positions)) 1 2 _
      (cond_same (ltb (length s.widths) (length s.widths)) 1 3 (curve_outcome space coefs positions table_cells table_cells (2 * length s.widths)) (outcome-same (2 * length s.widths)))

-- ---- the program
ready-same : (l : Lists) → Equal l.coefs → (ss : List Series)
    → ready_text (answer (record { wood = earlywood; lists = l; series = ss })) ≡ ready_text (answer (record { wood = latewood; lists = l; series = ss }))
unfolding ready_text pieces
ready-same l e ss i = header_line ++ joined (map (λ s. series-same (space_of (arguments_of l)) l.coefs e s i) ss)

of_same : (rest : Text) → ((l : Lists) → sheet_read (sheet_part rest) ≡ answer l → Equal l.coefs)
    → ready_text (ready_of (record { wood = earlywood; rest = rest })) ≡ ready_text (ready_of (record { wood = latewood; rest = rest }))
unfolding ready_of ready_text
of_same rest h = sheets (sheet_read (sheet_part rest)) refl
  where
    files : (l : Lists) → Equal l.coefs → (o : Outcome (List Series)) (q : Outcome CurveResult)
        → ready_text (o then λ ss. q then λ r. answer (record { wood = earlywood; lists = l; series = ss }))
        ≡ ready_text (o then λ ss. q then λ r. answer (record { wood = latewood; lists = l; series = ss }))
    files l e (answer ss) (answer r) = ready-same l e ss
    files l e (answer ss) (refusal code place) = refl
    files l e (refusal code place) q = refl

    sheets : (o : Outcome Lists) → sheet_read (sheet_part rest) ≡ o →
        ready_text (o then λ l. series_read (series_part rest) then λ ss. sheet_curve l then λ r. answer (record { wood = earlywood; lists = l; series = ss }))
        ≡ ready_text (o then λ l. series_read (series_part rest) then λ ss. sheet_curve l then λ r. answer (record { wood = latewood; lists = l; series = ss }))
    sheets (answer l) e = files l (h l e) (series_read (series_part rest)) (sheet_curve l)
    sheets (refusal code place) e = refl

early_headed : (rest : Text) → headed (earlywood_line ++ rest) ≡ some (record { wood = earlywood; rest = rest })
unfolding headed
early_headed rest = rw (stripped-key earlywood_line rest)

not_early : (rest : Text) → stripped earlywood_line (latewood_line ++ rest) ≡ none
unfolding stripped
not_early rest = refl

late_headed : (rest : Text) → headed (latewood_line ++ rest) ≡ some (record { wood = latewood; rest = rest })
unfolding headed
late_headed rest = rw (not_early rest, stripped-key latewood_line rest)

short-ready : (t : Text) → length t ≤ text_limit → ready t ≡ ready_if (headed t)
unfolding ready
short-ready t h = cond_false (refuse 1 0) (ready_if (headed t)) (le-ltb text_limit (length t) h)

pub both_woods_give_the_same : BothWoodsGiveTheSame
unfolding rings
both_woods_give_the_same rest short h =
    ap ready_text (short-ready (earlywood_line ++ rest) short ∙ ap ready_if (early_headed rest))
    ∙ of_same rest h
    ∙ sym (ap ready_text (short-ready (latewood_line ++ rest) (omega (arith, short, length-append earlywood_line rest, length-append latewood_line rest)) ∙ ap ready_if (late_headed rest)))
