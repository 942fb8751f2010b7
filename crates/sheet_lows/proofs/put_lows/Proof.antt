-- `put_lows` meets its contract: the low positions are collected, sorted and printed.
use borrow.Author.Rules.{rules}
use native.Mathlib.Omega.{arith}
use mathlib.Core.Path.{◌≡◌, sym, ap, ◌∙◌}
use mathlib.Core.List.{List, ◌++◌}
use Prim.Native.Nat.{ℕ, ◌≤◌}
use lib.IntN.{ℤ}
use lib.ListN.{length, take, drop, length-append}
use lib.Seq.{take_at, length-take-le}
use Rattle.spec_spline.specs.Reading.{Pair}
use Rattle.base_sorting.specs.Sorted.{sorted}
use Rattle.base_sorting.proofs.Sorted.{sorted_length}
use Rattle.spec_sheet.specs.Printout.{low_positions, low_lines}
use Rattle.spec_sheet.specs.Pairs.{paired}
use Rattle.base_print.proofs.Buffer.{puts_within, puts_as}
use Rattle.spec_sheet.proofs.Printout.{low_positions_few}
use Rattle.sheet_lows.proofs.put_lows.Statement.{statement}
use Rattle.sheet_lows.proofs.put_lows.Tie as tie

-- the array before and after its first numbers are sorted, where these are the low positions
module _ (xs : List ℤ) (vs : List Pair) (before after : List ℤ) (count : ℕ)
    (is : count ≡ length (low_positions xs vs)) (kept : take count before ≡ low_positions xs vs)
    (done : after ≡ sorted (take count before) ++ drop count before) where
  first_count : length (sorted (take count before)) ≡ count
  first_count = sorted_length (take count before) ∙ ap length kept ∙ sym is

  lows_fit : count ≤ length after
  lows_fit = omega (arith, ap length done, length-append (sorted (take count before)) (drop count before), first_count)

  lows_are : take count after ≡ sorted (low_positions xs vs)
  lows_are = ap (take count) done ∙ take_at (sorted (take count before)) (drop count before) count first_count ∙ ap sorted kept

-- where the array has been sorted
module _ (k : tie.After-sort) where
  abbrev collected : tie.After-low_positions-count
  collected = k.before.before.before

  abbrev positions : List ℤ
  positions = collected.args.positions.now

  abbrev values : List Pair
  values = paired collected.args.values.now

  abbrev count : ℕ
  count = collected.low_positions-count.result

  fits : count ≤ length k.sort.new.list
  fits = lows_fit positions values _ _ count collected.low_positions-count.ensures.0 collected.low_positions-count.ensures.1 k.sort.ensures

  are : take count k.sort.new.list ≡ sorted (low_positions positions values)
  are = lows_are positions values _ _ count collected.low_positions-count.ensures.0 collected.low_positions-count.ensures.1 k.sort.ensures

  few : length (take count k.sort.new.list) ≤ length positions
  few = omega (arith, length-take-le count k.sort.new.list fits, collected.low_positions-count.ensures.0, low_positions_few positions values)

put-low-lines-requires : tie.Need-put_low_lines-requires
put-low-lines-requires c κs = let s = c in omega (arith, few c.before.before, s.requires)

returns : tie.Need-returns
returns c =
    let p = c in
    let k = p in
    puts_within (omega (arith, few k.before.before.before.before.before)) (puts_as (ap low_lines (are k.before.before.before.before.before)) p.put_low_lines.ensures)

pub put_lows_spec : {M : Type 1} → statement M
put_lows_spec =
    tie.close (tie.spec (λ c. search rules) (λ c κs. search rules) (λ c κs. search rules) (λ c. fits c.before)
    (λ c. let k = c in sym (length-take-le (count k.before.before) _ (fits k.before.before))) put-low-lines-requires (λ c. search rules) returns)
