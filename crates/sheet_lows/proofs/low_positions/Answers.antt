-- A turn stores one entry behind the low ones, and counts it where it is low.
use Rattle.std.proofs.Common.{◌≡◌, ℕ, suc, ◌+◌, ◌*◌, ◌/◌, ◌<◌, true, false, sym, ap, ◌∙◌, rules, arith, w32, ℤ, pos}
use Rattle.std.proofs.Common.{List, [], ◌∷◌, ◌++◌, length, get_or, take, FitsSigned}
use native.Mathlib.Numerals.{add-one}
use mathlib.Core.List.{append-nil}
use lib.ListN.{set}
use lib.Seq.{take_all, length-take-le, take-suc-set, take-set-le}
use Rattle.base_exact.proofs.Word.{to_z-of_z}
use Rattle.spec_spline.specs.Reading.{Pair}
use Rattle.spec_sheet.specs.Printout.{is_low, low_positions}
use Rattle.spec_sheet.specs.Pairs.{paired}
use Rattle.spec_sheet.proofs.Printout.{entry_low, entry_not_low, low_positions-none, low_positions_more}
use Rattle.spec_sheet.proofs.Pairs.{paired_length, paired_at}
use Rattle.sheet_lows.proofs.low_positions.Goals as goal
use Rattle.sheet_lows.proofs.low_positions.Goals.{then-is_low, else-is_low}

module _ (xs vs lows : List ℤ) (count k : ℕ) (kept : take count lows ≡ low_positions (take k xs) (paired vs))
    (h : k < length xs) (l : k < length vs / 2)
    (r : count < length lows) where
  abbrev x : ℤ
  x = get_or xs k (pos 0)

  abbrev v : Pair
  v = record { early = get_or vs (2 * k) (pos 0); late = get_or vs (2 * k + 1) (pos 0) }

  -- one entry more
  more : {ys : List ℤ} → low_positions (x ∷ []) (v ∷ []) ≡ ys
      → low_positions (take k xs) (paired vs) ++ ys ≡ low_positions (take (suc k) xs) (paired vs)
  more e =
      ap (λ t. low_positions (take k xs) (paired vs) ++ t)
      (sym e ∙ ap (λ (w : Pair). low_positions (x ∷ []) (w ∷ [])) (sym (paired_at vs k l)))
      ∙ sym (low_positions_more xs (paired vs) k h (omega (arith, paired_length vs)))

  -- a low entry is counted, another is not
  counted : is_low v ≡ true → take (suc count) (set lows count x) ≡ low_positions (take (suc k) xs) (paired vs)
  counted e = take-suc-set lows count x r ∙ ap (λ t. t ++ (x ∷ [])) kept ∙ more (entry_low x v e)

  passed : is_low v ≡ false → take count (set lows count x) ≡ low_positions (take (suc k) xs) (paired vs)
  passed e =
      take-set-le count lows count x (omega arith) ∙ kept ∙ sym (append-nil (low_positions (take k xs) (paired vs)))
      ∙ more (entry_not_low x v e)

pub loop-k-init : goal.loop-k-init
loop-k-init c = record { few = omega arith; kept = sym (low_positions-none _) }

pub loop-k-preserved : goal.loop-k-preserved
loop-k-preserved c =
    let l = c.loop-k in
    let xs = c.args.positions.now in
    let vs = c.args.values.now in
    let f : FitsSigned w32 (get_or xs l.k (pos 0)) = search rules in
    let g : FitsSigned w32 (get_or vs (2 * l.k) (pos 0)) = search rules in
    let h : FitsSigned w32 (get_or vs (2 * l.k + 1) (pos 0)) = search rules in
    let room : l.count < length l.lows = omega arith in
    let low = simp to_z-of_z at c.is_low.ensures in
    simp to_z-of_z (
    elim c.if-is_low.branch [
      | then-is_low w ↦ let kept = counted xs vs _ _ _ l.invariant.kept (omega arith) (omega arith) room (sym low ∙ w.if-is_low.true) in
          rw (w.count-is, add-one l.count, add-one l.k) (record { few = omega arith; kept = kept })
      | else-is_low w ↦ let kept = passed xs vs _ _ _ l.invariant.kept (omega arith) (omega arith) room (sym low ∙ w.if-is_low.false) in
          rw (w.count-is, add-one l.k) (record { few = omega arith; kept = kept })
    ])

pub returns : goal.returns
returns c =
    let l = c.loop-k in
    let all : take l.k c.args.positions.now ≡ c.args.positions.now = take_all l.k c.args.positions.now (omega arith) in
    let kept = rw all at l.invariant.kept in
    record { value = sym (length-take-le l.count l.lows (omega arith)) ∙ ap length kept; lows_after = kept }
