-- The tests of a closing, case by case, and what they leave of the first faults.
use mathlib.Core.Path.{◌≡◌, refl, sym, ◌∙◌, ap, ap₂}
use mathlib.Core.Bool.{Bool, true, false, cond, ◌&&◌, not}
use mathlib.Core.Option.{Option, some, none}
use Prim.Native.Nat.{ℕ, zero, suc}
use borrow.Author.Tests.{eq-eqb, ne_eqb}
use lib.Dec.{eqb}
use lib.IntN.{ℤ}
use Rattle.std.specs.Prelude.{Some, None}
use Rattle.std.specs.Prelude as machine
use Rattle.std.specs.Option.{is_some}
use Rattle.base_exact.proofs.Decide.{and-false, clash}
use Rattle.spec_tucson.specs.Line.{same, thousandths}
use Rattle.spec_tucson.specs.Series.{hundredths}
use Rattle.spec_tucson.specs.CleanSeries.{unknown_unit, unit_not_said, hundredths_said, closing_of, is_unit_fault, closing_after, Fault, fault, if_hundredths, or_fault}
use Rattle.tucson_lines.specs.Machine.{line_found}
use Rattle.tucson_judge.specs.Judging.{mark_found, closing_fault_of, last_after}
use Rattle.tucson_judge.specs.declared.Mark.{Mark}

-- ---- the unit
pub closing-hundredths : (unit : ℕ) → unit ≡ hundredths_said → closing_of unit ≡ hundredths
unfolding closing_of
closing-hundredths unit e = ap (λ (b : Bool). cond b hundredths thousandths) (eq-eqb unit hundredths_said e)

pub closing-thousandths : (unit : ℕ) → (unit ≡ hundredths_said → ⊥) → closing_of unit ≡ thousandths
unfolding closing_of
closing-thousandths unit h = ap (λ (b : Bool). cond b hundredths thousandths) (ne_eqb unit hundredths_said h)

pub fault_unsaid : (unit : ℕ) (c : ℤ) → unit ≡ unit_not_said → is_unit_fault unit c ≡ same c unknown_unit
unfolding is_unit_fault
fault_unsaid unit c e = rw (eq-eqb unit unit_not_said e)

pub fault-hundredths : (unit : ℕ) (c : ℤ) → (unit ≡ unit_not_said → ⊥) → unit ≡ hundredths_said → is_unit_fault unit c ≡ same c thousandths
unfolding is_unit_fault
fault-hundredths unit c h e = rw (ne_eqb unit unit_not_said h, eq-eqb unit hundredths_said e)

pub fault-thousandths : (unit : ℕ) (c : ℤ) → (unit ≡ unit_not_said → ⊥) → (unit ≡ hundredths_said → ⊥) → is_unit_fault unit c ≡ same c hundredths
unfolding is_unit_fault
fault-thousandths unit c h e = rw (ne_eqb unit unit_not_said h, ne_eqb unit hundredths_said e)

-- ---- the closing as the unit makes it
pub after_other : (unit : ℕ) (c : ℤ) → same c unknown_unit ≡ false → closing_after unit c ≡ c
unfolding closing_after
after_other unit c e = ap (λ (b : Bool). cond (b && not (eqb unit unit_not_said)) (closing_of unit) c) e

pub after_unsaid : (unit : ℕ) (c : ℤ) → unit ≡ unit_not_said → closing_after unit c ≡ c
unfolding closing_after
after_unsaid unit c e =
    ap (λ (b : Bool). cond (same c unknown_unit && not b) (closing_of unit) c) (eq-eqb unit unit_not_said e)
    ∙ ap (λ (b : Bool). cond b (closing_of unit) c) (and-false (same c unknown_unit))

pub after_said : (unit : ℕ) (c : ℤ) → same c unknown_unit ≡ true → (unit ≡ unit_not_said → ⊥) → closing_after unit c ≡ closing_of unit
unfolding closing_after
after_said unit c e h = ap₂ (λ (a b : Bool). cond (a && not b) (closing_of unit) c) e (ne_eqb unit unit_not_said h)

pub last_on : (unit : ℕ) (c : ℤ) (goes : Bool) → goes ≡ true → last_after unit goes c ≡ c
unfolding last_after
last_on unit c goes e = ap (λ (b : Bool). cond b c (closing_after unit c)) e

pub last-closed : (unit : ℕ) (c : ℤ) (goes : Bool) → goes ≡ false → last_after unit goes c ≡ closing_after unit c
unfolding last_after
last-closed unit c goes e = ap (λ (b : Bool). cond b c (closing_after unit c)) e

-- ---- the first of codes 24 and 25
pub mark-kept : (m : machine.Option Mark) (o : Option Fault) → is_some m ≡ true → mark_found m ≡ or_fault (mark_found m) o
unfolding mark_found
mark-kept None o h = clash cc
mark-kept (Some m) o h = refl

no_mark : (m : machine.Option Mark) (o : Option Fault) → is_some m ≡ false → or_fault (mark_found m) o ≡ o
unfolding mark_found
no_mark None o h = refl
no_mark (Some m) o h = clash cc

module _ (m : machine.Option Mark) (unit : ℕ) (seen number : ℕ) (last : ℤ) (none_so_far : is_some m ≡ false) where
  pub mark_unit : is_unit_fault unit last ≡ true
      → mark_found (Some (record { code = 24; line = number }))
      ≡ or_fault (mark_found m) (closing_fault_of unit (line_found seen) number last)
  unfolding closing_fault_of mark_found
  mark_unit e =
      sym (no_mark m (closing_fault_of unit (line_found seen) number last) none_so_far
      ∙ ap (λ (b : Bool). cond b (some (fault 24 number)) (if_hundredths (closing_after unit last) (line_found seen))) e)

  module _ (right-unit : is_unit_fault unit last ≡ false) where
    no_unit_fault : or_fault (mark_found m) (closing_fault_of unit (line_found seen) number last) ≡ if_hundredths (closing_after unit last) (line_found seen)
    unfolding closing_fault_of
    no_unit_fault =
        no_mark m (closing_fault_of unit (line_found seen) number last) none_so_far
        ∙ ap (λ (b : Bool). cond b (some (fault 24 number)) (if_hundredths (closing_after unit last) (line_found seen))) right-unit

    pub mark_unseen : seen ≡ 0 → mark_found None ≡ or_fault (mark_found m) (closing_fault_of unit (line_found seen) number last)
    unfolding mark_found line_found
    mark_unseen e = sym (no_unit_fault ∙ ap (λ (n : ℕ). if_hundredths (closing_after unit last) (line_found n)) e)

    pub mark-closed : (seen ≡ 0 → ⊥) → same (closing_after unit last) hundredths ≡ true
        → mark_found (Some (record { code = 25; line = seen }))
        ≡ or_fault (mark_found m) (closing_fault_of unit (line_found seen) number last)
    unfolding mark_found line_found
    mark-closed h e = go seen h ∙ sym no_unit_fault
      where
        go : (n : ℕ) → (n ≡ 0 → ⊥) → some (fault 25 n) ≡ if_hundredths (closing_after unit last) (line_found n)
        go zero h = absurd (h refl)
        go (suc n) h = sym (ap (λ (b : Bool). cond b (some (fault 25 (suc n))) none) e)

    pub mark-none : same (closing_after unit last) hundredths ≡ false
        → mark_found None ≡ or_fault (mark_found m) (closing_fault_of unit (line_found seen) number last)
    unfolding mark_found line_found
    mark-none e = go seen ∙ sym no_unit_fault
      where
        go : (n : ℕ) → none ≡ if_hundredths (closing_after unit last) (line_found n)
        go zero = refl
        go (suc n) = sym (ap (λ (b : Bool). cond b (some (fault 25 (suc n))) none) e)
