-- The lines of an answer have the closings that the unit gives: a second call with the same unit, or none said, changes none of them.
use mathlib.Core.Path.{◌≡◌, refl, sym, ◌∙◌, ap, ap₂}
use mathlib.Core.Bool.{Bool, true, false, cond}
use mathlib.Core.List.{List, [], ◌∷◌, drop_last}
use mathlib.Core.Option.{Option, some, none}
use Prim.Native.Nat.{ℕ, suc}
use borrow.Author.Tests.{eqb-true, eqb-false}
use lib.Dec.{eqb}
use lib.IntN.{ℤ}
use lib.ListN.{length}
use Rattle.base_exact.proofs.Decide.{clash}
use Rattle.base_text.specs.Bytes.{Text}
use Rattle.spec_tucson.specs.Line.{Line, same, thousandths}
use Rattle.spec_tucson.specs.Series.{hundredths}
use Rattle.spec_tucson.specs.TextReading.{last_field}
use Rattle.spec_tucson.specs.StrictLine.{is_some, is_strict, Kept}
use Rattle.spec_tucson.specs.KeptLines.{same_text}
use Rattle.spec_tucson.specs.CleanSeries.{continues, fields_in, fields_of, unknown_unit, unit_not_said, hundredths_said, closing_of, is_unit_fault, closing_after, any999, width_fields, seen999}
use Rattle.spec_tucson.specs.CleanSeries.{Fault, fault, if_hundredths, closing_fault, or_fault, series_fault, reclosed, closed_lines, with_end}
use Rattle.tucson_judge.proofs.Closing.{fault_unsaid, after_unsaid, after_said, after_other, last-closed}
use Rattle.tucson_judge.proofs.Reclosing.{reclosed-line, reclosed-name}
use Rattle.theorems_clean.proofs.StrictLines.{AllStrict, strict-line}
use Rattle.theorems_told.proofs.Changes.{closing-known}
use Rattle.theorems_stays.proofs.Stays.{reclosed-same}
use Rattle.theorems_again.specs.Again.{SameUnit, not_said, said}
use Rattle.theorems_again.proofs.Renumbered.{as_line, renumbered}

-- ---- a line

-- The fields of a series' last line, with the closing that the unit gives.
pub record Closed (unit : ℕ) (t u : Text) : Type 0 where
  pub last_is : last_field (fields_of u) ≡ closing_after unit (last_field (fields_of t))
  pub front_is : drop_last (fields_of u) ≡ drop_last (fields_of t)
  pub count_is : length (fields_of u) ≡ length (fields_of t)

pub closed-fields : (unit : ℕ) (goes : Bool) (t : Text) → is_strict t ≡ true → goes ≡ false → Closed unit t (reclosed unit goes t)
unfolding fields_of
closed-fields unit goes t e g =
    let l = strict-line t e in
    let r = reclosed-line unit goes t l.line l.is in
    record {
      last_is = ap (λ (o : Option Line). last_field (fields_in o)) r.is ∙ r.last_is ∙ last-closed unit (last_field l.line.fields) goes g
          ∙ ap (λ (o : Option Line). closing_after unit (last_field (fields_in o))) (sym l.is);
      front_is = ap (λ (o : Option Line). drop_last (fields_in o)) r.is ∙ r.front_is ∙ ap (λ (o : Option Line). drop_last (fields_in o)) (sym l.is);
      count_is = ap (λ (o : Option Line). length (fields_in o)) r.is ∙ r.count_is ∙ ap (λ (o : Option Line). length (fields_in o)) (sym l.is);
    }

-- a line whose series goes on stays
pub going-same : (unit : ℕ) (goes : Bool) (t : Text) → goes ≡ true → reclosed unit goes t ≡ t
going-same unit goes t e = reclosed-same unit goes t (λ f. clash cc)

-- ---- the unit

closing-fits : (unit : ℕ) → eqb unit unit_not_said ≡ false → is_unit_fault unit (closing_of unit) ≡ false
unfolding is_unit_fault closing_of
closing-fits unit e = rw e (go (eqb unit hundredths_said))
  where
    go : (b : Bool) → cond b (same (cond b hundredths thousandths) thousandths) (same (cond b hundredths thousandths) hundredths) ≡ false
    go true = refl
    go false = refl

pub unit_known : (unit : ℕ) (c : ℤ) → is_unit_fault unit c ≡ false → same (closing_after unit c) unknown_unit ≡ false
unit_known unit c e = go (eqb unit unit_not_said) refl (same c unknown_unit) refl
  where
    go : (n : Bool) → eqb unit unit_not_said ≡ n → (u : Bool) → same c unknown_unit ≡ u → same (closing_after unit c) unknown_unit ≡ false
    go true n u w =
        ap (λ (z : ℤ). same z unknown_unit) (after_unsaid unit c (eqb-true unit unit_not_said n)) ∙ sym (fault_unsaid unit c (eqb-true unit unit_not_said n)) ∙ e
    go false n true w = ap (λ (z : ℤ). same z unknown_unit) (after_said unit c w (eqb-false unit unit_not_said n)) ∙ closing-known unit
    go false n false w = ap (λ (z : ℤ). same z unknown_unit) (after_other unit c w) ∙ w

pub unit_fits : (unit unit' : ℕ) (c : ℤ) → SameUnit unit unit' → is_unit_fault unit c ≡ false → is_unit_fault unit' (closing_after unit c) ≡ false
unit_fits unit unit' c not_said e = fault_unsaid unit_not_said (closing_after unit c) refl ∙ unit_known unit c e
unit_fits unit unit' c said e = go (eqb unit unit_not_said) refl (same c unknown_unit) refl
  where
    go : (n : Bool) → eqb unit unit_not_said ≡ n → (u : Bool) → same c unknown_unit ≡ u → is_unit_fault unit (closing_after unit c) ≡ false
    go true n u w = ap (is_unit_fault unit) (after_unsaid unit c (eqb-true unit unit_not_said n)) ∙ e
    go false n true w = ap (is_unit_fault unit) (after_said unit c w (eqb-false unit unit_not_said n)) ∙ closing-fits unit n
    go false n false w = ap (is_unit_fault unit) (after_other unit c w) ∙ e

-- ---- all lines

-- The lines that the second call keeps.
abbrev pub second_lines : ℕ → ℕ → List Kept → List Kept
second_lines unit i ks = renumbered i (closed_lines unit ks)

-- the first of them has this text
abbrev pub closed_text : ℕ → Kept → List Kept → Text
closed_text unit k ks = reclosed unit (continues k ks) k.text

pub second-continues : (unit i j : ℕ) (k : Kept) (ks : List Kept) → continues (as_line i (closed_text unit k ks)) (second_lines unit j ks) ≡ continues k ks
unfolding continues closed_lines
second-continues unit i j k [] = refl
second-continues unit i j k (n ∷ ks) = ap₂ same_text (reclosed-name unit (continues k (n ∷ ks)) k.text) (reclosed-name unit (continues n ks) n.text)

-- The closing of each series fits the unit.
abbrev pub Fits : ℕ → List Kept → Type 0
Fits unit [] = Unit {0}
Fits unit (k ∷ ks) = (continues k ks ≡ false → is_unit_fault unit (last_field (fields_of k.text)) ≡ false) × Fits unit ks

-- the second call closes nothing
pub closed-again : (ks : List Kept) (unit unit' i : ℕ) → AllStrict ks → Fits unit ks → closed_lines unit' (second_lines unit i ks) ≡ second_lines unit i ks
unfolding closed_lines
closed-again [] unit unit' i s f = refl
closed-again (k ∷ ks) unit unit' i s f =
    let t = closed_text unit k ks in
    let known : continues (as_line i t) (second_lines unit (suc i) ks) ≡ false → same (last_field (fields_of t)) unknown_unit ≡ false = λ w.
    let g = sym (second-continues unit i (suc i) k ks) ∙ w in
    ap (λ (z : ℤ). same z unknown_unit) (closed-fields unit (continues k ks) k.text s.0 g).last_is ∙ unit_known unit (last_field (fields_of k.text)) (f.0 g) in
    ap₂ (λ (x : Text) (xs : List Kept). record { line = i; raw = with_end t; text = x } ∷ xs)
    (reclosed-same unit' (continues (as_line i t) (second_lines unit (suc i) ks)) t known) (closed-again ks unit unit' (suc i) s.1 f.1)

-- ---- codes 24 and 25

or-none : (a b : Option Fault) → or_fault a b ≡ none → (a ≡ none) × (b ≡ none)
or-none none b e = (refl, e)
or-none (some f) b e = clash cc

closing-none : (unit : ℕ) (seen : Option ℕ) (k : Kept) → closing_fault unit seen k ≡ none
    → (is_unit_fault unit (last_field (fields_of k.text)) ≡ false) × (if_hundredths (closing_after unit (last_field (fields_of k.text))) seen ≡ none)
unfolding closing_fault
closing-none unit seen k e = go (is_unit_fault unit (last_field (fields_of k.text))) e
  where
    go : (b : Bool) → cond b (some (fault 24 k.line)) (if_hundredths (closing_after unit (last_field (fields_of k.text))) seen) ≡ none
        → (b ≡ false) × (if_hundredths (closing_after unit (last_field (fields_of k.text))) seen ≡ none)
    go true e = clash cc
    go false e = (refl, e)

pub series_fit : (ks : List Kept) (unit : ℕ) (seen : Option ℕ) → series_fault unit seen ks ≡ none → Fits unit ks
unfolding series_fault
series_fit [] unit seen e = tt
series_fit (k ∷ ks) unit seen e = go (continues k ks) refl e (λ x. series_fit ks unit x)
  where
    go : (b : Bool) → continues k ks ≡ b
        → cond b (series_fault unit (seen999 seen true k) ks) (or_fault (closing_fault unit (seen999 seen false k) k) (series_fault unit none ks)) ≡ none
        → ((x : Option ℕ) → series_fault unit x ks ≡ none → Fits unit ks)
        → (continues k ks ≡ false → is_unit_fault unit (last_field (fields_of k.text)) ≡ false) × Fits unit ks
    go true w e ih = (λ f. clash cc, ih (seen999 seen true k) e)
    go false w e ih =
        let both = or-none (closing_fault unit (seen999 seen false k) k) (series_fault unit none ks) e in
        (λ f. (closing-none unit (seen999 seen false k) k both.0).0, ih none both.1)

-- a line with 999 was seen in both, or in neither
seen_same : (goes : Bool) (seen seen' : Option ℕ) (k k' : Kept) → is_some seen' ≡ is_some seen → any999 (width_fields goes k'.text) ≡ any999 (width_fields goes k.text)
    → is_some (seen999 seen' goes k') ≡ is_some (seen999 seen goes k)
unfolding seen999
seen_same goes (some n) (some m) k k' s a = refl
seen_same goes (some n) none k k' s a = clash cc
seen_same goes none (some m) k k' s a = clash cc
seen_same goes none none k k' s a = rw a (go (any999 (width_fields goes k.text)))
  where
    go : (b : Bool) → is_some (cond b (some k'.line) none) ≡ is_some (cond b (some k.line) none)
    go true = refl
    go false = refl

hundredths-same : (c : ℤ) (seen seen' : Option ℕ) → is_some seen' ≡ is_some seen → if_hundredths c seen ≡ none → if_hundredths c seen' ≡ none
hundredths-same c none none s e = refl
hundredths-same c none (some m) s e = clash cc
hundredths-same c (some n) none s e = clash cc
hundredths-same c (some n) (some m) s e = go (same c hundredths) e
  where
    go : (b : Bool) → cond b (some (fault 25 n)) none ≡ none → cond b (some (fault 25 m)) none ≡ none
    go true e = clash cc
    go false e = refl

pub second-series : (ks : List Kept) (unit unit' i : ℕ) (seen seen' : Option ℕ) → SameUnit unit unit' → AllStrict ks → is_some seen' ≡ is_some seen
    → series_fault unit seen ks ≡ none → series_fault unit' seen' (second_lines unit i ks) ≡ none
unfolding series_fault closing_fault closed_lines
second-series [] unit unit' i seen seen' u s o e = refl
second-series (k ∷ ks) unit unit' i seen seen' u s o e = rw (second-continues unit i (suc i) k ks) (go (continues k ks) refl e (λ x y. second-series ks unit unit' (suc i) x y u s.1))
  where
    k' : Kept
    k' = as_line i (closed_text unit k ks)

    ks' : List Kept
    ks' = second_lines unit (suc i) ks

    last_line : continues k ks ≡ false → closing_fault unit (seen999 seen false k) k ≡ none → closing_fault unit' (seen999 seen' false k') k' ≡ none
    last_line w e =
        let c = closed-fields unit (continues k ks) k.text s.0 w in
        let before = closing-none unit (seen999 seen false k) k e in
        let last = closing_after unit (last_field (fields_of k.text)) in
        ap (λ (z : ℤ). cond (is_unit_fault unit' z) (some (fault 24 i)) (if_hundredths (closing_after unit' z) (seen999 seen' false k'))) c.last_is
        ∙ ap (λ (b : Bool). cond b (some (fault 24 i)) (if_hundredths (closing_after unit' last) (seen999 seen' false k'))) (unit_fits unit unit' (last_field (fields_of k.text)) u before.0)
        ∙ ap (λ (z : ℤ). if_hundredths z (seen999 seen' false k')) (after_other unit' last (unit_known unit (last_field (fields_of k.text)) before.0))
        ∙ hundredths-same last (seen999 seen false k) (seen999 seen' false k') (seen_same false seen seen' k k' o (ap any999 c.front_is)) before.1

    go : (b : Bool) → continues k ks ≡ b
        → cond b (series_fault unit (seen999 seen true k) ks) (or_fault (closing_fault unit (seen999 seen false k) k) (series_fault unit none ks)) ≡ none
        → ((x y : Option ℕ) → is_some y ≡ is_some x → series_fault unit x ks ≡ none → series_fault unit' y ks' ≡ none)
        → cond b (series_fault unit' (seen999 seen' true k') ks') (or_fault (closing_fault unit' (seen999 seen' false k') k') (series_fault unit' none ks')) ≡ none
    go true w e ih =
        ih (seen999 seen true k) (seen999 seen' true k') (seen_same true seen seen' k k' o (ap (λ (t : Text). any999 (fields_of t)) (going-same unit (continues k ks) k.text w))) e
    go false w e ih =
        let both = or-none (closing_fault unit (seen999 seen false k) k) (series_fault unit none ks) e in
        ap₂ or_fault (last_line w both.0) (ih none none refl both.1)
