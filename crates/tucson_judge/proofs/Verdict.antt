-- The verdict on all lines stays the same from line to line.
use mathlib.Core.Path.{◌≡◌, refl, sym, ◌∙◌, ap, ap₂}
use mathlib.Core.Bool.{Bool, true, false, cond, ◌&&◌, ◌||◌, not, or_assoc, or-false as or-none}
use mathlib.Core.List.{List, [], ◌∷◌, drop_last}
use mathlib.Core.Option.{Option, some, none}
use Prim.Native.Nat.{ℕ, zero, suc, ◌≤◌}
use native.Mathlib.Omega.{arith}
use lib.IntN.{ℤ}
use lib.ListN.{length}
use Rattle.base_outcome.specs.Outcome.{answer, refusal, capped}
use Rattle.base_outcome.specs.Search.{or_else}
use Rattle.base_outcome.specs.Machine.{passed}
use Rattle.spec_tucson.specs.Line.{Line, same, line_in_columns}
use Rattle.spec_tucson.specs.Series.{hundredths}
use Rattle.spec_tucson.specs.TextReading.{Begun, last_field}
use Rattle.spec_tucson.specs.StrictLine.{Kept}
use Rattle.spec_tucson.specs.CleanSeries.{continues, follows_its, fields_in, fields_of, runs_in, year_fault, any999, width_fields, seen999, Fault, or_fault}
use Rattle.spec_tucson.specs.CleanSeries.{closing_fault, series_fault, closed_lines, read_kept}
use Rattle.tucson_fields.specs.Machine.{NumbersOf}
use Rattle.std.specs.Prelude.{Result, Ok, Err, Some, None}
use Rattle.std.specs.Prelude as machine
use Rattle.tucson_fields.specs.declared.Facts.{Facts}
use Rattle.tucson_lines.specs.Machine.{line_found}
use Rattle.tucson_judge.specs.Judging.{mark_found, closing_fault_of, reader_told, ReaderBehind, pick, verdict, Behind}
use Rattle.tucson_judge.specs.declared.Mark.{Mark}
use Rattle.tucson_judge.specs.declared.Reader.{Reader}
use Rattle.tucson_judge.specs.declared.Judged.{Judged}

-- ---- code 23
or_later : (a : Option ℕ) (runs : Bool) (n : ℕ) (rest : Option ℕ) → or_else a (cond runs (some n) rest) ≡ or_else (or_else a (cond runs (some n) none)) rest
or_later none true n rest = refl
or_later none false n rest = refl
or_later (some i) runs n rest = refl

module _ (k : Kept) (before : Option Kept) (ks : List Kept) (follows goes : Bool) (follows_is : follows_its before k ≡ follows) (goes-is : continues k ks ≡ goes) where
  year-behind : (a r : Option ℕ) → r ≡ or_else a (cond (runs_in (not follows && not goes) k.text) (some k.line) none)
      → or_else a (year_fault before (k ∷ ks)) ≡ or_else r (year_fault (some k) ks)
  unfolding year_fault
  year-behind a r e =
      ap₂ (λ (f g : Bool). or_else a (cond (runs_in (not f && not g) k.text) (some k.line) (year_fault (some k) ks))) follows_is goes-is
      ∙ or_later a (runs_in (not follows && not goes) k.text) k.line (year_fault (some k) ks)
      ∙ ap (λ (o : Option ℕ). or_else o (year_fault (some k) ks)) (sym e)

-- ---- 999 before the closing
nine_last : (fs : List ℤ) → 1 ≤ length fs → any999 fs ≡ (any999 (drop_last fs) || same (last_field fs) hundredths)
unfolding any999 last_field
nine_last [] h = absurd (omega arith)
nine_last (f ∷ []) h = or-none (same f hundredths)
nine_last (f ∷ g ∷ fs) h =
    ap (λ (b : Bool). same f hundredths || b) (nine_last (g ∷ fs) (omega arith))
    ∙ sym (or_assoc (same f hundredths) (any999 (drop_last (g ∷ fs))) (same (last_field (g ∷ fs)) hundredths))

seen_or : (o : Option ℕ) (goes : Bool) (k : Kept) → seen999 o goes k ≡ or_else o (cond (any999 (width_fields goes k.text)) (some k.line) none)
unfolding seen999
seen_or none goes k = refl
seen_or (some line) goes k = refl

module _ (k : Kept) (l : Line) (f : Facts) (is : line_in_columns k.text ≡ some l) (numbers : NumbersOf l f) where
  fields_are : fields_of k.text ≡ l.fields
  unfolding fields_of
  fields_are = ap fields_in is

  last_is : last_field (fields_of k.text) ≡ f.last
  last_is = ap last_field fields_are ∙ numbers.last_is

  nine_here : (goes : Bool) → any999 (width_fields goes k.text) ≡ (f.nine || (goes && same f.last hundredths))
  nine_here true =
      ap any999 fields_are ∙ nine_last l.fields (omega (arith, numbers.count_is, numbers.some_field))
      ∙ ap₂ (λ (b : Bool) (z : ℤ). b || same z hundredths) numbers.nine_is numbers.last_is
  nine_here false = ap (λ (fs : List ℤ). any999 (drop_last fs)) fields_are ∙ numbers.nine_is ∙ sym (or-none f.nine)

  seen_is : (goes : Bool) (o r : Option ℕ) → r ≡ or_else o (cond (f.nine || (goes && same f.last hundredths)) (some k.line) none)
      → seen999 o goes k ≡ r
  seen_is goes o r e = seen_or o goes k ∙ ap (λ (b : Bool). or_else o (cond b (some k.line) none)) (nine_here goes) ∙ sym e

  -- ---- codes 24 and 25
  module _ (unit : ℕ) (ks : List Kept) (m : Option Fault) (o r : Option ℕ) where
    series_on : continues k ks ≡ true → r ≡ or_else o (cond (f.nine || (true && same f.last hundredths)) (some k.line) none)
        → or_fault m (series_fault unit o (k ∷ ks)) ≡ or_fault m (series_fault unit r ks)
    unfolding series_fault
    series_on g e =
        ap (λ (b : Bool). or_fault m (cond b (series_fault unit (seen999 o true k) ks) (or_fault (closing_fault unit (seen999 o false k) k) (series_fault unit none ks)))) g
        ∙ ap (λ (x : Option ℕ). or_fault m (series_fault unit x ks)) (seen_is true o r e)

    closing_is : closing_fault unit r k ≡ closing_fault_of unit r k.line f.last
    unfolding closing_fault closing_fault_of
    closing_is = ap (λ (z : ℤ). closing_fault_of unit r k.line z) last_is

    or_fault_assoc : (a b c : Option Fault) → or_fault a (or_fault b c) ≡ or_fault (or_fault a b) c
    or_fault_assoc none b c = refl
    or_fault_assoc (some x) b c = refl

    series-closed : continues k ks ≡ false → r ≡ or_else o (cond (f.nine || (false && same f.last hundredths)) (some k.line) none)
        → (n : Option Fault) → n ≡ or_fault m (closing_fault_of unit r k.line f.last)
        → or_fault m (series_fault unit o (k ∷ ks)) ≡ or_fault n (series_fault unit none ks)
    unfolding series_fault
    series-closed g e n h =
        ap (λ (b : Bool). or_fault m (cond b (series_fault unit (seen999 o true k) ks) (or_fault (closing_fault unit (seen999 o false k) k) (series_fault unit none ks)))) g
        ∙ ap (λ (x : Option ℕ). or_fault m (or_fault (closing_fault unit x k) (series_fault unit none ks))) (seen_is false o r e)
        ∙ or_fault_assoc m (closing_fault unit r k) (series_fault unit none ks)
        ∙ ap (λ (x : Option Fault). or_fault (or_fault m x) (series_fault unit none ks)) closing_is
        ∙ ap (λ (x : Option Fault). or_fault x (series_fault unit none ks)) (sym h)

-- ---- all codes
module _ (unit : ℕ) (k : Kept) (before : Option Kept) (b : Option Begun) (l : Line) (f : Facts) (j : Judged) (year seen : ℕ) (reader : Result Reader Mark)
    (follows goes : Bool) (is : line_in_columns k.text ≡ some l) (numbers : NumbersOf l f) (follows_is : follows_its before k ≡ follows)
    (year_is : line_found year ≡ or_else (line_found j.year) (cond (runs_in (not follows && not goes) k.text) (some k.line) none))
    (seen-now : line_found seen ≡ or_else (line_found j.seen) (cond (f.nine || (goes && same f.last hundredths)) (some k.line) none))
    (reads : ReaderBehind unit goes k b j.reader reader) where
  pub judged_on : goes ≡ true → Behind unit goes k before b j (record { year = year; fault = j.fault; seen = seen; reader = reader })
  unfolding verdict
  judged_on on = record {
    begun-behind = reads.begun-behind;
    tracks = reads.tracks;
    same-verdict = λ ks e.
        ap₂ (λ (y : Option ℕ) (x : Option Fault). pick y x (reader_told j.reader b (closed_lines unit (k ∷ ks))))
        (year-behind k before ks follows goes follows_is e (line_found j.year) (line_found year) year_is)
        (series_on k l f is numbers unit ks (mark_found j.fault) (line_found j.seen) (line_found seen) (e ∙ on) (rw on at seen-now))
        ∙ ap (pick (or_else (line_found year) (year_fault (some k) ks)) (or_fault (mark_found j.fault) (series_fault unit (line_found seen) ks))) (reads.same_end ks e);
  }

  pub judged_closed : (m : machine.Option Mark) → goes ≡ false
      → mark_found m ≡ or_fault (mark_found j.fault) (closing_fault_of unit (line_found seen) k.line f.last)
      → Behind unit goes k before b j (record { year = year; fault = m; seen = 0; reader = reader })
  unfolding verdict line_found
  judged_closed m off h = record {
    begun-behind = reads.begun-behind;
    tracks = reads.tracks;
    same-verdict = λ ks e.
        ap₂ (λ (y : Option ℕ) (x : Option Fault). pick y x (reader_told j.reader b (closed_lines unit (k ∷ ks))))
        (year-behind k before ks follows goes follows_is e (line_found j.year) (line_found year) year_is)
        (series-closed k l f is numbers unit ks (mark_found j.fault) (line_found j.seen) (line_found seen) (e ∙ off) (rw off at seen-now) (mark_found m) h)
        ∙ ap (pick (or_else (line_found year) (year_fault (some k) ks)) (or_fault (mark_found m) (series_fault unit none ks))) (reads.same_end ks e);
  }

-- ---- behind the last line
module _ (unit : ℕ) (j : Judged) (b : Option Begun) (before : Option Kept) where
  at_end : verdict unit j b before []
      ≡ pick (or_else (line_found j.year) none) (or_fault (mark_found j.fault) none) (reader_told j.reader b [])
  unfolding verdict year_fault series_fault closed_lines
  at_end = refl

  pub concluded_year : (j.year ≡ 0 → ⊥) → refusal 23 (capped j.year) ≡ verdict unit j b before []
  unfolding line_found
  concluded_year h = go j.year h ∙ sym at_end
    where
      go : (n : ℕ) → (n ≡ 0 → ⊥)
          → refusal 23 (capped n) ≡ pick (or_else (line_found n) none) (or_fault (mark_found j.fault) none) (reader_told j.reader b [])
      go zero h = absurd (h refl)
      go (suc n) h = refl

  module _ (no-year : j.year ≡ 0) where
    past-year : verdict unit j b before [] ≡ pick none (or_fault (mark_found j.fault) none) (reader_told j.reader b [])
    unfolding line_found
    past-year =
        at_end
        ∙ ap (λ (n : ℕ). pick (or_else (line_found n) none) (or_fault (mark_found j.fault) none) (reader_told j.reader b [])) no-year

    pub concluded_fault : (m : Mark) → j.fault ≡ Some m → refusal m.code (capped m.line) ≡ verdict unit j b before []
    unfolding mark_found
    concluded_fault m e =
        sym (past-year ∙ ap (λ (f : machine.Option Mark). pick none (or_fault (mark_found f) none) (reader_told j.reader b [])) e)

    module _ (no_fault : j.fault ≡ None) where
      past-fault : verdict unit j b before [] ≡ reader_told j.reader b []
      unfolding mark_found
      past-fault =
          past-year ∙ ap (λ (f : machine.Option Mark). pick none (or_fault (mark_found f) none) (reader_told j.reader b [])) no_fault

      pub concluded_reader : (m : Mark) → j.reader ≡ Err m → refusal m.code (capped m.line) ≡ verdict unit j b before []
      unfolding reader_told
      concluded_reader m e = sym (past-fault ∙ ap (λ (r : Result Reader Mark). reader_told r b []) e)

      pub concluded_legal : (r : Reader) → j.reader ≡ Ok r → answer tt ≡ verdict unit j b before []
      unfolding reader_told read_kept passed
      concluded_legal r e = sym (past-fault ∙ ap (λ (r : Result Reader Mark). reader_told r b []) e)
