-- The closing that a unit gives for -999: the line stays a strict line with the same name, year and other fields.
use mathlib.Core.Path.{◌≡◌, refl, ◌∙◌, ap, ap₂}
use mathlib.Core.Bool.{Bool, true, false, cond, ◌&&◌, not}
use mathlib.Core.List.{List, [], ◌∷◌, ◌++◌, drop_last}
use mathlib.Core.Option.{Option, some, none}
use Prim.Native.Nat.{ℕ, ◌+◌, ◌*◌, ◌-◌, ◌≤◌}
use native.Mathlib.Omega.{arith}
use lib.Dec.{eqb}
use lib.IntN.{ℤ, pos}
use lib.ListN.{length, take, drop, length-append, length-drop, take-append-drop}
use lib.Seq.{take-append-le, take-take, length-take-le}
use Rattle.base_text.specs.Bytes.{Text}
use Rattle.base_text.specs.Numeral.{all_digits, digits_value, is_natural, numeral, digits_up_to, digits, decimal}
use Rattle.spec_tucson.specs.Columns.{in_columns, columns}
use Rattle.spec_tucson.specs.Line.{Line, name_columns, field_columns, field_count, same, line_in_columns}
use Rattle.spec_tucson.specs.TextReading.{last_field}
use Rattle.spec_tucson.specs.StrictLine.{Kept, name_of}
use Rattle.spec_tucson.specs.KeptLines.{same_text}
use Rattle.spec_tucson.specs.CleanSeries.{continues, fields_in, fields_of, unknown_unit, unit_not_said, closing_of, closing_after, is_reclosed, reclosed, closed_lines}
use Rattle.tucson_lines.proofs.GoodLines.{columns-parts, fits-parts}
use Rattle.tucson_lines.proofs.LineNumerals.{last-behind, front-behind, fields-count}
use Rattle.tucson_scan.proofs.Passing.{front_length}
use Rattle.tucson_judge.specs.Judging.{last_after}
use Rattle.tucson_judge.proofs.StrictColumns.{line_relast}

-- ---- the closing in its columns
closing-columns : (unit : ℕ) → (length (columns field_columns (closing_of unit)) ≡ field_columns) × (in_columns (columns field_columns (closing_of unit)) ≡ some (closing_of unit))
unfolding closing_of columns decimal digits digits_up_to in_columns numeral is_natural all_digits digits_value
closing-columns unit = go (eqb unit 100)
  where
    go : (b : Bool) → (length (columns field_columns (cond b (pos 999) (lib.IntN.neg_ℤ (pos 9999)))) ≡ field_columns)
        × (in_columns (columns field_columns (cond b (pos 999) (lib.IntN.neg_ℤ (pos 9999)))) ≡ some (cond b (pos 999) (lib.IntN.neg_ℤ (pos 9999))))
    go true = (refl, refl)
    go false = (refl, refl)

-- ---- the line

-- A line that differs from another in its last field alone.
pub record Relast (t : Text) (l : Line) (last : ℤ) : Type 0 where
  pub line : Line
  pub is : line_in_columns t ≡ some line
  pub year_is : line.year ≡ l.year
  pub count_is : length line.fields ≡ length l.fields
  pub front_is : drop_last line.fields ≡ drop_last l.fields
  pub last_is : last_field line.fields ≡ last

record Sized (t : Text) (l : Line) : Type 0 where
  size : length t ≡ 12 + length l.fields * field_columns
  some_field : 1 ≤ length l.fields

sized : (t : Text) (l : Line) → line_in_columns t ≡ some l → Sized t l
sized t l e =
    let p = columns-parts t l e in
    let q = fits-parts t p.fits in
    let count = fields-count (field_count t) (drop 12 t) l.fields p.fields in
    record { size = omega arith; some_field = omega arith }

-- the six columns of the last field, and what stands before them
module _ (t : Text) (l : Line) (e : line_in_columns t ≡ some l) (unit : ℕ) where
  s : Sized t l
  s = sized t l e

  abbrev before : Text
  before = take (length t - field_columns) t

  before_length : length before ≡ 12 + (length l.fields - 1) * field_columns
  before_length = length-take-le (length t - field_columns) t (omega arith) ∙ omega (arith, s.size, s.some_field)

  closed-line : Relast (before ++ columns field_columns (closing_of unit)) l (closing_of unit)
  closed-line =
      let closing = closing-columns unit in
      let six : length (drop (length t - field_columns) t) ≡ field_columns = omega (arith, length-drop (length t - field_columns) t, s.size, s.some_field) in
      let whole = ap line_in_columns (take-append-drop (length t - field_columns) t) ∙ e in
      let f = closing_of unit in
      record {
        line = record { name = l.name; year = l.year; fields = drop_last l.fields ++ (f ∷ []) };
        is = line_relast before (length l.fields - 1) before_length (drop (length t - field_columns) t) (columns field_columns f) f l six closing.0 whole closing.1;
        year_is = refl;
        count_is = length-append (drop_last l.fields) (f ∷ []) ∙ omega (arith, front_length l.fields, s.some_field);
        front_is = front-behind (drop_last l.fields) f;
        last_is = last-behind (drop_last l.fields) f;
      }

last_by_test : (unit : ℕ) (goes : Bool) (last : ℤ)
    → last_after unit goes last ≡ cond (not goes && (same last unknown_unit && not (eqb unit unit_not_said))) (closing_of unit) last
unfolding last_after closing_after
last_by_test unit true last = refl
last_by_test unit false last = refl

pub reclosed-line : (unit : ℕ) (goes : Bool) (t : Text) (l : Line) → line_in_columns t ≡ some l
    → Relast (reclosed unit goes t) l (last_after unit goes (last_field l.fields))
unfolding reclosed is_reclosed fields_of
reclosed-line unit goes t l e = rw (last_by_test unit goes (last_field l.fields), e)
    (go (not goes && (same (last_field l.fields) unknown_unit && not (eqb unit unit_not_said))))
  where
    go : (b : Bool) → Relast (cond b (before t l e unit ++ columns field_columns (closing_of unit)) t) l (cond b (closing_of unit) (last_field l.fields))
    go true = closed-line t l e unit
    go false = record { line = l; is = e; year_is = refl; count_is = refl; front_is = refl; last_is = refl }

-- ---- names
pub reclosed-name : (unit : ℕ) (goes : Bool) (t : Text) → name_of (reclosed unit goes t) ≡ name_of t
unfolding reclosed is_reclosed fields_of last_field
reclosed-name unit goes t = go (line_in_columns t) refl
  where
    none-closed : (g : Bool) → name_of (cond (not g && false) (take (length t - field_columns) t ++ columns field_columns (closing_of unit)) t) ≡ name_of t
    none-closed true = refl
    none-closed false = refl

    closed : (l : Line) → line_in_columns t ≡ some l → (b : Bool)
        → name_of (cond b (take (length t - field_columns) t ++ columns field_columns (closing_of unit)) t) ≡ name_of t
    closed l e true =
        let long = before_length t l e unit in
        let short = length-take-le (length t - field_columns) t (omega arith) in
        take-append-le name_columns (take (length t - field_columns) t) (columns field_columns (closing_of unit)) (omega arith)
        ∙ take-take name_columns (length t - field_columns) t (omega arith)
    closed l e false = refl

    go : (o : Option Line) → line_in_columns t ≡ o
        → name_of (cond (not goes && (same (last_field (fields_in o)) unknown_unit && not (eqb unit unit_not_said)))
        (take (length t - field_columns) t ++ columns field_columns (closing_of unit)) t) ≡ name_of t
    go none e = none-closed goes
    go (some l) e = closed l e (not goes && (same (last_field l.fields) unknown_unit && not (eqb unit unit_not_said)))

-- the name's comparison with the next line stays the same
pub closed-continues : (unit : ℕ) (k : Kept) (ks : List Kept) (t : Text) → name_of t ≡ name_of k.text
    → continues (record { line = k.line; raw = k.raw; text = t }) (closed_lines unit ks) ≡ continues k ks
unfolding continues closed_lines
closed-continues unit k [] t e = refl
closed-continues unit k (n ∷ ks) t e = ap₂ same_text e (reclosed-name unit (continues n ks) n.text)
