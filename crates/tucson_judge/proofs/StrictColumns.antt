-- A strict line has no byte 10, so that it is the line of itself with byte 10 behind; and with another last field it is that line with
-- another last field.
use mathlib.Core.Path.{◌≡◌, refl, sym, ◌∙◌, ap, ap₂}
use mathlib.Core.Bool.{Bool, true, false, cond, ◌&&◌, not}
use mathlib.Core.List.{List, [], ◌∷◌, ◌++◌, drop_last}
use mathlib.Core.Option.{Option, some, none, some-injective}
use Prim.Native.Nat.{ℕ, zero, suc, ◌+◌, ◌*◌, ◌-◌, ◌/◌, ◌≤◌}
use native.Mathlib.Omega.{arith}
use borrow.Author.Tests.{ne_eqb, eqb-true}
use lib.Dec.{eqb, leb}
use lib.IntN.{ℤ}
use lib.ListN.{length, take, drop, length-append, length-drop, take-append-drop}
use lib.Seq.{take-append-le, drop-append-le, take_all, drop_at, drop-drop}
use Rattle.base_exact.proofs.Decide.{clash, and-true}
use Rattle.base_text.specs.Bytes.{Text, newline}
use Rattle.base_text.proofs.Lacking.{lacks, byte, byte-outside, lacks_append, numeral-lacks, cut-first}
use Rattle.base_text.specs.Numeral.{numeral}
use Rattle.spec_tucson.specs.Columns.{blank, in_columns}
use Rattle.spec_tucson.specs.Line.{Line, name_columns, year_columns, head_columns, field_columns, decade, all_printable, all_blank, is_name, with_field}
use Rattle.spec_tucson.specs.Line.{field_numerals, field_count, columns_fit, with_numerals, line_in_columns, of_cut, line_of}
use Rattle.spec_tucson.specs.CleanSeries.{with_end}
use Rattle.tucson_lines.proofs.GoodLines.{columns-parts, fits-parts}
use Rattle.tucson_lines.proofs.LineNumerals.{behind, fields-behind, front-behind}
use Rattle.spec_tucson.proofs.Lines.{printable_lacks}

-- ---- no byte 10
columns-lack : (t : Text) (z : ℤ) → in_columns t ≡ some z → lacks (byte newline) t ≡ true
unfolding in_columns
columns-lack [] z e = clash cc
columns-lack (c ∷ cs) z e = go (eqb c blank) refl e (columns-lack cs z)
  where
    go : (b : Bool) → eqb c blank ≡ b → cond b (in_columns cs) (numeral (c ∷ cs)) ≡ some z → (in_columns cs ≡ some z → lacks (byte newline) cs ≡ true)
        → lacks (byte newline) (c ∷ cs) ≡ true
    go true f e ih = ap₂ (λ (x y : Bool). not x && y) (ne_eqb c newline (omega (arith, eqb-true c blank f))) (ih e)
    go false f e ih = numeral-lacks (byte newline) (byte-outside newline refl refl) (c ∷ cs) z e

fields-lack : (n : ℕ) (t : Text) (fs : List ℤ) → length t ≡ n * field_columns → field_numerals n t ≡ some fs → lacks (byte newline) t ≡ true
unfolding field_numerals
fields-lack zero [] fs h e = refl
fields-lack zero (c ∷ cs) fs h e = absurd (omega arith)
fields-lack (suc n) t fs h e = go (in_columns (take field_columns t)) (field_numerals n (drop field_columns t)) refl refl e
    (λ gs. fields-lack n (drop field_columns t) gs (omega (arith, length-drop field_columns t)))
  where
    go : (o : Option ℤ) (r : Option (List ℤ)) → in_columns (take field_columns t) ≡ o → field_numerals n (drop field_columns t) ≡ r → with_field o r ≡ some fs
        → ((gs : List ℤ) → field_numerals n (drop field_columns t) ≡ some gs → lacks (byte newline) (drop field_columns t) ≡ true)
        → lacks (byte newline) t ≡ true
    go none r f g e ih = clash cc
    go (some z) none f g e ih = clash cc
    go (some z) (some gs) f g e ih =
        ap (lacks (byte newline)) (sym (take-append-drop field_columns t))
        ∙ lacks_append (byte newline) (take field_columns t) (drop field_columns t) (columns-lack (take field_columns t) z f)
        (ih gs g)

strict_lacks : (t : Text) (l : Line) → line_in_columns t ≡ some l → lacks (byte newline) t ≡ true
unfolding is_name
strict_lacks t l e =
    let p = columns-parts t l e in
    let q = fits-parts t p.fits in
    let printable = (and-true (eqb (length (take name_columns t)) name_columns) (all_printable (take name_columns t))
    (and-true (eqb (length (take name_columns t)) name_columns && all_printable (take name_columns t)) (not (all_blank (take name_columns t))) p.named).0).1 in
    let rest : Text = drop name_columns t in
    let behind-year : drop year_columns rest ≡ drop head_columns t = drop-drop year_columns name_columns t in
    ap (lacks (byte newline)) (sym (take-append-drop name_columns t))
    ∙ lacks_append (byte newline) (take name_columns t) rest (printable_lacks (take name_columns t) printable)
    (ap (lacks (byte newline)) (sym (take-append-drop year_columns rest))
    ∙ lacks_append (byte newline) (take year_columns rest) (drop year_columns rest) (columns-lack (take year_columns rest) l.year p.year)
    (ap (lacks (byte newline)) behind-year
    ∙ fields-lack (field_count t) (drop head_columns t) l.fields (omega (arith, length-drop 12 t)) p.fields))

pub line_with_end : (t : Text) (l : Line) → line_in_columns t ≡ some l → line_of (with_end t) ≡ some l
unfolding line_of
line_with_end t l e = ap of_cut (cut-first newline t [] (strict_lacks t l e)) ∙ e

-- ---- another last field
fields-front_of : (n : ℕ) (a b : Text) → n * field_columns ≤ length a → field_numerals n (a ++ b) ≡ field_numerals n a
unfolding field_numerals
fields-front_of zero a b h = refl
fields-front_of (suc n) a b h =
    ap₂ with_field (ap in_columns (take-append-le field_columns a b (omega arith)))
    (ap (field_numerals n) (drop-append-le field_columns a b (omega arith)) ∙ fields-front_of n (drop field_columns a) b (omega (arith, length-drop field_columns a)))

-- a size and a name that a line may have
abbrev fitting : ℕ → Text → Bool
fitting k name =
    eqb k (12 + (k - 12) / field_columns * field_columns) && leb 1 ((k - 12) / field_columns) && leb ((k - 12) / field_columns) decade && is_name name

-- the line of a size, a name, a year and fields
abbrev assembled : ℕ → Text → Option ℤ → Option (List ℤ) → Option Line
assembled k name year fields = cond (fitting k name) (with_numerals name year fields) none

another_last : (b : Bool) (name : Text) (year : Option ℤ) (front : Option (List ℤ)) (o : Option ℤ) (f : ℤ) (l : Line)
    → cond b (with_numerals name year (behind front o)) none ≡ some l
    → cond b (with_numerals name year (behind front (some f))) none
    ≡ some (record { name = l.name; year = l.year; fields = drop_last l.fields ++ (f ∷ []) })
another_last false name year front o f l e = clash cc
another_last true name none front o f l e = clash cc
another_last true name (some y) none o f l e = clash cc
another_last true name (some y) (some ws) none f l e = clash cc
another_last true name (some y) (some ws) (some g) f l e =
    let made : Line = record { name = name; year = y; fields = ws ++ (g ∷ []) } in
    ap (λ (vs : List ℤ). some (record { name = name; year = y; fields = vs ++ (f ∷ []) })) (sym (front-behind ws g))
    ∙ ap (λ (m : Line). some (record { name = m.name; year = m.year; fields = drop_last m.fields ++ (f ∷ []) })) (some-injective made l e)

module _ (a : Text) (n : ℕ) (size : length a ≡ 12 + n * field_columns) where
  -- the line with these six columns behind
  line_by_last : (w : Text) → length w ≡ field_columns
      → line_in_columns (a ++ w)
      ≡ assembled (length a + field_columns) (take name_columns a) (in_columns (take year_columns (drop name_columns a)))
      (behind (field_numerals n (drop 12 a)) (in_columns w))
  unfolding line_in_columns columns_fit
  line_by_last w h =
      let long : length (a ++ w) ≡ length a + field_columns = omega (arith, length-append a w) in
      let name : take name_columns (a ++ w) ≡ take name_columns a = take-append-le name_columns a w (omega arith) in
      let year : take year_columns (drop name_columns (a ++ w)) ≡ take year_columns (drop name_columns a) =
      ap (take year_columns) (drop-append-le name_columns a w (omega arith))
      ∙ take-append-le year_columns (drop name_columns a) w (omega (arith, length-drop name_columns a)) in
      let tail : drop 12 (a ++ w) ≡ drop 12 a ++ w = drop-append-le 12 a w (omega arith) in
      let inner : length (drop 12 a) ≡ n * field_columns = omega (arith, length-drop 12 a) in
      let count : field_count (a ++ w) ≡ suc n = omega (arith, long) in
      let last : take field_columns (drop (n * field_columns) (drop 12 a ++ w)) ≡ w =
      ap (take field_columns) (drop_at (drop 12 a) w (n * field_columns) inner) ∙ take_all field_columns w (omega arith) in
      let fields : field_numerals (field_count (a ++ w)) (drop 12 (a ++ w)) ≡ behind (field_numerals n (drop 12 a)) (in_columns w) =
      ap₂ field_numerals count tail ∙ fields-behind n (drop 12 a ++ w)
      ∙ ap₂ (λ (x : Option (List ℤ)) (u : Text). behind x (in_columns u)) (fields-front_of n (drop 12 a) w (omega arith)) last in
      ap₂ (λ (k : ℕ) (u : Text). assembled k u (in_columns (take year_columns (drop name_columns (a ++ w)))) (field_numerals (field_count (a ++ w)) (drop 12 (a ++ w)))) long name
      ∙ ap₂ (λ (u : Text) (fs : Option (List ℤ)). assembled (length a + field_columns) (take name_columns a) (in_columns u) fs) year fields

  -- a line with another last field
  module _ (z w : Text) (f : ℤ) (l : Line) (old : length z ≡ field_columns) (new : length w ≡ field_columns) (e : line_in_columns (a ++ z) ≡ some l) (is : in_columns w ≡ some f) where
    abbrev year-here : Option ℤ
    year-here = in_columns (take year_columns (drop name_columns a))

    abbrev front : Option (List ℤ)
    front = field_numerals n (drop 12 a)

    pub line_relast : line_in_columns (a ++ w) ≡ some (record { name = l.name; year = l.year; fields = drop_last l.fields ++ (f ∷ []) })
    line_relast =
        line_by_last w new ∙ ap (λ (o : Option ℤ). assembled (length a + field_columns) (take name_columns a) year-here (behind front o)) is
        ∙ another_last (fitting (length a + field_columns) (take name_columns a)) (take name_columns a) year-here front (in_columns z) f l (sym (line_by_last z old) ∙ e)
