-- What is known of a line that code 11 does not refuse: its name, year and fields, and how many bytes it has. And of a text
-- cut into lines: each has byte 10 at its end at most, and together they are the text.
use mathlib.Core.Path.{◌≡◌, refl, sym, ◌∙◌, ap, ap₂}
use mathlib.Core.Bool.{Bool, true, false, cond, ◌&&◌, not}
use mathlib.Core.List.{List, [], ◌∷◌, ◌++◌, drop_last}
use mathlib.Core.Option.{Option, some, none, some-injective}
use Prim.Native.Nat.{ℕ, suc, ◌+◌, ◌*◌, ◌≤◌}
use native.Mathlib.Omega.{arith}
use borrow.Author.Tests.{eqb-true, leb-true}
use lib.Dec.{eqb, leb}
use lib.IntN.{ℤ}
use lib.ListN.{length, take, drop, length-append, length-take}
use lib.Seq.{take-append-le}
use Rattle.base_exact.proofs.Decide.{and-true, true_not_false, clash}
use Rattle.base_text.specs.Bytes.{Text, newline, Cut, cut, on_first}
use Rattle.base_text.proofs.Cutting.{joined, cut-joins}
use Rattle.spec_tucson.specs.Columns.{in_columns}
use Rattle.spec_tucson.specs.Line.{Line, name_columns, year_columns, head_columns, field_columns, decade, lines_of, is_name, field_numerals, field_count, columns_fit, with_numerals}
use Rattle.spec_tucson.specs.Line.{line_in_columns, of_cut, line_of, year_in_decade, within_decade, same, fields_allowed, if_allowed, good_line}
use Rattle.spec_tucson.specs.TextReading.{last_field}
use Rattle.spec_tucson.proofs.Lines.{fields-count}
use Rattle.theorems_tucson.proofs.Columns.{FitsColumns, columns-fit}
use Rattle.theorems_tucson.proofs.Lines.{line_bytes}

-- ---- a text in lines

-- Byte 10 stands at the end at most.
abbrev pub at_end_only : Text → Bool
at_end_only [] = true
at_end_only (c ∷ []) = true
at_end_only (c ∷ d ∷ cs) = not (eqb c newline) && at_end_only (d ∷ cs)

abbrev pub AllAtEndOnly : List Text → Type 0
AllAtEndOnly [] = Unit {0}
AllAtEndOnly (t ∷ ts) = (at_end_only t ≡ true) × AllAtEndOnly ts

-- The bytes of the lines together.
abbrev pub bytes_in : List Text → ℕ
bytes_in [] = 0
bytes_in (t ∷ ts) = length t + bytes_in ts

end_more : (c : ℕ) (t : Text) → eqb c newline ≡ false → at_end_only t ≡ true → at_end_only (c ∷ t) ≡ true
end_more c [] h k = refl
end_more c (d ∷ t) h k = ap₂ (λ (a b : Bool). not a && b) h k

first_more : (c : ℕ) (ts : List Text) → eqb c newline ≡ false → AllAtEndOnly ts → AllAtEndOnly (on_first c ts)
first_more c [] h k = (refl, tt)
first_more c (t ∷ ts) h k = (end_more c t h k.0, k.1)

pub lines_end : (t : Text) → AllAtEndOnly (lines_of t)
unfolding lines_of
lines_end [] = tt
lines_end (c ∷ t) = go (eqb c newline) refl (lines_end t)
  where
    go : (b : Bool) → eqb c newline ≡ b → AllAtEndOnly (lines_of t) → AllAtEndOnly (cond b ((c ∷ []) ∷ lines_of t) (on_first c (lines_of t)))
    go true e h = (refl, h)
    go false e h = first_more c (lines_of t) e h

bytes_more : (c : ℕ) (ts : List Text) → bytes_in (on_first c ts) ≡ 1 + bytes_in ts
bytes_more c [] = refl
bytes_more c (t ∷ ts) = omega arith

pub lines-bytes : (t : Text) → bytes_in (lines_of t) ≡ length t
unfolding lines_of
lines-bytes [] = refl
lines-bytes (c ∷ t) = go (eqb c newline) (lines-bytes t)
  where
    go : (b : Bool) → bytes_in (lines_of t) ≡ length t → bytes_in (cond b ((c ∷ []) ∷ lines_of t) (on_first c (lines_of t))) ≡ suc (length t)
    go true h = omega arith
    go false h = bytes_more c (lines_of t) ∙ omega arith

-- ---- a line cut before its byte 10

-- nothing follows byte 10 where it stands at the end at most
pub nothing-after : (s t : Text) → at_end_only (s ++ (newline ∷ t)) ≡ true → t ≡ []
nothing-after [] [] h = refl
nothing-after [] (c ∷ t) h = absurd (true_not_false h refl)
nothing-after (c ∷ []) t h = nothing-after [] t (and-true (not (eqb c newline)) (at_end_only (newline ∷ t)) h).1
nothing-after (c ∷ d ∷ s) t h = nothing-after (d ∷ s) t (and-true (not (eqb c newline)) (at_end_only (d ∷ (s ++ (newline ∷ t)))) h).1

-- ---- the columns of a good line

-- What the columns of a line say.
pub record InBody (body : Text) (l : Line) : Type 0 where
  pub named : is_name l.name ≡ true
  pub titled : take name_columns body ≡ l.name
  pub dated : FitsColumns 3 l.year
  pub any : 1 ≤ length l.fields
  pub size : length body ≡ head_columns + length l.fields * field_columns

numerals_inverted : (name : Text) (y : Option ℤ) (fs : Option (List ℤ)) (l : Line) → with_numerals name y fs ≡ some l → (name ≡ l.name) × (y ≡ some l.year) × (fs ≡ some l.fields)
numerals_inverted name none fs l e = clash cc
numerals_inverted name (some y) none l e = clash cc
numerals_inverted name (some y) (some fs) l e =
    let same = some-injective (record { name = name; year = y; fields = fs }) l e in
    (ap (λ (m : Line). m.name) same, ap (λ (m : Line). some m.year) same, ap (λ (m : Line). some m.fields) same)

body_inverted : (body : Text) (l : Line) → line_in_columns body ≡ some l → InBody body l
unfolding line_in_columns columns_fit
body_inverted body l e = go (columns_fit body && is_name (take name_columns body)) refl e
  where
    go : (b : Bool) → (columns_fit body && is_name (take name_columns body)) ≡ b
        → cond b (with_numerals (take name_columns body) (in_columns (take year_columns (drop name_columns body)))
        (field_numerals (field_count body) (drop head_columns body))) none ≡ some l → InBody body l
    go false w e = clash cc
    go true w e =
        let both = and-true (columns_fit body) (is_name (take name_columns body)) w in
        let outer = and-true (eqb (length body) (head_columns + field_count body * field_columns) && leb 1 (field_count body)) (leb (field_count body) decade) both.0 in
        let inner = and-true (eqb (length body) (head_columns + field_count body * field_columns)) (leb 1 (field_count body)) outer.0 in
        let parts = numerals_inverted (take name_columns body) _ _ l e in
        let count = fields-count (field_count body) (drop head_columns body) l.fields parts.2 in
        let whole = eqb-true (length body) (head_columns + field_count body * field_columns) inner.0 in
        let least = leb-true 1 (field_count body) inner.1 in
        record {
          named = ap is_name (sym parts.0) ∙ both.1;
          titled = parts.0;
          dated = columns-fit 3 (take year_columns (drop name_columns body)) l.year (omega (arith, length-take year_columns (drop name_columns body))) parts.1;
          any = omega arith;
          size = omega arith;
        }

-- ---- a line that code 11 does not refuse

-- What is known of it, its series' last or not.
pub record Good (last : Bool) (t : Text) (l : Line) : Type 0 where
  pub named : is_name l.name ≡ true
  pub titled : take name_columns t ≡ l.name
  pub dated : FitsColumns 3 l.year
  pub any : 1 ≤ length l.fields
  pub size : length t ≡ line_bytes (length l.fields)
  pub within : year_in_decade l.year + length l.fields ≤ decade
  pub allowed : fields_allowed last l.fields ≡ true

allowed_inverted : (last : Bool) (o : Option Line) (l : Line) → if_allowed last o ≡ some l → (o ≡ some l) × (within_decade l ≡ true) × (fields_allowed last l.fields ≡ true)
allowed_inverted last none l e = clash cc
allowed_inverted last (some m) l e = go (within_decade m && fields_allowed last m.fields) refl e
  where
    go : (b : Bool) → (within_decade m && fields_allowed last m.fields) ≡ b → cond b (some m) none ≡ some l → (some m ≡ some l) × (within_decade l ≡ true) × (fields_allowed last l.fields ≡ true)
    go false w e = clash cc
    go true w e =
        let both = and-true (within_decade m) (fields_allowed last m.fields) w in
        let same = some-injective m l e in
        (e, ap within_decade (sym same) ∙ both.0, ap (λ (n : Line). fields_allowed last n.fields) (sym same) ∙ both.1)

body-good : (last : Bool) (t : Text) (c : Cut) (l : Line) → at_end_only t ≡ true → t ≡ joined newline c → InBody c.before l → within_decade l ≡ true
    → fields_allowed last l.fields ≡ true → Good last t l
unfolding within_decade
body-good last t c l once e i within allowed =
    let end : c.after ≡ [] = nothing-after c.before c.after (ap at_end_only (sym e) ∙ once) in
    record {
      named = i.named;
      titled = ap (take name_columns) e ∙ take-append-le name_columns c.before (newline ∷ c.after) (omega (arith, i.size, i.any)) ∙ i.titled;
      dated = i.dated;
      any = i.any;
      size = ap length e ∙ length-append c.before (newline ∷ c.after) ∙ omega (arith, ap length end, i.size);
      within = leb-true (year_in_decade l.year + length l.fields) decade within;
      allowed = allowed;
    }

pub good_inverted : (last : Bool) (t : Text) (l : Line) → at_end_only t ≡ true → good_line last t ≡ some l → Good last t l
unfolding good_line line_of
good_inverted last t l once e = let parts = allowed_inverted last (of_cut (cut newline t)) l e in go (cut newline t) refl parts.0
  where
    go : (o : Option Cut) → cut newline t ≡ o → of_cut o ≡ some l → Good last t l
    go none w f = clash cc
    go (some c) w f = let parts = allowed_inverted last (of_cut (cut newline t)) l e in body-good last t c l once (cut-joins newline t c w) (body_inverted c.before l f) parts.1 parts.2

-- a field is the last, those before it are the front
pub front_and_last : (fs : List ℤ) → 1 ≤ length fs → drop_last fs ++ (last_field fs ∷ []) ≡ fs
unfolding last_field
front_and_last [] h = absurd (omega arith)
front_and_last (f ∷ []) h = refl
front_and_last (f ∷ g ∷ fs) h = ap (λ (gs : List ℤ). f ∷ gs) (front_and_last (g ∷ fs) (omega arith))
