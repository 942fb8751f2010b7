-- Strict lines: they have printable bytes alone, keep their columns under another closing, and are the lines of the text that they make.
use mathlib.Core.Path.{◌≡◌, refl, sym, ◌∙◌, ap, ap₂}
use mathlib.Core.Bool.{Bool, true, false, cond, ◌&&◌, not}
use mathlib.Core.List.{List, [], ◌∷◌, ◌++◌, map, append_assoc}
use mathlib.Core.Option.{Option, some, none}
use Prim.Native.Nat.{ℕ, ◌<◌, ◌≤◌}
use native.Mathlib.Omega.{arith}
use borrow.Author.Tests.{eq-eqb, ne_eqb, eqb-true, eqb-false, leb-true, ltb-false, le-ltb}
use lib.Dec.{eqb, leb, ltb}
use lib.ListN.{length, take, drop, take-append-drop}
use lib.Seq.{take-append-le, length-take-le}
use Rattle.base_exact.proofs.Decide.{and-true, true_not_false}
use Rattle.base_text.specs.Bytes.{Text, newline, begins_with}
use Rattle.base_text.proofs.Digits.{digit-bounds}
use Rattle.base_text.proofs.Lacking.{lacks, byte, lacks_append, lacks-first, Outside}
use Rattle.spec_tucson.specs.Columns.{blank}
use Rattle.spec_tucson.specs.Line.{Line, name_columns, last_printable, lines_of, all_printable, all_blank, is_name, line_in_columns}
use Rattle.spec_tucson.specs.TextReading.{goes_on}
use Rattle.spec_tucson.specs.StrictLine.{is_some, is_strict, Kept, name_of}
use Rattle.spec_tucson.specs.KeptLines.{same_text}
use Rattle.spec_tucson.specs.CleanSeries.{continues, reclosed, closed_lines, with_end, strict_text}
use Rattle.tucson_strict.proofs.Strict.{strict_parts, strict_size, strict_lacks}
use Rattle.tucson_judge.proofs.Reclosing.{reclosed-line}
use Rattle.theorems_tucson.proofs.Lines.{lines-first}

-- ---- the line that a strict line is

pub record LineIn (t : Text) : Type 0 where
  pub line : Line
  pub is : line_in_columns t ≡ some line

pub strict-line : (t : Text) → is_strict t ≡ true → LineIn t
unfolding is_strict
strict-line t e = go (line_in_columns t) refl e
  where
    go : (o : Option Line) → line_in_columns t ≡ o → is_some o ≡ true → LineIn t
    go none w e = absurd (true_not_false e refl)
    go (some l) w e = record { line = l; is = w }

pub line_strict : (t : Text) (l : Line) → line_in_columns t ≡ some l → is_strict t ≡ true
unfolding is_strict
line_strict t l e = ap is_some e

pub reclosed_strict : (unit : ℕ) (goes : Bool) (t : Text) → is_strict t ≡ true → is_strict (reclosed unit goes t) ≡ true
reclosed_strict unit goes t e =
    let l = strict-line t e in
    let r = reclosed-line unit goes t l.line l.is in
    line_strict (reclosed unit goes t) r.line r.is

-- ---- all of them

abbrev pub AllStrict : List Kept → Type 0
AllStrict [] = Unit {0}
AllStrict (k ∷ ks) = (is_strict k.text ≡ true) × AllStrict ks

pub closed_strict : (unit : ℕ) (ks : List Kept) → AllStrict ks → AllStrict (closed_lines unit ks)
unfolding closed_lines
closed_strict unit [] h = tt
closed_strict unit (k ∷ ks) h = (reclosed_strict unit (continues k ks) k.text h.0, closed_strict unit ks h.1)

-- ---- printable bytes

-- A byte below the blank.
abbrev pub is_control : ℕ → Bool
is_control c = ltb c blank

outside_control : Outside is_control
outside_control = record { digit = λ c e. le-ltb c blank (omega (arith, digit-bounds c e)); sign = refl }

printable_lacks : (t : Text) → all_printable t ≡ true → lacks is_control t ≡ true
unfolding all_printable
printable_lacks [] e = refl
printable_lacks (c ∷ cs) e =
    let outer = and-true (leb blank c && leb c last_printable) (all_printable cs) e in
    let low = leb-true blank c (and-true (leb blank c) (leb c last_printable) outer.0).0 in
    ap₂ (λ (x y : Bool). not x && y) (le-ltb c blank low) (printable_lacks cs outer.1)

pub no_control : (t : Text) → is_strict t ≡ true → lacks is_control t ≡ true
unfolding is_name
no_control t e =
    let name = take name_columns t in
    let printable = (and-true (eqb (length name) name_columns) (all_printable name)
    (and-true (eqb (length name) name_columns && all_printable name) (not (all_blank name)) (strict_parts t e).named).0).1 in
    ap (lacks is_control) (sym (take-append-drop name_columns t))
    ∙ lacks_append is_control name (drop name_columns t) (printable_lacks name printable) (strict_lacks is_control outside_control refl t e)

-- so there is no byte of this kind
pub lacks-byte : (b : ℕ) (t : Text) → b < blank → lacks is_control t ≡ true → lacks (byte b) t ≡ true
lacks-byte b [] h e = refl
lacks-byte b (c ∷ t) h e =
    let both = lacks-first is_control c t e in
    ap₂ (λ (x y : Bool). not x && y) (ne_eqb c b (λ z. omega (arith, z, ltb-false c blank both.0))) (lacks-byte b t h both.1)

-- ---- their text

abbrev pub with_ends : List Kept → List Text
with_ends ks = map (λ k. with_end k.text) ks

pub strict_lines : (ks : List Kept) → AllStrict ks → lines_of (strict_text ks) ≡ with_ends ks
unfolding strict_text lines_of
strict_lines [] h = refl
strict_lines (k ∷ ks) h =
    ap lines_of (append_assoc k.text (newline ∷ []) (strict_text ks))
    ∙ lines-first k.text (strict_text ks) (lacks-byte newline k.text (omega arith) (no_control k.text h.0))
    ∙ ap (λ (ts : List Text). with_end k.text ∷ ts) (strict_lines ks h.1)

-- ---- neighbours

same-begins : (a b more : Text) → length a ≤ length b → begins_with a (b ++ more) ≡ same_text a (take (length a) b)
unfolding begins_with same_text
same-begins [] b more h = refl
same-begins (c ∷ a) [] more h = absurd (omega arith)
same-begins (c ∷ a) (d ∷ b) more h = go (eqb c d) refl (same-begins a b more (omega arith))
  where
    go : (x : Bool) → eqb c d ≡ x → begins_with a (b ++ more) ≡ same_text a (take (length a) b)
        → cond (eqb d c) (begins_with a (b ++ more)) false ≡ (eqb c d && same_text a (take (length a) b))
    go true w ih = rw (w, eq-eqb d c (sym (eqb-true c d w))) ih
    go false w ih = rw (w, ne_eqb d c (λ (z : d ≡ c). eqb-false c d w (sym z)))

pub strict_goes : (k : Kept) (ks : List Kept) → AllStrict (k ∷ ks) → goes_on (with_end k.text) (with_ends ks) ≡ continues k ks
unfolding goes_on continues
strict_goes k [] h = refl
strict_goes k (n ∷ ks) h =
    let long = strict_size k.text h.0 in
    let next = strict_size n.text h.1.0 in
    let size : length (name_of k.text) ≡ name_columns = length-take-le name_columns k.text (omega arith) in
    ap (λ (t : Text). begins_with t (with_end n.text)) (take-append-le name_columns k.text (newline ∷ []) (omega arith))
    ∙ same-begins (name_of k.text) n.text (newline ∷ []) (omega arith)
    ∙ ap (λ (m : ℕ). same_text (name_of k.text) (take m n.text)) size
