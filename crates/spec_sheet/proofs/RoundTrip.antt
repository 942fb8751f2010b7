-- What is written for lists reads back to them: a list's fields are its entries, a line gives its list and what follows it,
-- and so the five lines give the five lists.
use mathlib.Core.Path.{◌≡◌, refl, sym, ◌∙◌, ap, ap₂}
use mathlib.Core.Bool.{Bool, true, false, cond, ◌&&◌, not}
use mathlib.Core.List.{List, [], ◌∷◌, ◌++◌, map, append_assoc, append-nil}
use mathlib.Core.Option.{Option, some, none}
use Prim.Native.Nat.{ℕ, suc, ◌<◌, ◌≤◌}
use native.Mathlib.Omega.{arith}
use borrow.Author.Tests.{le-leb}
use lib.Dec.{eqb}
use lib.IntN.{ℤ, pos, nat_abs}
use lib.ListN.{length, length-append, get_or}
use Rattle.base_outcome.specs.Outcome.{Outcome, ◌then◌}
use Rattle.spec_spline.specs.Reading.{Pair, side_by_side}
use Rattle.base_text.specs.Bytes.{Text, newline, comma, minus, colon, cut, fields}
use Rattle.base_text.specs.Numeral.{is_digit, numeral, decimal, numeral_limit}
use Rattle.base_text.proofs.RoundTrip.{numeral-reads-back, decimal_any}
use Rattle.base_text.proofs.Lacking.{lacks, byte, byte-outside, lacks_append, decimal-lacks, cut-first, fields-only, fields-first, stripped-key}
use Rattle.spec_sheet.specs.SheetReading.{both_of, sides_of, pair, prepended, entries, limited_list, list_of, list_limit, Line, line_of}
use Rattle.spec_sheet.specs.SheetReading.{body_of, cut_line, line, read_line, breaks_key, degrees_key, orders_key, coefs_key, at_key, Lists}
use Rattle.spec_sheet.specs.SheetReading.{five_lines}
use Rattle.spec_sheet.specs.SheetText.{pair_text, comma_joined, list_text, line_text, sheet_text, WritableNumerals, WritablePairs, SheetReadsBack}
use Rattle.spec_sheet.proofs.FiveLines.{list_fields, NumeralLine, PairLine, read_short, line-answers, lists, after_one, after_two}
use Rattle.spec_sheet.proofs.FiveLines.{after_three, after_four, after_five}

-- ---- entries

-- What is written for an entry: no comma, no byte 10, not empty, and it reads back.
record Shown {A : Type 0} (entry : Text → Option A) (text : A → Text) (x : A) : Type 0 where
  no_comma : lacks (byte comma) (text x) ≡ true
  no_newline : lacks (byte newline) (text x) ≡ true
  any : 1 ≤ length (text x)
  back : entry (text x) ≡ some x

-- All entries of a list are written so.
abbrev AllShown : {A : Type 0} → (Text → Option A) → (A → Text) → List A → Type 0
AllShown entry text [] = Unit {0}
AllShown entry text (x ∷ xs) = Shown entry text x × AllShown entry text xs

numeral-shown : (z : ℤ) → nat_abs z < numeral_limit → Shown numeral decimal z
numeral-shown z h =
    record {
      no_comma = decimal-lacks (byte comma) (byte-outside comma refl refl) z;
      no_newline = decimal-lacks (byte newline) (byte-outside newline refl refl) z;
      any = decimal_any z;
      back = numeral-reads-back z h;
    }

pair-lacks : (b : ℕ) → is_digit b ≡ false → eqb minus b ≡ false → eqb colon b ≡ false → (p : Pair) → lacks (byte b) (pair_text p) ≡ true
unfolding pair_text
pair-lacks b d m k p =
    let side = decimal-lacks (byte b) (byte-outside b d m) in
    lacks_append (byte b) (decimal p.early) (colon ∷ decimal p.late) (side p.early)
    (ap₂ (λ (x y : Bool). not x && y) k (side p.late))

pair-shown : (p : Pair) → nat_abs p.early < numeral_limit → nat_abs p.late < numeral_limit → Shown pair pair_text p
unfolding pair pair_text
pair-shown p h k =
    record {
      no_comma = pair-lacks comma refl refl refl p;
      no_newline = pair-lacks newline refl refl refl p;
      any = omega (arith, length-append (decimal p.early) (colon ∷ decimal p.late));
      back =
          ap sides_of (cut-first colon (decimal p.early) (decimal p.late) (decimal-lacks (byte colon) (byte-outside colon refl refl) p.early))
          ∙ ap₂ both_of (numeral-reads-back p.early h) (numeral-reads-back p.late k);
    }

all_numerals : (zs : List ℤ) → ((i : ℕ) → nat_abs (get_or zs i (pos 0)) < numeral_limit) → AllShown numeral decimal zs
all_numerals [] h = tt
all_numerals (z ∷ zs) h = (numeral-shown z (h 0), all_numerals zs (λ i. h (suc i)))

all_pairs : (ps : List Pair) → ((i : ℕ) → nat_abs (get_or (side_by_side ps) i (pos 0)) < numeral_limit) → AllShown pair pair_text ps
unfolding side_by_side
all_pairs [] h = tt
all_pairs (p ∷ ps) h = (pair-shown p (h 0) (h 1), all_pairs ps (λ i. h (suc (suc i))))

-- ---- lists
module _ {A : Type 0} (entry : Text → Option A) (text : A → Text) where
  fields-joined : (x : A) (xs : List A) → AllShown entry text (x ∷ xs) → fields (list_text text (x ∷ xs)) ≡ map text (x ∷ xs)
  unfolding list_text comma_joined
  fields-joined x [] h = fields-only (byte comma) (text x) h.0.no_comma
  fields-joined x (y ∷ xs) h =
      fields-first (byte comma) (text x) comma (list_text text (y ∷ xs)) refl h.0.no_comma
      ∙ ap (λ (fs : List Text). text x ∷ fs) (fields-joined y xs h.1)

  list_lacks-newline : (xs : List A) → AllShown entry text xs → lacks (byte newline) (list_text text xs) ≡ true
  unfolding list_text comma_joined
  list_lacks-newline [] h = refl
  list_lacks-newline (x ∷ []) h = h.0.no_newline
  list_lacks-newline (x ∷ y ∷ xs) h =
      lacks_append (byte newline) (text x) (comma ∷ list_text text (y ∷ xs)) h.0.no_newline (list_lacks-newline (y ∷ xs) h.1)

  entries-back : (xs : List A) → AllShown entry text xs → entries entry (map text xs) ≡ some xs
  unfolding entries
  entries-back [] h = refl
  entries-back (x ∷ xs) h = ap₂ prepended h.0.back (entries-back xs h.1)

  -- a list of one entry or more is no empty text
  list_any : (x : A) (xs : List A) → AllShown entry text (x ∷ xs) → 1 ≤ length (list_text text (x ∷ xs))
  unfolding list_text comma_joined
  list_any x [] h = h.0.any
  list_any x (y ∷ xs) h = omega (arith, h.0.any, length-append (text x) (comma ∷ list_text text (y ∷ xs)))

  list_reads-back : (xs : List A) → length xs ≤ list_limit → AllShown entry text xs → list_of entry (list_text text xs) ≡ some xs
  unfolding list_of list_text comma_joined
  list_reads-back [] few h = refl
  list_reads-back (x ∷ xs) few h =
      list_fields entry (list_text text (x ∷ xs)) (list_any x xs h)
      ∙ ap limited_list (ap (entries entry) (fields-joined x xs h) ∙ entries-back (x ∷ xs) h)
      ∙ ap (λ (b : Bool). cond b (some (x ∷ xs)) none) (le-leb (length (x ∷ xs)) list_limit few)

  -- ---- lines
  line-reads-back : (key : Text) → lacks (byte newline) key ≡ true → (xs : List A) → length xs ≤ list_limit → AllShown entry text xs → (rest : Text)
      → line entry key (line_text text key xs ++ rest) ≡ some (record { list = xs; rest = rest })
  unfolding line line_text
  line-reads-back key k xs few h rest =
      let shape : (key ++ (list_text text xs ++ (newline ∷ []))) ++ rest ≡ (key ++ list_text text xs) ++ (newline ∷ rest) = simp append_assoc in
      ap (λ (t : Text). cut_line entry key (cut newline t)) shape
      ∙ ap (cut_line entry key)
      (cut-first newline (key ++ list_text text xs) rest (lacks_append (byte newline) key (list_text text xs) k (list_lacks-newline xs h)))
      ∙ ap (λ (o : Option Text). line_of (body_of entry o) rest) (stripped-key key (list_text text xs))
      ∙ ap (λ (o : Option (List A)). line_of o rest) (list_reads-back xs few h)

  -- a line at the head of what is left to read
  module _ (place : ℕ) (key : Text) (k : lacks (byte newline) key ≡ true) (xs : List A) (few : length xs ≤ list_limit) (h : AllShown entry text xs)
      (next : Line A → Outcome Lists) where
    goes_on_lem : (rest : Text) → (read_line place entry key (line_text text key xs ++ rest) then next) ≡ next (record { list = xs; rest = rest })
    goes_on_lem rest =
        ap (λ (o : Outcome (Line A)). o then next)
        (line-answers entry place key (line_text text key xs ++ rest) (line-reads-back key k xs few h rest))

abbrev numerals_go_on : (place : ℕ) (key : Text) → lacks (byte newline) key ≡ true → (zs : List ℤ) → WritableNumerals zs
    → (next : NumeralLine → Outcome Lists) (rest : Text) →
    (read_line place numeral key (line_text decimal key zs ++ rest) then next) ≡ next (record { list = zs; rest = rest })
numerals_go_on place key k zs w = goes_on_lem numeral decimal place key k zs w.few (all_numerals zs w.small)

abbrev pairs_go_on : (place : ℕ) (key : Text) → lacks (byte newline) key ≡ true → (ps : List Pair) → WritablePairs ps
    → (next : PairLine → Outcome Lists) (rest : Text) →
    (read_line place pair key (line_text pair_text key ps ++ rest) then next) ≡ next (record { list = ps; rest = rest })
pairs_go_on place key k ps w = goes_on_lem pair pair_text place key k ps w.few (all_pairs ps w.small)

-- ---- the sheet
-- The lines of a sheet, each with the text after it.
module _ (l : Lists) where
  abbrev after_coefs : Text
  after_coefs = line_text decimal at_key l.positions

  abbrev after_orders : Text
  after_orders = line_text pair_text coefs_key l.coefs ++ after_coefs

  abbrev after_degrees : Text
  after_degrees = line_text decimal orders_key l.orders ++ after_orders

  abbrev after_breaks : Text
  after_breaks = line_text decimal degrees_key l.degrees ++ after_degrees

  abbrev first : NumeralLine
  first = record { list = l.breaks; rest = after_breaks }

  abbrev second : NumeralLine
  second = record { list = l.degrees; rest = after_degrees }

  abbrev third : NumeralLine
  third = record { list = l.orders; rest = after_orders }

  abbrev fourth : PairLine
  fourth = record { list = l.coefs; rest = after_coefs }

pub sheet_reads-back : SheetReadsBack
unfolding sheet_text five_lines
sheet_reads-back l b d o c p short =
    read_short (sheet_text l) short
    ∙ numerals_go_on 1 breaks_key refl l.breaks b (after_one lists) (after_breaks l)
    ∙ numerals_go_on 2 degrees_key refl l.degrees d (after_two (lists (first l))) (after_degrees l)
    ∙ numerals_go_on 3 orders_key refl l.orders o (after_three (lists (first l) (second l))) (after_orders l)
    ∙ pairs_go_on 4 coefs_key refl l.coefs c (after_four (lists (first l) (second l) (third l))) (after_coefs l)
    ∙ ap (λ (t : Text). read_line 5 numeral at_key t then after_five (lists (first l) (second l) (third l) (fourth l))) (sym (append-nil (after_coefs l)))
    ∙ numerals_go_on 5 at_key refl l.positions p (after_five (lists (first l) (second l) (third l) (fourth l))) []
