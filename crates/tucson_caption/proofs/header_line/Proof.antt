-- The first columns of both lines are put into the arrays, and one test comes after another.
use borrow.Author.Rules.{rules}
use borrow.Author.Tests.{eq-eqb, ne_eqb}
use mathlib.Core.Bool.{Bool, true, false, ◌&&◌}
use mathlib.Core.Path.{◌≡◌, refl, sym, ◌∙◌, ap}
use Prim.Native.Nat.{ℕ, ◌+◌}
use lib.Dec.{eqb}
use lib.ListN.{length, take, drop}
use lib.Seq.{slice}
use Rattle.base_text.specs.Bytes.{Text, digit_zero}
use Rattle.spec_tucson.specs.Columns.{blank}
use Rattle.spec_tucson.specs.Line.{name_columns}
use Rattle.spec_tucson.specs.Shown.{shown}
use Rattle.spec_tucson.specs.KeptLines.{same_text, column, any_word, is_header_line}
use Rattle.tucson_columns.specs.Machine.{cells}
use Rattle.tucson_caption.specs.Machine.{caption_by}
use Rattle.tucson_caption.proofs.Captions.{header_by}
use Rattle.tucson_caption.proofs.header_line.Statement.{statement}
use Rattle.tucson_caption.proofs.header_line.Tie as tie

-- both lines are put
module _ (x : tie.After-same_front) where
  abbrev f2 : tie.After-front-count
  f2 = x.before.before.before

  abbrev w : tie.After-words-spoken
  w = f2.before.before.before.before

  abbrev f1 : tie.After-front-known
  f1 = w.before.before.before.before

  abbrev s : tie.Start
  s = f1.before.before.before.before.before

  abbrev first : Text
  first = shown (slice s.args.first (s.args.past + 1) s.args.text.now)

  abbrev t : Text
  t = shown (slice s.args.from (s.args.end + 1) s.args.text.now)

  abbrev head : Text
  head = f1.front-known.new.bytes

  abbrev bytes : Text
  bytes = f2.front-count.new.bytes

  abbrev here : Text
  here = take f2.front-count.result bytes

  size : length bytes ≡ cells
  size = f2.front-count.auto.bytes ∙ w.words-spoken.auto.bytes ∙ s.requires.size

  same_is : same_text (take 6 (take f1.front-known.result head)) (take 6 here) ≡ x.same_front.result
  same_is = sym x.same_front.ensures

  by : (a b d e : Bool) → same_text (take 6 (take f1.front-known.result head)) (take 6 here) ≡ a → eqb (column 7 here) blank ≡ b
      → eqb (column 8 here) (digit_zero + s.args.k) ≡ d → caption_by here f2.front-count.result (any_word (drop name_columns t)) ≡ e
      → is_header_line first s.args.k t ≡ (a && (b && (d && e)))
  by = header_by first t s.args.k head bytes f1.front-known.result f2.front-count.result f1.front-known.ensures f2.front-count.ensures size

  abbrev caption : Bool
  caption = caption_by here f2.front-count.result (any_word (drop name_columns t))

returns : tie.Need-returns-then-not-same_front
returns c = let x = c in sym (by x.before false _ _ _ (same_is x.before ∙ c.if-not-same_front.true) refl refl refl)

returns-2 : tie.Need-returns-then-byte_in-ne32
returns-2 c =
    let b = c in
    let e1 = b in
    let x = e1 in
    sym (by x.before.before.before true false _ _ (same_is x.before.before.before ∙ e1.if-not-same_front.false) (ap (λ (y : ℕ). eqb y blank) (sym b.byte_in.ensures) ∙ ne_eqb b.byte_in.result blank c.if-byte_in-ne32.true) refl refl)

-- a blank in column 7
spaced : (c : tie.Else-byte_in-ne32) → eqb (column 7 (here c.before.before.before)) blank ≡ true
spaced c = ap (λ (y : ℕ). eqb y blank) (sym c.byte_in.ensures) ∙ eq-eqb c.byte_in.result blank c.if-byte_in-ne32.false

returns-3 : tie.Need-returns-then-byte_in-k
returns-3 c =
    let b = c in
    let e2 = b in
    let e1 = e2 in
    let x = e1 in
    let k = (s x.before.before.before.before.before).args.k in
    sym
    (by x.before.before.before.before.before true true false _ (same_is x.before.before.before.before.before ∙ e1.if-not-same_front.false) (spaced e2.before.before)
    (ap (λ (y : ℕ). eqb y (digit_zero + k)) (sym b.byte_in-2.ensures) ∙ ne_eqb b.byte_in-2.result (digit_zero + k) c.if-byte_in-k.true) refl)

returns-4 : tie.Need-returns
returns-4 c =
    let e3 = c in
    let b = e3 in
    let e2 = b in
    let e1 = e2 in
    let x = e1 in
    let k = (s x.before.before.before.before.before.before).args.k in
    c.is_caption.ensures ∙ ap (caption_by (here x.before.before.before.before.before.before) (f2 x.before.before.before.before.before.before).front-count.result) (w x.before.before.before.before.before.before).words-spoken.ensures
    ∙ sym
    (by x.before.before.before.before.before.before true true true (caption x.before.before.before.before.before.before) (same_is x.before.before.before.before.before.before ∙ e1.if-not-same_front.false) (spaced e2.before.before.before)
    (ap (λ (y : ℕ). eqb y (digit_zero + k)) (sym b.byte_in-2.ensures) ∙ eq-eqb b.byte_in-2.result (digit_zero + k) e3.if-byte_in-k.false) refl)

pub header_line_spec : {M : Type 1} → statement M
header_line_spec =
    tie.close
    (tie.spec
    (λ c κs. search rules)
    (λ c κs. search rules)
    (λ c κs. search rules)
    (λ c κs. search rules)
    (λ c. search rules)
    (λ c. search rules)
    returns
    (λ c κs. search rules)
    (λ c. search rules)
    (λ c. search rules)
    returns-2
    (λ c κs. search rules)
    (λ c. search rules)
    (λ c. search rules)
    (λ c. search rules)
    returns-3
    (λ c κs. search rules)
    (λ c. search rules)
    (λ c. search rules)
    returns-4)
