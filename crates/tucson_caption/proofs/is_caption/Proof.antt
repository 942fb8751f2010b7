-- One test after another; the last one is the answer where all before it hold.
use borrow.Author.Rules.{rules}
use borrow.Author.Tests.{eq-eqb, ne_eqb}
use mathlib.Core.Bool.{Bool, true, false, not}
use mathlib.Core.Path.{◌≡◌, refl, sym, ◌∙◌, ap}
use Prim.Native.Nat.{ℕ}
use lib.Dec.{eqb}
use lib.ListN.{take}
use Rattle.base_text.specs.Bytes.{Text}
use Rattle.base_text.specs.Numeral.{is_digit}
use Rattle.spec_tucson.specs.Columns.{blank}
use Rattle.spec_tucson.specs.KeptLines.{column}
use Rattle.tucson_caption.proofs.Captions.{caption-by}
use Rattle.tucson_caption.proofs.is_caption.Statement.{statement}
use Rattle.tucson_caption.proofs.is_caption.Tie as tie

module _ (s : tie.Start) where
  abbrev t : Text
  t = take s.args.count s.args.bytes.now

  abbrev no12 : Bool
  no12 = not (is_digit (column 12 t))

  abbrev no18 : Bool
  no18 = not (is_digit (column 18 t))

  abbrev no24 : Bool
  no24 = not (is_digit (column 24 t))

returns : tie.Need-returns-then-count-eq-NAME_COLUMNS
returns c =
    let s = c in
    sym
    (caption-by (t s.before.before) s.args.count s.args.spoken true (eqb (column 9 (t s.before.before)) blank) s.args.spoken (no12 s.before.before) (no18 s.before.before) (no24 s.before.before)
    (eq-eqb s.args.count 8 c.if-count-eq-NAME_COLUMNS.true) refl refl refl refl refl)

-- not eight columns
module _ (c : tie.After-byte_in) where
  abbrev s1 : tie.Start
  s1 = c.before.before.before

  other : eqb s1.args.count 8 ≡ false
  other = ne_eqb s1.args.count 8 c.if-count-eq-NAME_COLUMNS.false

returns-2 : tie.Need-returns-then-byte_in-ne32
returns-2 c =
    let k = c in
    let s = s1 k.before in
    sym
    (caption-by (t s) s.args.count s.args.spoken false false s.args.spoken (no12 s) (no18 s) (no24 s) (other k.before)
    (ap (λ (b : ℕ). eqb b blank) (sym k.byte_in.ensures) ∙ ne_eqb k.byte_in.result blank c.if-byte_in-ne32.true) refl refl refl refl)

-- a blank in column 9
spaced : (c : tie.Else-byte_in-ne32) → eqb (column 9 (t (s1 c.before))) blank ≡ true
spaced c = ap (λ (b : ℕ). eqb b blank) (sym c.byte_in.ensures) ∙ eq-eqb c.byte_in.result blank c.if-byte_in-ne32.false

returns-3 : tie.Need-returns-then-not-spoken
returns-3 c =
    let e = c in
    let k = e in
    let s = s1 k.before.before in
    sym
    (caption-by (t s) s.args.count s.args.spoken false true false (no12 s) (no18 s) (no24 s) (other k.before.before) (spaced e.before) (c.if-not-spoken.true) refl refl refl)

returns-4 : tie.Need-returns-then-not-no_digit
returns-4 c =
    let d = c in
    let e = d in
    let k = e in
    let s = s1 k.before.before.before.before in
    sym
    (caption-by (t s) s.args.count s.args.spoken false true true false (no18 s) (no24 s) (other k.before.before.before.before) (spaced e.before.before.before) (d.if-not-spoken.false)
    (sym d.no_digit.ensures ∙ c.if-not-no_digit.true) refl refl)

returns-5 : tie.Need-returns-then-not-no_digit-2
returns-5 c =
    let d2 = c in
    let d = d2 in
    let e = d in
    let k = e in
    let s = s1 k.before.before.before.before.before.before in
    sym
    (caption-by (t s) s.args.count s.args.spoken false true true true false (no24 s) (other k.before.before.before.before.before.before) (spaced e.before.before.before.before.before) (d.if-not-spoken.false)
    (sym d.no_digit.ensures ∙ d2.if-not-no_digit.false) (sym d2.no_digit-2.ensures ∙ c.if-not-no_digit-2.true) refl)

returns-6 : tie.Need-returns
returns-6 c =
    let d2 = c in
    let d = d2 in
    let e = d in
    let k = e in
    let s = s1 k.before.before.before.before.before.before.before in
    c.no_digit-3.ensures
    ∙ sym
    (caption-by (t s) s.args.count s.args.spoken false true true true true (no24 s) (other k.before.before.before.before.before.before.before) (spaced e.before.before.before.before.before.before) (d.if-not-spoken.false)
    (sym d.no_digit.ensures ∙ d2.if-not-no_digit.false) (sym d2.no_digit-2.ensures ∙ c.if-not-no_digit-2.false) refl)

pub is_caption_spec : {M : Type 1} → statement M
is_caption_spec =
    tie.close
    (tie.spec
    returns
    (λ c κs. search rules)
    returns-2
    returns-3
    (λ c κs. search rules)
    returns-4
    (λ c κs. search rules)
    returns-5
    (λ c κs. search rules)
    returns-6)
