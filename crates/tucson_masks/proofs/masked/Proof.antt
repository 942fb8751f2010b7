-- Both forms are tried; the second is made again where it alone is a strict line.
use borrow.Author.Rules.{rules}
use mathlib.Core.Bool.{true, cond}
use mathlib.Core.Option.{some, none}
use mathlib.Core.Path.{◌≡◌, sym, ◌∙◌, ap}
use Prim.Native.Nat.{ℕ}
use native.Mathlib.Omega.{arith}
use lib.Dec.{leb}
use lib.ListN.{length, take}
use Rattle.base_text.specs.Bytes.{Text}
use Rattle.spec_tucson.specs.StrictLine.{bytes_masked, characters_masked, is_strict, masked}
use Rattle.tucson_columns.specs.Machine.{cells}
use Rattle.tucson_masks.specs.Machine.{MaskedTold}
use Rattle.tucson_masks.proofs.Masks.{both_forms, no_form, second_is, second_not, second-again, first_told}
use Rattle.tucson_masks.proofs.masked.Statement.{statement}
use Rattle.tucson_masks.proofs.masked.Tie as tie

-- no form alone is a strict line
nothing : (t line : Text) → masked t ≡ none → MaskedTold t 0 line
nothing t line e = record { few = omega arith; is = e }

-- both forms are made
module _ (c : tie.After-is_strict) where
  abbrev put : tie.After-mask_bytes
  put = c.before.before.before

  abbrev tried : tie.After-is_strict-second
  tried = put.before.before

  abbrev read : tie.After-mask_characters-count
  read = tried.before.before.before

  abbrev s : tie.Start
  s = read.before.before.before.before

  abbrev t : Text
  t = take s.args.n s.args.bytes.now

  abbrev count : ℕ
  count = read.mask_characters-count.result

  abbrev second : Text
  second = read.mask_characters-count.new.line

  abbrev first : Text
  first = put.mask_bytes.new.line

  second-room : length second ≡ cells
  second-room = read.mask_characters-count.auto.line ∙ s.requires.room

  first-room : length first ≡ cells
  first-room = put.mask_bytes.auto.line ∙ second-room

  told : characters_masked t ≡ cond (leb count cells) (some (take count second)) none
  told = read.mask_characters-count.ensures

  second_tried : tried.is_strict-second.result ≡ is_strict (take count second)
  second_tried = tried.is_strict-second.ensures

  first_tried : c.is_strict.result ≡ is_strict (bytes_masked t)
  first_tried = c.is_strict.ensures ∙ ap is_strict put.mask_bytes.ensures

returns : tie.Need-returns-then-second
returns c =
    let k = c in
    let b : is_strict (take (count k.before.before) (second k.before.before)) ≡ true = sym (second_tried k.before.before) ∙ c.if-second.true in
    nothing (t k.before.before) (first k.before.before)
    (both_forms (t k.before.before) (take (count k.before.before) (second k.before.before)) (sym (first_tried k.before.before) ∙ c.if-is_strict.true) (second_is (t k.before.before) (second k.before.before) (count k.before.before) (second-room k.before.before) (told k.before.before) b) b)

returns-2 : tie.Need-returns-then-is_strict
returns-2 c =
    let k = c in
    first_told (t k.before.before) (first k.before.before) (s k.before.before).args.n (first-room k.before.before) (put k.before.before).mask_bytes.ensures (sym k.is_strict.ensures ∙ c.if-is_strict.true)
    (second_not (t k.before.before) (second k.before.before) (count k.before.before) (second-room k.before.before) (told k.before.before) (sym (second_tried k.before.before) ∙ c.if-second.false))

returns-3 : tie.Need-returns-then-second-2
returns-3 c =
    let m = c in
    let d = m in
    let k = d in
    let b : is_strict (take (count k.before.before.before.before.before.before) (second k.before.before.before.before.before.before)) ≡ true = sym (second_tried k.before.before.before.before.before.before) ∙ d.if-second-2.true in
    second-again (t k.before.before.before.before.before.before) m.mask_characters.new.line m.mask_characters.result (m.mask_characters.auto.line ∙ first-room k.before.before.before.before.before.before) m.mask_characters.ensures
    (take (count k.before.before.before.before.before.before) (second k.before.before.before.before.before.before)) (second_is (t k.before.before.before.before.before.before) (second k.before.before.before.before.before.before) (count k.before.before.before.before.before.before) (second-room k.before.before.before.before.before.before) (told k.before.before.before.before.before.before) b) b (sym (first_tried k.before.before.before.before.before.before) ∙ d.if-is_strict.false)

returns-4 : tie.Need-returns
returns-4 c =
    let k = c in
    nothing (t k.before.before) (first k.before.before)
    (no_form (t k.before.before) (sym (first_tried k.before.before) ∙ c.if-is_strict.false) (second_not (t k.before.before) (second k.before.before) (count k.before.before) (second-room k.before.before) (told k.before.before) (sym (second_tried k.before.before) ∙ c.if-second-2.false)))

pub masked_spec : {M : Type 1} → statement M
masked_spec =
    tie.close
    (tie.spec
    (λ c κs. search rules)
    (λ c κs. search rules)
    (λ c κs. search rules)
    (λ c κs. search rules)
    (λ c. search rules)
    returns
    (λ c. search rules)
    returns-2
    (λ c κs. search rules)
    (λ c. search rules)
    returns-3
    (λ c. search rules)
    returns-4)
