-- Texts of one length are the same where the one begins with the other.
use borrow.Author.Rules.{rules}
use mathlib.Core.Path.{◌≡◌, sym, ◌∙◌, ap₂}
use Prim.Native.Nat.{ℕ}
use native.Mathlib.Omega.{arith}
use lib.ListN.{length, take}
use lib.Seq.{length-take-le}
use Rattle.base_text.specs.Bytes.{begins_with}
use Rattle.tucson_caption.specs.Machine.{name_front}
use Rattle.tucson_caption.proofs.Captions.{front-differs, front-begins, front-within}
use Rattle.tucson_caption.proofs.same_front.Statement.{statement}
use Rattle.tucson_caption.proofs.same_front.Tie as tie

module _ (c : tie.After-common-size) where
  abbrev s : tie.Start
  s = c.before.before.before.before

  key_is : c.common-key.result ≡ name_front s.args.past
  key_is = c.common-key.ensures

  size_is : c.common-size.result ≡ name_front s.args.count
  size_is = c.common-size.ensures

returns : tie.Need-returns-then-key-size
returns c =
    let k = c in
    sym (front-differs (s k.before).args.head.now (s k.before).args.past (s k.before).args.bytes.now (s k.before).args.count (s k.before).requires.head-within (s k.before).requires.within
    (λ e. c.if-key-size.true (key_is k.before ∙ e ∙ sym (size_is k.before))))

slice-aggregate-begins : tie.Need-slice_bounds-begins-end
slice-aggregate-begins c =
    let k = c in
    sym (length-take-le k.common-key.result (s k.before).args.head.now
    (omega (arith, key_is k.before, front-within (s k.before).args.past (length (s k.before).args.head.now) (s k.before).requires.head-within)))

begins-requires : tie.Need-begins-requires
begins-requires c κs =
    let k = c in
    record {
      ordered = omega arith;
      within = omega (arith, size_is k.before, front-within (s k.before).args.count (length (s k.before).args.bytes.now) (s k.before).requires.within);
    }

returns-2 : tie.Need-returns
returns-2 c =
    let k = c in
    let same = c.if-key-size.false in
    c.begins.ensures
    ∙ ap₂ (λ (a b : ℕ). begins_with (take a (s k.before.before).args.head.now) (take b (s k.before.before).args.bytes.now)) (key_is k.before.before) (size_is k.before.before)
    ∙ sym (front-begins (s k.before.before).args.head.now (s k.before.before).args.past (s k.before.before).args.bytes.now (s k.before.before).args.count (s k.before.before).requires.head-within (s k.before.before).requires.within
    (sym (key_is k.before.before) ∙ same ∙ size_is k.before.before))

pub same_front_spec : {M : Type 1} → statement M
same_front_spec =
    tie.close (tie.spec (λ c κs. search rules) (λ c κs. search rules) returns slice-aggregate-begins begins-requires returns-2)
