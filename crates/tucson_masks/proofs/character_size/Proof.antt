-- The first byte says how many follow, and the range of the first of them; the others are in one range.
use borrow.Author.Rules.{rules}
use borrow.Author.Tests.{ne_eqb}
use mathlib.Core.Bool.{Bool, false, cond}
use mathlib.Core.Option.{none}
use mathlib.Core.Path.{◌≡◌, sym, ◌∙◌, ap, ap₂}
use Prim.Native.Nat.{ℕ, suc, ◌+◌, ◌-◌, ◌<◌, ◌≤◌}
use native.Mathlib.Omega.{arith}
use lib.Dec.{eqb}
use lib.ListN.{get_or, take}
use lib.Seq.{slice, length-slice}
use Rattle.base_text.specs.Bytes.{Text}
use Rattle.base_text.proofs.Slice.{take_slice, drop-slice}
use Rattle.spec_tucson.specs.StrictLine.{follow_of, with_masked, characters_masked}
use Rattle.tucson_masks.specs.Machine.{masked_byte, all_continue, SizeTold}
use Rattle.tucson_masks.proofs.Characters.{character_ascii, character_none, character_short, character_low, character_high, character_broken, character_whole}
use Rattle.tucson_masks.proofs.character_size.Statement.{statement}
use Rattle.tucson_masks.proofs.character_size.Tie as tie

-- no character begins there
nothing : (bytes : Text) (at n : ℕ) → at < n → characters_masked (slice at n bytes) ≡ none → SizeTold bytes at n 0
nothing bytes at n h e = record { within = omega arith; is = e }

returns : tie.Need-returns-then-byte-lt-HIGH
returns c =
    let s = c in
    record {
      within = omega arith;
      is = character_ascii s.args.bytes.now s.args.at s.args.n s.requires.before s.requires.within c.if-byte-lt-HIGH.true;
    }

returns-2 : tie.Need-returns-then-count-eq0
returns-2 c =
    let s = c in
    let bytes = s.args.bytes.now in
    nothing bytes s.args.at s.args.n s.requires.before
    (character_none bytes s.args.at s.args.n s.requires.before s.requires.within c.if-byte-lt-HIGH.false
    (sym c.follow_count-count.ensures ∙ c.if-count-eq0.true))

-- a byte that others must follow
module _ (c : tie.Else-count-eq0) where
  abbrev s : tie.Start
  s = c.before.before.before.before.before

  abbrev bytes : Text
  bytes = s.args.bytes.now

  abbrev at : ℕ
  at = s.args.at

  abbrev n : ℕ
  n = s.args.n

  abbrev count : ℕ
  count = c.follow_count-count.result

  abbrev byte : ℕ
  byte = get_or bytes at 0

  high : 128 ≤ byte
  high = c.if-byte-lt-HIGH.false

  counted : (follow_of byte).count ≡ suc (count - 1)
  counted = let e : count ≡ suc (count - 1) = omega (arith, c.if-count-eq0.false) in sym c.follow_count-count.ensures ∙ e

  some_follow : 1 ≤ count
  some_follow = omega (arith, c.if-count-eq0.false)

returns-3 : tie.Need-returns-then-n-at
returns-3 c =
    let k = c in
    nothing (bytes k.before) (at k.before) (n k.before) (s k.before).requires.before
    (character_short (bytes k.before) (at k.before) (n k.before) (s k.before).requires.before (s k.before).requires.within (high k.before) (count k.before - 1) (counted k.before) (omega (arith, c.if-n-at.true, some_follow k.before)))

-- enough bytes
module _ (c : tie.Else-n-at) where
  abbrev e2 : tie.Else-count-eq0
  e2 = c.before

  longer : at e2 + count e2 < n e2
  longer = omega (arith, c.if-n-at.false, (s e2).requires.before)

returns-4 : tie.Need-returns-then-bytes-at
returns-4 c =
    let d = c in
    let k = e2 d.before.before.before in
    nothing (bytes k) (at k) (n k) (s k).requires.before
    (character_low (bytes k) (at k) (n k) (s k).requires.before (s k).requires.within (high k) (count k - 1) (counted k) (omega (arith, longer d.before.before.before, some_follow k))
    (rw c.follow_low.ensures at c.if-bytes-at.true))

-- the second byte is not too low
low-enough : (c : tie.Else-bytes-at) → (follow_of (byte (e2 c.before.before.before))).low ≤ get_or (bytes (e2 c.before.before.before)) (at (e2 c.before.before.before) + 1) 0
low-enough c = rw c.follow_low.ensures at c.if-bytes-at.false

returns-5 : tie.Need-returns-then-bytes-at-2
returns-5 c =
    let f = c in
    let d = f in
    let k = e2 d.before.before.before.before.before.before in
    nothing (bytes k) (at k) (n k) (s k).requires.before
    (character_high (bytes k) (at k) (n k) (s k).requires.before (s k).requires.within (high k) (count k - 1) (counted k) (omega (arith, longer d.before.before.before.before.before.before, some_follow k))
    (low-enough f.before.before.before) (rw c.follow_high.ensures at c.if-bytes-at-2.true))

-- all bytes are there, and the second is in its range
module _ (c : tie.Else-bytes-at-2) where
  abbrev f4 : tie.Else-bytes-at
  f4 = c.before.before.before

  abbrev d3 : tie.Else-n-at
  d3 = f4.before.before.before

  abbrev k2 : tie.Else-count-eq0
  k2 = e2 d3

  high_enough : get_or (bytes k2) (at k2 + 1) 0 ≤ (follow_of (byte k2)).high
  high_enough = rw c.follow_high.ensures at c.if-bytes-at-2.false

  followers : take (count k2 - 1) (slice (at k2 + 1 + 1) (n k2) (bytes k2)) ≡ slice (at k2 + 2) (at k2 + 1 + count k2) (bytes k2)
  followers =
      let a : at k2 + 1 + 1 ≡ at k2 + 2 = omega arith in
      let b : at k2 + 1 + 1 + (count k2 - 1) ≡ at k2 + 1 + count k2 = omega (arith, some_follow k2) in
      take_slice (count k2 - 1) (at k2 + 1 + 1) (n k2) (bytes k2) (omega (arith, longer d3, some_follow k2)) ∙ ap₂ (λ (i j : ℕ). slice i j (bytes k2)) a b

returns-6 : tie.Need-returns-then-not-all_continue
returns-6 c =
    let e = c in
    let k = k2 e.before.before in
    nothing (bytes k) (at k) (n k) (s k).requires.before
    (character_broken (bytes k) (at k) (n k) (s k).requires.before (s k).requires.within (high k) (count k - 1) (counted k) (omega (arith, longer (d3 e.before.before), some_follow k))
    (low-enough (f4 e.before.before)) (high_enough e.before.before) (ap all_continue (followers e.before.before) ∙ sym c.all_continue.ensures ∙ c.if-not-all_continue.true))

returns-7 : tie.Need-returns
returns-7 c =
    let e = c in
    let k = k2 e.before.before in
    let next : at k + 1 + 1 + (count k - 1) ≡ at k + (count k + 1) = omega (arith, some_follow k) in
    let some_size : eqb (count k + 1) 0 ≡ false = ne_eqb (count k + 1) 0 (λ z. omega arith) in
    record {
      within = omega (arith, longer (d3 e.before.before));
      is =
          character_whole (bytes k) (at k) (n k) (s k).requires.before (s k).requires.within (high k) (count k - 1) (counted k) (omega (arith, longer (d3 e.before.before), some_follow k))
          (low-enough (f4 e.before.before)) (high_enough e.before.before)
          (omega (arith, length-slice (at k + 1 + 1) (n k) (bytes k) (s k).requires.within, longer (d3 e.before.before), some_follow k))
          (ap all_continue (followers e.before.before) ∙ sym c.all_continue.ensures ∙ c.if-not-all_continue.false)
          ∙ ap (λ (t : Text). with_masked (masked_byte (byte k)) (characters_masked t)) (drop-slice (count k - 1) (at k + 1 + 1) (n k) (bytes k)
          ∙ ap (λ (i : ℕ). slice i (n k) (bytes k)) next)
          ∙ ap (λ (b : Bool). cond b none (with_masked (masked_byte (byte k)) (characters_masked (slice (at k + (count k + 1)) (n k) (bytes k))))) (sym some_size);
    }

pub character_size_spec : {M : Type 1} → statement M
character_size_spec =
    tie.close
    (tie.spec
    (λ c. search rules)
    returns
    (λ c κs. search rules)
    returns-2
    (λ c. search rules)
    returns-3
    (λ c. search rules)
    (λ c. search rules)
    (λ c κs. search rules)
    returns-4
    (λ c. search rules)
    (λ c. search rules)
    (λ c κs. search rules)
    returns-5
    (λ c. search rules)
    (λ c. search rules)
    (λ c. search rules)
    (λ c κs. search rules)
    returns-6
    (λ c. search rules)
    returns-7)
