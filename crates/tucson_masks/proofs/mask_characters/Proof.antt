-- Each turn masks one character more; what is masked and what is left make up the same text.
use borrow.Author.Rules.{rules}
use borrow.Author.Tests.{le-leb, ne_eqb, eq-eqb}
use mathlib.Core.Bool.{Bool, cond}
use mathlib.Core.List.{◌++◌, ◌∷◌, []}
use mathlib.Core.Option.{some, none}
use mathlib.Core.Path.{◌≡◌, refl, sym, ◌∙◌, ap}
use Prim.Native.Nat.{ℕ, ◌+◌, ◌-◌, ◌≤◌}
use native.Mathlib.Numerals.{add-one}
use native.Mathlib.Omega.{arith}
use lib.ListN.{length, take, get_or, length-set}
use lib.Seq.{slice, take-suc-set}
use Rattle.base_text.specs.Bytes.{Text}
use Rattle.spec_tucson.specs.StrictLine.{characters_masked, with_masked}
use Rattle.tucson_masks.specs.Machine.{masked_byte}
use Rattle.tucson_masks.proofs.Characters.{behind, behind-next, behind-nothing, characters_end}
use Rattle.tucson_masks.proofs.mask_characters.Statement.{statement}
use Rattle.tucson_masks.proofs.mask_characters.Tie as tie

record Masking (bytes : Text) (n : ℕ) (line₀ line : Text) (i count : ℕ) : Type 0 where
  within : i ≤ n
  fewer : count ≤ i
  size : length line ≡ length line₀
  are : characters_masked (take n bytes) ≡ behind (take count line) (characters_masked (slice i n bytes))

abbrev invariant-loop : tie.invariant-loop-i
invariant-loop bytes n line₀ i₀ count₀ line i count = Masking bytes n line₀ line i count

abbrev decreases-loop : tie.decreases-loop-i
decreases-loop bytes n line₀ i₀ count₀ line i count = n - i

loop-holds : tie.Need-loop-i-init invariant-loop decreases-loop
loop-holds c =
    let s = c in
    record { within = omega arith; fewer = omega arith; size = refl; are = behind-nothing (characters_masked (take s.args.n s.args.bytes.now)) }

character-size-requires : tie.Need-character_size-size-requires invariant-loop decreases-loop
character-size-requires c κs = let s = c in record { before = omega arith; within = omega (arith, s.requires) }

same_length : tie.Need-shape_of-line-then-size-eq0 invariant-loop decreases-loop
same_length c = c.loop-i.invariant.size

returns : tie.Need-returns-then-size-eq0 invariant-loop decreases-loop
returns c =
    let l = c.loop-i in
    let z = c.character_size-size in
    let s = c in
    let bytes = s.args.bytes.now in
    l.invariant.are
    ∙ ap (behind (take l.count l.line)) (z.ensures.is
    ∙ ap (λ (b : Bool). cond b none (with_masked (masked_byte (get_or bytes l.i 0)) (characters_masked (slice (l.i + z.result) s.args.n bytes)))) (eq-eqb z.result 0 c.if-size-eq0.true))

loop-again : tie.Need-loop-i-preserved invariant-loop decreases-loop
loop-again c =
    let l = c.loop-i in
    let s = c in
    let z = c.character_size-size in
    let bytes = s.args.bytes.now in
    record {
      within = omega (arith, z.ensures.within);
      fewer = omega (arith, c.if-size-eq0.false);
      size = simp length-set l.invariant.size;
      are =
          rw (add-one, take-suc-set l.line l.count c.mask.result (omega (arith, l.invariant.size, l.invariant.fewer, s.requires)))
          (l.invariant.are
          ∙ ap (behind (take l.count l.line)) (z.ensures.is
          ∙ ap (λ (b : Bool). cond b none (with_masked (masked_byte (get_or bytes l.i 0)) (characters_masked (slice (l.i + z.result) s.args.n bytes))))
          (ne_eqb z.result 0 c.if-size-eq0.false))
          ∙ behind-next (take l.count l.line) (masked_byte (get_or bytes l.i 0)) (characters_masked (slice (l.i + z.result) s.args.n bytes))
          ∙ ap (λ (x : ℕ). behind (take l.count l.line ++ (x ∷ [])) (characters_masked (slice (l.i + z.result) s.args.n bytes))) (sym c.mask.ensures));
    }

same-length-2 : tie.Need-shape_of-line invariant-loop decreases-loop
same-length-2 c = c.loop-i.invariant.size

returns-2 : tie.Need-returns invariant-loop decreases-loop
returns-2 c =
    let l = c.loop-i in
    let s = c in
    let e : l.i ≡ s.args.n = omega arith in
    l.invariant.are ∙ ap (λ (i : ℕ). behind (take l.count l.line) (characters_masked (slice i s.args.n s.args.bytes.now))) e
    ∙ characters_end s.args.n s.args.bytes.now (take l.count l.line)
    ∙ ap (λ (b : Bool). cond b (some (take l.count l.line)) none) (sym (le-leb l.count 96 (omega (arith, l.invariant.fewer, s.requires))))

pub mask_characters_spec : {M : Type 1} → statement M
mask_characters_spec =
    tie.close
    (tie.spec
    invariant-loop
    decreases-loop
    loop-holds
    character-size-requires
    same_length
    returns
    (λ c. omega arith)
    (λ c κs. search rules)
    (λ c. omega arith)
    (λ c. omega arith)
    (λ c. omega arith)
    (λ c. omega arith)
    loop-again
    same-length-2
    returns-2)
