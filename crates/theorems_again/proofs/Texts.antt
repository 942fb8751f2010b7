-- The text of strict lines is a file without a mark, without byte 26 and without a byte at fault: it is its own text.
use mathlib.Core.Path.{◌≡◌, refl, ◌∙◌, ap, ap₂}
use mathlib.Core.Bool.{Bool, true, false, cond, ◌&&◌, ◌||◌, not}
use mathlib.Core.List.{List, [], ◌∷◌}
use mathlib.Core.Option.{some, none}
use Prim.Native.Nat.{ℕ, ◌<◌, ◌≤◌}
use native.Mathlib.Omega.{arith}
use borrow.Author.Tests.{le-ltb}
use lib.Dec.{eqb, ltb}
use lib.ListN.{length, take, drop}
use lib.Seq.{take_all}
use Rattle.base_text.specs.Bytes.{Text, newline, index_of, begins_with}
use Rattle.base_text.proofs.Lacking.{lacks, byte, lacks_append, lacks-first}
use Rattle.spec_tucson.specs.FileText.{carriage_return, substitute, is_marked, unmarked, text_of, ends_early, is_fault, line_after, fault_line, is_wide, text_fault}
use Rattle.spec_tucson.specs.StrictLine.{is_strict, Kept}
use Rattle.spec_tucson.specs.CleanSeries.{with_end, strict_text}
use Rattle.tucson_strict.proofs.Strict.{strict_ascii}
use Rattle.theorems_clean.proofs.StrictLines.{AllStrict, no_control, lacks-byte}
use Rattle.theorems_stays.proofs.Stays.{ascii_lacks, index-lacks, no_marked}

-- ---- bytes that no strict line has

text-lacks : (b : ℕ) → eqb newline b ≡ false → ((t : Text) → is_strict t ≡ true → lacks (byte b) t ≡ true) → (ks : List Kept) → AllStrict ks → lacks (byte b) (strict_text ks) ≡ true
unfolding strict_text
text-lacks b n h [] s = refl
text-lacks b n h (k ∷ ks) s =
    lacks_append (byte b) (with_end k.text) (strict_text ks)
    (lacks_append (byte b) k.text (newline ∷ []) (h k.text s.0) (ap (λ (x : Bool). not x && true) n))
    (text-lacks b n h ks s.1)

module _ (ks : List Kept) (s : AllStrict ks) where
  lacks-high : (b : ℕ) → eqb newline b ≡ false → 128 ≤ b → lacks (byte b) (strict_text ks) ≡ true
  lacks-high b n h = text-lacks b n (λ u e. ascii_lacks b u h (strict_ascii u e)) ks s

  lacks_low : (b : ℕ) → eqb newline b ≡ false → b < 32 → lacks (byte b) (strict_text ks) ≡ true
  lacks_low b n h = text-lacks b n (λ u e. lacks-byte b u h (no_control u e)) ks s

-- ---- no byte at fault

begins_not : (b : ℕ) (more t : Text) → lacks (byte b) t ≡ true → begins_with (b ∷ more) t ≡ false
unfolding begins_with
begins_not b more [] e = refl
begins_not b more (c ∷ t) e = ap (λ (x : Bool). cond x (begins_with more t) false) (lacks-first (byte b) c t e).0

no_fault : (t : Text) (line : ℕ) → lacks (byte substitute) t ≡ true → lacks (byte 0) t ≡ true → lacks (byte 239) t ≡ true → lacks (byte carriage_return) t ≡ true → fault_line line t ≡ none
unfolding fault_line is_fault
no_fault [] line e z m r = refl
no_fault (c ∷ t) line e z m r =
    let e' = lacks-first (byte substitute) c t e in
    let z' = lacks-first (byte 0) c t z in
    let m' = lacks-first (byte 239) c t m in
    let r' = lacks-first (byte carriage_return) c t r in
    rw (e'.0, z'.0, r'.0, begins_not 239 (187 ∷ 191 ∷ []) (c ∷ t) m) (no_fault t (line_after c line) e'.1 z'.1 m'.1 r'.1)

module _ (ks : List Kept) (s : AllStrict ks) where
  abbrev whole : Text
  whole = strict_text ks

  pub text-unmarked : is_marked whole ≡ false
  text-unmarked = no_marked whole (lacks-high ks s 239 refl (omega arith))

  unmarked-same : unmarked whole ≡ whole
  unfolding unmarked
  unmarked-same = ap (λ (b : Bool). cond b (drop 3 whole) whole) text-unmarked

  index_end : index_of substitute whole ≡ length whole
  index_end = index-lacks substitute whole (lacks_low ks s substitute refl (omega arith))

  pub text_same : text_of whole ≡ whole
  unfolding text_of
  text_same = ap (λ (t : Text). take (index_of substitute t) t) unmarked-same ∙ take_all (index_of substitute whole) whole (omega (arith, index_end))

  pub text_not_early : ends_early whole ≡ false
  unfolding ends_early
  text_not_early = ap (λ (t : Text). ltb (index_of substitute t) (length t)) unmarked-same ∙ le-ltb (index_of substitute whole) (length whole) (omega (arith, index_end))

  pub text_sound : text_fault whole ≡ none
  unfolding text_fault is_wide
  text_sound =
      ap₂ (λ (a b : Bool). cond (a || b) (some 1) (fault_line 1 (unmarked whole)))
      (begins_not 255 (254 ∷ []) whole (lacks-high ks s 255 refl (omega arith))) (begins_not 254 (255 ∷ []) whole (lacks-high ks s 254 refl (omega arith)))
      ∙ ap (fault_line 1) unmarked-same
      ∙ no_fault whole 1 (lacks_low ks s substitute refl (omega arith)) (lacks_low ks s 0 refl (omega arith)) (lacks-high ks s 239 refl (omega arith))
      (lacks_low ks s carriage_return refl (omega arith))
