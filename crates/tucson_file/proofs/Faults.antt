-- A file byte by byte: what the byte at an index says of all from it on.
use mathlib.Core.Path.{◌≡◌, refl, sym, ◌∙◌, ap, ap₂}
use mathlib.Core.Bool.{Bool, true, false, cond, ◌&&◌, ◌||◌, not}
use mathlib.Core.List.{[], ◌∷◌}
use mathlib.Core.Option.{some, none}
use Prim.Native.Nat.{ℕ, suc, ◌+◌, ◌-◌, ◌<◌, ◌≤◌}
use native.Mathlib.Omega.{arith}
use native.Mathlib.Numerals.{add-one}
use Rattle.base_exact.proofs.Decide.{true_not_false, or-false}
use borrow.Author.Tests.{ne_eqb, leb-false}
use lib.Dec.{eqb, leb}
use lib.ListN.{length, take, drop, get_or, length-drop}
use lib.Seq.{slice, drop-cons, drop-length, take_all}
use Rattle.base_text.specs.Bytes.{Text, newline, index_where, index_of, begins_with}
use Rattle.base_text.proofs.Slice.{slice_all}
use Rattle.spec_tucson.specs.FileText.{substitute, all_padding, is_fault, line_after, fault_line, is_marked, unmarked, byte_order_mark}
use Rattle.tucson_file.specs.Machine.{fault_at, is_special, any_special}

-- ---- what stands from an index on

pub rest_is : (t : Text) (i : ℕ) → slice i (length t) t ≡ drop i t
rest_is t i = slice_all i t

-- as the machine lends it
pub rest_lent : (t : Text) (i : ℕ) → take (length t - i) (drop i t) ≡ drop i t
rest_lent t i = take_all (length t - i) (drop i t) (omega (arith, length-drop i t))

-- ---- the line of a fault

module _ (t : Text) (i line : ℕ) (h : i < length t) where
  here : fault_line line (drop i t)
      ≡ cond (eqb (get_or t i 0) substitute) (cond (all_padding (drop (suc i) t)) none (some line))
      (cond (fault_at i t) (some line) (fault_line (line_after (get_or t i 0) line) (drop (suc i) t)))
  unfolding fault_line fault_at
  here = ap (fault_line line) (drop-cons t i 0 h)

  pub fault-ended : eqb (get_or t i 0) substitute ≡ true → all_padding (drop (i + 1) t) ≡ true → fault_line line (drop i t) ≡ none
  fault-ended e p =
      here ∙ ap₂ (λ (b c : Bool). cond b (cond c none (some line)) (cond (fault_at i t) (some line) (fault_line (line_after (get_or t i 0) line) (drop (suc i) t))))
      e (ap (λ (n : ℕ). all_padding (drop n t)) (sym (add-one i)) ∙ p)

  pub fault-behind : eqb (get_or t i 0) substitute ≡ true → all_padding (drop (i + 1) t) ≡ false → fault_line line (drop i t) ≡ some line
  fault-behind e p =
      here ∙ ap₂ (λ (b c : Bool). cond b (cond c none (some line)) (cond (fault_at i t) (some line) (fault_line (line_after (get_or t i 0) line) (drop (suc i) t))))
      e (ap (λ (n : ℕ). all_padding (drop n t)) (sym (add-one i)) ∙ p)

  pub fault-here : eqb (get_or t i 0) substitute ≡ false → fault_at i t ≡ true → fault_line line (drop i t) ≡ some line
  fault-here e p =
      here ∙ ap₂ (λ (b c : Bool). cond b (cond (all_padding (drop (suc i) t)) none (some line)) (cond c (some line) (fault_line (line_after (get_or t i 0) line) (drop (suc i) t)))) e p

  pub fault-later : eqb (get_or t i 0) substitute ≡ false → fault_at i t ≡ false
      → fault_line line (drop i t) ≡ fault_line (line_after (get_or t i 0) line) (drop (i + 1) t)
  fault-later e p =
      here ∙ ap₂ (λ (b c : Bool). cond b (cond (all_padding (drop (suc i) t)) none (some line)) (cond c (some line) (fault_line (line_after (get_or t i 0) line) (drop (suc i) t)))) e p
      ∙ ap (λ (n : ℕ). fault_line (line_after (get_or t i 0) line) (drop n t)) (sym (add-one i))

pub fault-none : (t : Text) (i line : ℕ) → i ≡ length t → fault_line line (drop i t) ≡ none
unfolding fault_line
fault-none t i line e = ap (λ (n : ℕ). fault_line line (drop n t)) e ∙ ap (fault_line line) (drop-length t)

-- ---- a byte at fault

begins_cons : (t : Text) (i : ℕ) → i < length t → begins_with byte_order_mark (get_or t i 0 ∷ drop (suc i) t) ≡ begins_with byte_order_mark (slice i (length t) t)
begins_cons t i h = ap (begins_with byte_order_mark) (sym (drop-cons t i 0 h) ∙ sym (slice_all i t))

module _ (t : Text) (i : ℕ) (h : i < length t) where
  next : drop (suc i) t ≡ slice (i + 1) (length t) t
  next = ap (λ (n : ℕ). drop n t) (sym (add-one i)) ∙ sym (slice_all (i + 1) t)

  pub at_is : fault_at i t ≡ (eqb (get_or t i 0) 0 || begins_with byte_order_mark (slice i (length t) t)
      || (eqb (get_or t i 0) 13 && not (begins_with (newline ∷ []) (slice (i + 1) (length t) t))))
  unfolding fault_at is_fault
  at_is = ap₂ (λ (b : Bool) (u : Text). eqb (get_or t i 0) 0 || b || (eqb (get_or t i 0) 13 && not (begins_with (newline ∷ []) u))) (begins_cons t i h) next

-- ---- a mark

mark_long : (t : Text) → begins_with byte_order_mark t ≡ true → 3 ≤ length t
unfolding begins_with
mark_long [] e = absurd (no e)
  where
    no : false ≡ true → ⊥
    no e = true_not_false e refl
mark_long (a ∷ []) e = go (eqb a 239) e
  where
    go : (b : Bool) → cond b false false ≡ true → 3 ≤ 1
    go true e = absurd (true_not_false e refl)
    go false e = absurd (true_not_false e refl)
mark_long (a ∷ b ∷ []) e = go (eqb a 239) (eqb b 187) e
  where
    go : (c d : Bool) → cond c (cond d false false) false ≡ true → 3 ≤ 2
    go true true e = absurd (true_not_false e refl)
    go true false e = absurd (true_not_false e refl)
    go false d e = absurd (true_not_false e refl)
mark_long (a ∷ b ∷ c ∷ t) e = omega arith

pub marked_long : (t : Text) → is_marked t ≡ true → 3 ≤ length t
unfolding is_marked
marked_long t e = mark_long t e

pub unmarked-marked : (t : Text) → is_marked t ≡ true → unmarked t ≡ drop 3 t
unfolding unmarked
unmarked-marked t e = ap (λ (b : Bool). cond b (drop 3 t) t) e

pub unmarked_other : (t : Text) → is_marked t ≡ false → unmarked t ≡ drop 0 t
unfolding unmarked
unmarked_other t e = ap (λ (b : Bool). cond b (drop 3 t) t) e

pub line_near : (c line i : ℕ) → line ≤ i + 1 → line_after c line ≤ i + 1 + 1
line_near c line i h = go (eqb c newline)
  where
    go : (b : Bool) → cond b (suc line) line ≤ i + 1 + 1
    go true = omega arith
    go false = omega arith

begins_not : (c : ℕ) (cs : Text) → (c ≡ 239 → ⊥) → begins_with byte_order_mark (c ∷ cs) ≡ false
unfolding begins_with
begins_not c cs h = rw (ne_eqb c 239 h)

-- a byte that begins no mark and is neither 0 nor 13
pub at_plain : (t : Text) (i : ℕ) → i < length t → 13 < get_or t i 0 → get_or t i 0 < 239 → fault_at i t ≡ false
at_plain t i h low high =
    let b = get_or t i 0 in
    at_is t i h ∙ rw (ne_eqb b 0 (λ e. omega (arith, e, low)), sym (begins_cons t i h) ∙ begins_not b (drop (suc i) t) (λ e. omega (arith, e, high)), ne_eqb b 13 (λ e. omega (arith, e, low)))

-- ---- special bytes

pub special-next : (t : Text) (i : ℕ) → i < length t → (any : Bool)
    → (any || any_special (drop i t)) ≡ ((any || is_special (get_or t i 0)) || any_special (drop (i + 1) t))
unfolding any_special
special-next t i h true = refl
special-next t i h false = ap any_special (drop-cons t i 0 h) ∙ ap (λ (n : ℕ). is_special (get_or t i 0) || any_special (drop n t)) (sym (add-one i))

pub special_end : (any : Bool) (t : Text) (i : ℕ) → i ≡ length t → (any || any_special (drop i t)) ≡ any
unfolding any_special
special_end true t i e = refl
special_end false t i e = ap (λ (n : ℕ). any_special (drop n t)) e ∙ ap any_special (drop-length t)

module _ (c : ℕ) (cs : Text) (e : any_special (c ∷ cs) ≡ false) where
  parts : (is_special c ≡ false) × (any_special cs ≡ false)
  unfolding any_special
  parts = or-false (is_special c) (any_special cs) e

  low : (eqb c 0 ≡ false) × (eqb c 13 ≡ false)
  low = or-false (eqb c 0) (eqb c 13) (or-false (eqb c 0 || eqb c 13) (eqb c 26 || leb 239 c) parts.0).0

  high : (eqb c 26 ≡ false) × (leb 239 c ≡ false)
  high = or-false (eqb c 26) (leb 239 c) (or-false (eqb c 0 || eqb c 13) (eqb c 26 || leb 239 c) parts.0).1

  no_fault : is_fault c cs ≡ false
  unfolding is_fault
  no_fault = rw (low.0, low.1, begins_not c cs (λ z. omega (arith, z, leb-false 239 c high.1)))

-- without such a byte there is no fault
pub plain-fault : (line : ℕ) (t : Text) → any_special t ≡ false → fault_line line t ≡ none
unfolding fault_line
plain-fault line [] e = refl
plain-fault line (c ∷ cs) e = rw ((high c cs e).0, no_fault c cs e) (plain-fault (line_after c line) cs (parts c cs e).1)

-- and no byte 26
pub plain-index : (t : Text) → any_special t ≡ false → index_of substitute t ≡ length t
unfolding index_where
plain-index [] e = refl
plain-index (c ∷ cs) e = rw (high c cs e).0 (ap suc (plain-index cs (parts c cs e).1))
