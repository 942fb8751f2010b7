-- No line of a header can be read as a strict line, whether it was named or guessed.
use mathlib.Core.Path.{◌≡◌, refl, sym, ◌∙◌, ap}
use mathlib.Core.Bool.{Bool, true, false, cond, ◌&&◌, not}
use mathlib.Core.List.{List, [], ◌∷◌}
use mathlib.Core.Option.{Option, some, none}
use Prim.Native.Nat.{ℕ, suc, ◌+◌, ◌<◌, ◌≤◌}
use native.Mathlib.Omega.{arith}
use borrow.Author.Tests.{le-leb, lt-leb, not-true}
use lib.Dec.{leb, ltb}
use lib.ListN.{length}
use Rattle.base_exact.proofs.Decide.{clash, and-true, true_not_false}
use Rattle.base_outcome.specs.Outcome.{answer, refuse}
use Rattle.base_outcome.proofs.Outcome.{answer_unique, answer_not_refusal}
use Rattle.base_text.specs.Bytes.{Text}
use Rattle.spec_tucson.specs.Shown.{shown, is_blank_line}
use Rattle.spec_tucson.specs.KeptLines.{is_header_line, Numbered, numbered, unblank, reads_strictly, captions, guessed_header, strict_in_header, unless_strict, named_header, header_limit, header_of}
use Rattle.theorems_clean.specs.Places.{At, here, later}

-- ---- the numbers rise

abbrev pub Ascends : ℕ → List Numbered → Type 0
Ascends n [] = Unit {0}
Ascends n (x ∷ xs) = (n ≤ x.line) × Ascends (suc x.line) xs

ascends_lower : (n : ℕ) (xs : List Numbered) → Ascends (suc n) xs → Ascends n xs
ascends_lower n [] h = tt
ascends_lower n (x ∷ xs) h = (omega (arith, h.0), h.1)

pub unblank_ascends : (rs : List Text) (i : ℕ) → Ascends i (unblank i rs)
unfolding unblank
unblank_ascends [] i = tt
unblank_ascends (r ∷ rs) i = go (is_blank_line r) (unblank_ascends rs (suc i))
  where
    go : (b : Bool) → Ascends (suc i) (unblank (suc i) rs) → Ascends i (cond b (unblank (suc i) rs) (numbered i r ∷ unblank (suc i) rs))
    go true h = ascends_lower i (unblank (suc i) rs) h
    go false h = (omega arith, h)

-- ---- none of the lines up to h is strict

no_strict : (h : ℕ) (x : Numbered) (xs : List Numbered) → reads_strictly x.raw ≡ false → strict_in_header h xs ≡ none → strict_in_header h (x ∷ xs) ≡ none
unfolding strict_in_header
no_strict h x xs e f = go (leb x.line h)
  where
    go : (b : Bool) → cond b (cond (reads_strictly x.raw) (some x.line) (strict_in_header h xs)) none ≡ none
    go true = ap (λ (s : Bool). cond s (some x.line) (strict_in_header h xs)) e ∙ f
    go false = refl

pub none_above : (h n : ℕ) (xs : List Numbered) → h < n → Ascends n xs → strict_in_header h xs ≡ none
unfolding strict_in_header
none_above h n [] l a = refl
none_above h n (x ∷ xs) l a = ap (λ (b : Bool). cond b (cond (reads_strictly x.raw) (some x.line) (strict_in_header h xs)) none) (lt-leb x.line h (omega (arith, a.0)))

caption_free : (first : Text) (k : ℕ) (raw : Text) → captions first k raw ≡ true → reads_strictly raw ≡ false
unfolding captions
caption_free first k raw e = not-true (reads_strictly raw) (and-true (is_header_line (shown first) k (shown raw)) (not (reads_strictly raw)) e).1

guessed_free : (ns : List Numbered) → Ascends 1 ns → strict_in_header (guessed_header ns) ns ≡ none
unfolding guessed_header
guessed_free [] h = none_above 0 1 [] (omega arith) h
guessed_free (a ∷ []) h = none_above 0 1 (a ∷ []) (omega arith) h
guessed_free (a ∷ b ∷ []) h = none_above 0 1 (a ∷ b ∷ []) (omega arith) h
guessed_free (a ∷ b ∷ c ∷ []) h = none_above 0 1 (a ∷ b ∷ c ∷ []) (omega arith) h
guessed_free (a ∷ b ∷ c ∷ d ∷ more) h = go (captions a.raw 1 a.raw && (captions a.raw 2 b.raw && captions a.raw 3 c.raw)) refl
  where
    go : (g : Bool) → (captions a.raw 1 a.raw && (captions a.raw 2 b.raw && captions a.raw 3 c.raw)) ≡ g
        → strict_in_header (cond g c.line 0) (a ∷ b ∷ c ∷ d ∷ more) ≡ none
    go false w = none_above 0 1 (a ∷ b ∷ c ∷ d ∷ more) (omega arith) h
    go true w =
        let first = and-true (captions a.raw 1 a.raw) (captions a.raw 2 b.raw && captions a.raw 3 c.raw) w in
        let second = and-true (captions a.raw 2 b.raw) (captions a.raw 3 c.raw) first.1 in
        no_strict c.line a (b ∷ c ∷ d ∷ more) (caption_free a.raw 1 a.raw first.0)
        (no_strict c.line b (c ∷ d ∷ more) (caption_free a.raw 2 b.raw second.0)
        (no_strict c.line c (d ∷ more) (caption_free a.raw 3 c.raw second.1)
        (none_above c.line (suc c.line) (d ∷ more) (omega arith) h.1.1.1)))

named_free : (h : ℕ) (rs : List Text) (last : ℕ) → named_header h rs ≡ answer last → strict_in_header last (unblank 1 rs) ≡ none
unfolding named_header
named_free h rs last e = go (ltb (length rs) h) e
  where
    unless : (o : Option ℕ) → strict_in_header h (unblank 1 rs) ≡ o → unless_strict h o ≡ answer last → strict_in_header last (unblank 1 rs) ≡ none
    unless none w e = ap (λ (n : ℕ). strict_in_header n (unblank 1 rs)) (sym (answer_unique refl e)) ∙ w
    unless (some line) w e = absurd (answer_not_refusal e refl)

    go : (b : Bool) → cond b (refuse 26 0) (unless_strict h (strict_in_header h (unblank 1 rs))) ≡ answer last → strict_in_header last (unblank 1 rs) ≡ none
    go true e = absurd (answer_not_refusal e refl)
    go false e = unless (strict_in_header h (unblank 1 rs)) refl e

pub header_free : (header : ℕ) (rs : List Text) (last : ℕ) → header_of header rs ≡ answer last → strict_in_header last (unblank 1 rs) ≡ none
unfolding header_of
header_free header rs last e = go (leb header header_limit) e
  where
    go : (b : Bool) → cond b (named_header header rs) (answer (guessed_header (unblank 1 rs))) ≡ answer last → strict_in_header last (unblank 1 rs) ≡ none
    go true e = named_free header rs last e
    go false e = ap (λ (n : ℕ). strict_in_header n (unblank 1 rs)) (sym (answer_unique refl e)) ∙ guessed_free (unblank 1 rs) (unblank_ascends rs 1)

-- ---- a line of it

pub at_below : {A : Type 0} {x : A} {n : ℕ} {xs : List A} → At x n xs → n < length xs
at_below here = omega arith
at_below (later at) = omega (arith, at_below at)

-- the first of a list, or one of the others
pub data Where {A : Type 0} (x y : A) (n : ℕ) (xs : List A) : Type 0 where
  first : x ≡ y → n ≡ 0 → Where x y n xs
  other : (k : ℕ) → n ≡ suc k → At x k xs → Where x y n xs

pub at_where : {A : Type 0} (x y : A) (n : ℕ) (xs : List A) → At x n (y ∷ xs) → Where x y n xs
at_where x y n xs here = first refl refl
at_where x y n xs (later at) = other _ refl at

pub line_free : (rs : List Text) (i h : ℕ) → strict_in_header h (unblank i rs) ≡ none → (j : ℕ) (raw : Text) → At raw j rs → is_blank_line raw ≡ false → i + j ≤ h → reads_strictly raw ≡ false
unfolding strict_in_header unblank
line_free [] i h e j raw at b l = absurd (omega (arith, at_below at))
line_free (r ∷ rs) i h e j raw at b l = go (is_blank_line r) refl e (at_where raw r j rs at) (λ f k. line_free rs (suc i) h f k raw)
  where
    passed : (x : Bool) → cond x (some i) (strict_in_header h (unblank (suc i) rs)) ≡ none → (x ≡ false) × (strict_in_header h (unblank (suc i) rs) ≡ none)
    passed true e = clash cc
    passed false e = (refl, e)

    reached : strict_in_header h (numbered i r ∷ unblank (suc i) rs) ≡ none → (reads_strictly r ≡ false) × (strict_in_header h (unblank (suc i) rs) ≡ none)
    reached e =
        passed (reads_strictly r) (ap (λ (y : Bool). cond y (cond (reads_strictly r) (some i) (strict_in_header h (unblank (suc i) rs))) none) (sym (le-leb i h (omega arith))) ∙ e)

    go : (x : Bool) → is_blank_line r ≡ x → strict_in_header h (cond x (unblank (suc i) rs) (numbered i r ∷ unblank (suc i) rs)) ≡ none → Where raw r j rs
        → (strict_in_header h (unblank (suc i) rs) ≡ none → (k : ℕ) → At raw k rs → is_blank_line raw ≡ false → suc i + k ≤ h → reads_strictly raw ≡ false) → reads_strictly raw ≡ false
    go true x e (first same z) ih = absurd (true_not_false (ap is_blank_line same ∙ x) b)
    go true x e (other k z at) ih = ih e k at b (omega arith)
    go false x e (first same z) ih = ap reads_strictly same ∙ (reached e).0
    go false x e (other k z at) ih = ih (reached e).1 k at b (omega arith)
