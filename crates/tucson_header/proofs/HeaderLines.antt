-- The lines that are looked at for a header: those that are not blank, and the first of them that can be read as a strict line.
use mathlib.Core.Path.{◌≡◌, refl, sym, ◌∙◌, ap, ap₂}
use mathlib.Core.Bool.{Bool, true, false, cond, ◌&&◌}
use mathlib.Core.List.{List, [], ◌∷◌}
use mathlib.Core.Option.{Option, some, none}
use Prim.Native.Nat.{ℕ, zero, suc, ◌+◌, ◌<◌, ◌≤◌}
use native.Mathlib.Numerals.{add-one}
use native.Mathlib.Omega.{arith}
use borrow.Author.Tests.{lt-ltb, le-ltb, le-leb, lt-leb}
use lib.Dec.{ltb}
use lib.ListN.{length, drop, drop_of_length-le}
use lib.Seq.{slice}
use Rattle.base_outcome.specs.Outcome.{Outcome, answer, refusal, refuse, capped}
use Rattle.base_outcome.specs.Search.{or_else}
use Rattle.base_text.specs.Bytes.{Text}
use Rattle.spec_tucson.specs.Line.{lines_of}
use Rattle.spec_tucson.specs.Shown.{is_blank_line}
use Rattle.spec_tucson.specs.KeptLines.{Numbered, numbered, unblank, reads_strictly, captions, guessed_header, strict_in_header, unless_strict, named_header}
use Rattle.tucson_lines.specs.Machine.{LineEnd, line_found}
use Rattle.tucson_lines.proofs.Lines.{lines_step}
use Rattle.tucson_lines.proofs.Found.{line_some}

-- ---- the lines that are not blank
module _ (body : Text) (from end : ℕ) (at : LineEnd body from end) (more : from < length body) (number : ℕ) where
  unblank-here : unblank number (lines_of (drop from body))
      ≡ cond (is_blank_line (slice from (end + 1) body)) (unblank (suc number) (lines_of (drop (end + 1) body)))
      (numbered number (slice from (end + 1) body) ∷ unblank (suc number) (lines_of (drop (end + 1) body)))
  unfolding unblank
  unblank-here = ap (unblank number) (lines_step body from end at more)

  pub blank-passed : is_blank_line (slice from (end + 1) body) ≡ true
      → unblank number (lines_of (drop from body)) ≡ unblank (number + 1) (lines_of (drop (end + 1) body))
  blank-passed e =
      unblank-here ∙ ap (λ (b : Bool). cond b (unblank (suc number) (lines_of (drop (end + 1) body)))
      (numbered number (slice from (end + 1) body) ∷ unblank (suc number) (lines_of (drop (end + 1) body)))) e
      ∙ ap (λ (n : ℕ). unblank n (lines_of (drop (end + 1) body))) (sym (add-one number))

  pub line-left : is_blank_line (slice from (end + 1) body) ≡ false → unblank number (lines_of (drop from body))
      ≡ numbered number (slice from (end + 1) body) ∷ unblank (suc number) (lines_of (drop (end + 1) body))
  line-left e =
      unblank-here ∙ ap (λ (b : Bool). cond b (unblank (suc number) (lines_of (drop (end + 1) body)))
      (numbered number (slice from (end + 1) body) ∷ unblank (suc number) (lines_of (drop (end + 1) body)))) e

pub lines-over : (body : Text) (from number : ℕ) → length body ≤ from → unblank number (lines_of (drop from body)) ≡ []
unfolding unblank lines_of
lines-over body from number h = ap (λ (t : Text). unblank number (lines_of t)) (drop_of_length-le body h)

-- ---- a header that is named

-- What the named header ends with, behind so many lines and with this one found.
unfoldable pub named_from : ℕ → ℕ → ℕ → List Text → Outcome ℕ
named_from h done found raws =
    cond (ltb (done + length raws) h) (refuse 26 0) (unless_strict h (or_else (line_found found) (strict_in_header h (unblank (suc done) raws))))

pub named_start : (h : ℕ) (raws : List Text) → named_header h raws ≡ named_from h 0 0 raws
unfolding named_header named_from line_found
named_start h raws =
    let e : length raws ≡ 0 + length raws = omega arith in
    ap (λ (n : ℕ). cond (ltb n h) (refuse 26 0) (unless_strict h (strict_in_header h (unblank 1 raws)))) e

pub named-short : (h done found : ℕ) → done < h → refusal 26 0 ≡ named_from h done found []
unfolding named_from capped
named-short h done found less =
    sym (ap (λ (b : Bool). cond b (refuse 26 0) (unless_strict h (or_else (line_found found) (strict_in_header h (unblank (suc done) []))))) (lt-ltb (done + 0) h (omega arith)))

strict_here : (h number : ℕ) (raw : Text) (raws : List Text) → number ≤ h → strict_in_header h (unblank number (raw ∷ raws))
    ≡ or_else (cond (is_blank_line raw) none (cond (reads_strictly raw) (some number) none)) (strict_in_header h (unblank (suc number) raws))
unfolding unblank strict_in_header
strict_here h number raw raws few = go (is_blank_line raw) (reads_strictly raw) refl
  where
    go : (b s : Bool) → reads_strictly raw ≡ s → strict_in_header h (cond b (unblank (suc number) raws) (numbered number raw ∷ unblank (suc number) raws))
        ≡ or_else (cond b none (cond s (some number) none)) (strict_in_header h (unblank (suc number) raws))
    go true s e = refl
    go false true e = rw (le-leb number h few, e)
    go false false e = rw (le-leb number h few, e)

or_else_assoc : (a b c : Option ℕ) → or_else a (or_else b c) ≡ or_else (or_else a b) c
or_else_assoc none b c = refl
or_else_assoc (some i) b c = refl

pub named-next : (h done found now : ℕ) (raw : Text) (raws : List Text) → done < h
    → line_found now ≡ or_else (line_found found) (cond (is_blank_line raw) none (cond (reads_strictly raw) (some (done + 1)) none))
    → named_from h done found (raw ∷ raws) ≡ named_from h (done + 1) now raws
unfolding named_from
named-next h done found now raw raws less e =
    let here : Option ℕ = cond (is_blank_line raw) none (cond (reads_strictly raw) (some (done + 1)) none) in
    let size : done + suc (length raws) ≡ done + 1 + length raws = omega arith in
    let first = ap (λ (n : ℕ). strict_in_header h (unblank n (raw ∷ raws))) (sym (add-one done)) ∙ strict_here h (done + 1) raw raws (omega arith) in
    ap₂ (λ (n : ℕ) (o : Option ℕ). cond (ltb n h) (refuse 26 0) (unless_strict h (or_else (line_found found) o))) size first
    ∙ ap (λ (o : Option ℕ). cond (ltb (done + 1 + length raws) h) (refuse 26 0) (unless_strict h o))
    (or_else_assoc (line_found found) here (strict_in_header h (unblank (suc (done + 1)) raws))
    ∙ ap (λ (o : Option ℕ). or_else o (strict_in_header h (unblank (suc (done + 1)) raws))) (sym e))

none_above : (h number : ℕ) (raws : List Text) → h < number → strict_in_header h (unblank number raws) ≡ none
unfolding unblank strict_in_header
none_above h number [] more = refl
none_above h number (raw ∷ raws) more = go (is_blank_line raw) (none_above h (suc number) raws (omega arith))
  where
    go : (b : Bool) → strict_in_header h (unblank (suc number) raws) ≡ none
        → strict_in_header h (cond b (unblank (suc number) raws) (numbered number raw ∷ unblank (suc number) raws)) ≡ none
    go true ih = ih
    go false ih = rw (lt-leb number h more)

named_done : (h found : ℕ) (raws : List Text) → named_from h h found raws ≡ unless_strict h (or_else (line_found found) none)
unfolding named_from
named_done h found raws =
    ap₂ (λ (b : Bool) (o : Option ℕ). cond b (refuse 26 0) (unless_strict h (or_else (line_found found) o))) (le-ltb (h + length raws) h (omega arith))
    (none_above h (suc h) raws (omega arith))

pub named_refused : (h done found : ℕ) (raws : List Text) → done ≡ h → (found ≡ 0 → ⊥) → refusal 26 (capped found) ≡ named_from h done found raws
unfolding line_found
named_refused h done found raws e f = go found f ∙ sym (ap (λ (n : ℕ). named_from h n found raws) e ∙ named_done h found raws)
  where
    go : (n : ℕ) → (n ≡ 0 → ⊥) → refusal 26 (capped n) ≡ unless_strict h (or_else (line_found n) none)
    go zero f = absurd (f refl)
    go (suc n) f = refl

pub named-ends : (h done found : ℕ) (raws : List Text) → done ≡ h → found ≡ 0 → answer h ≡ named_from h done found raws
unfolding line_found
named-ends h done found raws e f =
    sym (ap₂ (λ (n m : ℕ). named_from h n m raws) e f ∙ named_done h 0 raws)

-- ---- a header that is guessed
pub guessed_none : {ns : List Numbered} → ns ≡ [] → guessed_header ns ≡ 0
unfolding guessed_header
guessed_none e = ap guessed_header e

pub guessed_one : {ns : List Numbered} (a : Numbered) (rest : List Numbered) → ns ≡ a ∷ rest → rest ≡ [] → guessed_header ns ≡ 0
unfolding guessed_header
guessed_one a rest e f = ap guessed_header (e ∙ ap (λ (r : List Numbered). a ∷ r) f)

pub guessed_two : {ns : List Numbered} (a b : Numbered) (r s : List Numbered) → ns ≡ a ∷ r → r ≡ b ∷ s → s ≡ [] → guessed_header ns ≡ 0
unfolding guessed_header
guessed_two a b r s e f g = ap guessed_header (e ∙ ap (λ (x : List Numbered). a ∷ x) (f ∙ ap (λ (x : List Numbered). b ∷ x) g))

pub guessed_three : {ns : List Numbered} (a b c : Numbered) (r s t : List Numbered) → ns ≡ a ∷ r → r ≡ b ∷ s → s ≡ c ∷ t → t ≡ [] → guessed_header ns ≡ 0
unfolding guessed_header
guessed_three a b c r s t e f g h =
    ap guessed_header (e ∙ ap (λ (x : List Numbered). a ∷ x) (f ∙ ap (λ (x : List Numbered). b ∷ x) (g ∙ ap (λ (x : List Numbered). c ∷ x) h)))

pub guessed_four : {ns : List Numbered} (a b c d : Numbered) (r s t u : List Numbered) → ns ≡ a ∷ r → r ≡ b ∷ s → s ≡ c ∷ t → t ≡ d ∷ u
    → guessed_header ns ≡ cond (captions a.raw 1 a.raw && (captions a.raw 2 b.raw && captions a.raw 3 c.raw)) c.line 0
unfolding guessed_header
guessed_four a b c d r s t u e f g h =
    ap guessed_header (e ∙ ap (λ (x : List Numbered). a ∷ x) (f ∙ ap (λ (x : List Numbered). b ∷ x) (g ∙ ap (λ (x : List Numbered). c ∷ x) h)))

-- ---- the line that is found
-- none was found before this line
module _ (found number : ℕ) (none_yet : found ≡ 0) (blank strict : Bool) where
  here : or_else (line_found found) (cond blank none (cond strict (some number) none)) ≡ cond blank none (cond strict (some number) none)
  unfolding line_found
  here = ap (λ (n : ℕ). or_else (line_found n) (cond blank none (cond strict (some number) none))) none_yet

  pub found-blank : blank ≡ true → line_found 0 ≡ or_else (line_found found) (cond blank none (cond strict (some number) none))
  unfolding line_found
  found-blank e = sym (here ∙ ap (λ (b : Bool). cond b none (cond strict (some number) none)) e)

  pub found_strict : 1 ≤ number → blank ≡ false → strict ≡ true → line_found number ≡ or_else (line_found found) (cond blank none (cond strict (some number) none))
  unfolding line_found
  found_strict h e f = line_some number h ∙ sym (here ∙ ap₂ (λ (b s : Bool). cond b none (cond s (some number) none)) e f)

  pub found_other : blank ≡ false → strict ≡ false → line_found 0 ≡ or_else (line_found found) (cond blank none (cond strict (some number) none))
  unfolding line_found
  found_other e f = sym (here ∙ ap₂ (λ (b s : Bool). cond b none (cond s (some number) none)) e f)

-- the three tests in a row
pub by_captions : (x y z : Bool) (n : ℕ) → (x ≡ false → 0 ≡ cond (x && (y && z)) n 0) × ((x ≡ true → y ≡ false → 0 ≡ cond (x && (y && z)) n 0)
    × ((x ≡ true → y ≡ true → z ≡ false → 0 ≡ cond (x && (y && z)) n 0) × (x ≡ true → y ≡ true → z ≡ true → n ≡ cond (x && (y && z)) n 0)))
by_captions x y z n = (λ e. rw e, (λ e f. rw (e, f), (λ e f g. rw (e, f, g), λ e f g. rw (e, f, g))))
