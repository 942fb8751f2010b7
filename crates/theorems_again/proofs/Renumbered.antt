-- The lines of an answer as the lines of a file of their own: numbered from 1, each shown as it is. The second call keeps them all.
use mathlib.Core.Path.{◌≡◌, refl, ◌∙◌, ap, ap₂}
use mathlib.Core.Bool.{Bool, true, false, cond, ◌&&◌, not}
use mathlib.Core.List.{List, [], ◌∷◌, ◌++◌}
use mathlib.Core.Option.{Option, some, none}
use Prim.Native.Nat.{ℕ, suc, ◌+◌, ◌-◌, ◌≤◌}
use native.Mathlib.Omega.{arith}
use borrow.Author.Tests.{le-ltb}
use lib.ListN.{length, take}
use Rattle.base_exact.proofs.Decide.{and-false}
use Rattle.base_outcome.specs.Outcome.{Outcome, answer, refuse, ◌then◌, with_answer}
use Rattle.base_outcome.proofs.Outcome.{Chained, then_answers, then_inverts, with_inverts}
use Rattle.base_text.specs.Bytes.{Text}
use Rattle.spec_tucson.specs.Series.{Series}
use Rattle.spec_tucson.specs.TextReading.{Begun, Step, opened, closed, read_line, after}
use Rattle.spec_tucson.specs.Shown.{shown}
use Rattle.spec_tucson.specs.StrictLine.{is_strict, strict_line, Kept, name_bytes, name_of}
use Rattle.spec_tucson.specs.KeptLines.{same_text, Numbered, numbered, is_header_line, unblank, reads_strictly, captions, guessed_header, strict_in_header, unless_strict, named_header, header_of}
use Rattle.spec_tucson.specs.KeptLines.{is_misnamed, kept_then, kept_lines}
use Rattle.spec_tucson.specs.CleanSeries.{continues, with_end, strict_text, read_kept}
use Rattle.theorems_clean.proofs.StrictLines.{AllStrict, with_ends}
use Rattle.theorems_clean.proofs.StrictShown.{strict_fields-shown, strict_is_read, strict_not_blank, strict_reads_strictly}
use Rattle.theorems_clean.proofs.Accepted.{line_anywhere}
use Rattle.theorems_clean.proofs.Lines.{numbers}
use Rattle.theorems_clean.proofs.Headers.{unblank_ascends, none_above}
use Rattle.theorems_stays.proofs.Stays.{strict_data}
use Rattle.theorems_again.specs.Again.{counted, NoHeader, not_named, without}

-- A strict line of a file that has it as it is.
abbrev pub as_line : ℕ → Text → Kept
as_line i t = record { line = i; raw = with_end t; text = t }

-- The lines, numbered from this one on.
abbrev pub renumbered : ℕ → List Kept → List Kept
renumbered i [] = []
renumbered i (k ∷ ks) = as_line i k.text ∷ renumbered (suc i) ks

pub renumbered-text : (i : ℕ) (ks : List Kept) → strict_text (renumbered i ks) ≡ strict_text ks
unfolding strict_text
renumbered-text i [] = refl
renumbered-text i (k ∷ ks) = ap (λ (s : Text). with_end k.text ++ s) (renumbered-text (suc i) ks)

pub renumbered-numbers : (i : ℕ) (ks : List Kept) → numbers (renumbered i ks) ≡ counted i (numbers ks)
renumbered-numbers i [] = refl
renumbered-numbers i (k ∷ ks) = ap (λ (ns : List ℕ). i ∷ ns) (renumbered-numbers (suc i) ks)

pub renumbered-continues : (i j : ℕ) (k : Kept) (ks : List Kept) → continues (as_line i k.text) (renumbered j ks) ≡ continues k ks
unfolding continues
renumbered-continues i j k [] = refl
renumbered-continues i j k (n ∷ ks) = refl

-- ---- the header

guessed_strict : (x : Numbered) (xs : List Numbered) → reads_strictly x.raw ≡ true → guessed_header (x ∷ xs) ≡ 0
unfolding guessed_header captions
guessed_strict x [] e = refl
guessed_strict x (a ∷ []) e = refl
guessed_strict x (a ∷ b ∷ []) e = refl
guessed_strict x (a ∷ b ∷ c ∷ more) e =
    let first : captions x.raw 1 x.raw ≡ false =
    ap (λ (r : Bool). is_header_line (shown x.raw) 1 (shown x.raw) && not r) e ∙ and-false (is_header_line (shown x.raw) 1 (shown x.raw)) in
    ap (λ (f : Bool). cond (f && (captions x.raw 2 a.raw && captions x.raw 3 b.raw)) b.line 0) first

guessed_none : (ks : List Kept) → AllStrict ks → guessed_header (unblank 1 (with_ends ks)) ≡ 0
unfolding unblank guessed_header
guessed_none [] s = refl
guessed_none (k ∷ ks) s =
    ap (λ (b : Bool). guessed_header (cond b (unblank 2 (with_ends ks)) (numbered 1 (with_end k.text) ∷ unblank 2 (with_ends ks)))) (strict_not_blank k.text s.0)
    ∙ guessed_strict (numbered 1 (with_end k.text)) (unblank 2 (with_ends ks)) (strict_reads_strictly k.text s.0)

pub no_header : (header : ℕ) (ks : List Kept) → NoHeader header → AllStrict ks → header_of header (with_ends ks) ≡ answer 0
unfolding header_of named_header
no_header header ks not_named s = ap answer (guessed_none ks s)
no_header header ks without s =
    ap (λ (b : Bool). cond b (refuse 26 0) (unless_strict 0 (strict_in_header 0 (unblank 1 (with_ends ks))))) (le-ltb (length (with_ends ks)) 0 (omega arith))
    ∙ ap (unless_strict 0) (none_above 0 1 (unblank 1 (with_ends ks)) (omega arith) (unblank_ascends (with_ends ks) 1))

-- ---- the lines that are kept

name-bytes : (i : ℕ) (t : Text) → is_strict t ≡ true → name_bytes (as_line i t) ≡ name_of t
unfolding name_bytes
name-bytes i t e =
    ap (λ (s : Text). take (length s + 8 - length t) s) (strict_fields-shown t e)
    ∙ ap (λ (n : ℕ). take n t) (let z : length t + 8 - length t ≡ 8 = omega arith in z)

-- the line before stands in the file as it is
abbrev AsIs : Option Kept → Type 0
AsIs none = Unit {0}
AsIs (some k) = name_bytes k ≡ name_of k.text

not_misnamed : (b : Option Kept) (i : ℕ) (t : Text) → AsIs b → is_strict t ≡ true → is_misnamed b (as_line i t) ≡ false
not_misnamed none i t a e = refl
not_misnamed (some k) i t a e =
    ap₂ (λ (x y : Text). same_text (name_of k.text) (name_of t) && not (same_text x y)) a (name-bytes i t e) ∙ excluded (same_text (name_of k.text) (name_of t))
  where
    excluded : (b : Bool) → (b && not b) ≡ false
    excluded true = refl
    excluded false = refl

pub all_kept : (ks : List Kept) (i : ℕ) (b : Option Kept) → AllStrict ks → 1 ≤ i → AsIs b → kept_lines 0 i b (with_ends ks) ≡ answer (renumbered i ks)
unfolding kept_lines
all_kept [] i b s h a = refl
all_kept (k ∷ ks) i b s h a =
    ap (λ (d : Bool). cond d (strict_line i (with_end t) then λ u. kept_then b (record { line = i; raw = with_end t; text = u }) (λ c. kept_lines 0 (suc i) c (with_ends ks)))
    (kept_lines 0 (suc i) b (with_ends ks))) (strict_data i t s.0 h)
    ∙ then_answers (λ u. kept_then b (record { line = i; raw = with_end t; text = u }) (λ c. kept_lines 0 (suc i) c (with_ends ks))) (strict_is_read t s.0 i)
    ∙ ap (λ (m : Bool). cond m (refuse 22 i) (with_answer (λ ls. as_line i t ∷ ls) (kept_lines 0 (suc i) (some (as_line i t)) (with_ends ks)))) (not_misnamed b i t a s.0)
    ∙ ap (with_answer (λ ls. as_line i t ∷ ls)) (all_kept ks (suc i) (some (as_line i t)) s.1 (omega arith) (name-bytes i t s.0))
  where
    t : Text
    t = k.text

-- ---- the strict reader reads them

pub renumbered-reads : (ks : List Kept) (i : ℕ) (b : Option Begun) (ss : List Series) → read_kept b ks ≡ answer ss → read_kept b (renumbered i ks) ≡ answer ss
unfolding read_kept
renumbered-reads [] i b ss e = e
renumbered-reads (k ∷ ks) i b ss e =
    go (then_inverts (read_line k.line b (continues k ks) (with_end k.text)) (after (λ b'. read_kept b' ks)) e) (λ b' us. renumbered-reads ks (suc i) b' us)
  where
    later : (s : Step) → after (λ b'. read_kept b' ks) s ≡ answer ss
        → ((b' : Option Begun) (us : List Series) → read_kept b' ks ≡ answer us → read_kept b' (renumbered (suc i) ks) ≡ answer us)
        → after (λ b'. read_kept b' (renumbered (suc i) ks)) s ≡ answer ss
    later (opened c) e ih = ih (some c) ss e
    later (closed s) e ih =
        let w = with_inverts (λ us. s ∷ us) (read_kept none ks) e in
        ap (λ (o : Outcome (List Series)). with_answer (λ us. s ∷ us) o) (ih none w.before w.answers) ∙ ap answer w.changed

    go : Chained (read_line k.line b (continues k ks) (with_end k.text)) (after (λ b'. read_kept b' ks)) ss
        → ((b' : Option Begun) (us : List Series) → read_kept b' ks ≡ answer us → read_kept b' (renumbered (suc i) ks) ≡ answer us)
        → (read_line i b (continues (as_line i k.text) (renumbered (suc i) ks)) (with_end k.text) then after (λ b'. read_kept b' (renumbered (suc i) ks))) ≡ answer ss
    go c ih =
        ap (λ (m : Bool). read_line i b m (with_end k.text) then after (λ b'. read_kept b' (renumbered (suc i) ks))) (renumbered-continues i (suc i) k ks)
        ∙ then_answers (after (λ b'. read_kept b' (renumbered (suc i) ks))) (line_anywhere k.line i b (continues k ks) (with_end k.text) c.middle c.before)
        ∙ later c.middle c.after ih
