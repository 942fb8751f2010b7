-- The first four lines that are not blank, and the three tests of the first three.
use Rattle.std.proofs.Common.{arith, cond, ◌&&◌, List, ◌≡◌, sym, ◌∙◌, ap, ℕ, suc, ◌+◌, ◌≤◌, length, drop}
use native.Mathlib.Numerals.{add-one}
use lib.Seq.{slice}
use Rattle.base_text.specs.Bytes.{Text}
use Rattle.spec_tucson.specs.Line.{lines_of}
use Rattle.spec_tucson.specs.KeptLines.{Numbered, unblank, captions, guessed_header}
use Rattle.tucson_lines.proofs.Lines.{end_within}
use Rattle.tucson_header.specs.Machine.{NumberFits, LineAt}
use Rattle.tucson_header.specs.declared.Line.{Line}
use Rattle.tucson_header.proofs.HeaderLines.{guessed_none, guessed_one, guessed_two, guessed_three, guessed_four, by_captions}
use Rattle.tucson_header.proofs.guessed.Goals as goal

-- behind a line that is left
module _ {body : Text} {start first from end number : ℕ} (l : LineAt body start first from end number) where
  sizes : (from ≤ end) × (end ≤ length body)
  sizes = end_within body from end l.at

  fits-behind : NumberFits body (end + 1) (number + 1)
  fits-behind = record { within = omega (arith, sizes); few = omega (arith, sizes, l.few) }

  abbrev behind : List Numbered
  behind = unblank (suc number) (lines_of (drop (end + 1) body))

  from_here : behind ≡ unblank (number + 1) (lines_of (drop (end + 1) body))
  from_here = ap (λ (n : ℕ). unblank n (lines_of (drop (end + 1) body))) (sym (add-one number))

pub returns-in_err-a : goal.returns-in_err-a
returns-in_err-a c = rw c.from_residual.ensures (sym (guessed_none c.in_err-a.ensures))

pub overflow_add-a : goal.overflow_add-a
overflow_add-a c = omega (arith, sizes c.in_ok-a.ensures, c.well_formed)

pub next_line-requires-2 : goal.next_line-requires-2
next_line-requires-2 c = fits-behind c.in_ok-a.ensures

pub returns-in_err-b : goal.returns-in_err-b
returns-in_err-b c =
    let a = c.in_ok-a.ensures in
    rw c.from_residual-in_err-b.ensures (sym (guessed_one _ (behind a) a.lines (from_here a ∙ c.in_err-b.ensures)))

pub overflow_add-b : goal.overflow_add-b
overflow_add-b c = omega (arith, sizes c.in_ok-b.ensures, c.well_formed)

pub next_line-requires-3 : goal.next_line-requires-3
next_line-requires-3 c = fits-behind c.in_ok-b.ensures

pub returns-in_err-c : goal.returns-in_err-c
returns-in_err-c c =
    let a = c.in_ok-a.ensures in
    let b = c.in_ok-b.ensures in
    rw c.from_residual-in_err-c.ensures
    (sym (guessed_two _ _ (behind a) (behind b) a.lines (from_here a ∙ b.lines) (from_here b ∙ c.in_err-c.ensures)))

pub overflow_add-c : goal.overflow_add-c
overflow_add-c c = omega (arith, sizes c.in_ok-c.ensures, c.well_formed)

pub next_line-requires-4 : goal.next_line-requires-4
next_line-requires-4 c = fits-behind c.in_ok-c.ensures

pub returns-in_err-d : goal.returns-in_err-d
returns-in_err-d k =
    let a = k.in_ok-a.ensures in
    let b = k.in_ok-b.ensures in
    let c = k.in_ok-c.ensures in
    rw k.from_residual-in_err-d.ensures
    (sym
    (guessed_three _ _ _ (behind a) (behind b) (behind c) a.lines (from_here a ∙ b.lines) (from_here b ∙ c.lines)
    (from_here c ∙ k.in_err-d.ensures)))

-- what is guessed, by the three tests
abbrev raw : Text → Line → Text
raw body l = slice l.from (l.end + 1) body

by_tests : {body : Text} (a b c d : Line) → LineAt body 0 1 a.from a.end a.number
    → LineAt body (a.end + 1) (a.number + 1) b.from b.end b.number
    → LineAt body (b.end + 1) (b.number + 1) c.from c.end c.number → LineAt body (c.end + 1) (c.number + 1) d.from d.end d.number
    → guessed_header (unblank 1 (lines_of body))
    ≡ cond (captions (raw body a) 1 (raw body a) && (captions (raw body a) 2 (raw body b) && captions (raw body a) 3 (raw body c)))
    c.number 0
by_tests a b c d x y z w =
    guessed_four _ _ _ _ (behind x) (behind y) (behind z) (behind w) x.lines (from_here x ∙ y.lines) (from_here y ∙ z.lines)
    (from_here z ∙ w.lines)

pub returns-then-not-is_caption : goal.returns-then-not-is_caption
returns-then-not-is_caption k =
    let t = raw k.args.body.now in
    let a = k.in_ok-a.a in
    let b = k.in_ok-b.b in
    let c = k.in_ok-c.c in
    (by_captions (captions (t a) 1 (t a)) (captions (t a) 2 (t b)) (captions (t a) 3 (t c)) c.number).0
    (sym k.is_caption.ensures ∙ k.if-not-is_caption.true)
    ∙ sym (by_tests a b c k.in_ok-d.d k.in_ok-a.ensures k.in_ok-b.ensures k.in_ok-c.ensures k.in_ok-d.ensures)

pub returns-then-not-is_caption-2 : goal.returns-then-not-is_caption-2
returns-then-not-is_caption-2 k =
    let t = raw k.args.body.now in
    let a = k.in_ok-a.a in
    let b = k.in_ok-b.b in
    let c = k.in_ok-c.c in
    (by_captions (captions (t a) 1 (t a)) (captions (t a) 2 (t b)) (captions (t a) 3 (t c)) c.number).1.0
    (sym k.is_caption.ensures ∙ k.if-not-is_caption.false) (sym k.is_caption-2.ensures ∙ k.if-not-is_caption-2.true)
    ∙ sym (by_tests a b c k.in_ok-d.d k.in_ok-a.ensures k.in_ok-b.ensures k.in_ok-c.ensures k.in_ok-d.ensures)

pub returns-then-not-is_caption-3 : goal.returns-then-not-is_caption-3
returns-then-not-is_caption-3 k =
    let t = raw k.args.body.now in
    let a = k.in_ok-a.a in
    let b = k.in_ok-b.b in
    let c = k.in_ok-c.c in
    (by_captions (captions (t a) 1 (t a)) (captions (t a) 2 (t b)) (captions (t a) 3 (t c)) c.number).1.1.0
    (sym k.is_caption.ensures ∙ k.if-not-is_caption.false) (sym k.is_caption-2.ensures ∙ k.if-not-is_caption-2.false)
    (sym k.is_caption-3.ensures ∙ k.if-not-is_caption-3.true)
    ∙ sym (by_tests a b c k.in_ok-d.d k.in_ok-a.ensures k.in_ok-b.ensures k.in_ok-c.ensures k.in_ok-d.ensures)

pub returns : goal.returns
returns k =
    let t = raw k.args.body.now in
    let a = k.in_ok-a.a in
    let b = k.in_ok-b.b in
    let c = k.in_ok-c.c in
    (by_captions (captions (t a) 1 (t a)) (captions (t a) 2 (t b)) (captions (t a) 3 (t c)) c.number).1.1.1
    (sym k.is_caption.ensures ∙ k.if-not-is_caption.false) (sym k.is_caption-2.ensures ∙ k.if-not-is_caption-2.false)
    (sym k.is_caption-3.ensures ∙ k.if-not-is_caption-3.false)
    ∙ sym (by_tests a b c k.in_ok-d.d k.in_ok-a.ensures k.in_ok-b.ensures k.in_ok-c.ensures k.in_ok-d.ensures)
