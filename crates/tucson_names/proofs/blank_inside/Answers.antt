-- A blank that was seen counts where another byte comes behind it.
use Rattle.std.proofs.Common.{◌+◌, Bool, ◌∙◌, sym, ap, take, drop}
use Rattle.spec_tucson.specs.StrictLine.{name_of}
use Rattle.tucson_names.proofs.NameColumns.{inside, inside-blank_at, inside_other_at, inside-found_at, inside-over, inside_all}
use Rattle.tucson_names.proofs.blank_inside.Goals as goal
use Rattle.tucson_names.proofs.blank_inside.Goals.{then-c-eq32, else-c-eq32+else-seen}

pub loop-c-init : goal.loop-c-init
loop-c-init c = sym (inside_all (name_of c.args.line.now))

pub returns-then-seen : goal.returns-then-seen
returns-then-seen c =
    let l = c.loop-c in
    let t = take 8 c.args.line.now in
    let found = inside-found_at t l.c-index c.loop-c-test.true c.if-c-eq32.false in
    sym (l.invariant ∙ ap (λ (b : Bool). inside b (drop l.c-index t)) c.if-seen.true ∙ found)

pub loop-c-preserved : goal.loop-c-preserved
loop-c-preserved c =
    let l = c.loop-c in
    let t = take 8 c.args.line.now in
    let here = c.loop-c-test.true in
    l.invariant ∙ elim c.if-c-eq32.branch [
      | then-c-eq32 w ↦
          inside-blank_at t l.c-index here l.seen w.if-c-eq32.true
          ∙ ap (λ (b : Bool). inside b (drop (l.c-index + 1) t)) (sym w.seen-is)
      | else-c-eq32+else-seen w ↦
          ap (λ (b : Bool). inside b (drop l.c-index t)) w.if-seen.false ∙ inside_other_at t l.c-index here w.if-c-eq32.false
          ∙ ap (λ (b : Bool). inside b (drop (l.c-index + 1) t)) (sym (w.seen-is ∙ w.if-seen.false))
    ]

pub returns : goal.returns
returns c = let l = c.loop-c in sym (l.invariant ∙ inside-over l.seen (take 8 c.args.line.now) l.c-index c.loop-c-test.false)
