-- A turn passes one line, or ends where there is none.
use Rattle.std.proofs.Common.{◌≡◌, ℕ, ◌+◌, ◌-◌, ◌<◌, length, drop, sym, ap, ◌∙◌, arith}
use Rattle.spec_rings.specs.Parts.{lines_end}
use Rattle.rings_input.proofs.Parts.{no_lines, no_line, one_line, stop_within}
use Rattle.rings_input.proofs.lines_end.Goals as goal

pub loop-init : goal.loop-init
loop-init c =
    let a = c.args in
    (c.requires, ap (λ (n : ℕ). a.from + lines_end n (drop a.from a.text.now)) (let e : a.count ≡ a.count - 0 = omega arith in e))

pub find-stop-requires : goal.find-stop-requires
find-stop-requires c = record { ordered = c.loop.invariant.0; within = omega arith }

pub returns-then-stop-end-clause-value : goal.returns-then-stop-end-clause-value
returns-then-stop-end-clause-value c =
    let text = c.args.text.now in
    let l = c.loop in
    let none = no_line text l.at l.invariant.0 (c.args.count - l.counter) (omega arith) (omega (arith, c.find-stop.ensures)) in
    omega (arith, l.invariant.1, none)

pub overflow_add-at : goal.overflow_add-at
overflow_add-at c = omega (arith, c.find-stop.ensures, stop_within c.args.text.now c.loop.at c.loop.invariant.0 0)

pub loop-preserved : goal.loop-preserved
loop-preserved c =
    let text = c.args.text.now in
    let l = c.loop in
    let left = c.args.count - l.counter in
    let stop = c.find-stop.result in
    let less : stop < length text = omega (arith, c.find-stop.ensures, stop_within text l.at l.invariant.0 0) in
    let turn = one_line text l.at l.invariant.0 left (omega arith) (omega (arith, c.find-stop.ensures)) in
    let one_less : left - 1 ≡ c.args.count - (l.counter + 1) = omega arith in (
      omega arith,
      l.invariant.1
          ∙ turn
          ∙ ap (λ (n : ℕ). n + 1 + lines_end (left - 1) (drop (n + 1) text)) (sym c.find-stop.ensures)
          ∙ ap (λ (n : ℕ). stop + 1 + lines_end n (drop (stop + 1) text)) one_less,
    )

pub returns-clause-value : goal.returns-clause-value
returns-clause-value c =
    omega (arith, c.loop.invariant.1, no_lines (drop c.loop.at c.args.text.now) (c.args.count - c.loop.counter) (omega arith))

pub returns-clause-upper_bound : goal.returns-clause-upper_bound
returns-clause-upper_bound c = c.loop.invariant.0
