-- One part more, or its refusal, and after the last part the beam.
use Rattle.std.proofs.Common.{◌≡◌, ◌+◌, ◌-◌, ◌<◌, ◌≤◌, ◌∙◌, sym, ap, subst, arith, ℕ, ℤ, List, length, Result, Ok, Err}
use Rattle.base_outcome.specs.Outcome.{refusal}
use Rattle.base_outcome.specs.Machine.{reply}
use Rattle.base_outcome.specs.declared.Refusal.{Refusal}
use Rattle.base_outcome.proofs.Reply.{Counted, count_inverts, refused_inverts}
use Rattle.spec_spline.specs.Space.{Space, part_end, row_count}
use Rattle.spec_spline.specs.Build.{weights, numerators_after, denominators_after}
use Rattle.spec_spline.specs.Table.{row_cells}
use Rattle.spec_spline.proofs.Parts.{part-ends}
use Rattle.spec_spline.proofs.Shape.{weights_shaped}
use Rattle.theorems_beams.specs.Sections.{section, part_at}
use Rattle.build_space.specs.Machine.{space}
use Rattle.build_space.specs.Legal.{ListsLegal}
use Rattle.build_space.proofs.Partial.{part_end_partial}
use Rattle.build_space.proofs.Legal.{part-column-count-high}
use Rattle.build_cells.specs.Held.{ClearFrom}
use Rattle.build_cells.proofs.Buffer.{clear_past}
use Rattle.build_joins.specs.Leaves.{Ends}
use Rattle.build.proofs.Beam.{Before, before-first, starts, rows-high, part_legal, part_more, part_refused, parts_done}
use Rattle.build.proofs.parts.build_parts.Goals as goal

-- what a part leaves, by the end that the code has found
left : (s : Space) (a : ℕ) {b : ℕ} (r : Result ℕ Refusal) (num den num' den' : List ℤ) → b ≡ part_end s a
    → Ends (weights (section s a (b - a))) (row_count (section s a (b - a))) r num den num' den'
    → Ends (weights (part_at s a)) (row_count (part_at s a)) r num den num' den'
left s a r num den num' den' e h =
    subst (λ (n : ℕ). Ends (weights (section s a (n - a))) (row_count (section s a (n - a))) r num den num' den') e h

-- a part that is built counts its rows
counted : (s : Space) (a : ℕ) (r : Result ℕ Refusal) {n : ℕ} {num den num' den' : List ℤ}
    → Ends (weights (part_at s a)) (row_count (part_at s a)) r num den num' den' → r ≡ Ok n
    → Counted (λ _. row_count (part_at s a)) (weights (part_at s a)) n
counted s a r h e = count_inverts (λ _. row_count (part_at s a)) (weights (part_at s a)) (ap reply (sym e) ∙ h.answers)

pub loop-a-init : goal.loop-a-init
loop-a-init c = record {
  state = before-first (space c.args.breaks.now c.args.degrees.now c.args.orders.now) c.args.num.now c.args.den.now;
  few = omega arith;
  clear = record { zeros = λ k h l. absurd (omega arith); ones = λ k h l. absurd (omega arith) };
}

pub build_part-requires : goal.build_part-requires
build_part-requires c =
    let a = c.args in
    let l = c.loop-a in
    record {
      legal = c.requires.legal;
      part = record {
        starts = starts _ _ _ c.requires.legal l.invariant.state c.loop-a-test.true;
        ends = c.part_end-b.ensures ∙ part_end_partial a.breaks.now a.degrees.now a.orders.now l.a;
      };
      room = record { num_long = omega (arith, c.requires.room.num_long, l.auto.num); den_long = omega (arith, c.requires.room.den_long, l.auto.den) };
      rest = record { few = l.invariant.few; clear = l.invariant.clear };
    }

-- the parts up to a part's end, once it is built
more : (b d o : List ℤ) {num₀ den₀ num den num' den' : List ℤ} {rows a end n : ℕ} (r : Result ℕ Refusal) → ListsLegal b d o
    → Before (space b d o) num₀ den₀ num den rows a → a < length d → end ≡ part_end (space b d o) a
    → Ends (weights (part_at (space b d o) a)) (row_count (part_at (space b d o) a)) r num den num' den' → r ≡ Ok n
    → Before (space b d o) num₀ den₀ num' den' (rows + n) end
more b d o {num₀} {den₀} {num} {den} {num'} {den'} {rows} {a} {end} {n} r legal state l ends h e =
    let t = counted (space b d o) a r h e in
    subst (Before (space b d o) num₀ den₀ num' den' (rows + n)) (sym ends)
    (part_more _ _ _ legal state l t.is t.count h.numerators_are h.denominators_are)

pub overflow_add-rows : goal.overflow_add-rows
overflow_add-rows c =
    let a = c.args in
    let l = c.loop-a in
    let s : Space = space a.breaks.now a.degrees.now a.orders.now in
    let ends = c.part_end-b.ensures ∙ part_end_partial a.breaks.now a.degrees.now a.orders.now l.a in
    let h = left s l.a c.build_part.result l.num l.den c.build_part.new.num c.build_part.new.den ends c.build_part.ensures in
    omega (
      arith,
      rows-high _ _ _ c.requires.legal
          (more a.breaks.now a.degrees.now a.orders.now c.build_part.result c.requires.legal l.invariant.state c.loop-a-test.true ends h c.in-Ok.is),
    )

pub overflow_add-a : goal.overflow_add-a
overflow_add-a c = omega (arith, c.loop-a-test.true, c.requires.legal.few)

pub returns-in-Err : goal.returns-in-Err
returns-in-Err c =
    let a = c.args in
    let l = c.loop-a in
    let s : Space = space a.breaks.now a.degrees.now a.orders.now in
    let ends = c.part_end-b.ensures ∙ part_end_partial a.breaks.now a.degrees.now a.orders.now l.a in
    let h = left s l.a c.build_part.result l.num l.den c.build_part.new.num c.build_part.new.den ends c.build_part.ensures in
    let x = refused_inverts (λ _. row_count (part_at s l.a)) (weights (part_at s l.a)) (ap reply (sym c.in-Err.is) ∙ h.answers) in
    let e = part_refused _ _ _ c.requires.legal l.invariant.state c.loop-a-test.true x h.numerators_are h.denominators_are in
    record {
      answers = ap (refusal c.in-Err.refusal.code) c.place.ensures ∙ e.answers;
      numerators_are = e.numerators_are;
      denominators_are = e.denominators_are;
    }

pub loop-a-smaller : goal.loop-a-smaller
loop-a-smaller c =
    let a = c.args in
    let s : Space = space a.breaks.now a.degrees.now a.orders.now in
    let ends = c.part_end-b.ensures ∙ part_end_partial a.breaks.now a.degrees.now a.orders.now c.loop-a.a in
    let e = part-ends s c.loop-a.a c.loop-a-test.true in
    omega (arith, ends, e.above, c.loop-a-test.true)

pub loop-a-preserved : goal.loop-a-preserved
unfolding numerators_after denominators_after
loop-a-preserved c =
    let a = c.args in
    let l = c.loop-a in
    let s : Space = space a.breaks.now a.degrees.now a.orders.now in
    let legal = c.requires.legal in
    let ends = c.part_end-b.ensures ∙ part_end_partial a.breaks.now a.degrees.now a.orders.now l.a in
    let h = left s l.a c.build_part.result l.num l.den c.build_part.new.num c.build_part.new.den ends c.build_part.ensures in
    let t = counted s l.a c.build_part.result h c.in-Ok.is in
    let own = part_legal _ _ _ legal l.a (starts _ _ _ legal l.invariant.state c.loop-a-test.true) in
    record {
      state = more a.breaks.now a.degrees.now a.orders.now c.build_part.result legal l.invariant.state c.loop-a-test.true ends h c.in-Ok.is;
      few = omega (arith, t.count, part-column-count-high _ _ _ own);
      clear = clear_past t.result l.num l.den _ _ c.in-Ok.n (omega (arith, t.count, (weights_shaped (part_at s l.a) t.is).rows))
          (h.numerators_are ∙ ap (λ o. numerators_after o l.num) t.is) (h.denominators_are ∙ ap (λ o. denominators_after o l.den) t.is);
    }

pub returns : goal.returns
returns c = parts_done _ _ _ c.requires.legal c.loop-a.invariant.state (omega arith)
