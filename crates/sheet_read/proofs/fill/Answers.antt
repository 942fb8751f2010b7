-- A turn's field is the list's next number, so that it is a number and has room, and the rest of the text is the others.
use Rattle.std.proofs.Common.{◌≡◌, ℕ, ◌+◌, ◌<◌, ◌≤◌, [], ◌∷◌, List, length, set, arith, rules, sym, ◌∙◌, ℤ, w32}
use Rattle.std.proofs.Math.Option as math
use Rattle.std.proofs.Math.Seq.{slice, length-slice}
use Rattle.std.proofs.Math.ListN.{take, drop_of_length-le, length-take}
use Rattle.std.specs.Prelude.{Some}
use mathlib.Core.Logic.{◌⊎◌, inl, inr}
use mir.Val.{SFits}
use Rattle.base_exact.proofs.Decide.{le_or_lt}
use Rattle.base_exact.proofs.Word.{to_z-of_z}
use Rattle.base_text.specs.Bytes.{Text, Range, fields_between, index_where}
use Rattle.base_text.specs.Machine.{field}
use Rattle.base_text.specs.Numeral.{numeral}
use Rattle.base_text.proofs.Numerals.{field_some}
use Rattle.sheet_lines.proofs.Entries.{stop_part, stop_within, field-last, field_more, field-first}
use Rattle.sheet_read.specs.Machine.{is_separator, numerals_at}
use Rattle.sheet_read.proofs.Filling.{Filled, Stored, filled_next, filled-last, filled_all, field-good, stored}
use Rattle.sheet_read.proofs.fill.Goals as goal

slice_past : (from to : ℕ) (t : Text) → to ≤ from → slice from to t ≡ []
slice_past from to t h = drop_of_length-le (take to t) (omega (arith, length-take to t))

-- the field that ends at `stop`
module _ (zs : List ℤ) (text : Text) (before list : List ℤ) (n start to stop : ℕ)
    (filled : Filled zs (slice start to text) before list n) (within : to ≤ length text) (begun : start < to)
    (is : stop ≡ start + index_where is_separator (slice start to text)) where
  range : Range text start to
  range = omega arith

  some_bytes : 0 < length (slice start to text)
  some_bytes = omega (arith, length-slice start to text within)

  is_number : (z : ℤ) × (numeral (slice start stop text) ≡ math.some z)
  is_number =
      let first = field-first is_separator text start to stop range is in
      field-good zs (slice start to text) before list n filled some_bytes (slice start stop text) first.0 first.1

  module _ (z : ℤ) (e : Some z ≡ field (numeral (slice start stop text))) where
    store : (fs : List Text) → fields_between is_separator (slice start to text) ≡ slice start stop text ∷ fs
        → Stored zs fs before list n z
    store fs first =
        let number = field_some _ z (sym e) in
        stored zs (slice start to text) before list n filled some_bytes (slice start stop text) fs first z number

    below : n < length zs
    below = let first = field-first is_separator text start to stop range is in (store first.0 first.1).below

    next : Filled zs (slice (stop + 1) to text) before (set list n z) (n + 1)
    next = go (le_or_lt to stop)
      where
        go : (to ≤ stop) ⊎ (stop < to) → Filled zs (slice (stop + 1) to text) before (set list n z) (n + 1)
        go (inl h) =
            let end : stop ≡ to = omega (arith, stop_within is_separator text start to stop range is) in
            rw (slice_past (stop + 1) to text (omega arith))
            (filled-last zs before list n z filled.room (store [] (field-last is_separator text start to stop range is end)))
        go (inr h) =
            let more = field_more is_separator text start to stop range is (λ e. omega (arith, e)) in
            filled_next zs _ before list n z filled.room (store _ more)

pub numeral-requires : goal.numeral-requires
numeral-requires c = stop_part is_separator c.args.text.now c.loop-start.start c.args.span.to _ (omega arith) c.separator-stop.ensures

pub unwrap-requires : goal.unwrap-requires
unfolding field
unwrap-requires c =
    let a = c.args in
    let l = c.loop-start in
    let zs = numerals_at a.text.now a.span.from a.span.to in
    let turn = is_number zs a.text.now a.list.now l.list l.n l.start a.span.to _ l.invariant.filled c.requires.range.within in
    rw (c.numeral.ensures, (turn c.loop-start-test.true c.separator-stop.ensures).1) (search rules)

pub bounds-list-n : goal.bounds-list-n
bounds-list-n c =
    let a = c.args in
    let l = c.loop-start in
    let zs = numerals_at a.text.now a.span.from a.span.to in
    let turn = below zs a.text.now a.list.now l.list l.n l.start a.span.to _ l.invariant.filled c.requires.range.within in
    let room = turn c.loop-start-test.true c.separator-stop.ensures c.unwrap.result (sym c.unwrap.ensures ∙ c.numeral.ensures) in
    omega (arith, l.invariant.filled.room, room)

pub overflow_add-start : goal.overflow_add-start
overflow_add-start c =
    omega (arith, stop_within is_separator c.args.text.now c.loop-start.start c.args.span.to _ (omega arith) c.separator-stop.ensures)

pub loop-start-preserved : goal.loop-start-preserved
loop-start-preserved c =
    let a = c.args in
    let l = c.loop-start in
    let zs = numerals_at a.text.now a.span.from a.span.to in
    let fits : SFits w32 c.unwrap.result = search rules in
    let turn = next zs a.text.now a.list.now l.list l.n l.start a.span.to _ l.invariant.filled c.requires.range.within in
    simp to_z-of_z (record {
      within = omega (arith, stop_within is_separator a.text.now l.start a.span.to _ (omega arith) c.separator-stop.ensures);
      filled = turn c.loop-start-test.true c.separator-stop.ensures c.unwrap.result (sym c.unwrap.ensures ∙ c.numeral.ensures);
    })

pub returns : goal.returns
returns c =
    let a = c.args in
    let l = c.loop-start in
    let done = filled_all _ a.list.now l.list l.n (rw (slice_past l.start a.span.to a.text.now (omega arith)) at l.invariant.filled) in
    record { count = done.0; put = done.1 }
