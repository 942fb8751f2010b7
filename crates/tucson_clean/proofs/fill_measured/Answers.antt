-- A buffer that is too short, or all three filled.
use Rattle.std.proofs.Common.{arith, ◌≤◌, length}
use Rattle.tucson_clean.specs.Machine.{made_of}
use Rattle.tucson_clean.proofs.Room.{ends_refused, short-text, short-lines, short_notes, room_for_all, ends_answered}
use Rattle.tucson_clean.proofs.fill_measured.Goals as goal

pub returns-then-out-need : goal.returns-then-out-need
returns-then-out-need c ks e =
    let a = c.args in
    let n = c.measure-need.ensures ks e in
    ends_refused _ 1 0 a.out.now a.lines.now a.notes.now
    (short-text (made_of a.text.now a.header a.unit ks) (length a.out.now) (length a.lines.now) (length a.notes.now)
    (omega (arith, n.bytes_are, c.if-out-need.true)))

pub returns-then-lines-need : goal.returns-then-lines-need
returns-then-lines-need c ks e =
    let a = c.args in
    let n = c.measure-need.ensures ks e in
    ends_refused _ 1 1 a.out.now a.lines.now a.notes.now
    (short-lines (made_of a.text.now a.header a.unit ks) (length a.out.now) (length a.lines.now) (length a.notes.now)
    (omega (arith, n.bytes_are, c.if-out-need.false)) (omega (arith, n.lines_are, c.if-lines-need.true)))

pub returns-then-notes-need : goal.returns-then-notes-need
returns-then-notes-need c ks e =
    let a = c.args in
    let n = c.measure-need.ensures ks e in
    ends_refused _ 1 2 a.out.now a.lines.now a.notes.now
    (short_notes (made_of a.text.now a.header a.unit ks) (length a.out.now) (length a.lines.now) (length a.notes.now)
    (omega (arith, n.bytes_are, c.if-out-need.false)) (omega (arith, n.lines_are, c.if-lines-need.false))
    (omega (arith, n.cells_are, c.if-notes-need.true)))

pub returns : goal.returns
returns c ks e =
    let a = c.args in
    let n = c.measure-need.ensures ks e in
    let made = made_of a.text.now a.header a.unit ks in
    let x : length made.text ≤ length a.out.now = omega (arith, n.bytes_are, c.if-out-need.false) in
    let y : length made.lines ≤ length a.lines.now = omega (arith, n.lines_are, c.if-lines-need.false) in
    let z : length made.notes ≤ length a.notes.now = omega (arith, n.cells_are, c.if-notes-need.false) in
    ends_answered _ (room_for_all made (length a.out.now) (length a.lines.now) (length a.notes.now) x y z) (c.put_all-put.ensures ks e) x y z
