-- A refusal stays; a line that is refused or passed gives the reader behind it.
use Rattle.std.proofs.Common.{arith, Bool, ◌≡◌, refl, sym, subst, ℕ, ℤ, Result, Ok, Err}
use Rattle.std.proofs.lemmas.Result.{err_from_is_err_and}
use mathlib.Core.Option.{Option, some}
use mir.Syntax.{w32}
use mir.Val.{SFits}
use Rattle.base_exact.proofs.Word.{to_z-of_z}
use Rattle.spec_tucson.specs.Line.{Line, line_in_columns}
use Rattle.spec_tucson.specs.TextReading.{Begun, read_line}
use Rattle.spec_tucson.specs.StrictLine.{Kept}
use Rattle.spec_tucson.specs.CleanSeries.{reclosed, with_end}
use Rattle.tucson_fields.specs.Machine.{NumbersOf}
use Rattle.tucson_fields.specs.declared.Facts.{Facts}
use Rattle.tucson_scan.specs.Scan.{Told}
use Rattle.tucson_scan.specs.declared.Passed.{Passed}
use Rattle.tucson_judge.specs.Judging.{last_after, PassedOf, TracksReader, reader_told, ReaderBehind}
use Rattle.tucson_judge.specs.declared.Mark.{Mark}
use Rattle.tucson_judge.specs.declared.Reader.{Reader}
use Rattle.tucson_judge.proofs.Reading.{reads-reclosed, reader_on, reader_refused}
use Rattle.tucson_judge.proofs.read.Goals as goal

-- a refusal stays
stays : (unit : ℕ) (goes : Bool) (k : Kept) (b : Option Begun) (m : Mark) → ReaderBehind unit goes k b (Err m) (Err m)
unfolding reader_told
stays unit goes k b m = record { begun-behind = b; tracks = tt; same_end = λ ks e. refl }

pub returns-in_err-before : goal.returns-in_err-before
returns-in_err-before c k l b at is numbers tracks =
    let a = c.args in
    let m = c.in_err-before.field-0.0 in
    let p = err_from_is_err_and c.from_residual.result c.from_residual.ensures.1 in
    rw (p.1, p.2)
    (subst (λ (r : Result Reader Mark). ReaderBehind a.unit a.goes k b r (Err m)) (sym c.in_err-before.was) (stays a.unit a.goes k b m))

-- what is told of the line's step
step_told : (unit : ℕ) (goes : Bool) (f : Facts) (r : Reader) (p : Result Passed ℕ) → PassedOf f (last_after unit goes f.last) goes r p
    → (k : Kept) (l : Line) (b : Option Begun) → line_in_columns k.text ≡ some l → NumbersOf l f → TracksReader b (Ok r)
    → Told k.line b (read_line k.line b goes (with_end (reclosed unit goes k.text))) p
step_told unit goes f r p passed k l b is numbers tracks =
    let reads = reads-reclosed unit goes k.text l f is numbers in passed k.line b _ reads.line reads.is reads.numbers tracks

pub returns-in-Ok : goal.returns-in-Ok
returns-in-Ok c k l b at is numbers tracks =
    let a = c.args in
    let p = c.in-Ok.line in
    let r = c.in_ok-before.before in
    let fits : SFits w32 a.f.last = record { sfits = omega arith } in
    let next-fits : SFits w32 p.next = record { sfits = omega arith } in
    let last-fits : SFits w32 c.last_after.result = record { sfits = c.last_after.type_inv } in
    let last_is : c.last_after.result ≡ last_after a.unit a.goes a.f.last = simp to_z-of_z at c.last_after.ensures in
    let of : PassedOf a.f c.last_after.result a.goes r (Ok p) = simp to_z-of_z at c.in-Ok.ensures in
    let passed = subst (λ (z : ℤ). PassedOf a.f z a.goes r (Ok p)) last_is of in
    let begun = subst (λ (x : Result Reader Mark). TracksReader b x) c.in_ok-before.was tracks in
    simp to_z-of_z
    (subst
    (λ (x : Result Reader Mark). ReaderBehind a.unit a.goes k b x (Ok (record { begun = p.more; next = p.next; small = p.small })))
    (sym c.in_ok-before.was)
    (reader_on a.unit a.goes k b r p (step_told a.unit a.goes a.f r (Ok p) passed k l b is numbers begun)))

pub returns-in-Err : goal.returns-in-Err
returns-in-Err c k l b at is numbers tracks =
    let a = c.args in
    let code = c.in-Err.code in
    let r = c.in_ok-before.before in
    let fits : SFits w32 a.f.last = record { sfits = omega arith } in
    let last-fits : SFits w32 c.last_after.result = record { sfits = c.last_after.type_inv } in
    let last_is : c.last_after.result ≡ last_after a.unit a.goes a.f.last = simp to_z-of_z at c.last_after.ensures in
    let of : PassedOf a.f c.last_after.result a.goes r (Err code) = simp to_z-of_z at c.in-Err.ensures in
    let passed = subst (λ (z : ℤ). PassedOf a.f z a.goes r (Err code)) last_is of in
    let begun = subst (λ (x : Result Reader Mark). TracksReader b x) c.in_ok-before.was tracks in
    subst (λ (x : Result Reader Mark). ReaderBehind a.unit a.goes k b x (Err (record { code = code; line = a.number })))
    (sym c.in_ok-before.was)
    (subst (λ (n : ℕ). ReaderBehind a.unit a.goes k b (Ok r) (Err (record { code = code; line = n }))) at
    (reader_refused a.unit a.goes k b r code (step_told a.unit a.goes a.f r (Err code) passed k l b is numbers begun)))
