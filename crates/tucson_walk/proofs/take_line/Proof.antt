-- The series at the line, its marks, what is put for it, and the series behind it.
use borrow.Author.Rules.{rules}
use mathlib.Core.Bool.{Bool}
use mathlib.Core.Path.{◌≡◌, sym, ◌∙◌, ap, ap₂, subst}
use Prim.Native.Nat.{ℕ, ◌≤◌}
use native.Mathlib.Omega.{arith}
use lib.Dec.{eqb}
use lib.ListN.{length, take}
use lib.Seq.{take_all, length-take-le}
use mir.Syntax.{w32}
use mir.Val.{SFits}
use Rattle.base_exact.proofs.Word.{to_z-of_z}
use Rattle.base_text.specs.Bytes.{Text}
use Rattle.spec_tucson.specs.StrictLine.{is_strict, any_high}
use Rattle.spec_tucson.specs.CleanSeries.{fields_of}
use Rattle.tucson_lines.proofs.Lines.{end_within}
use Rattle.tucson_notes.specs.Machine.{SumsUp}
use Rattle.tucson_walk.specs.Walking.{reclosing, marks_of}
use Rattle.tucson_walk.proofs.NextLines.{stands_long}
use Rattle.tucson_walk.proofs.Taking.{puts_kept_as, took}
use Rattle.tucson_walk.proofs.take_line.Statement.{statement}
use Rattle.tucson_walk.proofs.take_line.Tie as tie

module _ (s : tie.Start) where
  abbrev line : Text
  line = s.args.line

  abbrev n : ℕ
  n = s.args.n

  sizes : (s.args.from ≤ s.args.end) × (s.args.end ≤ length s.args.text.now)
  sizes = end_within s.args.text.now s.args.from s.args.end s.requires.raw

  front : length (take n line) ≡ n
  front = length-take-le n line s.requires.stands.fits

  whole : take n (take n line) ≡ take n line
  whole = take_all n (take n line) (omega (arith, front))

add-enter : tie.Need-overflow_add-end
add-enter c = let s = c in omega (arith, sizes s.before.before.before.before.before.before, s.well_formed)

enter-requires : tie.Need-enter-series-requires
enter-requires c κs = let s = c in record { within = omega (arith, sizes s.before.before.before.before.before.before); stands = s.requires.stands }

slice-aggregate-summed : tie.Need-slice_bounds-summed-end
slice-aggregate-summed c = let s = c in sym (front s.before.before.before.before.before.before.before.before)

summed-requires : tie.Need-summed-fields-requires
summed-requires c κs =
    let s = c in
    record { within = omega (arith, front s.before.before.before.before.before.before.before.before); strict = ap is_strict (whole s.before.before.before.before.before.before.before.before) ∙ s.requires.stands.strict }

-- the marks of the line
module _ (c : tie.After-marks_of-marks) where
  abbrev e : tie.After-enter-series
  e = c.before.before.before.before.before.before.before

  abbrev s : tie.Start
  s = e.before.before.before.before.before.before.before

array-share-prefix-line-2 : tie.Need-slice_bounds-line-end-2
array-share-prefix-line-2 c = (s c.before).requires.stands.fits

slice-aggregate-put-kept : tie.Need-slice_bounds-put_kept-end
slice-aggregate-put-kept c = sym (front (s c.before.before))

put-kept-requires : tie.Need-put_kept-walked-requires
put-kept-requires c κs =
    let m = c in let t = s m.before.before.before.before.before.before in
    record { short = omega (arith, front t, t.requires.short); long = omega (arith, front t, stands_long t.requires.stands); near = t.requires.near }

returns : tie.Need-returns
returns c =
    let p = c in
    let m = p in
    let t = s m.before.before.before.before.before.before.before.before.before.before.before.before.before.before in
    let a = t.args in
    let k = m.is_reclosed-reclosed in
    let f = m.summed-fields in
    let y : SFits w32 f.result.last = record { sfits = m.struct_told-1.given.1.1.0.1 } in
    let sums : SumsUp (fields_of (take (n t) (line t))) f.result = subst (λ (x : Text). SumsUp (fields_of x) f.result) (whole t) f.ensures in
    let closes : k.result ≡ reclosing a.unit (eqb (e m.before.before.before.before.before.before.before.before.before.before.before.before.before.before).enter-series.result.ahead.count 1) f.result.last = simp to_z-of_z at k.ensures in
    let high : m.any_high-high.result ≡ any_high a.shown.now =
    m.any_high-high.ensures ∙ ap any_high (take_all (length a.shown.now) a.shown.now (omega arith)) in
    let put = p.put_kept-walked.ensures in
    let q = put.notes_put (fields_of (take (n t) (line t))) sums in
    record {
      near = record { bytes_near = put.text-put.near; lines_near = put.line-put.near; cells_near = q.near };
      told = λ h i b k ks number_is raw_is text_is shown_is site_is behind holds.
          took ((e m.before.before.before.before.before.before.before.before.before.before.before.before.before.before).enter-series.ensures h i b k ks text_is behind holds) c.leave.ensures (subst (λ (x : Text). SumsUp (fields_of x) f.result) (sym text_is) sums)
          (puts_kept_as (sym text_is) (sym number_is)
          (m.marks_of-marks.ensures ∙ marks_as a.early (sym raw_is) site_is (high ∙ ap any_high (sym shown_is)) closes) put);
    }
  where
    marks_as : (early : Bool) {raw raw' : Text} {x x' y y' z z' : Bool} → raw ≡ raw' → x ≡ x' → y ≡ y' → z ≡ z' → marks_of early raw x y z ≡ marks_of early raw' x' y' z'
    marks_as early {raw} {raw'} {x} {x'} {y} {y'} {z} {z'} e f g h =
        ap (λ (r : Text). marks_of early r x y z) e ∙ ap₂ (λ (u v : Bool). marks_of early raw' u v z) f g ∙ ap (marks_of early raw' x' y') h

pub take_line_spec : {M : Type 1} → statement M
take_line_spec =
    tie.close
    (tie.spec
    add-enter
    enter-requires
    (λ c. search rules)
    slice-aggregate-summed
    summed-requires
    (λ c κs. search rules)
    (λ c κs. search rules)
    (λ c κs. search rules)
    array-share-prefix-line-2
    slice-aggregate-put-kept
    put-kept-requires
    (λ c κs. search rules)
    (λ c. search rules)
    (λ c. search rules)
    (λ c. search rules)
    returns)
