-- Byte 10 and the number of columns come first, then the name, then the numbers.
use borrow.Author.Rules.{rules}
use mathlib.Core.Bool.{Bool, true, false, ◌&&◌}
use mathlib.Core.Path.{◌≡◌, refl, sym, ◌∙◌, ap, ap₂}
use Prim.Native.Nat.{ℕ, ◌+◌, ◌-◌, ◌/◌, ◌<◌, ◌≤◌}
use native.Mathlib.Omega.{arith}
use lib.ListN.{length, take}
use lib.Seq.{slice}
use Rattle.base_text.specs.Bytes.{Text}
use Rattle.base_text.proofs.Slice.{take_slice}
use Rattle.spec_tucson.specs.Line.{name_columns, field_columns, columns_fit, is_name, good_line}
use Rattle.tucson_lines.specs.Machine.{line_told, numerals_told}
use Rattle.std.specs.Prelude.{None}
use Rattle.tucson_lines.proofs.Lines.{end_within, good-unended}
use Rattle.tucson_lines.proofs.LineNumerals.{body, count_is, good_misfits, good-fits, misfit_short, misfit_over, misfit_many, fit}
use Rattle.tucson_lines.proofs.line.Statement.{statement}
use Rattle.tucson_lines.proofs.line.Tie as tie

-- the line between two indices, ended by byte 10
module _ (c : tie.Else-end-text) where
  abbrev s : tie.Start
  s = c.before.before

  abbrev text : Text
  text = s.args.text.now

  abbrev from : ℕ
  from = s.args.from

  abbrev end : ℕ
  end = s.args.end

  within : (from ≤ end) × (end ≤ length text)
  within = end_within text from end s.requires

  ended : end < length text
  ended = omega (arith, within, c.if-end-text.false)

  abbrev n : ℕ
  n = (end - from - 12) / field_columns

  abbrev columns : Text
  columns = body text from end s.requires ended

  name_at : from + name_columns ≤ end → take name_columns (slice from end text) ≡ slice from (from + name_columns) text
  name_at h = take_slice name_columns from end text h

-- the columns fit, and the name is asked for
module _ (c : tie.After-is_name) where
  abbrev e1 : tie.Else-end-text
  e1 = c.before.before.before.before

  fits : columns_fit (columns e1) ≡ true
  fits =
      fit (text e1) (from e1) (end e1) (s e1).requires (ended e1) (n e1) refl
      (omega (arith, c.if-size-n.false)) (omega (arith, c.if-size.false)) (omega (arith, c.if-n-gt-DECADE.false))

  named : (columns_fit (columns e1) && is_name (take name_columns (columns e1))) ≡ c.is_name.result
  named =
      ap₂ ◌&&◌ fits (ap is_name (name_at e1 (omega (arith, within e1, c.if-size.false))))
      ∙ sym c.is_name.ensures

returns : tie.Need-returns-then-end-text
unfolding line_told
returns c = let s = c in sym (ap line_told (good-unended s.args.text.now s.args.from s.args.end s.requires true c.if-end-text.true))

-- a line whose columns don't fit
misfits : (c : tie.Else-end-text) → columns_fit (columns c) ≡ false → None ≡ line_told (good_line true (slice (from c) (end c + 1) (text c)))
unfolding line_told
misfits c e = sym (ap line_told (good_misfits (text c) (from c) (end c) (s c).requires (ended c) (ap (λ (b : Bool). b && is_name (take name_columns (columns c))) e)))

sub-size : tie.Need-overflow_sub-size
sub-size c = omega (arith, within c)

returns-2 : tie.Need-returns-then-size
unfolding line_told
returns-2 c = let k = c in misfits k.before (misfit_short (text k.before) (from k.before) (end k.before) (s k.before).requires (ended k.before) c.if-size.true)

returns-3 : tie.Need-returns-then-size-n
unfolding line_told
returns-3 c = let k = c in misfits k.before.before (misfit_over (text k.before.before) (from k.before.before) (end k.before.before) (s k.before.before).requires (ended k.before.before) (n k.before.before) refl c.if-size-n.true)

returns-4 : tie.Need-returns-then-n-gt-DECADE
unfolding line_told
returns-4 c = let k = c in misfits k.before.before.before (misfit_many (text k.before.before.before) (from k.before.before.before) (end k.before.before.before) (s k.before.before.before).requires (ended k.before.before.before) (n k.before.before.before) refl c.if-n-gt-DECADE.true)

is-name-requires : tie.Need-is_name-requires
is-name-requires c κs = omega (arith, within c.before.before.before, c.if-size.false)

returns-5 : tie.Need-returns-then-not-is_name
unfolding line_told
returns-5 c =
    let k = e1 c.before in
    sym (ap line_told (good_misfits (text k) (from k) (end k) (s k).requires (ended k) (named c.before ∙ c.if-not-is_name.true)))

numerals-requires : tie.Need-numerals-requires
numerals-requires c κs =
    let k = e1 c.before in
    let at = c in
    record {
      range = record { ordered = (within k).0; within = (within k).1 };
      some_field = omega (arith, at.if-size.false);
      size = omega (arith, within k, at.if-size-n.false, at.if-size.false);
    }

returns-6 : tie.Need-returns
returns-6 c =
    let k = e1 c.before.before in
    c.numerals.ensures
    ∙ sym (good-fits (text k) (from k) (end k) (s k).requires (ended k) (named c.before.before ∙ c.if-not-is_name.false)
    ∙ ap (numerals_told (columns k)) (count_is (text k) (from k) (end k) (s k).requires (ended k)))

pub line_spec : {M : Type 1} → statement M
line_spec =
    tie.close (tie.spec returns sub-size (λ c. search rules) returns-2 (λ c. search rules) (λ c. search rules)
    (λ c. search rules) returns-3 returns-4 is-name-requires returns-5 numerals-requires returns-6)
