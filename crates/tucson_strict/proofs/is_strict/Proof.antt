-- The number of columns comes first, then the name, then the numbers.
use borrow.Author.Rules.{rules}
use mathlib.Core.Path.{◌≡◌, sym, ◌∙◌, ap}
use Prim.Native.Nat.{ℕ, ◌+◌, ◌*◌, ◌-◌, ◌/◌, ◌≤◌}
use native.Mathlib.Omega.{arith}
use lib.ListN.{length, take}
use lib.Seq.{slice, take-take, length-take-le}
use Rattle.base_text.specs.Bytes.{Text}
use Rattle.base_text.proofs.Slice.{take_slice}
use Rattle.spec_tucson.specs.Columns.{in_columns}
use Rattle.spec_tucson.specs.Line.{name_columns, year_columns, is_name, field_numerals}
use Rattle.spec_tucson.specs.StrictLine.{is_some}
use Rattle.tucson_strict.proofs.Strict.{strict_short, strict_long, strict_over, strict_nameless, strict_undated, strict_fields, take_longer}
use Rattle.tucson_strict.proofs.is_strict.Statement.{statement}
use Rattle.tucson_strict.proofs.is_strict.Tie as tie

returns : tie.Need-returns-then-n
returns c =
    let s = c in
    sym (strict_short (take s.args.n s.args.bytes.now) (omega (arith, length-take-le s.args.n s.args.bytes.now (omega (arith, c.if-n.true)))))

returns-2 : tie.Need-returns-then-n-gt-LINE_COLUMNS
returns-2 c =
    let s = c in
    sym (strict_long (take s.args.n s.args.bytes.now) (take_longer 72 s.args.n s.args.bytes.now c.if-n-gt-LINE_COLUMNS.true (omega (arith, s.requires))))

-- at most 72 bytes
module _ (c : tie.Else-n-gt-LINE_COLUMNS) where
  abbrev s : tie.Start
  s = c.before.before.before

  abbrev n : ℕ
  n = s.args.n

  abbrev t : Text
  t = take n s.args.bytes.now

  size : length t ≡ n
  size = length-take-le n s.args.bytes.now (omega (arith, c.if-n-gt-LINE_COLUMNS.false))

  longer : 18 ≤ n
  longer = c.if-n.false

  name_is : is_name (take name_columns t) ≡ is_name (slice 0 8 s.args.bytes.now)
  name_is = ap is_name (take-take name_columns n s.args.bytes.now (omega (arith, longer)))

  year_is : is_some (in_columns (take year_columns (slice name_columns n s.args.bytes.now))) ≡ is_some (in_columns (slice 8 12 s.args.bytes.now))
  year_is = ap (λ (u : Text). is_some (in_columns u)) (take_slice year_columns name_columns n s.args.bytes.now (omega (arith, longer)))

returns-3 : tie.Need-returns-then-n-fields
returns-3 c = sym (strict_over (t c.before) (λ e. c.if-n-fields.true (sym (size c.before) ∙ e ∙ ap (λ (m : ℕ). 12 + (m - 12) / 6 * 6) (size c.before))))

returns-4 : tie.Need-returns-then-not-is_name
returns-4 c =
    let k = c in
    sym (strict_nameless (t k.before.before.before) (name_is k.before.before.before ∙ sym c.is_name.ensures ∙ c.if-not-is_name.true))

returns-5 : tie.Need-returns-then-not-is_numeral
returns-5 c =
    let k = c in
    sym (strict_undated (t k.before.before.before.before.before) (year_is k.before.before.before.before.before ∙ sym c.is_numeral.ensures ∙ c.if-not-is_numeral.true))

returns-6 : tie.Need-returns
returns-6 c =
    let d = c in
    let k = d in
    let bytes = (s k.before.before.before.before.before.before).args.bytes.now in
    let e : n k.before.before.before.before.before.before ≡ 12 + (n k.before.before.before.before.before.before - 12) / 6 * 6 = omega (arith, d.if-n-fields.false) in
    c.all_numerals.ensures
    ∙ ap (λ (m : ℕ). is_some (field_numerals ((m - 12) / 6) (slice 12 (n k.before.before.before.before.before.before) bytes))) (sym (size k.before.before.before.before.before.before))
    ∙ sym (strict_fields (t k.before.before.before.before.before.before) (size k.before.before.before.before.before.before ∙ e ∙ ap (λ (m : ℕ). 12 + (m - 12) / 6 * 6) (sym (size k.before.before.before.before.before.before))) (omega (arith, size k.before.before.before.before.before.before, longer k.before.before.before.before.before.before)) (omega (arith, size k.before.before.before.before.before.before, k.if-n-gt-LINE_COLUMNS.false))
    (name_is k.before.before.before.before.before.before ∙ sym d.is_name.ensures ∙ d.if-not-is_name.false)
    (year_is k.before.before.before.before.before.before ∙ sym d.is_numeral.ensures ∙ d.if-not-is_numeral.false))

pub is_strict_spec : {M : Type 1} → statement M
is_strict_spec =
    tie.close
    (tie.spec
    (λ c. search rules)
    returns
    returns-2
    (λ c. search rules)
    (λ c. search rules)
    (λ c. search rules)
    returns-3
    (λ c κs. search rules)
    returns-4
    (λ c κs. search rules)
    returns-5
    (λ c κs. search rules)
    returns-6)
