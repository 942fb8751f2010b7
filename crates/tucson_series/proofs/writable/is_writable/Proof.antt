-- `is_writable` meets its contract: each return is picked by the tests that led there.
use native.Mathlib.Omega.{arith}
use borrow.Author.Rules.{rules}
use mathlib.Core.Path.{sym, ◌∙◌, ap}
use mathlib.Core.Bool.{not}
use Prim.Native.Nat.{◌+◌}
use lib.Seq.{slice}
use mir.Syntax.{w32}
use mir.Val.{SFits}
use Rattle.base_exact.proofs.Word.{to_z-of_z}
use Rattle.base_text.specs.Bytes.{Text, begins_with}
use Rattle.spec_tucson.specs.Line.{name_columns}
use Rattle.tucson_series.proofs.Tests.{part_is}
use Rattle.tucson_series.proofs.Unwritable.{not_named, not_measured, not_dated, named-apart}
use Rattle.tucson_series.proofs.writable.is_writable.Statement.{statement}
use Rattle.tucson_series.proofs.writable.is_writable.Tie as tie

-- the names before the series, and its own
module _ (s : tie.Start) where
  abbrev behind : Text
  behind = slice s.args.before s.args.at s.args.names.now

  abbrev name : Text
  name = slice s.args.at (s.args.at + name_columns) s.args.names.now

returns : tie.Need-returns-then-not-is_name
returns c =
    let s = c in
    let no = sym c.is_name.ensures ∙ c.if-not-is_name.true in
    sym (not_named (behind s.before.before.before) (name s.before.before.before) s.args.year s.args.widths.now no)

returns-2 : tie.Need-returns-then-not-all_widths
returns-2 c =
    let named = c in
    let s = named in
    let no = sym c.all_widths.ensures ∙ c.if-not-all_widths.true in
    sym (not_measured (behind s.before.before.before.before.before) (name s.before.before.before.before.before) s.args.year s.args.widths.now no)

returns-3 : tie.Need-returns-then-not-years_fit
returns-3 c =
    let measured = c in
    let s = measured in
    let f : SFits w32 s.args.year = s.ranges.year in
    let all = sym measured.all_widths.ensures ∙ c.if-not-all_widths.false in
    let no = sym (simp to_z-of_z at c.years_fit.ensures) ∙ c.if-not-years_fit.true in
    sym (not_dated (behind s.before.before.before.before.before.before.before) (name s.before.before.before.before.before.before.before) s.args.year s.args.widths.now all no)

returns-4 : tie.Need-returns
returns-4 c =
    let dated = c in
    let named = dated in
    let s = named in
    let f : SFits w32 s.args.year = s.ranges.year in
    let e = part_is s.args.at (s.args.at + name_columns) s.args.names.now (omega arith) in
    let is-named = sym named.is_name.ensures ∙ dated.if-not-is_name.false in
    let all = sym dated.all_widths.ensures ∙ dated.if-not-all_widths.false in
    let fits = sym (simp to_z-of_z at dated.years_fit.ensures) ∙ c.if-not-years_fit.false in
    ap not (c.begins.ensures ∙ ap (λ (u : Text). begins_with u (behind s.before.before.before.before.before.before.before.before.before)) e)
    ∙ sym (named-apart (behind s.before.before.before.before.before.before.before.before.before) (name s.before.before.before.before.before.before.before.before.before) s.args.year s.args.widths.now is-named all fits)

pub is_writable_spec : {M : Type 1} → statement M
is_writable_spec =
    tie.close (tie.spec (λ c κs. search rules) returns (λ c κs. search rules) returns-2 (λ c κs. search rules) returns-3
    (λ c. search rules) (λ c. search rules) (λ c. search rules) (λ c. search rules) (λ c κs. search rules) returns-4)
