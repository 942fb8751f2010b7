-- `lists_fit` meets its contract: each return is picked by the tests that led there.
use native.Mathlib.Omega.{arith}
use mathlib.Core.Path.{sym}
use mathlib.Core.Bool.{and-false}
use lib.ListN.{length}
use borrow.Author.Tests.{eq-eqb, ne_eqb}
use Rattle.spec_tucson.specs.Line.{name_columns}
use Rattle.table_lines.proofs.lists_fit.Statement.{statement}
use Rattle.table_lines.proofs.lists_fit.Tie as tie

returns : tie.Need-returns-then-name-ne-NAME_COLUMNS
returns c = sym (simp (ne_eqb (length c.args.name.now) name_columns c.if-name-ne-NAME_COLUMNS.true))

returns-2 : tie.Need-returns-then-indices-widths
returns-2 c =
    let a = c.args in
    sym (simp (ne_eqb (length a.indices.now) (length a.widths.now) c.if-indices-widths.true, and-false))

returns-3 : tie.Need-returns
returns-3 c =
    let a = c.args in
    sym (simp (
      eq-eqb (length a.name.now) name_columns c.if-name-ne-NAME_COLUMNS.false,
      eq-eqb (length a.indices.now) (length a.widths.now) c.if-indices-widths.false,
    ))

pub lists_fit_spec : {M : Type 1} → statement M
lists_fit_spec = tie.close (tie.spec returns returns-2 (λ c. omega arith) returns-3)
