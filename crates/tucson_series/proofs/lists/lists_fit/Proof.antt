-- `lists_fit` meets its contract: each return is picked by the tests that led there.
use native.Mathlib.Omega.{arith}
use borrow.Author.Rules.{rules}
use mathlib.Core.Path.{sym, ◌∙◌}
use mathlib.Core.Bool.{and-false}
use Prim.Native.Nat.{◌*◌}
use lib.ListN.{length}
use borrow.Author.Tests.{eq-eqb, ne_eqb}
use Rattle.spec_tucson.specs.WriteCall.{lists_fit}
use Rattle.tucson_series.proofs.lists.lists_fit.Statement.{statement}
use Rattle.tucson_series.proofs.lists.lists_fit.Tie as tie

returns : tie.Need-returns-then-names-years
unfolding lists_fit
returns c =
    let a = c.args in
    sym (simp (ne_eqb (length a.names.now) (length a.years.now * 8) (λ e. c.if-names-years.true (omega arith))))

returns-2 : tie.Need-returns-then-names-ne0
unfolding lists_fit
returns-2 c =
    let a = c.args in
    sym (simp (ne_eqb (length a.names.now) (length a.years.now * 8) (λ e. c.if-names-ne0.true (omega arith))))

returns-3 : tie.Need-returns-then-counts-years
unfolding lists_fit
returns-3 c =
    let a = c.args in
    sym (simp (ne_eqb (length a.counts.now) (length a.years.now) c.if-counts-years.true, and-false))

returns-4 : tie.Need-returns
unfolding lists_fit
returns-4 c =
    let a = c.args in
    c.adds_up.ensures
    ∙ sym (simp (
      eq-eqb (length a.names.now) (length a.years.now * 8) (omega arith),
      eq-eqb (length a.counts.now) (length a.years.now) c.if-counts-years.false,
    ))

pub lists_fit_spec : {M : Type 1} → statement M
lists_fit_spec = tie.close (tie.spec returns returns-2 returns-3 (λ c κs. search rules) returns-4)
