-- Blanks and tabs come first, and a site name behind them.
use borrow.Author.Rules.{rules}
use borrow.Author.Tests.{le-leb, lt-leb}
use mathlib.Core.Bool.{Bool, not, ◌&&◌}
use mathlib.Core.Path.{◌≡◌, sym, ◌∙◌, ap}
use Prim.Native.Nat.{ℕ, ◌+◌, ◌≤◌}
use native.Mathlib.Omega.{arith}
use lib.ListN.{drop}
use lib.Seq.{slice, length-slice}
use Rattle.base_text.specs.Bytes.{Text}
use Rattle.base_text.proofs.Slice.{drop-slice}
use Rattle.base_text.proofs.Cutting.{index-within}
use Rattle.spec_tucson.specs.StrictLine.{is_site_name, line_columns}
use Rattle.tucson_columns.specs.Machine.{is_gap}
use Rattle.tucson_site.specs.Machine.{gap_before}
use Rattle.tucson_site.proofs.Sites.{site-behind}
use Rattle.tucson_site.proofs.has_site.Statement.{statement}
use Rattle.tucson_site.proofs.has_site.Tie as tie

module _ (c : tie.After-gap_end-name) where
  abbrev s : tie.Start
  s = c.before.before

  abbrev t : Text
  t = slice s.args.from s.args.to s.args.text.now

  name_is : c.gap_end-name.result ≡ s.args.from + gap_before t
  name_is = c.gap_end-name.ensures

  name-within : c.gap_end-name.result ≤ s.args.to
  name-within =
      omega (arith, name_is, length-slice s.args.from s.args.to s.args.text.now s.requires.within, index-within (λ b. not (is_gap b)) t, s.requires.ordered)

returns : tie.Need-returns-then-name-from
returns c =
    let k = c in
    sym (site-behind line_columns (t k.before) ∙ ap (λ (b : Bool). b && is_site_name (drop (gap_before (t k.before)) (t k.before))) (lt-leb 1 (gap_before (t k.before)) (omega (arith, name_is k.before, c.if-name-from.true))))

returns-2 : tie.Need-returns
returns-2 c =
    let k = c in
    c.is_site_name.ensures
    ∙ sym (site-behind line_columns (t k.before.before) ∙ ap (λ (b : Bool). b && is_site_name (drop (gap_before (t k.before.before)) (t k.before.before))) (le-leb 1 (gap_before (t k.before.before)) (omega (arith, name_is k.before.before, c.if-name-from.false)))
    ∙ ap is_site_name (drop-slice (gap_before (t k.before.before)) (s k.before.before).args.from (s k.before.before).args.to (s k.before.before).args.text.now
    ∙ ap (λ (n : ℕ). slice n (s k.before.before).args.to (s k.before.before).args.text.now) (sym (name_is k.before.before))))

pub has_site_spec : {M : Type 1} → statement M
has_site_spec =
    tie.close (tie.spec (λ c κs. search rules) returns
    (λ c κs. let k = c in record { ordered = name-within k.before; within = (s k.before).requires.within }) returns-2)
