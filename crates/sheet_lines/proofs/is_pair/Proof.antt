-- The first colon is found, then either side is tested.
use borrow.Author.Rules.{rules}
use mathlib.Core.Path.{◌≡◌, sym, ◌∙◌, ap}
use Prim.Native.Nat.{ℕ, ◌+◌}
use native.Mathlib.Omega.{arith}
use lib.Seq.{slice}
use Rattle.base_text.specs.Bytes.{Text, colon, Range}
use Rattle.base_text.specs.Numeral.{numeral}
use Rattle.base_text.proofs.Lacking.{byte}
use Rattle.spec_sheet.specs.SheetReading.{pair, both_of}
use Rattle.sheet_lines.specs.Machine.{is_some}
use Rattle.sheet_lines.proofs.Entries.{stop_part, stop_within}
use Rattle.sheet_lines.proofs.Ranges.{one_bad, one_good, pair_uncut, pair-cut}
use Rattle.sheet_lines.proofs.is_pair.Statement.{statement}
use Rattle.sheet_lines.proofs.is_pair.Tie as tie

-- the place where the first colon is known
module _ (c : tie.After-find-colon) where
  abbrev text : Text
  text = c.args.text.now

  abbrev from : ℕ
  from = c.args.from

  abbrev to : ℕ
  to = c.args.to

  abbrev stop : ℕ
  stop = c.find-colon.result

  abbrev range : Range text from to
  range = c.requires

  front : Range text from stop
  front = stop_part (byte colon) text from to stop range c.find-colon.ensures

  module _ (h : stop ≡ to → ⊥) where
    back : Range text (stop + 1) to
    back = omega (arith, stop_within (byte colon) text from to stop range c.find-colon.ensures, range.within)

    sides : pair (slice from to text) ≡ both_of (numeral (slice from stop text)) (numeral (slice (stop + 1) to text))
    sides = pair-cut text from to stop range c.find-colon.ensures h

returns : tie.Need-returns-then-colon-to
returns c = let f = c in sym (ap is_some (pair_uncut (text f.before) (from f.before) (to f.before) (stop f.before) (range f.before) f.find-colon.ensures c.if-colon-to.true))

returns-2 : tie.Need-returns-then-not-is_numeral
returns-2 c =
    let f = c in
    sym (ap is_some (sides f.before.before.before c.if-colon-to.false) ∙ one_bad (numeral (slice (from f.before.before.before) (stop f.before.before.before) (text f.before.before.before))) _ (sym c.is_numeral.ensures ∙ c.if-not-is_numeral.true))

returns-3 : tie.Need-returns
returns-3 c =
    let e = c in
    let f = e in
    c.is_numeral-2.ensures
    ∙ sym (ap is_some (sides f.before.before.before.before e.if-colon-to.false) ∙ one_good (numeral (slice (from f.before.before.before.before) (stop f.before.before.before.before) (text f.before.before.before.before))) _ (sym e.is_numeral.ensures ∙ e.if-not-is_numeral.false))

pub is_pair_spec : {M : Type 1} → statement M
is_pair_spec =
    tie.close (tie.spec (λ c κs. search rules) returns (λ c κs. front c.before) returns-2
    (λ c. let f = c in omega (arith, (back f.before.before.before c.if-colon-to.false).ordered))
    (λ c κs. back c.before.before.before c.if-colon-to.false) returns-3)
