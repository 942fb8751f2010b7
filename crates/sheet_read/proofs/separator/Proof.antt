-- The first colon before the first comma, or that comma.
use borrow.Author.Rules.{rules}
use mathlib.Core.Path.{◌∙◌, ap}
use Prim.Native.Nat.{ℕ, ◌+◌}
use Rattle.base_text.specs.Bytes.{comma}
use Rattle.base_text.proofs.Lacking.{byte}
use Rattle.sheet_lines.proofs.Entries.{stop_part}
use Rattle.sheet_read.proofs.Separators.{separator_is}
use Rattle.sheet_read.proofs.separator.Statement.{statement}
use Rattle.sheet_read.proofs.separator.Tie as tie

find-requires-2 : tie.Need-find-requires
find-requires-2 c κs =
    let a = c.args in
    stop_part (byte comma) a.text.now a.from a.to c.find-comma.result c.requires c.find-comma.ensures

returns : tie.Need-returns
returns c =
    let f = c in
    let a = f.args in
    c.find.ensures
    ∙ ap (λ (k : ℕ). a.from + k) (separator_is a.text.now a.from a.to f.find-comma.result f.requires f.find-comma.ensures)

pub separator_spec : {M : Type 1} → statement M
separator_spec = tie.close (tie.spec (λ c κs. search rules) find-requires-2 returns)
