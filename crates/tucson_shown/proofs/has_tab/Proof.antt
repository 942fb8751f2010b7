-- The tabs of a line are those before its end.
use mathlib.Core.Path.{sym, ◌∙◌, ap}
use Prim.Native.Nat.{◌≤◌}
use lib.ListN.{length}
use Rattle.tucson_lines.proofs.Lines.{end_within}
use Rattle.tucson_columns.proofs.Shown.{unended_is}
use Rattle.spec_tucson.specs.Shown.{any_tab, has_tab}
use Rattle.tucson_shown.proofs.has_tab.Statement.{statement}
use Rattle.tucson_shown.proofs.has_tab.Tie as tie

within : (s : tie.Start) → (s.args.from ≤ s.args.end) × (s.args.end ≤ length s.args.text.now)
within s = end_within s.args.text.now s.args.from s.args.end s.requires

any-tab-requires : tie.Need-any_tab-requires
any-tab-requires c κs = let s = c in record { ordered = (within s.before).0; within = (within s.before).1 }

returns : tie.Need-returns
unfolding has_tab
returns c =
    let s = c in
    c.any_tab.ensures ∙ sym (ap any_tab (unended_is s.args.text.now s.args.from s.args.end s.requires))

pub has_tab_spec : {M : Type 1} → statement M
has_tab_spec = tie.close (tie.spec any-tab-requires returns)
