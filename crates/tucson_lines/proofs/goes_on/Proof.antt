-- The next line has this name where what follows the line begins with it: a name has no byte 10.
use borrow.Author.Rules.{rules}
use mathlib.Core.Path.{◌≡◌, sym, ◌∙◌, ap}
use Prim.Native.Nat.{ℕ, ◌+◌, ◌-◌}
use native.Mathlib.Omega.{arith}
use lib.ListN.{length, take, drop}
use lib.Seq.{slice}
use Rattle.base_text.specs.Bytes.{Text, begins_with}
use Rattle.base_text.proofs.Slice.{slice_take}
use Rattle.spec_tucson.specs.Line.{name_columns}
use Rattle.tucson_lines.proofs.Lines.{goes_on_is}
use Rattle.tucson_lines.proofs.goes_on.Statement.{statement}
use Rattle.tucson_lines.proofs.goes_on.Tie as tie

returns : tie.Need-returns
returns c =
    let s = c in
    let text : Text = s.args.text.now in
    let e : s.args.from + name_columns - s.args.from ≡ name_columns = omega arith in
    let name : take (s.args.from + name_columns - s.args.from) (drop s.args.from text) ≡ slice s.args.from (s.args.from + name_columns) text =
    ap (λ (n : ℕ). take n (drop s.args.from text)) e ∙ sym (slice_take s.args.from name_columns text) in
    c.begins.ensures ∙ ap (λ (key : Text). begins_with key (slice (s.args.end + 1) (length text) text)) name
    ∙ sym (goes_on_is s.args.text.now s.args.from s.args.end s.requires.longer s.requires.ended s.requires.named)

pub goes_on_spec : {M : Type 1} → statement M
goes_on_spec = tie.close (tie.spec (λ c. search rules) (λ c. search rules) (λ c. search rules) (λ c. search rules) (λ c. search rules) (λ c κs. search rules) returns)
