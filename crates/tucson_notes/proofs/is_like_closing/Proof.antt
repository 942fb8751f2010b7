-- The closing of thousandths, and the last width.
use borrow.Author.Rules.{rules}
use mathlib.Core.Bool.{Bool, ◌&&◌, not}
use mathlib.Core.Path.{◌≡◌, ap, ap₂, ◌∙◌}
use lib.Dec.{eqb}
use lib.IntN.{ℤ}
use mir.Syntax.{w32}
use mir.Val.{SFits}
use Rattle.base_exact.proofs.Word.{to_z-of_z}
use Rattle.spec_tucson.specs.Line.{same, thousandths}
use Rattle.spec_tucson.specs.Series.{hundredths}
use Rattle.tucson_notes.specs.Machine.{ahead_of}
use Rattle.tucson_notes.proofs.Remarks.{like-none, like_some}
use Rattle.tucson_notes.proofs.is_like_closing.Statement.{statement}
use Rattle.tucson_notes.proofs.is_like_closing.Tie as tie

returns : tie.Need-returns-then-not-has_width
unfolding ahead_of
returns c = record { told = λ fs s. like-none _ _ (c.has_width.ensures.told fs s ∙ ap not c.if-not-has_width.true) }

returns-2 : tie.Need-returns
unfolding ahead_of
returns-2 c =
    let m = c in
    let e = m in
    let s = e in
    let z : SFits w32 s.args.ahead.closing = record { sfits = m.struct_told-1.given.1.0.1 } in
    let w : SFits w32 c.last_width.result = record { sfits = c.last_width.type_inv } in
    let is : m.same.result ≡ same s.args.ahead.closing thousandths = simp to_z-of_z at m.same.ensures in
    let ends : c.same-2.result ≡ same c.last_width.result hundredths = simp to_z-of_z at c.same-2.ensures in
    record {
      told = λ fs u.
          c.both.ensures ∙ ap₂ (λ (a b : Bool). a && b) is (ends ∙ ap (λ (k : ℤ). same k hundredths) c.last_width.ensures)
          ∙ like_some (eqb s.args.ahead.count 1) (ahead_of s.args.ahead) u (e.has_width.ensures.told fs u ∙ ap not e.if-not-has_width.false);
    }

pub is_like_closing_spec : {M : Type 1} → statement M
is_like_closing_spec =
    tie.close (tie.spec (λ c κs. search rules) returns (λ c κs. search rules) (λ c κs. search rules) (λ c κs. search rules)
    (λ c κs. search rules) returns-2)
