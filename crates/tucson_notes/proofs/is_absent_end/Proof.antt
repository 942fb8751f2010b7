-- No width, then the first width, then the last.
use borrow.Author.Rules.{rules}
use mathlib.Core.Bool.{Bool, ◌&&◌, not}
use mathlib.Core.Path.{◌≡◌, ap, ap₂, ◌∙◌, sym}
use lib.Dec.{eqb}
use lib.IntN.{ℤ, pos}
use mir.Syntax.{w32}
use mir.Val.{SFits}
use Rattle.base_exact.proofs.Word.{to_z-of_z}
use Rattle.spec_tucson.specs.Line.{same}
use Rattle.tucson_notes.specs.Machine.{ahead_of}
use Rattle.tucson_notes.proofs.Remarks.{absent_none, absent-first, absent-last}
use Rattle.tucson_notes.proofs.is_absent_end.Statement.{statement}
use Rattle.tucson_notes.proofs.is_absent_end.Tie as tie

returns : tie.Need-returns-then-not-has_width
unfolding ahead_of
returns c = record { told = λ fs s. absent_none _ _ _ (c.has_width.ensures.told fs s ∙ ap not c.if-not-has_width.true) }

returns-2 : tie.Need-returns-then-both
unfolding ahead_of
returns-2 c =
    let e = c in
    let s = e in
    let z : SFits w32 s.args.fields.first = record { sfits = c.struct_told-1.given.1.0.1 } in
    let is : c.same.result ≡ same s.args.fields.first (pos 0) = simp to_z-of_z at c.same.ensures in
    record {
      told = λ fs u. absent-first (eqb s.args.ahead.count 1) (ahead_of s.args.ahead) u (e.has_width.ensures.told fs u ∙ ap not e.if-not-has_width.false) s.args.first
          (ap (λ (b : Bool). s.args.first && b) (sym is) ∙ sym c.both.ensures ∙ c.if-both.true);
    }

returns-3 : tie.Need-returns
unfolding ahead_of
returns-3 c =
    let l = c in
    let d = l in
    let e = d in
    let s = e in
    let z : SFits w32 s.args.fields.first = record { sfits = d.struct_told-1.given.1.0.1 } in
    let w : SFits w32 c.last_width.result = record { sfits = c.last_width.type_inv } in
    let is : d.same.result ≡ same s.args.fields.first (pos 0) = simp to_z-of_z at d.same.ensures in
    let ends : c.same-2.result ≡ same c.last_width.result (pos 0) = simp to_z-of_z at c.same-2.ensures in
    record {
      told = λ fs u.
          c.both-2.ensures
          ∙ ap₂ (λ (a b : Bool). a && b) l.has_last_width.ensures (ends ∙ ap (λ (k : ℤ). same k (pos 0)) c.last_width.ensures)
          ∙ absent-last (eqb s.args.ahead.count 1) (ahead_of s.args.ahead) u (e.has_width.ensures.told fs u ∙ ap not e.if-not-has_width.false) s.args.first
          (ap (λ (b : Bool). s.args.first && b) (sym is) ∙ sym d.both.ensures ∙ d.if-both.false);
    }

pub is_absent_end_spec : {M : Type 1} → statement M
is_absent_end_spec =
    tie.close (tie.spec (λ c κs. search rules) returns (λ c κs. search rules) (λ c κs. search rules) returns-2 (λ c κs. search rules)
    (λ c κs. search rules) (λ c κs. search rules) (λ c κs. search rules) returns-3)
