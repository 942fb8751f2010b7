-- One mark after another.
use borrow.Author.Rules.{rules}
use mathlib.Core.Bool.{Bool, ◌&&◌}
use mathlib.Core.Path.{◌≡◌, ◌∙◌, ap}
use Rattle.tucson_notes.specs.declared.Marks.{Marks}
use Rattle.tucson_walk.proofs.LineMarks.{unended_is}
use Rattle.tucson_walk.proofs.marks_of.Statement.{statement}
use Rattle.tucson_walk.proofs.marks_of.Tie as tie

returns : tie.Need-returns
returns c =
    let t = c.has_tab in
    let r = c.has_return in
    let b = c.both in
    let s = c in
    let a = s.args in
    let u = unended_is a.text.now a.from a.end s.requires in
    marks_are (b.ensures ∙ ap (λ (x : Bool). a.early && x) u) r.ensures t.ensures c.has_trailing.ensures u
  where
    marks_are : {a₁ a₂ b₁ b₂ c₁ c₂ d₁ d₂ e₁ e₂ site high reclosed : Bool} → a₁ ≡ a₂ → b₁ ≡ b₂ → c₁ ≡ c₂ → d₁ ≡ d₂ → e₁ ≡ e₂
        → ◌≡◌ {A = Marks} (record { cut = a₁; returned = b₁; tabbed = c₁; trailing = d₁; site = site; unended = e₁; high = high; reclosed = reclosed })
        (record { cut = a₂; returned = b₂; tabbed = c₂; trailing = d₂; site = site; unended = e₂; high = high; reclosed = reclosed })
    marks_are a b c d e = cc

pub marks_of_spec : {M : Type 1} → statement M
marks_of_spec = tie.close (tie.spec (λ c κs. search rules) (λ c κs. search rules) (λ c κs. search rules) (λ c κs. search rules) returns)
