-- A tab is its blanks, and any other byte is one store.
use borrow.Author.Rules.{rules}
use borrow.Author.Tests.{eq-eqb, ne_eqb}
use mathlib.Core.Bool.{Bool, cond}
use mathlib.Core.List.{◌∷◌, []}
use mathlib.Core.Path.{◌≡◌, refl, sym, ap}
use Prim.Native.Nat.{ℕ}
use native.Mathlib.Numerals.{add-one}
use native.Mathlib.Omega.{arith}
use lib.ListN.{replicate}
use lib.Seq.{take-suc-set}
use Rattle.base_text.specs.Bytes.{Text}
use Rattle.spec_tucson.specs.Columns.{blank}
use Rattle.spec_tucson.specs.FileText.{tab}
use Rattle.spec_tucson.specs.Shown.{tab_blanks}
use Rattle.tucson_columns.specs.Machine.{Put}
use Rattle.tucson_columns.proofs.put_byte.Statement.{statement}
use Rattle.tucson_columns.proofs.put_byte.Tie as tie

put_as : (n : ℕ) (bytes t u after : Text) (next : ℕ) → t ≡ u → Put n bytes t after next → Put n bytes u after next
put_as n bytes t u after next e p = rw (sym e) p

returns : tie.Need-returns-then-byte-eq9
returns c =
    let s = c in
    put_as s.args.n s.args.bytes.now _ _ _ _
    (sym (ap (λ (b : Bool). cond b (replicate (tab_blanks s.args.n) blank) (s.args.byte ∷ []))
    (eq-eqb s.args.byte tab c.if-byte-eq9.true))) c.put_blanks.ensures

returns-2 : tie.Need-returns
returns-2 c =
    let s = c in
    put_as s.args.n s.args.bytes.now (s.args.byte ∷ []) _ _ _
    (sym (ap (λ (b : Bool). cond b (replicate (tab_blanks s.args.n) blank) (s.args.byte ∷ [])) (ne_eqb s.args.byte tab c.if-byte-eq9.false)))
    (record { next_is = refl; are = rw add-one (take-suc-set s.args.bytes.now s.args.n s.args.byte (omega arith)) })

pub put_byte_spec : {M : Type 1} → statement M
put_byte_spec =
    tie.close (tie.spec (λ c κs. search rules) (λ c. search rules) returns (λ c. search rules) (λ c. search rules) (λ c. search rules)
    returns-2)
