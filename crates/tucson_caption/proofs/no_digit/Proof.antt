-- A byte below the digits, or else above them.
use borrow.Author.Rules.{rules}
use borrow.Author.Tests.{le-leb, lt-leb, lt-ltb, le-ltb, ltb-true, ltb-false}
use mathlib.Core.Bool.{Bool, true, false, not, ◌&&◌}
use mathlib.Core.Path.{◌≡◌, refl, sym, ◌∙◌, ap}
use Prim.Native.Nat.{ℕ, ◌<◌, ◌≤◌}
use native.Mathlib.Omega.{arith}
use lib.Dec.{ltb}
use Rattle.base_text.specs.Numeral.{is_digit}
use Rattle.tucson_caption.proofs.no_digit.Statement.{statement}
use Rattle.tucson_caption.proofs.no_digit.Tie as tie

below : (b : ℕ) → b < 48 → true ≡ not (is_digit b)
below b h = sym (ap (λ (x : Bool). not (x && ltb b 58)) (lt-leb 48 b h))

above : (b : ℕ) → 48 ≤ b → ltb 57 b ≡ not (is_digit b)
above b h = go (ltb 57 b) refl ∙ sym (ap (λ (x : Bool). not (x && ltb b 58)) (le-leb 48 b h))
  where
    go : (x : Bool) → ltb 57 b ≡ x → x ≡ not (ltb b 58)
    go true e = sym (ap not (le-ltb b 58 (omega (arith, ltb-true 57 b e))))
    go false e = sym (ap not (lt-ltb b 58 (omega (arith, ltb-false 57 b e))))

returns : tie.Need-returns-then-byte-lt48
returns c = below c.byte_in-byte.result c.if-byte-lt48.true ∙ ap (λ (b : ℕ). not (is_digit b)) c.byte_in-byte.ensures

returns-2 : tie.Need-returns
returns-2 c = above c.byte_in-byte.result c.if-byte-lt48.false ∙ ap (λ (b : ℕ). not (is_digit b)) c.byte_in-byte.ensures

pub no_digit_spec : {M : Type 1} → statement M
no_digit_spec = tie.close (tie.spec (λ c κs. search rules) returns returns-2)
