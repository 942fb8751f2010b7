-- Laws of a text written into the buffer: one behind another, and a whole text from the beginning on.
use mathlib.Core.Path.{◌≡◌, sym, ap, ◌∙◌}
use mathlib.Core.Logic.{◌⊎◌, inl, inr}
use mathlib.Core.List.{List, [], ◌++◌}
use Prim.Native.Nat.{ℕ, ◌+◌, ◌-◌, ◌<◌, ◌≤◌}
use native.Mathlib.Omega.{arith}
use lib.ListN.{length, get_or, drop, replicate, length-append, length-drop, length-replicate, get_or-append}
use lib.Seq.{ext_get_or, get_or-append-add, get_or-drop}
use Rattle.base_exact.proofs.Decide.{le_or_lt}
use Rattle.base_text.specs.Bytes.{Text}
use Rattle.base_print.specs.Buffer.{written, Puts}
use Rattle.base_print.proofs.Buffer.{written_none, written_length, written_append, written-inside, written_behind}
use Rattle.spec_tucson.specs.Columns.{blank}
use Rattle.spec_tucson.specs.ReadCall.{overwritten}
use Rattle.tucson_putting.specs.Putting.{Wrote}

pub wrote_none : (at : ℕ) (out : List ℕ) → Wrote at [] out out at
wrote_none at out = record { contents = written_none at out; behind = omega arith }

pub wrote_then : {at : ℕ} {a b : Text} {out mid end : List ℕ} {next last : ℕ} → Wrote at a out mid next → Wrote next b mid end last
    → Wrote at (a ++ b) out end last
wrote_then {at} {a} {b} {out} {mid} {end} {next} {last} p q = record {
  contents = q.contents ∙ ap (λ j. written j b mid) p.behind ∙ ap (written (at + length a) b) p.contents ∙ written_append at a b out;
  behind = omega (arith, p.behind, q.behind, length-append a b);
}

pub puts_wrote : {l at : ℕ} {t : Text} {out end : List ℕ} {next : ℕ} → Puts l at t out end next → Wrote at t out end next
puts_wrote p = record { contents = p.contents; behind = p.behind }

-- the same text in other words
pub wrote_as : {at : ℕ} {t u : Text} {out end : List ℕ} {next : ℕ} → t ≡ u → Wrote at t out end next → Wrote at u out end next
wrote_as e p = rw e at p

pub wrote_length : {at : ℕ} {t : Text} {out end : List ℕ} {next : ℕ} → Wrote at t out end next → length end ≡ length out
wrote_length {at} {t} {out} p = ap length p.contents ∙ written_length at t out

-- ---- a whole text, from the beginning on

module _ (t : Text) (out : List ℕ) (fits : length t ≤ length out) where
  whole_length : length (overwritten t out) ≡ length out
  whole_length = length-append t (drop (length t) out) ∙ omega (arith, length-drop (length t) out)

  whole-cell : (k : ℕ) → k < length out → get_or (written 0 t out) k 0 ≡ get_or (overwritten t out) k 0
  whole-cell k h = go (le_or_lt (length t) k)
    where
      go : (length t ≤ k) ⊎ (k < length t) → get_or (written 0 t out) k 0 ≡ get_or (overwritten t out) k 0
      go (inl l) =
          let e : length t + (k - length t) ≡ k = omega arith in
          written_behind 0 t out k h (omega arith) (omega arith)
          ∙ ap (λ (j : ℕ). get_or out j 0) (sym e)
          ∙ sym (get_or-drop (length t) out (k - length t) 0)
          ∙ sym (get_or-append-add t (drop (length t) out) (k - length t) 0)
          ∙ ap (λ (j : ℕ). get_or (overwritten t out) j 0) e
      go (inr l) =
          written-inside 0 t out k h (omega arith) (omega arith)
          ∙ ap (λ (j : ℕ). get_or t j 0) (let e : k - 0 ≡ k = omega arith in e)
          ∙ sym (get_or-append t (drop (length t) out) 0 k l)

  pub written-whole : written 0 t out ≡ overwritten t out
  written-whole =
      ext_get_or 0 (written 0 t out) (overwritten t out) (written_length 0 t out ∙ sym whole_length)
      (λ k h. whole-cell k (omega (arith, written_length 0 t out)))

-- ---- blanks
pub blanks_all : (n : ℕ) → length (replicate n blank) ≡ n
blanks_all n = length-replicate n blank
