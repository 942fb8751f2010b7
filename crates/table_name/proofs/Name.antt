-- Laws of a name in the table: quotation marks doubled byte after byte, the buffer's front, and the name as it is or in quotation marks.
use mathlib.Core.Path.{◌≡◌, refl, sym, ap, ◌∙◌}
use mathlib.Core.Bool.{Bool, true, false, cond}
use mathlib.Core.List.{List, [], ◌∷◌, ◌++◌, append_assoc, append-nil}
use Prim.Native.Nat.{ℕ, ◌+◌, ◌<◌, ◌≤◌}
use native.Mathlib.Numerals.{add-one}
use native.Mathlib.Omega.{arith}
use borrow.Author.Tests.{eq-eqb, ne_eqb}
use lib.Dec.{eqb}
use lib.ListN.{length, get_or, take, drop}
use lib.Seq.{take-suc, take_at}
use Rattle.base_exact.proofs.Decide.{cond_true, cond_false}
use Rattle.base_text.specs.Bytes.{Text}
use Rattle.base_print.specs.Buffer.{Prints}
use Rattle.spec_table.specs.RingLines.{quotation_mark, holds_quoted, doubled, quoted_name}
use Rattle.tucson_putting.proofs.Wrote.{written-whole}
use Rattle.table_name.specs.Machine.{doubled_byte}

-- ---- quotation marks doubled

pub doubled-mark : (c : ℕ) → c ≡ quotation_mark → c ∷ c ∷ [] ≡ doubled_byte c
doubled-mark c e = rw (eq-eqb c quotation_mark e)

pub doubled_other : (c : ℕ) → (c ≡ quotation_mark → ⊥) → c ∷ [] ≡ doubled_byte c
doubled_other c e = rw (ne_eqb c quotation_mark e)

doubled_cons : (c : ℕ) (cs : Text) → doubled (c ∷ cs) ≡ doubled_byte c ++ doubled cs
unfolding doubled
doubled_cons c cs = go (eqb c quotation_mark)
  where
    go : (b : Bool) → cond b (c ∷ c ∷ doubled cs) (c ∷ doubled cs) ≡ cond b (c ∷ c ∷ []) (c ∷ []) ++ doubled cs
    go true = refl
    go false = refl

pub doubled-none : doubled [] ≡ []
unfolding doubled
doubled-none = refl

pub doubled_append : (a b : Text) → doubled a ++ doubled b ≡ doubled (a ++ b)
doubled_append [] b = ap (λ (t : Text). t ++ doubled b) doubled-none
doubled_append (c ∷ cs) b =
    ap (λ (t : Text). t ++ doubled b) (doubled_cons c cs)
    ∙ append_assoc (doubled_byte c) (doubled cs) (doubled b)
    ∙ ap (λ (t : Text). doubled_byte c ++ t) (doubled_append cs b)
    ∙ sym (doubled_cons c (cs ++ b))

pub doubled_one : (c : ℕ) → doubled_byte c ≡ doubled (c ∷ [])
doubled_one c = sym (doubled_cons c [] ∙ ap (λ (t : Text). doubled_byte c ++ t) doubled-none ∙ append-nil (doubled_byte c))

-- one byte more
pub doubled-next : (t : Text) (i : ℕ) → i < length t → doubled (take i t) ++ doubled_byte (get_or t i 0) ≡ doubled (take (i + 1) t)
doubled-next t i h =
    ap (λ (u : Text). doubled (take i t) ++ u) (doubled_one (get_or t i 0))
    ∙ doubled_append (take i t) (get_or t i 0 ∷ [])
    ∙ ap doubled (sym (take-suc t i 0 h) ∙ ap (λ (n : ℕ). take n t) (sym (add-one i)))

-- ---- the buffer

-- the front of the buffer is what was printed there
pub printed-front : {limit : ℕ} {t : Text} {out end : List ℕ} {count : ℕ} → limit ≤ length out → Prints limit t out end count → take count end ≡ t
printed-front {limit} {t} {out} {end} {count} h p =
    let fits : length t ≤ length out = omega (arith, p.few, p.count_is) in
    ap (λ (l : List ℕ). take count l) (p.contents ∙ written-whole t out fits) ∙ take_at t (drop (length t) out) count (sym p.count_is)

-- ---- the name in quotation marks, or as it is

pub quoted-plain : (t : Text) → holds_quoted t ≡ false → t ≡ quoted_name t
unfolding quoted_name
quoted-plain t e = sym (cond_false (quotation_mark ∷ (doubled t ++ (quotation_mark ∷ []))) t e)

pub quoted-marked : (t : Text) → holds_quoted t ≡ true → quotation_mark ∷ (doubled t ++ (quotation_mark ∷ [])) ≡ quoted_name t
unfolding quoted_name
quoted-marked t e = sym (cond_true (quotation_mark ∷ (doubled t ++ (quotation_mark ∷ []))) t e)
