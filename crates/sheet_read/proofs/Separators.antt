-- Where the first comma or colon of a part of a text stands.
use mathlib.Core.Path.{◌≡◌, refl, sym, ◌∙◌, ap}
use mathlib.Core.Bool.{Bool, true, false, cond, ◌||◌}
use mathlib.Core.List.{[], ◌∷◌}
use Prim.Native.Nat.{ℕ, suc, ◌+◌, ◌≤◌}
use native.Mathlib.Omega.{arith}
use lib.Dec.{eqb}
use lib.ListN.{take}
use lib.Seq.{slice}
use Rattle.base_text.specs.Bytes.{Text, comma, colon, Range, index_where, index_of}
use Rattle.base_text.proofs.Slice.{take_slice}
use Rattle.base_text.proofs.Lacking.{byte}
use Rattle.sheet_read.specs.Machine.{is_separator}
use Rattle.sheet_lines.proofs.Entries.{stop_within}

-- the first colon before the first comma, or that comma
colon-first : (t : Text) → index_of colon (take (index_of comma t) t) ≡ index_where is_separator t
unfolding index_where
colon-first [] = refl
colon-first (c ∷ cs) = go (eqb c comma) (eqb c colon) refl (colon-first cs)
  where
    go : (b d : Bool) → eqb c colon ≡ d → index_of colon (take (index_of comma cs) cs) ≡ index_where is_separator cs →
        index_of colon (take (cond b 0 (suc (index_of comma cs))) (c ∷ cs)) ≡ cond (b || d) 0 (suc (index_where is_separator cs))
    go true d e ih = refl
    go false true e ih = rw e
    go false false e ih = rw e (ap suc ih)

pub separator_is : (text : Text) (from to stop : ℕ) → Range text from to → stop ≡ from + index_of comma (slice from to text) →
    index_of colon (slice from stop text) ≡ index_where is_separator (slice from to text)
separator_is text from to stop range is =
    let k = index_of comma (slice from to text) in
    let within : from + k ≤ to = omega (arith, stop_within (byte comma) text from to stop range is) in
    ap (index_of colon) (ap (λ (n : ℕ). slice from n text) is ∙ sym (take_slice k from to text within))
    ∙ colon-first (slice from to text)
