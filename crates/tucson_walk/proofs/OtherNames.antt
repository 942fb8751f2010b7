-- A line whose name differs from another one in a plain byte, behind plain bytes: the other one's series does not go on in it.
use mathlib.Core.Path.{◌≡◌, refl, sym, ◌∙◌, ap, subst}
use mathlib.Core.Bool.{false}
use mathlib.Core.List.{List, [], ◌∷◌, ◌++◌, append_assoc}
use Prim.Native.Nat.{ℕ, suc, ◌+◌, ◌<◌, ◌≤◌}
use native.Mathlib.Omega.{arith}
use borrow.Author.Tests.{ne_eqb}
use lib.ListN.{length, get_or, take, length-append}
use lib.Seq.{slice, length-slice, get_or-take, get_or-append_seam}
use Rattle.base_exact.proofs.Decide.{cond_false}
use Rattle.base_text.specs.Bytes.{Text, newline, index_where, index_of}
use Rattle.spec_tucson.specs.Columns.{blank}
use Rattle.spec_tucson.specs.Line.{name_columns, last_printable}
use Rattle.spec_tucson.specs.Shown.{is_blank_line}
use Rattle.spec_tucson.specs.StrictLine.{Kept, name_of, strict_line}
use Rattle.spec_tucson.specs.KeptLines.{same_text}
use Rattle.spec_tucson.specs.CleanSeries.{continues}
use Rattle.tucson_columns.proofs.Shown.{slice_snoc, slice-split}
use Rattle.tucson_lines.specs.Machine.{LineEnd}
use Rattle.tucson_walk.specs.Skipping.{Skipped}
use Rattle.tucson_walk.specs.Following.{KeptBehind}
use Rattle.tucson_walk.proofs.Skips.{passed_none, skipped_at}
use Rattle.tucson_walk.proofs.NextLines.{line-behind}
use Rattle.tucson_walk.proofs.PlainFronts.{Plain, Seen, plain_snoc, seen_snoc, front-unblank, strict_front, names-differ}

-- byte 10 does not come before the end of plain bytes
end_behind : (p r : Text) → Plain p → length p ≤ index_of newline (p ++ r)
unfolding index_where
end_behind [] r h = omega arith
end_behind (c ∷ p) r h =
    let e : index_of newline (c ∷ (p ++ r)) ≡ suc (index_of newline (p ++ r)) = cond_false _ _ (ne_eqb c newline (λ z. omega (arith, z, h.0))) in
    omega (arith, e, end_behind p r h.2)

-- a byte more
pub plain-next : (text : Text) (past i : ℕ) → past + i < length text → Plain (slice past (past + i) text)
    → blank ≤ get_or text (past + i) 0 → get_or text (past + i) 0 ≤ last_printable → Plain (slice past (past + (i + 1)) text)
plain-next text past i w h low high =
    let e : past + (i + 1) ≡ suc (past + i) = omega arith in
    subst Plain (sym (ap (λ (n : ℕ). slice past n text) e ∙ slice_snoc past (past + i) text (omega arith) w)) (plain_snoc (slice past (past + i) text) (get_or text (past + i) 0) h low high)

-- the byte that differs
module _ (text : Text) (past i : ℕ) (line : Text) (w : past + i < length text) (name : i < name_columns)
    (plain : Plain (slice past (past + i) text)) (visible : blank < get_or text (past + i) 0) (high : get_or text (past + i) 0 ≤ last_printable)
    (other : get_or text (past + i) 0 ≡ get_or line i 0 → ⊥) where
  abbrev byte : ℕ
  byte = get_or text (past + i) 0

  abbrev front : Text
  front = slice past (past + i) text

  abbrev p : Text
  p = front ++ (byte ∷ [])

  front-size : length front ≡ i
  front-size = omega (arith, length-slice past (past + i) text (omega (arith, w)))

  size : length p ≡ suc i
  size = omega (arith, front-size, length-append front (byte ∷ []))

  is_plain : Plain p
  is_plain = plain_snoc front byte plain (omega (arith, visible)) high

  is_seen : Seen p
  is_seen = seen_snoc front byte visible

  abbrev end : ℕ
  end = past + index_of newline (slice past (length text) text)

  ends : LineEnd text past end
  ends = record { within = omega (arith, w); is = refl }

  parts : (to : ℕ) → suc (past + i) ≤ to → slice past to text ≡ p ++ slice (suc (past + i)) to text
  parts to h =
      slice-split past (suc (past + i)) to text (omega arith) h
      ∙ ap (λ (t : Text). t ++ slice (suc (past + i)) to text) (slice_snoc past (past + i) text (omega arith) w)

  behind : suc (past + i) ≤ end
  behind =
      let e = ap (index_of newline) (parts (length text) (omega (arith, w))) in
      omega (arith, e, end_behind p (slice (suc (past + i)) (length text) text) is_plain, size)

  abbrev rest : Text
  rest = slice (suc (past + i)) (end + 1) text

  raw_is : slice past (end + 1) text ≡ p ++ rest
  raw_is = parts (end + 1) (omega (arith, behind))

  skipped : Skipped text past past
  skipped = skipped_at (passed_none text past (omega (arith, w))) ends (ap is_blank_line raw_is ∙ front-unblank p rest is_plain is_seen)

  pub other_name : (h j : ℕ) (k : Kept) (ks : List Kept) → KeptBehind text h j k past ks → name_of k.text ≡ take name_columns line → continues k ks ≡ false
  unfolding continues
  other_name h j k ks b named =
      let d = line-behind skipped b ends (omega (arith, w)) in
      let t = strict_front p rest is_plain is_seen (omega (arith, size, name)) _ d.text (sym (ap (strict_line _) raw_is) ∙ d.strict) in
      let seam : get_or d.text i 0 ≡ byte =
      ap (λ (u : Text). get_or u i 0) (t.is ∙ append_assoc front (byte ∷ []) t.rest)
      ∙ ap (λ (m : ℕ). get_or (front ++ (byte ∷ t.rest)) m 0) (sym front-size)
      ∙ get_or-append_seam front byte t.rest 0 in
      ap (continues k) d.is
      ∙ ap (λ (u : Text). same_text u (name_of d.text)) named
      ∙ names-differ i (take name_columns line) (name_of d.text)
      (λ e. other (sym seam ∙ sym (get_or-take name_columns d.text i 0 name) ∙ sym e ∙ get_or-take name_columns line i 0 name))
