-- Laws of a text written into a buffer: what each cell holds, texts one after the other in either order of writing,
-- one byte as one store, and a whole text as one copy.
use mathlib.Core.Path.{◌≡◌, refl, sym, ap, ◌∙◌}
use mathlib.Core.Logic.{◌⊎◌, inl, inr}
use mathlib.Core.List.{List, [], ◌∷◌, ◌++◌, append_assoc}
use Prim.Native.Nat.{ℕ, suc, ◌+◌, ◌-◌, ◌<◌, ◌≤◌}
use native.Mathlib.Nat.{zero-add}
use native.Mathlib.Numerals.{add-one}
use native.Mathlib.Omega.{arith}
use lib.ListN.{length, get_or, set, take, drop, length-append, length-set, get_or-append}
use lib.Seq.{ext_get_or, get_or-append-add, get_or-set_same, get_or-set_other, set_out}
use borrow.Author.Tests.{le-leb, lt-leb, lt-ltb, le-ltb}
use borrow.Rule.Slice.PartMut.{put_mid}
use Rattle.std.proofs.lemmas.List.Edits.{sets, sets-eq, paste_all}
use Rattle.std.proofs.lemmas.Slice.{put_mid-paste}
use Rattle.base_exact.proofs.Decide.{le_or_lt}
use Rattle.base_exact.proofs.Tabulate.{tab_length, tab_get_d}
use Rattle.base_text.specs.Bytes.{Text}
use Rattle.base_print.specs.Buffer.{written, Puts, Prints}

pub written_length : (at : ℕ) (t : Text) (out : List ℕ) → length (written at t out) ≡ length out
unfolding written
written_length at t out = tab_length (length out) _

-- ---- what a cell holds: before the text, in it, behind it
pub written-before : (at : ℕ) (t : Text) (out : List ℕ) (k : ℕ) → k < length out → k < at → get_or (written at t out) k 0 ≡ get_or out k 0
unfolding written
written-before at t out k h l = tab_get_d (length out) _ k 0 h ∙ rw (lt-leb at k l)

pub written-inside : (at : ℕ) (t : Text) (out : List ℕ) (k : ℕ) → k < length out → at ≤ k → k < at + length t → get_or (written at t out) k 0 ≡ get_or t (k - at) 0
unfolding written
written-inside at t out k h l m = tab_get_d (length out) _ k 0 h ∙ rw (le-leb at k l, lt-ltb k (at + length t) m)

pub written_behind : (at : ℕ) (t : Text) (out : List ℕ) (k : ℕ) → k < length out → at ≤ k → at + length t ≤ k → get_or (written at t out) k 0 ≡ get_or out k 0
unfolding written
written_behind at t out k h l m = tab_get_d (length out) _ k 0 h ∙ rw (le-leb at k l, le-ltb k (at + length t) m)

-- two writings into buffers that agree at each cell
written_ext : (at : ℕ) (t : Text) (out all : List ℕ) → length all ≡ length out
    → ((k : ℕ) → k < length out → get_or all k 0 ≡ get_or (written at t out) k 0) → all ≡ written at t out
written_ext at t out all e h = ext_get_or 0 all (written at t out) (e ∙ sym (written_length at t out)) (λ k l. h k (omega arith))

pub written_none : (at : ℕ) (out : List ℕ) → out ≡ written at [] out
written_none at out = written_ext at [] out out refl each
  where
    each : (k : ℕ) → k < length out → get_or out k 0 ≡ get_or (written at [] out) k 0
    each k h = go (le_or_lt at k)
      where
        go : (at ≤ k) ⊎ (k < at) → get_or out k 0 ≡ get_or (written at [] out) k 0
        go (inl l) = sym (written_behind at [] out k h l (omega arith))
        go (inr l) = sym (written-before at [] out k h l)

-- ---- one text behind another
module _ (at : ℕ) (a b : Text) (out : List ℕ) where
  abbrev seam : ℕ
  seam = at + length a

  -- the cells of the first text, and of the second
  joint-first : (k : ℕ) → k < length out → at ≤ k → k < seam → get_or (written at (a ++ b) out) k 0 ≡ get_or a (k - at) 0
  joint-first k h l m =
      written-inside at (a ++ b) out k h l (omega (arith, length-append a b)) ∙ get_or-append a b 0 (k - at) (omega arith)

  joint-second : (k : ℕ) → k < length out → seam ≤ k → k < seam + length b → get_or (written at (a ++ b) out) k 0 ≡ get_or b (k - seam) 0
  joint-second k h l m =
      written-inside at (a ++ b) out k h (omega arith) (omega (arith, length-append a b))
      ∙ ap (λ j. get_or (a ++ b) j 0) (let e : k - at ≡ length a + (k - seam) = omega arith in e)
      ∙ get_or-append-add a b (k - seam) 0

  joint-behind : (k : ℕ) → k < length out → seam + length b ≤ k → get_or (written at (a ++ b) out) k 0 ≡ get_or out k 0
  joint-behind k h l = written_behind at (a ++ b) out k h (omega arith) (omega (arith, length-append a b))

  -- the first text written first
  pub written_append : written seam b (written at a out) ≡ written at (a ++ b) out
  written_append = written_ext at (a ++ b) out _ (written_length seam b _ ∙ written_length at a out) each
    where
      each : (k : ℕ) → k < length out → get_or (written seam b (written at a out)) k 0 ≡ get_or (written at (a ++ b) out) k 0
      each k h = low (le_or_lt seam k) (le_or_lt at k)
        where
          within : k < length (written at a out)
          within = rw (written_length at a out) h

          high : seam ≤ k → (seam + length b ≤ k) ⊎ (k < seam + length b) → get_or (written seam b (written at a out)) k 0 ≡ get_or (written at (a ++ b) out) k 0
          high l (inl m) = written_behind seam b _ k within l m ∙ written_behind at a out k h (omega arith) l ∙ sym (joint-behind k h m)
          high l (inr m) = written-inside seam b _ k within l m ∙ sym (joint-second k h l m)

          low : (seam ≤ k) ⊎ (k < seam) → (at ≤ k) ⊎ (k < at) → get_or (written seam b (written at a out)) k 0 ≡ get_or (written at (a ++ b) out) k 0
          low (inl l) m = high l (le_or_lt (seam + length b) k)
          low (inr l) (inl m) = written-before seam b _ k within l ∙ written-inside at a out k h m l ∙ sym (joint-first k h m l)
          low (inr l) (inr m) = written-before seam b _ k within l ∙ written-before at a out k h m ∙ sym (written-before at (a ++ b) out k h m)

  -- the second text written first
  pub written-prepend : written at a (written seam b out) ≡ written at (a ++ b) out
  written-prepend = written_ext at (a ++ b) out _ (written_length at a _ ∙ written_length seam b out) each
    where
      each : (k : ℕ) → k < length out → get_or (written at a (written seam b out)) k 0 ≡ get_or (written at (a ++ b) out) k 0
      each k h = low (le_or_lt seam k) (le_or_lt at k)
        where
          within : k < length (written seam b out)
          within = rw (written_length seam b out) h

          high : seam ≤ k → (seam + length b ≤ k) ⊎ (k < seam + length b) → get_or (written at a (written seam b out)) k 0 ≡ get_or (written at (a ++ b) out) k 0
          high l (inl m) = written_behind at a _ k within (omega arith) l ∙ written_behind seam b out k h l m ∙ sym (joint-behind k h m)
          high l (inr m) = written_behind at a _ k within (omega arith) l ∙ written-inside seam b out k h l m ∙ sym (joint-second k h l m)

          low : (seam ≤ k) ⊎ (k < seam) → (at ≤ k) ⊎ (k < at) → get_or (written at a (written seam b out)) k 0 ≡ get_or (written at (a ++ b) out) k 0
          low (inl l) m = high l (le_or_lt (seam + length b) k)
          low (inr l) (inl m) = written-inside at a _ k within m l ∙ sym (joint-first k h m l)
          low (inr l) (inr m) = written-before at a _ k within m ∙ written-before seam b out k h l ∙ sym (written-before at (a ++ b) out k h m)

-- ---- one byte is one store, which past the end does nothing
pub written_byte : (at b : ℕ) (out : List ℕ) → set out at b ≡ written at (b ∷ []) out
written_byte at b out = written_ext at (b ∷ []) out (set out at b) (length-set out at b) each
  where
    each : (k : ℕ) → k < length out → get_or (set out at b) k 0 ≡ get_or (written at (b ∷ []) out) k 0
    each k h = go (le_or_lt at k) (le_or_lt k at)
      where
        go : (at ≤ k) ⊎ (k < at) → (k ≤ at) ⊎ (at < k) → get_or (set out at b) k 0 ≡ get_or (written at (b ∷ []) out) k 0
        go (inl l) (inl m) =
            let e : k ≡ at = omega arith in
            ap (λ j. get_or (set out at b) j 0) e ∙ get_or-set_same out at b 0 (omega arith)
            ∙ sym (written-inside at (b ∷ []) out k h l (omega arith) ∙ ap (λ j. get_or (b ∷ []) j 0) (let z : k - at ≡ 0 = omega arith in z))
        go (inl l) (inr m) = get_or-set_other out at k b 0 (omega arith) ∙ sym (written_behind at (b ∷ []) out k h l (omega arith))
        go (inr l) m = get_or-set_other out at k b 0 (omega arith) ∙ sym (written-before at (b ∷ []) out k h l)

pub written-byte-past : (at b : ℕ) (out : List ℕ) → length out ≤ at → out ≡ written at (b ∷ []) out
written-byte-past at b out h = sym (set_out out at b h) ∙ written_byte at b out

-- ---- a text stored whole: byte by byte, or by one copy to a part of the buffer
pub written_sets : (at : ℕ) (t : Text) (out : List ℕ) → sets out at t ≡ written at t out
written_sets at [] out = written_none at out
written_sets at (b ∷ t) out =
    written_sets (suc at) t (set out at b)
    ∙ ap (λ (i : ℕ). written i t (set out at b)) (sym (add-one at))
    ∙ ap (written (at + 1) t) (written_byte at b out)
    ∙ written_append at (b ∷ []) t out

pub written_copy : (at k : ℕ) (t copy : Text) (out : List ℕ) → at + length t ≤ length out → length t ≡ k → copy ≡ t
    → put_mid at k out copy ≡ written at t out
written_copy at k t copy out h n e =
    put_mid-paste at k out copy t (length t) e n refl
    ∙ paste_all out at t (length t) refl
    ∙ sym (sets-eq t out at h ∙ append_assoc (take at out) t (drop (at + length t) out))
    ∙ written_sets at t out

-- ---- what printing functions leave, one after the other
pub puts_none : (at : ℕ) (out : List ℕ) → Puts 0 at [] out out at
puts_none at out = record { contents = written_none at out; behind = omega arith; near = omega arith }

pub puts_then : {l m at : ℕ} {a b : Text} {out mid end : List ℕ} {next last : ℕ} → Puts l at a out mid next → Puts m next b mid end last
    → Puts (l + m) at (a ++ b) out end last
puts_then {l} {m} {at} {a} {b} {out} {mid} {end} {next} {last} p q = record {
  contents = q.contents ∙ ap (λ j. written j b mid) p.behind ∙ ap (written (at + length a) b) p.contents ∙ written_append at a b out;
  behind = omega (arith, p.behind, q.behind, length-append a b);
  near = omega (arith, p.near, q.near);
}

-- a wider limit
pub puts_within : {l m at : ℕ} {t : Text} {out end : List ℕ} {next : ℕ} → l ≤ m → Puts l at t out end next → Puts m at t out end next
puts_within h p = record { contents = p.contents; behind = p.behind; near = omega (arith, p.near) }

pub puts_length : {l at : ℕ} {t : Text} {out end : List ℕ} {next : ℕ} → Puts l at t out end next → length end ≡ length out
puts_length {at} {t} {out} p = ap length p.contents ∙ written_length at t out

-- the same text in other words
pub puts_as : {l at : ℕ} {t u : Text} {out end : List ℕ} {next : ℕ} → t ≡ u → Puts l at t out end next → Puts l at u out end next
puts_as e p = rw e at p

-- ---- a text from the buffer's start on, with its length
pub prints_as : {limit most : ℕ} {t u : Text} {out end : List ℕ} {count : ℕ} → t ≡ u → count ≤ most → Prints limit t out end count
    → Prints most u out end count
prints_as {out = out} e h p = record { count_is = p.count_is ∙ ap length e; contents = p.contents ∙ ap (λ v. written 0 v out) e; few = h }

pub puts_whole : {limit : ℕ} {t u : Text} {out end : List ℕ} {count : ℕ} → t ≡ u → Puts limit 0 t out end count → Prints limit u out end count
puts_whole {out = out} e p = record {
  count_is = p.behind ∙ zero-add _ ∙ ap length e;
  contents = p.contents ∙ ap (λ v. written 0 v out) e;
  few = omega (arith, p.near);
}
