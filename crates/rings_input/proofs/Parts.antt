-- The first line by its two keys, and one line more of those that are counted.
use mathlib.Core.Path.{◌≡◌, refl, sym, ◌∙◌, ap}
use mathlib.Core.Bool.{Bool, true, false, cond}
use mathlib.Core.Option.{none}
use Prim.Native.Nat.{ℕ, zero, suc, ◌+◌, ◌-◌, ◌<◌, ◌≤◌}
use native.Mathlib.Omega.{arith}
use borrow.Author.Tests.{lt-ltb, le-ltb}
use lib.Dec.{eqb}
use lib.ListN.{length, drop, length-drop}
use lib.Seq.{slice, drop-drop}
use Rattle.std.specs.Prelude.{Some, None}
use Rattle.base_text.specs.Bytes.{Text, newline, index_of, begins_with, stripped}
use Rattle.base_text.proofs.Slice.{slice_all}
use Rattle.base_text.proofs.Cutting.{stripped-none, stripped_some, index-within}
use Rattle.curve_ordinates.specs.declared.Wood.TheVariants.{Earlywood, Latewood}
use Rattle.spec_rings.specs.Parts.{earlywood_line, latewood_line, headed, lines_end}
use Rattle.rings_input.specs.Machine.{HeadedAs}

module _ (t : Text) where
  begun : (key : Text) → begins_with key (slice 0 (length t) t) ≡ true → begins_with key t ≡ true
  begun key e = ap (begins_with key) (sym (slice_all 0 t)) ∙ e

  not_begun : (key : Text) → begins_with key (slice 0 (length t) t) ≡ false → stripped key t ≡ none
  not_begun key e = stripped-none key t (ap (begins_with key) (sym (slice_all 0 t)) ∙ e)

  pub names_earlywood : begins_with earlywood_line (slice 0 (length t) t) ≡ true → HeadedAs t (headed t) (Some (record { wood = Earlywood; next = 15 }))
  unfolding headed
  names_earlywood e = let s = stripped_some earlywood_line t (begun earlywood_line e) in rw s.1 (refl, (refl, s.0))

  pub names_latewood : begins_with earlywood_line (slice 0 (length t) t) ≡ false → begins_with latewood_line (slice 0 (length t) t) ≡ true
      → HeadedAs t (headed t) (Some (record { wood = Latewood; next = 14 }))
  unfolding headed
  names_latewood d e =
      let s = stripped_some latewood_line t (begun latewood_line e) in
      rw (not_begun earlywood_line d, s.1) (refl, (refl, s.0))

  pub names_other : begins_with earlywood_line (slice 0 (length t) t) ≡ false → begins_with latewood_line (slice 0 (length t) t) ≡ false
      → HeadedAs t (headed t) None
  unfolding headed
  names_other d e = rw (not_begun earlywood_line d, not_begun latewood_line e) tt

-- ---- counted lines
pub no_lines : (t : Text) (left : ℕ) → left ≤ 0 → lines_end left t ≡ 0
unfolding lines_end
no_lines t zero h = refl
no_lines t (suc left) h = absurd (omega arith)

module _ (t : Text) (at : ℕ) (within : at ≤ length t) (left : ℕ) where
  abbrev stop : ℕ
  stop = at + index_of newline (slice at (length t) t)

  index_is : index_of newline (slice at (length t) t) ≡ index_of newline (drop at t)
  index_is = ap (index_of newline) (slice_all at t)

  pub stop_within : stop ≤ length t
  stop_within = omega (arith, index_is, index-within (λ c. eqb c newline) (drop at t), length-drop at t)

  pub no_line : 0 < left → stop ≡ length t → at + lines_end left (drop at t) ≡ length t
  unfolding lines_end
  no_line p e = go left p
    where
      go : (n : ℕ) → 0 < n → at + lines_end n (drop at t) ≡ length t
      go zero p = absurd (omega arith)
      go (suc n) p =
          let h : length (drop at t) ≤ index_of newline (drop at t) = omega (arith, index_is, length-drop at t) in
          rw (le-ltb (index_of newline (drop at t)) (length (drop at t)) h) (omega (arith, length-drop at t))

  pub one_line : 0 < left → stop < length t → at + lines_end left (drop at t) ≡ stop + 1 + lines_end (left - 1) (drop (stop + 1) t)
  unfolding lines_end
  one_line p h = go left p
    where
      go : (n : ℕ) → 0 < n → at + lines_end n (drop at t) ≡ stop + 1 + lines_end (n - 1) (drop (stop + 1) t)
      go zero p = absurd (omega arith)
      go (suc n) p =
          let i = index_of newline (drop at t) in
          let l : i < length (drop at t) = omega (arith, index_is, length-drop at t) in
          let e : drop (suc i) (drop at t) ≡ drop (stop + 1) t =
          drop-drop (suc i) at t ∙ ap (λ (k : ℕ). drop k t) (let z : at + suc i ≡ stop + 1 = omega (arith, index_is) in z) in
          ap (λ (b : Bool). at + cond b (suc i + lines_end n (drop (suc i) (drop at t))) (length (drop at t))) (lt-ltb i (length (drop at t)) l)
          ∙ ap (λ (u : Text). at + (suc i + lines_end n u)) e
          ∙ (let z : at + (suc i + lines_end n (drop (stop + 1) t)) ≡ stop + 1 + lines_end n (drop (stop + 1) t) = omega (arith, index_is) in z)
          ∙ ap (λ (k : ℕ). stop + 1 + lines_end k (drop (stop + 1) t)) (let z : n ≡ suc n - 1 = omega arith in z)
