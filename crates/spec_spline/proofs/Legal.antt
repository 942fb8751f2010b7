-- What the checks of a space leave: a space that none of the codes 2 to 5 and 15 refuses has lists of lengths that fit together,
-- segments of positive length, and at each join no more conditions than either neighbouring degree. And what the checks need.
use mathlib.Core.Path.{◌≡◌, refl, ◌∙◌, ap, ap₂, subst, sym}
use mathlib.Core.Bool.{Bool, true, false, cond, not, ◌&&◌, ◌||◌}
use mathlib.Core.Option.{Option, some, none}
use Prim.Native.Nat.{ℕ, zero, suc, ◌+◌, ◌-◌, ◌<◌, ◌≤◌}
use native.Mathlib.Omega.{arith}
use borrow.Author.Tests.{leb-true, eqb-true, le-leb, eq-eqb}
use lib.Dec.{eqb, leb}
use lib.IntN.{ℤ, pos, negsuc, ◌+ℤ◌, ◌-ℤ◌, neg_ℤ, nat_abs}
use lib.ListN.{length}
use lib.Signed.{le_z, ◌<ℤ◌}
use Rattle.base_exact.proofs.Decide.{and-true, or-false}
use Rattle.base_exact.proofs.Integer.{up, dn, bal_+, bal_neg, ≤_out, <_out, abs-parts}
use Rattle.base_exact.proofs.Word.{le_z_false}
use Rattle.base_outcome.specs.Outcome.{Outcome, answer, refusal, refuse}
use Rattle.base_outcome.specs.Search.{first}
use Rattle.spec_spline.specs.Space.{Space, segments, break, degree_entry, order, segment_limit, lengths_fit, bad_break, span_too_long, too_many_segments}
use Rattle.spec_spline.specs.Space.{bad_degree, bad_order, part_end_at, checked_entries, checked, degree, width, condition_count}
use Rattle.base_outcome.specs.Tests.{between, refuse_first}
use Rattle.spec_spline.specs.Build.{clears, weights, space_weights}
use Rattle.spec_spline.specs.Table.{Table}
use Rattle.base_outcome.proofs.Outcome.{answer_unique, answer_not_refusal, then_inverts}
use Rattle.base_outcome.proofs.Search.{some_not_none, first-none, first-none_inverts}
use Rattle.spec_spline.proofs.Space.{between_inverts}

-- The facts that the tests leave, test by test.
pub record Checked (s : Space) : Type 0 where
  pub lengths : lengths_fit s ≡ true
  pub breaks : (i : ℕ) → i < segments s + 1 → bad_break s i ≡ false
  pub spans : (i : ℕ) → i < segments s → span_too_long s i ≡ false
  pub degrees : (i : ℕ) → i < segments s → bad_degree s i ≡ false
  pub orders : (i : ℕ) → i < segments s - 1 → bad_order s i ≡ false
  pub few : (i : ℕ) → i < segments s → too_many_segments s i ≡ false

pub refuse_first_inverts : {A : Type 0} (code : ℕ) (o : Option ℕ) (rest : Outcome A) {a : A} → refuse_first code o rest ≡ answer a → (o ≡ none) × (rest ≡ answer a)
refuse_first_inverts code none rest e = (refl, e)
refuse_first_inverts code (some i) rest e = absurd (answer_not_refusal e refl)

pub cond_refuse_inverts : {A : Type 0} (b : Bool) (code place : ℕ) (rest : Outcome A) {a : A} → cond b (refuse code place) rest ≡ answer a → (b ≡ false) × (rest ≡ answer a)
cond_refuse_inverts true code place rest e = absurd (answer_not_refusal e refl)
cond_refuse_inverts false code place rest e = (refl, e)

pub fitting_inverts : {A : Type 0} (b : Bool) (code place : ℕ) (rest : Outcome A) {a : A} → cond b rest (refuse code place) ≡ answer a → (b ≡ true) × (rest ≡ answer a)
fitting_inverts true code place rest e = (refl, e)
fitting_inverts false code place rest e = absurd (answer_not_refusal e refl)

pub part_end_at_inverts : (s : Space) (o : Option ℕ) → part_end_at s o ≡ none → o ≡ none
part_end_at_inverts s none e = refl
part_end_at_inverts s (some i) e = absurd (some_not_none refl e)

-- a check that answers gives the space itself
pub checked_inverts : (s : Space) {s' : Space} → checked s ≡ answer s' → (s ≡ s') × Checked s
unfolding checked checked_entries
checked_inverts s {s'} e = finish (fitting_inverts (lengths_fit s) 2 0 _ e)
  where
    after_orders : Outcome Space
    after_orders = refuse_first 15 (first (segments s) (too_many_segments s)) (answer s)

    after_degrees : Outcome Space
    after_degrees = refuse_first 5 (first (segments s - 1) (bad_order s)) after_orders

    after_spans : Outcome Space
    after_spans = refuse_first 4 (first (segments s) (bad_degree s)) after_degrees

    after_breaks : Outcome Space
    after_breaks = refuse_first 3 (part_end_at s (first (segments s) (span_too_long s))) after_spans

    finish : (lengths_fit s ≡ true) × (refuse_first 3 (first (segments s + 1) (bad_break s)) after_breaks ≡ answer s') → (s ≡ s') × Checked s
    finish p =
        let a = refuse_first_inverts 3 (first (segments s + 1) (bad_break s)) after_breaks p.1 in
        let b = refuse_first_inverts 3 (part_end_at s (first (segments s) (span_too_long s))) after_spans a.1 in
        let c = refuse_first_inverts 4 (first (segments s) (bad_degree s)) after_degrees b.1 in
        let d = refuse_first_inverts 5 (first (segments s - 1) (bad_order s)) after_orders c.1 in
        let f = refuse_first_inverts 15 (first (segments s) (too_many_segments s)) (answer s) d.1 in (
          answer_unique refl f.1,
          record {
            lengths = p.0;
            breaks = first-none_inverts (bad_break s) (segments s + 1) a.0;
            spans = first-none_inverts (span_too_long s) (segments s) (part_end_at_inverts s (first (segments s) (span_too_long s)) b.0);
            degrees = first-none_inverts (bad_degree s) (segments s) c.0;
            orders = first-none_inverts (bad_order s) (segments s - 1) d.0;
            few = first-none_inverts (too_many_segments s) (segments s) f.0;
          },
        )

-- what holds of the code of a test holds of the code of its refusal, where it refuses by itself or before the rest
module _ (P : ℕ → Type 0) where
  pub refusal-code : {A : Type 0} (n p : ℕ) {code place : ℕ} → P n → ◌≡◌ {A = Outcome A} (refuse n p) (refusal code place) → P code
  refusal-code n p {code} h r = let z : n ≡ code = cc in subst P z h

  pub first_code : {A : Type 0} (n : ℕ) (o : Option ℕ) (rest : Outcome A) {code place : ℕ} → P n → (rest ≡ refusal code place → P code) → refuse_first n o rest ≡ refusal code place → P code
  first_code n none rest h later r = later r
  first_code n (some i) rest h later r = refusal-code n i h r

-- numbers that do not clear the buffers
pub keeping_refusal : {A : Type 0} (n p : ℕ) {code place : ℕ} → clears n ≡ false → ◌≡◌ {A = Outcome A} (refuse n p) (refusal code place) → clears code ≡ false
keeping_refusal n p h r = refusal-code (λ k. clears k ≡ false) n p h r

pub keeping_first : {A : Type 0} (n : ℕ) (o : Option ℕ) (rest : Outcome A) {code place : ℕ} → clears n ≡ false → (rest ≡ refusal code place → clears code ≡ false)
    → refuse_first n o rest ≡ refusal code place → clears code ≡ false
keeping_first n o rest h later r = first_code (λ k. clears k ≡ false) n o rest h later r

-- and a space of which each test leaves its fact is the answer
pub checked-passes : (s : Space) → Checked s → checked s ≡ answer s
unfolding checked checked_entries
checked-passes s c =
    ap (λ b. cond b (checked_entries s) (refuse 2 0)) c.lengths
    ∙ pass 3 (first-none (bad_break s) (segments s + 1) c.breaks)
    ∙ pass 3 (ap (part_end_at s) (first-none (span_too_long s) (segments s) c.spans))
    ∙ pass 4 (first-none (bad_degree s) (segments s) c.degrees)
    ∙ pass 5 (first-none (bad_order s) (segments s - 1) c.orders)
    ∙ pass 15 (first-none (too_many_segments s) (segments s) c.few)
  where
    pass : (code : ℕ) {o : Option ℕ} {rest : Outcome Space} → o ≡ none → refuse_first code o rest ≡ rest
    pass code {o} {rest} e = ap (λ q. refuse_first code q rest) e

-- what holds of the codes 2 to 5 and 15 holds of the code of a refusal of the checks
pub checked-code : (P : ℕ → Type 0) (s : Space) {code place : ℕ} → P 2 → P 3 → P 4 → P 5 → P 15 → checked s ≡ refusal code place → P code
unfolding checked checked_entries
checked-code P s {code} {place} two three four five fifteen e = fitting (lengths_fit s) e
  where
    fitting : (b : Bool) → cond b (checked_entries s) (refuse 2 0) ≡ refusal code place → P code
    fitting false r = refusal-code P 2 0 two r
    fitting true r =
        first_code P 3 (first (segments s + 1) (bad_break s)) _ three
        (first_code P 3 (part_end_at s (first (segments s) (span_too_long s))) _ three
        (first_code P 4 (first (segments s) (bad_degree s)) _ four
        (first_code P 5 (first (segments s - 1) (bad_order s)) _ five
        (first_code P 15 (first (segments s) (too_many_segments s)) (answer s) fifteen (λ z. absurd (answer_not_refusal refl z))))))
        r

-- the checks give neither 8 nor 9, the numbers that clear the buffers
pub checked_codes : (s : Space) {code place : ℕ} → checked s ≡ refusal code place → clears code ≡ false
checked_codes s e = checked-code (λ k. clears k ≡ false) s refl refl refl refl refl e

-- What the lengths of the three lists are.
pub record Lengths (s : Space) : Type 0 where
  pub some_segment : 1 ≤ segments s
  pub few_segments : segments s ≤ segment_limit
  pub break-count : length s.breaks ≡ segments s + 1
  pub order-count : length s.orders + 1 ≡ segments s

pub lengths_fit_inverts : (s : Space) → lengths_fit s ≡ true → Lengths s
unfolding lengths_fit
lengths_fit_inverts s e =
    let a = and-true (leb 1 (segments s) && leb (segments s) segment_limit && eqb (length s.breaks) (segments s + 1)) (eqb (length s.orders + 1) (segments s)) e in
    let b = and-true (leb 1 (segments s) && leb (segments s) segment_limit) (eqb (length s.breaks) (segments s + 1)) a.0 in
    let d = and-true (leb 1 (segments s)) (leb (segments s) segment_limit) b.0 in
    record {
      some_segment = leb-true 1 (segments s) d.0;
      few_segments = leb-true (segments s) segment_limit d.1;
      break-count = eqb-true (length s.breaks) (segments s + 1) b.1;
      order-count = eqb-true (length s.orders + 1) (segments s) a.1;
    }

-- ---- what an accepted space has passed
pub record Passed (s : Space) (t : Table) : Type 0 where
  pub passes : checked s ≡ answer s
  pub checks : Checked s
  pub weights_are : weights s ≡ answer t

pub accepted-passed : (s : Space) {t : Table} → space_weights s ≡ answer t → Passed s t
unfolding space_weights
accepted-passed s e = let c = then_inverts (checked s) weights e in let d = checked_inverts s c.before in
    record { passes = c.before ∙ ap answer (sym d.0); checks = d.1; weights_are = ap weights d.0 ∙ c.after }

-- The numbers of a space that passes.
pub record Legal (s : Space) : Type 0 where
  pub lengths : Lengths s
  pub positive_width : (i : ℕ) → i < segments s → 0 < width s i
  pub below-left-degree : (j : ℕ) → j < segments s - 1 → condition_count s j ≤ degree s j
  pub below-right-degree : (j : ℕ) → j < segments s - 1 → condition_count s j ≤ degree s (suc j)

-- an order is at least -1 and below each degree: the count of its conditions
count-below : (d o : ℤ) → not (between (pos 1) (pos 5) d) ≡ false → not (between (neg_ℤ (pos 1)) (pos 2) o) ≡ false → le_z d o ≡ false → nat_abs (o +ℤ pos 1) ≤ nat_abs d
count-below d o g e h =
    go d o (≤_out (pos 1) d (between_inverts (pos 1) (pos 5) d g).0) (≤_out (negsuc 0) o (between_inverts (negsuc 0) (pos 2) o e).0) (<_out o d (le_z_false d o h))
  where
    go : (d o : ℤ) → up (pos 1) + dn d ≤ dn (pos 1) + up d → up (negsuc 0) + dn o ≤ dn (negsuc 0) + up o → up o + dn d < dn o + up d → nat_abs (o +ℤ pos 1) ≤ nat_abs d
    go (pos d) (pos n) r p q = omega arith
    go (pos d) (negsuc zero) r p q = omega arith
    go (pos d) (negsuc (suc n)) r p q = absurd (omega arith)
    go (negsuc d) o r p q = absurd (omega arith)

pub good-break_rises : (s : Space) (i : ℕ) → bad_break s (suc i) ≡ false → break s i <ℤ break s (suc i)
unfolding bad_break
good-break_rises s i e = le_z_false (break s (suc i)) (break s i) (or-false (not (between (neg_ℤ (pos 10000)) (pos 10000) (break s (suc i)))) (le_z (break s (suc i)) (break s i)) e).1

width-range : (a b : ℤ) → a <ℤ b → 0 < nat_abs (b -ℤ a)
width-range a b h = omega (arith, <_out a b h, bal_+ b (neg_ℤ a), bal_neg a, abs-parts (b -ℤ a))

pub legal : (s : Space) → Checked s → Legal s
unfolding bad_degree bad_order
legal s c = record {
  lengths = lengths_fit_inverts s c.lengths;
  positive_width = λ i h. width-range (break s i) (break s (suc i)) (good-break_rises s i (c.breaks (suc i) (omega arith)));
  below-left-degree = λ j h. count-below (degree_entry s j) (order s j) (c.degrees j (omega arith)) (tests j h).0 (tests j h).1;
  below-right-degree = λ j h. count-below (degree_entry s (suc j)) (order s j) (c.degrees (suc j) (omega arith)) (tests j h).0 (tests j h).2;
}
  where
    tests : (j : ℕ) → j < segments s - 1 → (not (between (neg_ℤ (pos 1)) (pos 2) (order s j)) ≡ false) × (le_z (degree_entry s j) (order s j) ≡ false) × (le_z (degree_entry s (suc j)) (order s j) ≡ false)
    tests j h =
        let a = or-false (not (between (neg_ℤ (pos 1)) (pos 2) (order s j)) || le_z (degree_entry s j) (order s j)) (le_z (degree_entry s (suc j)) (order s j)) (c.orders j h) in
        let b = or-false (not (between (neg_ℤ (pos 1)) (pos 2) (order s j))) (le_z (degree_entry s j) (order s j)) a.0 in
        (b.0, b.1, a.1)

-- ---- and back: lists that meet every test pass the checks

pub lengths-fit : (s : Space) → Lengths s → lengths_fit s ≡ true
unfolding lengths_fit
lengths-fit s L =
    ap₂ ◌&&◌ (ap₂ ◌&&◌ (ap₂ ◌&&◌ (le-leb 1 (segments s) L.some_segment) (le-leb (segments s) segment_limit L.few_segments))
    (eq-eqb (length s.breaks) (segments s + 1) L.break-count)) (eq-eqb (length s.orders + 1) (segments s) L.order-count)
