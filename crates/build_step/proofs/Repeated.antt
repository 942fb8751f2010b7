-- Going on turn by turn: over the orders at a join and over the joins of a part, with and without a number for each row. A turn works
-- on what has come in of a state; the buffers hold that part's table, and the state of the definitions is the whole.
use mathlib.Core.Path.{◌≡◌, sym, ◌∙◌, ap, subst}
use mathlib.Core.List.{List}
use Prim.Native.Nat.{ℕ, suc, ◌+◌, ◌<◌, ◌≤◌}
use native.Mathlib.Numerals.{add-one}
use lib.IntN.{ℤ}
use lib.ListN.{length}
use Rattle.base_outcome.specs.Outcome.{Outcome, answer, refusal, with_answer, repeat}
use Rattle.base_outcome.proofs.Outcome.{repeat_more, repeat_stops}
use Rattle.spec_spline.specs.Table.{Table, table_cells, numerators, denominators}
use Rattle.build_cells.specs.Held.{Holds, Kept}
use Rattle.build_cells.proofs.Buffer.{holds-left, kept_then, kept-numerators, kept-denominators, numerators-again, denominators-again}
use Rattle.build_cells.specs.Left.{Left}
use Rattle.build_cells.proofs.Left.{Done, Halted, left-answer, left-refusal}
use Rattle.build_step.proofs.Stepped.{TableFits}

-- The turns of a loop over the definitions' state: `step` is a turn on the whole of it, `work` the same on what has come in.
pub record Turns (A : Type 0) : Type 1 where
  pub table : A → Table
  pub first : A
  pub count : ℕ
  pub step : ℕ → A → Outcome A
  pub work : ℕ → A → Outcome A
  pub whole : ℕ → A → A
  pub Sound : ℕ → A → Type 0
  pub fits : (k : ℕ) (a : A) → Sound k a → TableFits (table a)
  pub turn : (k : ℕ) (a : A) → k < count → Sound k a → step k (whole k a) ≡ with_answer (whole (suc k)) (work k a)
  pub keeps : (k : ℕ) (a b : A) → k < count → Sound k a → work k a ≡ answer b → Sound (suc k) b

module _ {A : Type 0} (turns : Turns A) (num₀ den₀ : List ℤ) where
  -- the turns below k are answered, and the buffers hold the table of what has come in
  pub record State (num den : List ℤ) (k : ℕ) : Type 0 where
    pub reached : A
    pub answers : repeat k turns.step turns.first ≡ answer (turns.whole k reached)
    pub sound : turns.Sound k reached
    pub num_is : num ≡ numerators (turns.table reached) num₀
    pub den_is : den ≡ denominators (turns.table reached) den₀

  module _ (long : table_cells ≤ length num₀) (long' : table_cells ≤ length den₀) {num den : List ℤ} {k : ℕ} (st : State num den k) where
    pub holds : Holds num den (turns.table st.reached)
    holds = holds-left num₀ den₀ (turns.table st.reached) long long' st.num_is st.den_is (turns.fits k st.reached st.sound)

    module _ (l : k < turns.count) {R : Type 0} {told : Outcome A → R} {num' den' : List ℤ} {r : R} where
      -- the turn is done: one more
      abbrev pub goes_on_lem : (d : Done turns.table told num den num' den' (turns.work k st.reached) r) → State num' den' (k + 1)
      goes_on_lem d = record {
        reached = d.reached;
        answers =
            ap (λ n. repeat n turns.step turns.first) (add-one k)
            ∙ repeat_more k turns.step turns.first st.answers
            ∙ turns.turn k st.reached l st.sound
            ∙ ap (with_answer (turns.whole (suc k))) d.answers
            ∙ ap (λ n. answer (turns.whole n d.reached)) (sym (add-one k));
        sound = subst (λ n. turns.Sound n d.reached) (sym (add-one k)) (turns.keeps k st.reached d.reached l st.sound d.answers);
        num_is = d.num_is ∙ ap (numerators (turns.table d.reached)) st.num_is ∙ numerators-again (turns.table d.reached) (turns.table st.reached) num₀;
        den_is = d.den_is ∙ ap (denominators (turns.table d.reached)) st.den_is ∙ denominators-again (turns.table d.reached) (turns.table st.reached) den₀;
      }

      -- it is refused: so are all
      pub ends : {R' : Type 0} (told' : Outcome A → R') {r' : R'} (h : Halted turns.table told num den num' den' (turns.work k st.reached) r)
          → r' ≡ told' (refusal h.code h.place) → Left turns.table told' (repeat turns.count turns.step turns.first) r' num₀ den₀ num' den'
      ends told' h e = left-refusal turns.table told' num₀ den₀ num' den'
          (repeat_stops turns.count k turns.step turns.first l st.answers (turns.turn k st.reached l st.sound ∙ ap (with_answer (turns.whole (suc k))) h.refuses))
          e
          (kept_then (subst (Kept num₀) (sym st.num_is) (kept-numerators (turns.table st.reached) num₀ long)) h.num_kept)
          (kept_then (subst (Kept den₀) (sym st.den_is) (kept-denominators (turns.table st.reached) den₀ long')) h.den-kept)

  -- after the last turn, when all has come in
  pub all_done : {R : Type 0} (told : Outcome A → R) {num den : List ℤ} {r : R} {k : ℕ} (st : State num den k) → k ≡ turns.count → turns.whole k st.reached ≡ st.reached
      → r ≡ told (answer st.reached) → Left turns.table told (repeat turns.count turns.step turns.first) r num₀ den₀ num den
  all_done told {num} {den} st last all e =
      left-answer turns.table told num₀ den₀ num den (ap (λ n. repeat n turns.step turns.first) (sym last) ∙ st.answers ∙ ap answer all) e st.num_is st.den_is
