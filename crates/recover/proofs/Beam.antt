-- The loop over the parts of a beam, in the definitions' terms. The weights are those of the build, whose law this is: what recovery adds is
-- that the beam's front up to a is answered with coefficients, and that the answer buffers hold all of them. A part that is refused refuses
-- the beam; after the last part the front is the beam.
use mathlib.Core.Path.{◌≡◌, refl, sym, ◌∙◌, ap, ap₂, subst}
use mathlib.Core.List.{List, [], ◌++◌}
use Prim.Native.Nat.{ℕ, ◌+◌, ◌<◌, ◌≤◌}
use native.Mathlib.Omega.{arith}
use lib.IntN.{ℤ, pos}
use lib.ListN.{length, take, drop, length-append, length-drop}
use lib.Seq.{take_all, length-take-le}
use Rattle.std.specs.Prelude.{Err, Ok, Result}
use Rattle.base_outcome.specs.declared.Refusal.{Refusal}
use Rattle.base_outcome.specs.Machine.{refused}
use Rattle.base_exact.specs.Rational.{ℚ}
use Rattle.base_exact.proofs.Decide.{cond_true, clash}
use Rattle.base_exact.proofs.Tabulate.{tab-none}
use Rattle.base_fraction.specs.Fractions.{fractions}
use Rattle.base_outcome.specs.Outcome.{Outcome, answer, refusal, capped}
use Rattle.base_outcome.proofs.Outcome.{answer_unique}
use Rattle.base_outcome.proofs.Reply.{Counted}
use Rattle.spec_spline.specs.Space.{Space, part_end, first_column, column_count, row_count}
use Rattle.spec_spline.specs.Table.{entry, table_cells, numerators, denominators}
use Rattle.spec_spline.specs.Build.{weights}
use Rattle.spec_spline.proofs.Parts.{Boundary, part-ends}
use Rattle.spec_spline.proofs.Legal.{lengths_fit_inverts}
use Rattle.spec_spline.proofs.Space.{first_column_mono}
use Rattle.build_cells.specs.Held.{Kept}
use Rattle.build_cells.specs.Region.{filled}
use Rattle.build_cells.proofs.Buffer.{numerators_cleared, denominators_cleared}
use Rattle.theorems_beams.specs.Sections.{section, part_at}
use Rattle.theorems_beams.specs.Parts.{Starts}
use Rattle.theorems_beams.proofs.Sections.{orders_fit}
use Rattle.theorems_beams.proofs.PartLegal.{parts_are_legal}
use Rattle.theorems_beams.proofs.Fronts as fronts
use Rattle.build_space.specs.Machine.{space}
use Rattle.build_space.specs.Legal.{ListsLegal}
use Rattle.build_space.proofs.Legal.{legal_checked, part-column-count-high}
use Rattle.build.proofs.Beam as built
use Rattle.spec_calls.specs.Recovery.{Combination, recovered}
use Rattle.spec_calls.specs.RecoveryCall.{listed, numerator_of, denominator_of}
use Rattle.theorems_recovery.proofs.Reproduction.{answers_have_the_weights}
use Rattle.theorems_recovery.proofs.Refusals.{recovered-clears}
use Rattle.theorems_recovery.proofs.Fronts.{no_front, front-answers, front-refuses, refused_front}
use Rattle.recover_joins.specs.Leaves.{JoinsLeave}
use Rattle.recover.specs.Leaves.{BeamEnds}
use Rattle.recover_joins.specs.declared.Joined.{Joined}
use Rattle.recover.proofs.Listed.{rest_cleared, all_cleared, zero_numerator, zero_denominator}

-- ---- what the machine's answer of a part says of its outcome

module _ (n : ℕ) (num den num' den' : List ℤ) where
  -- an answer counts its rows
  pub part_answered : (o : Outcome Combination) (r : Result Joined Refusal) {j : Joined} → JoinsLeave o n r num den num' den' → r ≡ Ok j
      → Counted (λ _. n) o j.rows
  part_answered (answer q) r {j} left e = record { result = q; is = refl; count = (let z : j ≡ record { rows = n; of = fractions q.coefficients } = cc (e, left.0) in ap (λ (x : Joined). x.rows) z) }
  part_answered (refusal code place) r left e = absurd (clash (cc (e, left.0)))

  -- and its coefficients are those of the rows
  pub part_coefficients : (q : Combination) (r : Result Joined Refusal) {j : Joined} → JoinsLeave (answer q) n r num den num' den' → r ≡ Ok j
      → j.of ≡ fractions q.coefficients
  part_coefficients q r {j} left e = let z : j ≡ record { rows = n; of = fractions q.coefficients } = cc (e, left.0) in ap (λ (x : Joined). x.of) z

  -- a refusal is the outcome's
  pub part_stopped : (o : Outcome Combination) (r : Result Joined Refusal) {e : Refusal} → JoinsLeave o n r num den num' den' → r ≡ Err e
      → o ≡ refusal e.code e.place
  part_stopped (answer q) r left e = absurd (clash (cc (e, left.0)))
  part_stopped (refusal code place) r {e} left h =
      let z : refused code place ≡ e = cc (h, left.0) in ap (λ (x : Refusal). refusal x.code x.place) z

-- ---- the parts of a beam

-- The parts before segment a are recovered: they are built, and their coefficients are in the answer buffers.
pub record Before (s : Space) (ordinates num₀ den₀ coef_num₀ coef_den₀ num den coef_num coef_den : List ℤ) (rows a : ℕ) : Type 0 where
  pub state : built.Before s num₀ den₀ num den rows a
  pub coefficients : List ℚ
  pub answers : recovered (section s 0 a) (take (first_column s a) ordinates) ≡ answer (record { table = state.table; coefficients = coefficients })
  pub count : length coefficients ≡ rows
  pub coef_num_is : coef_num ≡ listed numerator_of rows coefficients coef_num₀
  pub coef_den_is : coef_den ≡ listed denominator_of rows coefficients coef_den₀

pub before-first : (s : Space) (ordinates num den coef_num coef_den : List ℤ) → Before s ordinates num den coef_num coef_den num den coef_num coef_den 0 0
unfolding first_column
before-first s ordinates num den coef_num coef_den =
    let x = built.before-first s num den in
    record {
      state = x;
      coefficients = [];
      answers = no_front s ∙ ap (λ t. answer (record { table = t; coefficients = [] })) (answer_unique (fronts.no_front s) x.answers);
      count = refl;
      coef_num_is = tab-none (λ k. numerator_of (entry [] k)) coef_num;
      coef_den_is = tab-none (λ k. denominator_of (entry [] k)) coef_den;
    }

module _ (b d o : List ℤ) (legal : ListsLegal b d o) (ordinates : List ℤ) (size : length ordinates ≡ column_count (space b d o)) where
  abbrev s : Space
  s = space b d o

  -- a front has no more rows than the beam has columns
  front-within : (a : ℕ) → Boundary s a → row_count (section s 0 a) ≤ length ordinates
  front-within a h =
      let x = built.checks b d o legal in
      omega (arith, size, fronts.front-rows-within s (lengths_fit_inverts s x.lengths) (orders_fit s x) a h)

  module _ {num₀ den₀ coef_num₀ coef_den₀ num den coef_num coef_den : List ℤ} {rows a : ℕ}
      (st : Before s ordinates num₀ den₀ coef_num₀ coef_den₀ num den coef_num coef_den rows a) where
    abbrev Ends : Outcome Combination → Result ℕ Refusal → List ℤ → List ℤ → List ℤ → List ℤ → Type 0
    Ends o' r num' den' coef_num' coef_den' = BeamEnds s (length ordinates) o' r num₀ den₀ coef_num₀ coef_den₀ num' den' coef_num' coef_den'

    pub rows-within : rows ≤ length ordinates
    rows-within = omega (arith, st.state.rows_are, front-within a st.state.boundary)

    module _ (l : a < length d) where
      pub starts : Starts s a
      starts = built.starts b d o legal st.state l

      abbrev part : Space
      part = part_at s a

      -- the part's own ordinates
      abbrev own : List ℤ
      own = take (column_count part) (drop (first_column s a) ordinates)

      own-size : length own ≡ column_count part
      own-size =
          length-take-le (column_count part) (drop (first_column s a) ordinates)
          (omega (
            arith,
            size,
            length-drop (first_column s a) ordinates,
            fronts.part-columns s (orders_fit s (built.checks b d o legal)) a starts,
            first_column_mono s (part_end s a) (length d) (part-ends s a l).boundary.within,
          ))

      pub part-rows : row_count part ≤ 72
      part-rows = omega (arith, part-column-count-high part.breaks part.degrees part.orders (built.part_legal b d o legal a starts))

      -- a part that is answered
      module _ {q : Combination} (e : recovered part own ≡ answer q) where
        -- it has the weights, and a coefficient for each row
        has : (weights part ≡ answer q.table) × (length q.coefficients ≡ row_count part)
        has = answers_have_the_weights part (parts_are_legal s (legal_checked b d o legal) a starts) own own-size q e

        pub part_count : length q.coefficients ≡ row_count part
        part_count = has.1

        module _ {num' den' : List ℤ} (p : num' ≡ numerators q.table num) (p' : den' ≡ denominators q.table den) where
          built_more : built.Before s num₀ den₀ num' den' (rows + row_count part) (part_end s a)
          built_more = built.part-laid b d o legal st.state l has.0 p p'

          pub more_within : rows + row_count part ≤ length ordinates
          more_within = omega (arith, built_more.rows_are, front-within (part_end s a) built_more.boundary)

          -- one part more
          abbrev all : List ℚ
          all = st.coefficients ++ q.coefficients

          pub part_more : {n end : ℕ} {coef_num' coef_den' : List ℤ} → n ≡ row_count part → end ≡ part_end s a
              → coef_num' ≡ listed numerator_of (rows + n) all coef_num₀ → coef_den' ≡ listed denominator_of (rows + n) all coef_den₀
              → Before s ordinates num₀ den₀ coef_num₀ coef_den₀ num' den' coef_num' coef_den' (rows + n) end
          part_more counted ends u v = rw (counted, ends) (record {
            state = built_more;
            coefficients = all;
            answers = front-answers s (orders_fit s (built.checks b d o legal)) a starts ordinates size st.answers e
                ∙ ap (λ t. answer (record { table = t; coefficients = all }))
                (built.both_is b d o legal st.state l has.0 built_more.table built_more.answers);
            count = length-append st.coefficients q.coefficients ∙ omega (arith, st.count, part_count);
            coef_num_is = rw counted at u;
            coef_den_is = rw counted at v;
          })

      -- a part that is refused
      pub part_refused : {code place at : ℕ} {num' den' num'' den'' coef_num'' coef_den'' : List ℤ} → at ≡ capped (a + place)
          → recovered part own ≡ refusal code place
          → table_cells ≤ length num → table_cells ≤ length den → length ordinates ≤ length coef_num₀ → length ordinates ≤ length coef_den₀
          → Kept num num' → Kept den den' → num'' ≡ filled 0 table_cells (pos 0) num' → den'' ≡ filled 0 table_cells (pos 1) den'
          → coef_num'' ≡ filled 0 (length ordinates) (pos 0) coef_num → coef_den'' ≡ filled 0 (length ordinates) (pos 1) coef_den
          → Ends (recovered s ordinates) (Err (refused code at)) num'' den'' coef_num'' coef_den''
      part_refused {code} {place} {at} {num'} {den'} {num''} {den''} {coef_num''} {coef_den''} placed e long long' room room' k k' p q u v =
          let x = built.checks b d o legal in
          let told = recovered-clears part own code place e in
          subst (λ o'. Ends o' (Err (refused code at)) num'' den'' coef_num'' coef_den'')
          (sym (refused_front s x (part_end s a) (part-ends s a l).boundary ordinates size
          (front-refuses s (orders_fit s x) a starts ordinates size st.answers e)))
          (record {
            answers = ap (refusal code) placed;
            numerators_are = p ∙ numerators_cleared num num' long k ∙ st.state.num_laid.over [] ∙ sym (cond_true _ _ told);
            denominators_are = q ∙ denominators_cleared den den' long' k' ∙ st.state.den-laid.over [] ∙ sym (cond_true _ _ told);
            coefficient-numerators_are = u
                ∙ all_cleared numerator_of zero_numerator st.coefficients coef_num₀ rows-within room st.coef_num_is ∙ sym (cond_true _ _ told);
            coefficient-denominators_are = v
                ∙ all_cleared denominator_of zero_denominator st.coefficients coef_den₀ rows-within room' st.coef_den_is ∙ sym (cond_true _ _ told);
          })

    -- after the last part
    pub parts_done : length d ≤ a → length ordinates ≤ length coef_num₀ → length ordinates ≤ length coef_den₀ → {coef_num'' coef_den'' : List ℤ}
        → coef_num'' ≡ filled rows (length ordinates) (pos 0) coef_num → coef_den'' ≡ filled rows (length ordinates) (pos 1) coef_den
        → Ends (recovered s ordinates) (Ok rows) num den coef_num'' coef_den''
    parts_done l room room' {coef_num''} {coef_den''} u v =
        let w = built.parts_whole b d o legal st.state l in
        let all : a ≡ length d = omega (arith, st.state.boundary.within) in
        subst (λ o'. Ends o' (Ok rows) num den coef_num'' coef_den'')
        (sym (ap₂ recovered (sym w.front) (sym (take_all (first_column s a) ordinates (omega (arith, size, ap (first_column s) all)))) ∙ st.answers))
        (record {
          answers = ap answer w.rows_are;
          numerators_are = w.num_is;
          denominators_are = w.den_is;
          coefficient-numerators_are = u ∙ rest_cleared numerator_of zero_numerator st.coefficients coef_num₀ st.count rows-within room st.coef_num_is;
          coefficient-denominators_are = v
              ∙ rest_cleared denominator_of zero_denominator st.coefficients coef_den₀ st.count rows-within room' st.coef_den_is;
        })
