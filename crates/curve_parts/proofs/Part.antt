-- One part of a beam: its lists as middle parts of the beam's, what building it leaves, and its ordinates from the coefficients
-- of its own rows.
use mathlib.Core.Path.{◌≡◌, sym, ◌∙◌, ap, ap₂, subst}
use mathlib.Core.Logic.{◌⊎◌, inl, inr}
use mathlib.Core.List.{List, ◌++◌, append-nil}
use Prim.Native.Nat.{ℕ, ◌+◌, ◌*◌, ◌-◌, ◌<◌, ◌≤◌}
use native.Mathlib.Omega.{arith}
use lib.IntN.{ℤ, pos, nat_abs}
use lib.ListN.{length, get_or, take, drop, length-drop, drop_of_length-le, get_or-eq_default}
use lib.Seq.{length-take-le, get_or-take, get_or-drop}
use Rattle.std.specs.Prelude.{Err, Ok, Result}
use Rattle.base_outcome.specs.declared.Refusal.{Refusal}
use Rattle.base_exact.specs.Tabulate.{tab}
use Rattle.base_exact.proofs.Decide.{le_or_lt}
use Rattle.base_exact.proofs.Tabulate.{tab_ext}
use Rattle.base_outcome.specs.Outcome.{answer, refusal, with_answer}
use Rattle.spec_spline.specs.Space.{Space, checked, column_count, row_count}
use Rattle.spec_spline.specs.Table.{Table, row_cells, numerators, denominators}
use Rattle.spec_spline.specs.Build.{weights, space_weights, last_part, built, numerators_after, denominators_after, build_end}
use Rattle.spec_spline.specs.Reading.{Wood, earlywood, latewood, coefficient, ordinate, ordinates}
use Rattle.base_outcome.proofs.Outcome.{then_answers, answer_not_refusal}
use Rattle.theorems_values.proofs.Weights.{weight_num_le_den}
use Rattle.theorems_beams.specs.Sections.{part_at}
use Rattle.theorems_beams.proofs.PartLegal.{part-last_part, parts_are_legal}
use Rattle.theorems_beams.proofs.Reading.{ordinate-agree, coefficient_middle}
use Rattle.build_space.specs.Machine.{space}
use Rattle.build_space.proofs.Legal.{legal_checked, legal_column-count-high, legal_row-count-sum, part-column-count-high}
use Rattle.build_cells.specs.Held.{Holds}
use Rattle.build_cells.proofs.Buffer.{holds-left}
use Rattle.base_outcome.specs.Machine.{reply}
use Rattle.build.proofs.Building.{built-weights}
use Rattle.build_step.proofs.Stepped.{Proper, weights_proper}
use Rattle.base_outcome.proofs.Reply.{Counted, count_inverts, refused_inverts}
use Rattle.build.proofs.Beam.{slices_are, part_legal}
use Rattle.curve_ordinates.specs.Ordinates.{Weighs, Coefficients}
use Rattle.curve_parts.specs.Parts.{lent, TableRoom, PartOf, PartsLeave}

-- ---- the coefficients of the n rows from one on

-- as a middle part of the beam's
abbrev pub rows_from : ℕ → ℕ → List ℤ → List ℤ
rows_from row n coefs = take (2 * (row + n) - 2 * row) (drop (2 * row) coefs)

pub middle_coefficients : (coefs : List ℤ) (all row n : ℕ) → Coefficients coefs all → row + n ≤ all → Coefficients (rows_from row n coefs) n
middle_coefficients coefs all row n g h = record { count = size; small = λ i. small i (le_or_lt (2 * n) i) }
  where
    size : length (rows_from row n coefs) ≡ 2 * n
    size =
        length-take-le (2 * (row + n) - 2 * row) (drop (2 * row) coefs) (rw (length-drop (2 * row) coefs) (omega (arith, g.count)))
        ∙ omega arith

    small : (i : ℕ) → (2 * n ≤ i) ⊎ (i < 2 * n) → nat_abs (get_or (rows_from row n coefs) i (pos 0)) ≤ 1000000
    small i (inl l) = rw (get_or-eq_default (rows_from row n coefs) (pos 0) {n = i} (omega (arith, size))) (omega arith)
    small i (inr l) =
        rw (get_or-take (2 * (row + n) - 2 * row) (drop (2 * row) coefs) i (pos 0) (omega arith), get_or-drop (2 * row) coefs i (pos 0))
        (g.small (2 * row + i))

-- the ordinates with them are those with the beam's coefficients
pub middle_ordinates : (s : Space) (t : Table) (wood : Wood) (coefs os : List ℤ) (row n : ℕ) → length t ≡ n → length os ≡ column_count s
    → tab (length os) (ordinate t (coefficient wood (rows_from row n coefs)))
    ≡ ordinates s t (λ i. coefficient wood coefs (row + i)) ++ drop (column_count s) os
unfolding ordinates
middle_ordinates s t wood coefs os row n rows columns =
    ap₂ (λ k m. tab k (ordinate t (coefficient wood (take m (drop (2 * row) coefs))))) columns same_count
    ∙ tab_ext (column_count s) (λ c _. ordinate-agree t _ own c (λ i l. coefficient_middle wood coefs row n i (omega arith)))
    ∙ sym (append-nil _)
    ∙ ap (λ r. tab (column_count s) (ordinate t own) ++ r) (sym (drop_of_length-le os {i = column_count s} (omega arith)))
  where
    own : ℕ → ℤ
    own i = coefficient wood coefs (row + i)

    same_count : 2 * (row + n) - 2 * row ≡ 2 * n
    same_count = omega arith

-- ---- the part from segment a up to segment e

-- Building a space in two buffers ends with this answer and these contents.
abbrev BuiltAs : Result ℕ Refusal → List ℤ → List ℤ → List ℤ → List ℤ → Space → Type 0
BuiltAs r num den num' den' s = let e = build_end s num den in
    (reply r ≡ e.answers) × ((num' ≡ e.numerators) × (den' ≡ e.denominators))

module _ (s : Space) (a e : ℕ) (p : PartOf s a e) where
  abbrev part : Space
  part = part_at s a

  -- the beam has few rows
  pub beam-rows_few : row_count s ≤ 288
  beam-rows_few = omega (arith, legal_row-count-sum _ _ _ p.legal, legal_column-count-high _ _ _ p.legal)

  -- its three lists
  abbrev pub own_lists : Space
  own_lists = space (take (e + 1 - a) (drop a s.breaks)) (take (e - a) (drop a s.degrees)) (take (e - 1 - a) (drop a s.orders))

  own_lists_are : own_lists ≡ part
  own_lists_are = slices_are _ _ _ p.legal p.starts p.ends

  part-checked : checked part ≡ answer part
  part-checked = parts_are_legal s (legal_checked _ _ _ p.legal) a p.starts

  pub part-columns_few : column_count part ≤ row_cells
  part-columns_few = part-column-count-high part.breaks part.degrees part.orders (part_legal _ _ _ p.legal a p.starts)

  module _ (num den early late : List ℤ) (room : TableRoom (lent num den early late)) (r : Result ℕ Refusal) {num' den' : List ℤ}
      (ends : BuiltAs r num den num' den' own_lists) where
    -- what building the part leaves, in terms of its weights
    whole : BuiltAs r num den num' den' part
    whole = subst (BuiltAs r num den num' den') own_lists_are ends

    built_is : built part (length num) (length den) ≡ weights part
    built_is = built-weights part (length num) (length den) room.num_long room.den_long part-checked

    part-answers : reply r ≡ with_answer (λ _. row_count part) (weights part)
    part-answers = whole.0 ∙ ap (with_answer (λ _. row_count part)) built_is

    part-numerators : num' ≡ numerators_after (with_answer (last_part part) (weights part)) num
    part-numerators = whole.1.0 ∙ ap (λ x. numerators_after (with_answer (last_part part) x) num) built_is

    part-denominators : den' ≡ denominators_after (with_answer (last_part part) (weights part)) den
    part-denominators = whole.1.1 ∙ ap (λ x. denominators_after (with_answer (last_part part) x) den) built_is

    -- the buffers hold its weights
    module _ {t : Table} (w : weights part ≡ answer t) where
      proper : Proper t (row_count part) (column_count part)
      proper = weights_proper part part-columns_few w

      numerators-held : num' ≡ numerators t num
      unfolding numerators_after
      numerators-held =
          part-numerators
          ∙ ap (λ x. numerators_after (with_answer (last_part part) x) num) w
          ∙ ap (λ u. numerators u num) (part-last_part s a p.starts t)

      denominators-held : den' ≡ denominators t den
      unfolding denominators_after
      denominators-held =
          part-denominators
          ∙ ap (λ x. denominators_after (with_answer (last_part part) x) den) w
          ∙ ap (λ u. denominators u den) (part-last_part s a p.starts t)

      held : Holds num' den' t
      held = holds-left num den t room.num_long room.den_long numerators-held denominators-held proper.fit

      weighs : Weighs num' den' (row_count part)
      unfolding space_weights
      weighs = record {
        table = t;
        holds = held;
        rows = proper.shaped.row_count_lem;
        few = proper.shaped.rows_fit;
        unit = λ i c. weight_num_le_den part (record { table = t; is = then_answers weights part-checked ∙ w }) i c;
      }

    -- it is built, with n rows
    module _ {n : ℕ} (told : r ≡ Ok n) where
      answered : Counted (λ _. row_count part) (weights part) n
      answered = count_inverts (λ _. row_count part) (weights part) (ap reply (sym told) ∙ part-answers)

      pub rows_told : n ≡ row_count part
      rows_told = answered.count

      pub weighs_rows : Weighs num' den' n
      weighs_rows = subst (Weighs num' den') (sym answered.count) (weighs answered.is)

      -- the ordinates of a wood part in a list of the part's columns, as they are worked out from the buffers
      abbrev WorkedOut : Wood → List ℤ → ℕ → List ℤ → List ℤ → Type 0
      WorkedOut wood coefs row os os' = (t : Table) → Holds num' den' t → length t ≡ n
          → os' ≡ tab (length os) (ordinate t (coefficient wood (rows_from row n coefs)))

      pub leaves_rows : (coefs : List ℤ) (row : ℕ) {early' late' : List ℤ} → length early ≡ column_count part
          → length late ≡ column_count part
          → WorkedOut earlywood coefs row early early' → WorkedOut latewood coefs row late late'
          → PartsLeave part (λ wood i. coefficient wood coefs (row + i)) (Ok n) (lent num den early late) (lent num' den' early' late')
      leaves_rows coefs row l m worked worked' = record {
        answers = ap reply (sym told) ∙ part-answers;
        numerators_are = part-numerators;
        denominators_are = part-denominators;
        early_is = λ t w. worked t (held w) (size w) ∙ middle_ordinates part t earlywood coefs early row n (size w) l;
        late_is = λ t w. worked' t (held w) (size w) ∙ middle_ordinates part t latewood coefs late row n (size w) m;
      }
        where
          size : {t : Table} → weights part ≡ answer t → length t ≡ n
          size w = (proper w).shaped.row_count_lem ∙ sym answered.count

    -- it is refused
    pub leaves_refused : {e : Refusal} (coefs : Wood → ℕ → ℤ) {early' late' : List ℤ} → r ≡ Err e
        → PartsLeave part coefs (Err e) (lent num den early late) (lent num' den' early' late')
    leaves_refused {e} coefs told = record {
      answers = answers;
      numerators_are = part-numerators;
      denominators_are = part-denominators;
      early_is = λ t x. absurd (answer_not_refusal x refused);
      late_is = λ t x. absurd (answer_not_refusal x refused);
    }
      where
        answers : refusal e.code e.place ≡ with_answer (λ _. row_count part) (weights part)
        answers = ap reply (sym told) ∙ part-answers

        refused : weights part ≡ refusal e.code e.place
        refused = refused_inverts (λ _. row_count part) (weights part) answers
