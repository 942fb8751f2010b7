-- Calls that recover coefficients (§ 12) and what they end with, as one table; its statement is proved by
-- computation in proofs/Cases. Each refusal of § 12 has a line, and each kind of fraction that can be too large.
use Rattle.std.specs.Prelude.{◌≡◌, List, [], ◌∷◌, map, ◌++◌, ℕ, suc, ◌-◌, ℤ, pos, neg_ℤ, length}
use Rattle.base_exact.specs.Tabulate.{tab}
use Rattle.base_outcome.specs.Outcome.{Outcome, answer, refusal, with_answer}
use Rattle.spec_spline.specs.Space.{Space, row_count}
use Rattle.spec_spline.specs.Table.{table_cells}
use Rattle.spec_spline.specs.Cases.{Every, space, space1, space9, upper_limit_space}
use Rattle.spec_calls.specs.RecoveryCall.{recovery_outcome, answers_after, numerator_of, denominator_of}

-- What a call shows: its answer and both answer buffers.
pub record Shown : Type 0 where
  pub answers : Outcome ℕ
  pub numerators : List ℤ
  pub denominators : List ℤ

-- The number that stands in the answer buffers' cells before a call.
abbrev pub old : ℤ
old = pos 7

-- An answer buffer before a call with these ordinates: one cell more than they need.
abbrev pub lent : List ℤ → List ℤ
lent ordinates = tab (suc (length ordinates)) (λ k. old)

-- What the definitions say of a call with these buffers and weight buffers just long enough.
unfoldable pub shown : Space → List ℤ → Shown
shown s ordinates =
    let o = recovery_outcome s ordinates table_cells table_cells (suc (length ordinates)) (suc (length ordinates)) in
    record {
      answers = with_answer (λ _. row_count s) o;
      numerators = answers_after numerator_of (length ordinates) o (lent ordinates);
      denominators = answers_after denominator_of (length ordinates) o (lent ordinates);
    }

-- One line of the table.
pub record Case : Type 0 where
  pub space : Space
  pub ordinates : List ℤ
  pub ends : Shown

-- An answer with these cells before the last one, which is left as it was.
abbrev pub recovers : Space → List ℤ → ℕ → List ℤ → List ℕ → Case
recovers s ordinates n numerators denominators =
    record {
      space = s;
      ordinates = ordinates;
      ends = record {
        answers = answer n;
        numerators = numerators ++ (old ∷ []);
        denominators = map pos denominators ++ (old ∷ []);
      };
    }

-- A refusal after building has begun: 0/1 in a cell for each ordinate.
abbrev pub clears : Space → List ℤ → ℕ → ℕ → Case
clears s ordinates code place =
    record {
      space = s;
      ordinates = ordinates;
      ends = record {
        answers = refusal code place;
        numerators = map (λ z. pos 0) ordinates ++ (old ∷ []);
        denominators = map (λ z. pos 1) ordinates ++ (old ∷ []);
      };
    }

-- A refusal before it: all is as it was.
abbrev pub keeps : Space → List ℤ → ℕ → ℕ → Case
keeps s ordinates code place =
    record {
      space = s;
      ordinates = ordinates;
      ends = record {
        answers = refusal code place;
        numerators = lent ordinates;
        denominators = lent ordinates;
      };
    }

-- ---- the spaces that no other table has

-- Two segments of these lengths and degrees, and this order between them.
abbrev pub joined : ℕ → ℕ → ℕ → ℕ → ℕ → Space
joined a end p q order = space (0 ∷ a ∷ end ∷ []) (p ∷ q ∷ []) (pos order ∷ [])

-- A beam: W1's space and, after a discontinuity, two segments of degree 1 with an order of 0.
abbrev pub beam : Space
beam = space (0 ∷ 1 ∷ 3 ∷ 4 ∷ 5 ∷ []) (2 ∷ 2 ∷ 1 ∷ 1 ∷ []) (pos 1 ∷ neg_ℤ (pos 1) ∷ pos 0 ∷ [])

-- ---- the table

unfoldable pub cases : List Case
cases =
    -- W1's coefficients 0, 100, 0, 0, times 3 as its ordinates have thirds
    recovers space1 (pos 0 ∷ pos 300 ∷ pos 200 ∷ pos 200 ∷ pos 0 ∷ pos 0 ∷ []) 4 (pos 0 ∷ pos 300 ∷ pos 0 ∷ pos 0 ∷ pos 0 ∷ pos 0 ∷ [])
    (1 ∷ 1 ∷ 1 ∷ 1 ∷ 1 ∷ 1 ∷ []) ∷
    -- 256 times 0, 1, 3, 0: the curve call rounds the ordinate of the join to 258
    recovers upper_limit_space (pos 0 ∷ pos 256 ∷ pos 257 ∷ pos 257 ∷ pos 768 ∷ pos 0 ∷ []) 4
    (pos 0 ∷ pos 256 ∷ pos 768 ∷ pos 0 ∷ pos 0 ∷ pos 0 ∷ []) (1 ∷ 1 ∷ 1 ∷ 1 ∷ 1 ∷ 1 ∷ []) ∷
    -- order 2: a coefficient that is no whole number, -2/5
    recovers (joined 1 2 3 4 2) (pos 7 ∷ pos 3 ∷ pos 1 ∷ pos 1 ∷ pos 1 ∷ pos 1 ∷ pos 2 ∷ pos 7 ∷ pos 7 ∷ []) 6
    (pos 7 ∷ pos 3 ∷ neg_ℤ (pos 2) ∷ pos 2 ∷ pos 7 ∷ pos 7 ∷ pos 0 ∷ pos 0 ∷ pos 0 ∷ []) (1 ∷ 1 ∷ 5 ∷ 1 ∷ 1 ∷ 1 ∷ 1 ∷ 1 ∷ 1 ∷ []) ∷
    -- a discontinuity undoes nothing; a beam of two parts
    recovers space9 (pos 1 ∷ pos 2 ∷ pos 3 ∷ pos 4 ∷ []) 4 (pos 1 ∷ pos 2 ∷ pos 3 ∷ pos 4 ∷ []) (1 ∷ 1 ∷ 1 ∷ 1 ∷ []) ∷
    recovers beam (pos 0 ∷ pos 300 ∷ pos 200 ∷ pos 200 ∷ pos 0 ∷ pos 0 ∷ pos 1 ∷ pos 2 ∷ pos 2 ∷ pos 3 ∷ []) 7
    (pos 0 ∷ pos 300 ∷ pos 0 ∷ pos 0 ∷ pos 1 ∷ pos 2 ∷ pos 3 ∷ pos 0 ∷ pos 0 ∷ pos 0 ∷ []) (1 ∷ 1 ∷ 1 ∷ 1 ∷ 1 ∷ 1 ∷ 1 ∷ 1 ∷ 1 ∷ 1 ∷ [])
    ∷
    -- 18: a count that is off by one, though an ordinate is out of range too; the first that is out of range; the ends of the range
    keeps space9 (pos 1 ∷ pos 2 ∷ pos 256000001 ∷ []) 18 4294967295 ∷
    keeps space9 (pos 1 ∷ pos 2 ∷ pos 3 ∷ pos 4 ∷ pos 5 ∷ []) 18 4294967295 ∷
    keeps space9 (pos 1 ∷ pos 256000001 ∷ neg_ℤ (pos 256000001) ∷ pos 4 ∷ []) 18 1 ∷
    keeps space9 (pos 1 ∷ pos 2 ∷ pos 3 ∷ neg_ℤ (pos 256000001) ∷ []) 18 3 ∷
    recovers space9 (pos 1 ∷ pos 256000000 ∷ neg_ℤ (pos 256000000) ∷ pos 4 ∷ []) 4
    (pos 1 ∷ pos 256000000 ∷ neg_ℤ (pos 256000000) ∷ pos 4 ∷ []) (1 ∷ 1 ∷ 1 ∷ 1 ∷ []) ∷
    -- 19: the values at the join differ; the slopes differ; at the later join of a beam, and at the earlier of two
    clears space1 (pos 0 ∷ pos 300 ∷ pos 200 ∷ pos 201 ∷ pos 0 ∷ pos 0 ∷ []) 19 0 ∷
    clears space1 (pos 0 ∷ pos 300 ∷ pos 201 ∷ pos 201 ∷ pos 0 ∷ pos 0 ∷ []) 19 0 ∷
    clears beam (pos 0 ∷ pos 300 ∷ pos 200 ∷ pos 200 ∷ pos 0 ∷ pos 0 ∷ pos 1 ∷ pos 2 ∷ pos 3 ∷ pos 3 ∷ []) 19 2 ∷
    clears beam (pos 0 ∷ pos 300 ∷ pos 201 ∷ pos 201 ∷ pos 0 ∷ pos 0 ∷ pos 1 ∷ pos 2 ∷ pos 3 ∷ pos 3 ∷ []) 19 0 ∷
    -- 20 in the sum, which is not zero either: a product whose partial sum is not too large; a partial sum of products that are not
    clears (joined 1 11 2 2 1) (pos 0 ∷ pos 190000000 ∷ pos 200000000 ∷ pos 200000000 ∷ pos 0 ∷ pos 0 ∷ []) 20 0 ∷
    clears (joined 1 9 2 2 1) (pos 0 ∷ neg_ℤ (pos 200000000) ∷ pos 200000000 ∷ pos 200000000 ∷ pos 0 ∷ pos 0 ∷ []) 20 0 ∷
    -- 20 in the undoing: a share; a difference; a quotient
    clears (joined 1 3 4 3 2) (pos 0 ∷ pos 0 ∷ neg_ℤ (pos 26649613) ∷ pos 0 ∷ pos 0 ∷ pos 0 ∷ pos 0 ∷ neg_ℤ (pos 213196904) ∷ pos 0 ∷ [])
    20 0 ∷
    clears (joined 1 3 4 3 2) (pos 0 ∷ pos 0 ∷ pos 24321330 ∷ pos 0 ∷ pos 184062 ∷ pos 184062 ∷ pos 674894 ∷ pos 197208862 ∷ pos 0 ∷ [])
    20 0 ∷
    clears (joined 4 7 4 3 2) (pos 0 ∷ pos 0 ∷ neg_ℤ (pos 219414552) ∷ pos 0 ∷ pos 0 ∷ pos 0 ∷ pos 0 ∷ neg_ℤ (pos 246841371) ∷ pos 0 ∷ [])
    20 0 ∷
    -- 19 comes before a share that would be too large
    clears (joined 2 3 3 4 2) (pos 0 ∷ neg_ℤ (pos 198381241) ∷ pos 0 ∷ pos 0 ∷ pos 0 ∷ pos 0 ∷ neg_ℤ (pos 24797655) ∷ pos 0 ∷ pos 0 ∷ [])
    19 0 ∷
    -- 8 comes before 19 at its own step, and after 19 at an earlier one
    clears (joined 67 70 3 5 2) (pos 0 ∷ pos 0 ∷ pos 0 ∷ pos 0 ∷ pos 0 ∷ pos 0 ∷ pos 0 ∷ pos 0 ∷ pos 0 ∷ pos 0 ∷ []) 8 0 ∷
    clears (joined 67 70 3 5 2) (pos 0 ∷ pos 1 ∷ pos 0 ∷ pos 0 ∷ pos 0 ∷ pos 0 ∷ pos 0 ∷ pos 0 ∷ pos 0 ∷ pos 0 ∷ []) 8 0 ∷
    clears (joined 67 70 3 5 2) (pos 0 ∷ pos 0 ∷ pos 0 ∷ pos 1 ∷ pos 0 ∷ pos 0 ∷ pos 0 ∷ pos 0 ∷ pos 0 ∷ pos 0 ∷ []) 19 0 ∷ []

-- ---- short answer buffers

-- What a call on W9's space with these ordinates and these lengths of the four buffers ends with.
abbrev pub lengths : ℕ → ℕ → ℕ → ℕ → Outcome ℕ
lengths num den coef_num coef_den = with_answer (λ r. length r.coefficients)
    (recovery_outcome space9 (pos 1 ∷ pos 2 ∷ pos 3 ∷ pos 4 ∷ []) num den coef_num coef_den)

-- Code 1 with places 0, 1, 3 and 4, in this order.
abbrev pub ShortBuffers : Type 0
ShortBuffers =
    (lengths table_cells table_cells 4 4 ≡ answer 4) ×
    (lengths table_cells table_cells 4 3 ≡ refusal 1 4) ×
    (lengths table_cells table_cells 3 3 ≡ refusal 1 3) ×
    (lengths table_cells (table_cells - 1) 3 3 ≡ refusal 1 1) ×
    (lengths (table_cells - 1) (table_cells - 1) 3 3 ≡ refusal 1 0)

-- ---- the statement

-- The call ends as its line says.
abbrev pub Holds : Case → Type 0
Holds c = shown c.space c.ordinates ≡ c.ends

abbrev pub EveryCallEnds : Type 0
EveryCallEnds = Every Holds cases
