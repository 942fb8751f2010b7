-- The two searches and the test between them lead to the cases of the definition.
use mathlib.Core.Path.{◌≡◌, sym, ◌∙◌, ap}
use mathlib.Core.Option as math
use mathlib.Core.Option.{some, none}
use Prim.Native.Nat.{ℕ}
use Rattle.std.specs.Prelude.{Some, None}
use Rattle.spec_spline.specs.Step.{jumps_at}
use Rattle.spec_spline.proofs.Step.{span_nowhere, span-endless, span-broken, span-whole}
use Rattle.base_outcome.specs.Machine.{found}
use Rattle.base_outcome.specs.Search.{first, last}
use Rattle.base_outcome.proofs.Machine.{found-none_inverts, found_some_inverts}
use Rattle.build_span.specs.Machine.{jump_span}
use Rattle.build_span.proofs.span.Goals as goal

-- what a search among n rows found, in the definition's terms, where the jumps are m
some_is : (search : ℕ → math.Option ℕ) {m n i : ℕ} → m ≡ n → Some i ≡ found (search n) → search m ≡ some i
some_is search {m} {n} size e = ap search size ∙ found_some_inverts (search n) (sym e)

none_is : (search : ℕ → math.Option ℕ) {m n : ℕ} → m ≡ n → None ≡ found (search n) → search m ≡ none
none_is search {m} {n} size e = ap search size ∙ found-none_inverts (search n) (sym e)

pub returns-in_err-f : goal.returns-in_err-f
unfolding jump_span
returns-in_err-f c qs j is size =
    let e = ap (λ x. x.num) is in
    c.from_residual.ensures ∙ sym (ap jump_span (span_nowhere j qs (none_is (λ n. first n (jumps_at qs)) size (c.in_err-f.ensures qs e))))

pub returns-in_err-l : goal.returns-in_err-l
unfolding jump_span
returns-in_err-l c qs j is size =
    let e = ap (λ x. x.num) is in
    let f = some_is (λ n. first n (jumps_at qs)) size (c.in_ok-f.ensures qs e) in
    c.from_residual-in_err-l.ensures
    ∙ sym (ap jump_span (span-endless j qs f (none_is (λ n. last n (jumps_at qs)) size (c.in_err-l.ensures.value qs e))))

pub returns-then-zero_between : goal.returns-then-zero_between
unfolding jump_span
returns-then-zero_between c qs j is size =
    let e = ap (λ x. x.num) is in
    let f = some_is (λ n. first n (jumps_at qs)) size (c.in_ok-f.ensures qs e) in
    let l = some_is (λ n. last n (jumps_at qs)) size (c.in_ok-l.ensures.value qs e) in
    sym (ap jump_span (span-broken j qs f l (sym (c.if-zero_between.ensures qs e))))

pub returns : goal.returns
unfolding jump_span
returns c qs j is size =
    let e = ap (λ x. x.num) is in
    let f = some_is (λ n. first n (jumps_at qs)) size (c.in_ok-f.ensures qs e) in
    let l = some_is (λ n. last n (jumps_at qs)) size (c.in_ok-l.ensures.value qs e) in
    sym (ap jump_span (span-whole j qs f l (sym (c.if-zero_between.ensures qs e))))
