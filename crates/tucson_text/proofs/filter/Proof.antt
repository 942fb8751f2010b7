-- `filter` meets its contract: a text that is too long is refused, any other is read and written again.
use borrow.Author.Rules.{rules}
use native.Mathlib.Omega.{arith}
use mathlib.Core.Path.{◌≡◌, sym, ap, ◌∙◌}
use Prim.Native.Nat.{ℕ, ◌<◌, ◌≤◌}
use borrow.Author.Tests.{le-leb, lt-leb}
use lib.ListN.{length}
use Rattle.base_exact.proofs.Decide.{cond_true, cond_false}
use Rattle.base_text.specs.Bytes.{Text}
use Rattle.base_print.specs.Refusal.{refusal_line_limit, refusal_line}
use Rattle.base_print.proofs.Buffer.{prints_as, written_length}
use Rattle.spec_tucson.specs.TextReading.{read_text}
use Rattle.spec_tucson.specs.Filter.{text_limit, outcome_text, filtered}
use Rattle.tucson_text.proofs.filter.Statement.{statement}
use Rattle.tucson_text.proofs.filter.Tie as tie

too_long : (t : Text) → text_limit < length t → refusal_line 1 0 ≡ filtered t
unfolding filtered
too_long t h = sym (cond_false (outcome_text (read_text t)) (refusal_line 1 0) (lt-leb (length t) text_limit h))

held : (t : Text) → length t ≤ text_limit → outcome_text (read_text t) ≡ filtered t
unfolding filtered
held t h = sym (cond_true (outcome_text (read_text t)) (refusal_line 1 0) (le-leb (length t) text_limit h))

line-fits : {count size after : ℕ} → count ≤ refusal_line_limit → after ≡ size → size ≡ text_limit → count ≤ after
line-fits h e l = omega arith

returns : tie.Need-returns-then-input-gt-TEXT_LIMIT
returns c =
    let p = c.refusal.ensures in
    let room = line-fits p.few (ap length p.contents ∙ written_length 0 _ _) c.refusal-arg-1.given.0.1 in
    prints_as (too_long _ c.if-input-gt-TEXT_LIMIT.true) room p

returns-2 : tie.Need-returns
returns-2 c = let p = c.rewrite.ensures in prints_as (held _ c.if-input-gt-TEXT_LIMIT.false) p.few p

pub filter_spec : {M : Type 1} → statement M
filter_spec = tie.close (tie.spec (λ c κs. search rules) returns (λ c κs. search rules) returns-2)
