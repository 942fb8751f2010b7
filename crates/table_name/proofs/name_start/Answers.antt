-- The first byte that is no blank, or the end, is where the bytes without leading blanks begin.
use Rattle.std.proofs.Common.{◌≡◌, ℕ, suc, ◌+◌, ◌≤◌, ◌<◌, ltb, Bool, true, false, cond, eqb, List, [], ◌∷◌, length, drop}
use Rattle.std.proofs.Common.{refl, ap, ◌∙◌, rules, tests, arith}
use mathlib.Core.Bool.{not}
use mathlib.Core.Logic.{◌⊎◌, inl, inr}
use Rattle.std.specs.List.{position_or_len}
use Rattle.std.specs.Option.{unwrap_or}
use Rattle.std.specs.declared.option.Option.TheVariants.{Some, None}
use borrow.Author.Tests.{lt-ltb, le-ltb}
use Rattle.std.proofs.lemmas.Iterator.{YieldsList-from_slice}
use Rattle.std.proofs.lemmas.Iterator.Search.{position_from_yields_List}
use Rattle.base_exact.proofs.Decide.{le_or_lt}
use Rattle.spec_tucson.specs.Columns.{blank}
use Rattle.spec_table.specs.RingLines.{without_leading}
use Rattle.table_name.proofs.name_start.Goals as goal

abbrev shown : ℕ → Bool
shown c = not (eqb c blank)

-- a blank is left out, another byte is where the name starts
first_shown : (t : List ℕ) → (position_or_len shown t ≤ length t) × (drop (position_or_len shown t) t ≡ without_leading t)
unfolding without_leading
first_shown [] = (omega arith, refl)
first_shown (c ∷ cs) = go (eqb c blank) (first_shown cs)
  where
    p : ℕ
    p = position_or_len shown cs

    go : (b : Bool) → (p ≤ length cs) × (drop p cs ≡ without_leading cs)
        → (cond (not (not b)) (1 + p) 0 ≤ suc (length cs))
        × (drop (cond (not (not b)) (1 + p) 0) (c ∷ cs) ≡ cond b (without_leading cs) (c ∷ cs))
    go true h = (omega (arith, h.0), ap (λ n. drop n (c ∷ cs)) (let e : 1 + p ≡ suc p = omega arith in e) ∙ h.1)
    go false h = (omega arith, refl)

or_end : (p n : ℕ) → p ≤ n → unwrap_or (cond (ltb p n) (Some p) None) n ≡ p
or_end p n h = go (le_or_lt n p)
  where
    go : (n ≤ p) ⊎ (p < n) → unwrap_or (cond (ltb p n) (Some p) None) n ≡ p
    go (inl l) = rw (le-ltb p n l) (omega arith)
    go (inr l) = rw (lt-ltb p n l)

pub returns : goal.returns
returns c =
    let name = c.args.name.now in
    let at = position_from_yields_List shown _ _ _ c.position.ensures.ran (YieldsList-from_slice name cc)
    (λ x b q k. search (rules, tests)) in
    let f = first_shown name in
    let e : c.unwrap_or.result ≡ position_or_len shown name =
    c.unwrap_or.ensures ∙ ap (λ o. unwrap_or o (length name)) at ∙ or_end _ _ f.0 in
    record { within = omega (arith, f.0, e); is = ap (λ n. drop n name) e ∙ f.1 }
