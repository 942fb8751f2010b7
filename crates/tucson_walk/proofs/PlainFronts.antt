-- A line that begins with plain bytes, the last of them no blank: it is not blank, and the strict line that it becomes begins so too.
use mathlib.Core.Path.{◌≡◌, refl, sym, ◌∙◌, ap, ap₂}
use mathlib.Core.Bool.{Bool, true, false, cond, ◌&&◌}
use mathlib.Core.List.{[], ◌∷◌, ◌++◌, drop_last}
use mathlib.Core.Option.{Option, some, none}
use Prim.Native.Nat.{ℕ, zero, suc, ◌+◌, ◌-◌, ◌<◌, ◌≤◌}
use native.Mathlib.Omega.{arith}
use borrow.Author.Tests.{ne_eqb, lt-leb}
use lib.Dec.{eqb}
use lib.ListN.{length, get_or, take, length-append}
use Rattle.base_exact.proofs.Decide.{clash, cond_false}
use Rattle.base_outcome.specs.Outcome.{Outcome, answer, refuse}
use Rattle.base_text.specs.Bytes.{Text, newline, Cut, cut, with_byte}
use Rattle.spec_tucson.specs.Columns.{blank}
use Rattle.spec_tucson.specs.FileText.{tab, carriage_return}
use Rattle.spec_tucson.specs.Line.{last_printable}
use Rattle.spec_tucson.specs.Shown.{before_cut, unended, ends_in_return, without_return, expanded, unless_trailing, trimmed, line_bytes, in_its_columns, shown, is_blank_line, has_tab}
use Rattle.spec_tucson.specs.StrictLine.{has_site, without_site, line_columns, any_high, bytes_masked, question_mark, with_masked, characters_from}
use Rattle.spec_tucson.specs.StrictLine.{is_strict, if_strict, only_one, masked, or_refused, strict_bytes, shown_fields, strict_line}
use Rattle.spec_tucson.specs.KeptLines.{same_text}

-- Plain bytes.
abbrev pub Plain : Text → Type 0
Plain [] = Unit {0}
Plain (c ∷ cs) = (blank ≤ c) × (c ≤ last_printable) × Plain cs

-- The last byte is above the blank.
abbrev pub Seen : Text → Type 0
Seen [] = ⊥
Seen (c ∷ []) = blank < c
Seen (c ∷ d ∷ cs) = Seen (d ∷ cs)

-- The one text begins with the other.
pub record Begins (p t : Text) : Type 0 where
  pub rest : Text
  pub is : t ≡ p ++ rest

pub plain_snoc : (p : Text) (c : ℕ) → Plain p → blank ≤ c → c ≤ last_printable → Plain (p ++ (c ∷ []))
plain_snoc [] c h low high = (low, high, tt)
plain_snoc (b ∷ p) c h low high = (h.0, h.1, plain_snoc p c h.2 low high)

pub seen_snoc : (p : Text) (c : ℕ) → blank < c → Seen (p ++ (c ∷ []))
seen_snoc [] c h = h
seen_snoc (a ∷ []) c h = h
seen_snoc (a ∷ b ∷ p) c h = seen_snoc (b ∷ p) c h

-- ---- the end
cut-front : (c : ℕ) (cs : Text) → (c ≡ newline → ⊥) → unended (c ∷ cs) ≡ c ∷ unended cs
unfolding unended cut
cut-front c cs h = ap (λ (b : Bool). before_cut (c ∷ cs) (cond b (some (record { before = []; after = cs })) (with_byte c (cut newline cs)))) (ne_eqb c newline h) ∙ go (cut newline cs)
  where
    go : (o : Option Cut) → before_cut (c ∷ cs) (with_byte c o) ≡ c ∷ before_cut cs o
    go none = refl
    go (some r) = refl

unended-front : (p r : Text) → Plain p → unended (p ++ r) ≡ p ++ unended r
unended-front [] r h = refl
unended-front (c ∷ p) r h = cut-front c (p ++ r) (λ e. omega (arith, e, h.0)) ∙ ap (λ (t : Text). c ∷ t) (unended-front p r h.2)

return_front : (c : ℕ) (cs : Text) → (c ≡ carriage_return → ⊥) → without_return (c ∷ cs) ≡ c ∷ without_return cs
unfolding without_return ends_in_return
return_front c [] h = ap (λ (b : Bool). cond b (drop_last (c ∷ [])) (c ∷ [])) (ne_eqb c carriage_return h)
return_front c (d ∷ cs) h = go (ends_in_return (d ∷ cs))
  where
    go : (b : Bool) → cond b (drop_last (c ∷ d ∷ cs)) (c ∷ d ∷ cs) ≡ c ∷ cond b (drop_last (d ∷ cs)) (d ∷ cs)
    go true = refl
    go false = refl

returned-front : (p r : Text) → Plain p → without_return (p ++ r) ≡ p ++ without_return r
returned-front [] r h = refl
returned-front (c ∷ p) r h = return_front c (p ++ r) (λ e. omega (arith, e, h.0)) ∙ ap (λ (t : Text). c ∷ t) (returned-front p r h.2)

-- ---- tabs and trailing blanks
expanded-front : (n : ℕ) (p r : Text) → Plain p → expanded n (p ++ r) ≡ p ++ expanded (n + length p) r
unfolding expanded
expanded-front n [] r h = ap (λ (m : ℕ). expanded m r) none
  where
    none : n ≡ n + 0
    none = omega arith
expanded-front n (c ∷ p) r h =
    cond_false _ _ (ne_eqb c tab (λ e. omega (arith, e, h.0)))
    ∙ ap (λ (t : Text). c ∷ t) (expanded-front (suc n) p r h.2)
    ∙ ap (λ (m : ℕ). c ∷ (p ++ expanded m r)) further
  where
    further : suc n + length p ≡ n + suc (length p)
    further = omega arith

trimmed-front : (p r : Text) → Seen p → trimmed (p ++ r) ≡ p ++ trimmed r
unfolding trimmed
trimmed-front [] r h = absurd h
trimmed-front (c ∷ []) r h = go (trimmed r)
  where
    go : (t : Text) → unless_trailing c t ≡ c ∷ t
    go [] = ap (λ (b : Bool). cond b [] (c ∷ [])) (ne_eqb c blank (λ e. omega (arith, e, h)))
    go (d ∷ t) = refl
trimmed-front (c ∷ d ∷ p) r h = ap (unless_trailing c) (trimmed-front (d ∷ p) r h)

-- ---- a site name
take_front : (n : ℕ) (p r : Text) → length p ≤ n → take n (p ++ r) ≡ p ++ take (n - length p) r
take_front n [] r h = ap (λ (m : ℕ). take m r) none
  where
    none : n ≡ n - 0
    none = omega arith
take_front zero (c ∷ p) r h = absurd (omega (arith, h))
take_front (suc n) (c ∷ p) r h = ap (λ (t : Text). c ∷ t) (take_front n p r (omega (arith, h))) ∙ ap (λ (m : ℕ). c ∷ (p ++ take m r)) less
  where
    less : n - length p ≡ suc n - suc (length p)
    less = omega arith

site-front : (p r : Text) → Seen p → length p ≤ line_columns → Begins p (without_site (p ++ r))
unfolding without_site
site-front p r s h = go (has_site (p ++ r))
  where
    go : (b : Bool) → Begins p (cond b (trimmed (take line_columns (p ++ r))) (p ++ r))
    go true = record { rest = trimmed (take (line_columns - length p) r); is = ap trimmed (take_front line_columns p r h) ∙ trimmed-front p (take (line_columns - length p) r) s }
    go false = record { rest = r; is = refl }

-- ---- bytes over 127
masked-front : (p r : Text) → Plain p → bytes_masked (p ++ r) ≡ p ++ bytes_masked r
unfolding bytes_masked
masked-front [] r h = refl
masked-front (c ∷ p) r h = ap₂ (λ (b : Bool) (t : Text). cond b question_mark c ∷ t) (lt-leb 128 c (omega (arith, h.1))) (masked-front p r h.2)

abbrev BeginsSome : Text → Option Text → Type 0
BeginsSome p none = Unit {0}
BeginsSome p (some t) = Begins p t

characters_front : (p r : Text) → Plain p → BeginsSome p (characters_from 0 0 0 (p ++ r))
unfolding characters_from
characters_front [] r h = go (characters_from 0 0 0 r)
  where
    go : (o : Option Text) → BeginsSome [] o
    go none = tt
    go (some t) = record { rest = t; is = refl }
characters_front (c ∷ p) r h = rw (lt-leb 128 c (omega (arith, h.1))) (go (characters_from 0 0 0 (p ++ r)) (characters_front p r h.2))
  where
    go : (o : Option Text) → BeginsSome p o → BeginsSome (c ∷ p) (with_masked c o)
    go none b = tt
    go (some t) b = record { rest = b.rest; is = ap (λ (u : Text). c ∷ u) b.is }

both-front : (p r : Text) → Plain p → BeginsSome p (masked (p ++ r))
unfolding masked
both-front p r h = go (is_strict (bytes_masked (p ++ r))) (characters_from 0 0 0 (p ++ r)) (characters_front p r h)
  where
    strict : (t : Text) (b : Bool) → Begins p t → BeginsSome p (cond b (some t) none)
    strict t true x = x
    strict t false x = tt

    one : (o : Option Text) → BeginsSome p (only_one true (bytes_masked (p ++ r)) o)
    one none = record { rest = bytes_masked r; is = masked-front p r h }
    one (some u) = tt

    go : (b : Bool) (o : Option Text) → BeginsSome p o → BeginsSome p (only_one b (bytes_masked (p ++ r)) (if_strict o))
    go true o x = one (if_strict o)
    go false none x = tt
    go false (some t) x = strict t (is_strict t) x

-- ---- the line
module _ (p r : Text) (h : Plain p) (s : Seen p) where
  shown-front : Begins p (shown (p ++ r))
  unfolding shown in_its_columns line_bytes
  shown-front = record {
    rest = trimmed (expanded (0 + length p) (without_return (unended r)));
    is = ap (λ (t : Text). trimmed (expanded 0 (without_return t))) (unended-front p r h)
        ∙ ap (λ (t : Text). trimmed (expanded 0 t)) (returned-front p (unended r) h)
        ∙ ap trimmed (expanded-front 0 p (without_return (unended r)) h)
        ∙ trimmed-front p (expanded (0 + length p) (without_return (unended r))) s;
  }

  some_front : (q : Text) → Seen q → 1 ≤ length q
  some_front [] e = absurd e
  some_front (c ∷ q) e = omega arith

  pub front-unblank : is_blank_line (p ++ r) ≡ false
  unfolding is_blank_line
  front-unblank = ap (λ (t : Text). eqb (length t) 0) shown-front.is
      ∙ ne_eqb (length (p ++ shown-front.rest)) 0 (λ e. omega (arith, e, length-append p shown-front.rest, some_front p s))

  fields-front : length p ≤ line_columns → Begins p (shown_fields (p ++ r))
  unfolding shown_fields
  fields-front few =
      let b = site-front p shown-front.rest s few in
      record { rest = b.rest; is = ap without_site shown-front.is ∙ b.is }

  pub strict_front : length p ≤ line_columns → (place : ℕ) (t : Text) → strict_line place (p ++ r) ≡ answer t → Begins p t
  unfolding strict_line strict_bytes
  strict_front few place t e = by (sym (ap (strict_bytes place (has_tab (p ++ r))) (fields-front few).is) ∙ e)
    where
      u : Text
      u = p ++ (fields-front few).rest

      same : (x y : Text) → ◌≡◌ {A = Outcome Text} (answer x) (answer y) → x ≡ y
      same x y z = cc

      clash_of : {A : Type 0} {x : Text} {code : ℕ} → ◌≡◌ {A = Outcome Text} (refuse code place) (answer x) → A
      clash_of z = clash cc

      either : (o : Option Text) → BeginsSome p o → or_refused place o ≡ answer t → Begins p t
      either none x z = clash_of z
      either (some v) x z = record { rest = x.rest; is = sym (same v t z) ∙ x.is }

      go : (high tabbed strict : Bool) → cond high (cond tabbed (refuse 22 place) (or_refused place (masked u))) (cond strict (answer u) (refuse 11 place)) ≡ answer t → Begins p t
      go true true strict z = clash_of z
      go true false strict z = either (masked u) (both-front p (fields-front few).rest h) z
      go false tabbed true z = record { rest = (fields-front few).rest; is = sym (same u t z) }
      go false tabbed false z = clash_of z

      by : strict_bytes place (has_tab (p ++ r)) u ≡ answer t → Begins p t
      by z = go (any_high u) (has_tab (p ++ r)) (is_strict u) z

-- ---- names
pub names-differ : (k : ℕ) (s t : Text) → (get_or s k 0 ≡ get_or t k 0 → ⊥) → same_text s t ≡ false
unfolding same_text
names-differ k [] [] h = absurd (h refl)
names-differ k [] (d ∷ t) h = refl
names-differ k (c ∷ s) [] h = refl
names-differ zero (c ∷ s) (d ∷ t) h = ap (λ (b : Bool). b && same_text s t) (ne_eqb c d h)
names-differ (suc k) (c ∷ s) (d ∷ t) h = go (eqb c d) (names-differ k s t h)
  where
    go : (b : Bool) → same_text s t ≡ false → (b && same_text s t) ≡ false
    go true e = e
    go false e = refl
