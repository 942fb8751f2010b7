-- What is held of a series at one of its lines.
use mathlib.Core.Path.{◌≡◌, refl, sym, ◌∙◌, ap}
use mathlib.Core.Bool.{Bool, true, false, cond, not}
use mathlib.Core.List.{List, ◌∷◌}
use mathlib.Core.Option.{Option, some, none}
use Prim.Native.Nat.{ℕ, zero, suc}
use native.Mathlib.Omega.{arith}
use borrow.Author.Tests.{eq-eqb, ne_eqb}
use lib.IntN.{ℤ}
use Rattle.spec_tucson.specs.StrictLine.{Kept}
use Rattle.spec_tucson.specs.CleanSeries.{follows_its}
use Rattle.spec_tucson.specs.CleanNotes.{Ahead, ahead, Before, closing_or}
use Rattle.tucson_notes.specs.Machine.{ahead_of}
use Rattle.tucson_notes.specs.declared.Ahead as machine-ahead
use Rattle.tucson_walk.specs.declared.Series.{Series}
use Rattle.tucson_walk.specs.Tracking.{ahead_with, Tracks}
use Rattle.tucson_walk.specs.Walking.{Knows, Holds, Entered}

-- ---- a line that goes on with its series
goes_on_lem : (unit : ℕ) (b : Option Kept) (k : Kept) (ks : List Kept) (n : ℕ) (c : ℤ) (f : ℕ) → (n ≡ 0 → ⊥) → Tracks unit b (k ∷ ks) n c f
    → (ahead unit (k ∷ ks) ≡ ahead_with n c f) × (follows_its b k ≡ true)
goes_on_lem unit b k ks zero c f h t = absurd (h refl)
goes_on_lem unit b k ks (suc n) c f h t = t

known_on : (closing : Option ℤ) (s : Series) (z : ℤ) → (s.ahead.count ≡ 0 → ⊥) → Knows closing s → (s.known ≡ true) × (s.first ≡ closing_or closing z)
known_on none s z h k = absurd (h k.1)
known_on (some c) s z h k = k

pub enter_on : (unit : ℕ) (b : Before) (k : Kept) (ks : List Kept) (s : Series) → (s.ahead.count ≡ 0 → ⊥) → Holds unit b (k ∷ ks) s → Entered unit b k ks s s
unfolding ahead_of
enter_on unit b k ks s h x =
    let g = goes_on_lem unit b.kept k ks s.ahead.count s.ahead.closing s.ahead.fields h x.tracks in
    let z = known_on b.closing s (ahead unit (k ∷ ks)).closing h x.knows in
    record {
      ahead_is = sym g.0;
      first_is = ne_eqb s.ahead.count 0 h ∙ sym (ap not g.1);
      closing_is = z.1;
      known_is = z.0;
    }

-- ---- a line that begins one
begins : (unit : ℕ) (b : Option Kept) (k : Kept) (ks : List Kept) (n : ℕ) (c : ℤ) (f : ℕ) → n ≡ 0 → Tracks unit b (k ∷ ks) n c f → follows_its b k ≡ false
begins unit b k ks zero c f h t = t
begins unit b k ks (suc n) c f h t = absurd (omega arith)

known-first : (closing : Option ℤ) (s : Series) (z : ℤ) → Knows closing s → cond s.known s.first z ≡ closing_or closing z
known-first none s z k = ap (λ (b : Bool). cond b s.first z) k.0
known-first (some c) s z k = ap (λ (b : Bool). cond b s.first z) k.0 ∙ k.1

pub enter-first : (unit : ℕ) (b : Before) (k : Kept) (ks : List Kept) (s : Series) (a : machine-ahead.Ahead) (c : ℤ) → s.ahead.count ≡ 0 → Holds unit b (k ∷ ks) s
    → ahead_of a ≡ ahead unit (k ∷ ks) → c ≡ cond s.known s.first a.closing → Entered unit b k ks s (record { ahead = a; known = true; first = c })
unfolding ahead_of
enter-first unit b k ks s a c h x e f = record {
  ahead_is = e;
  first_is = eq-eqb s.ahead.count 0 h ∙ sym (ap not (begins unit b.kept k ks s.ahead.count s.ahead.closing s.ahead.fields h x.tracks));
  closing_is = f ∙ known-first b.closing s a.closing x.knows ∙ ap (closing_or b.closing) (ap (λ (y : Ahead). y.closing) e);
  known_is = refl;
}
