-- The lines of a series looked through: how far, and what was counted.
use mathlib.Core.Path.{◌≡◌, refl, sym, ◌∙◌, ap, ap₂}
use mathlib.Core.Bool.{Bool, true, false}
use mathlib.Core.List.{List, ◌∷◌}
use Prim.Native.Nat.{ℕ, ◌+◌, ◌≤◌}
use native.Mathlib.Omega.{arith}
use lib.IntN.{ℤ}
use lib.ListN.{length, take}
use Rattle.base_exact.proofs.Decide.{clash}
use Rattle.base_text.specs.Bytes.{Text}
use Rattle.spec_tucson.specs.TextReading.{last_field}
use Rattle.spec_tucson.specs.StrictLine.{Kept, name_of}
use Rattle.spec_tucson.specs.CleanSeries.{continues, fields_of, closing_after}
use Rattle.spec_tucson.specs.CleanNotes.{Ahead, ahead}
use Rattle.tucson_notes.specs.Machine.{ahead_of}
use Rattle.tucson_notes.specs.declared.Ahead as machine-ahead
use Rattle.tucson_walk.specs.declared.Following.{Following}
use Rattle.tucson_walk.specs.Following.{KeptBehind, NextIs, NextBy, StandsIn, Follows, LastAhead, AheadTold}
use Rattle.tucson_walk.specs.Tracking.{ahead_with}
use Rattle.tucson_walk.proofs.Tracking.{ahead_more, ahead-last}

-- A later line of the series, and what stands ahead of it, but for the lines before it.
pub record Reached (unit : ℕ) (text : Text) (h : ℕ) (all : List Kept) (at : ℕ) (bytes : Text) (n count : ℕ) : Type 0 where
  pub line : Kept
  pub others : List Kept
  pub number : ℕ
  pub text_is : line.text ≡ take n bytes
  pub behind : KeptBehind text h number line at others
  pub count_is : (ahead unit all).count + 1 ≡ (ahead unit (line ∷ others)).count + count
  pub closing_is : (ahead unit all).closing ≡ (ahead unit (line ∷ others)).closing
  pub fields_are : (ahead unit all).last_fields ≡ (ahead unit (line ∷ others)).last_fields

pub record Looks (unit : ℕ) (text : Text) (past : ℕ) (first : Text) (m : ℕ) (at : ℕ) (bytes : Text) (n count : ℕ) : Type 0 where
  pub within : at ≤ length text + 1
  pub few : count ≤ at + 1
  pub stands : StandsIn bytes n
  pub reached : (h i : ℕ) (k : Kept) (ks : List Kept) → k.text ≡ take m first → KeptBehind text h i k past ks → Reached unit text h (k ∷ ks) at bytes n count

pub looks_start : (unit : ℕ) (text : Text) (past : ℕ) (first : Text) (m : ℕ) → past ≤ length text + 1 → StandsIn first m → Looks unit text past first m past first m 1
looks_start unit text past first m w s = record {
  within = w;
  few = omega arith;
  stands = s;
  reached = λ h i k ks e b. record {
    line = k;
    others = ks;
    number = i;
    text_is = e;
    behind = b;
    count_is = refl;
    closing_is = refl;
    fields_are = refl;
  };
}

-- one line more
more_reached : {unit : ℕ} {text : Text} {h : ℕ} {all : List Kept} {at : ℕ} {bytes : Text} {n count : ℕ} (r : Reached unit text h all at bytes n count)
    {past size : ℕ} {next : Text} → NextIs text h r.line r.others past size next → Reached unit text h all past next size (count + 1)
unfolding continues
more_reached {unit} r x =
    let e : ahead unit (r.line ∷ r.others) ≡ ahead unit (r.line ∷ x.line ∷ x.others) = ap (λ (l : List Kept). ahead unit (r.line ∷ l)) x.is in
    let m = e ∙ ahead_more unit r.line (x.line ∷ x.others) x.same in
    record {
      line = x.line;
      others = x.others;
      number = x.number;
      text_is = x.text_is;
      behind = x.behind;
      count_is = omega (arith, r.count_is, ap (λ (a : Ahead). a.count) m);
      closing_is = r.closing_is ∙ ap (λ (a : Ahead). a.closing) m;
      fields_are = r.fields_are ∙ ap (λ (a : Ahead). a.last_fields) m;
    }

next_true : (found : Bool) (text : Text) (h : ℕ) (k : Kept) (ks : List Kept) (past n : ℕ) (bytes : Text) → found ≡ true → NextBy found text h k ks past n bytes
    → NextIs text h k ks past n bytes
next_true true text h k ks past n bytes e x = x
next_true false text h k ks past n bytes e x = clash cc

next_false : (found : Bool) (text : Text) (h : ℕ) (k : Kept) (ks : List Kept) (past n : ℕ) (bytes : Text) → found ≡ false → NextBy found text h k ks past n bytes
    → continues k ks ≡ false
next_false false text h k ks past n bytes e x = x
next_false true text h k ks past n bytes e x = clash cc

module _ {unit : ℕ} {text : Text} {past : ℕ} {first : Text} {m at : ℕ} {bytes : Text} {n count : ℕ} (l : Looks unit text past first m at bytes n count)
    {next : Text} {r : Following} (f : Follows text at (take n bytes) next r) where
  next_by : {h : ℕ} {all : List Kept} (x : Reached unit text h all at bytes n count) → NextBy r.found text h x.line x.others r.past r.size next
  next_by {h} x = f.told h x.number x.line x.others x.behind (ap name_of x.text_is)

  pub looks_next : r.found ≡ true → Looks unit text past first m r.past next r.size (count + 1)
  looks_next e = record {
    within = f.within;
    few = omega (arith, l.few, f.further e);
    stands = f.stands e;
    reached = λ h i k ks t b. let x = l.reached h i k ks t b in more_reached x (next_true r.found _ _ _ _ _ _ _ e (next_by x));
  }

  pub looks_last : r.found ≡ false → {a : machine-ahead.Ahead} → LastAhead unit (take n bytes) count a → AheadTold unit text past first m a
  unfolding ahead_of
  looks_last e {a} last h i k ks t b =
      let x = l.reached h i k ks t b in
      let z : ahead unit (x.line ∷ x.others) ≡ ahead_with 1 (closing_after unit (last_field (fields_of (take n bytes)))) (length (fields_of (take n bytes))) =
      ahead-last unit x.line x.others (next_false r.found _ _ _ _ _ _ _ e (next_by x))
      ∙ ap (λ (u : Text). ahead_with 1 (closing_after unit (last_field (fields_of u))) (length (fields_of u))) x.text_is in
      let c : a.count ≡ (ahead unit (k ∷ ks)).count = omega (arith, last.count_is, x.count_is, ap (λ (y : Ahead). y.count) z) in
      let d : a.closing ≡ (ahead unit (k ∷ ks)).closing = last.closing_is ∙ sym (x.closing_is ∙ ap (λ (y : Ahead). y.closing) z) in
      let g : a.fields ≡ (ahead unit (k ∷ ks)).last_fields = last.fields_are ∙ sym (x.fields_are ∙ ap (λ (y : Ahead). y.last_fields) z) in
      ap (λ (y : ℕ). ahead_with y a.closing a.fields) c ∙ ap₂ (λ (u : ℤ) (v : ℕ). ahead_with (ahead unit (k ∷ ks)).count u v) d g
