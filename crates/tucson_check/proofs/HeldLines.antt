-- What is held between two lines: the first line, a line behind another, a name that is refused, and the end.
use mathlib.Core.Path.{◌≡◌, refl, sym, ◌∙◌, ap, ap₂, subst}
use mathlib.Core.Bool.{Bool, true, false, cond, ◌&&◌, not}
use mathlib.Core.List.{List, [], ◌∷◌}
use mathlib.Core.Option.{Option, some, none, some-injective}
use Prim.Native.Nat.{ℕ, ◌+◌, ◌-◌, ◌≤◌}
use native.Mathlib.Omega.{arith}
use lib.ListN.{length, take}
use lib.Seq.{length-take-le}
use Rattle.base_exact.proofs.Decide.{clash}
use Rattle.base_outcome.specs.Outcome.{Outcome, answer, refusal, refuse, capped, with_answer}
use Rattle.base_text.specs.Bytes.{Text}
use Rattle.spec_tucson.specs.Line.{name_columns}
use Rattle.spec_tucson.specs.StrictLine.{any_high, bytes_masked, characters_masked, is_strict, if_strict, only_one, masked, or_refused, strict_bytes, shown_fields, strict_line}
use Rattle.spec_tucson.specs.StrictLine.{Kept, name_bytes, name_of}
use Rattle.spec_tucson.specs.Shown.{has_tab}
use Rattle.spec_tucson.specs.KeptLines.{same_text, kept_then}
use Rattle.spec_tucson.specs.CleanSeries.{continues}
use Rattle.tucson_judge.specs.Judging.{Verdict, verdict, Behind}
use Rattle.tucson_judge.specs.declared.Judged.{Judged}
use Rattle.tucson_check.specs.Holding.{judging, NoneHeld, LineHeld, HoldsBy, Holds, same_name_bytes, HeldNow, HeldBytes, StrictFits}
use Rattle.tucson_shown.specs.Machine.{StrictTold}
use Rattle.std.specs.Prelude.{Result, Ok, Err}
use Rattle.tucson_shown.specs.declared.StrictLine.{StrictLine}
use Rattle.tucson_check.specs.declared.Held.{Held}

-- ---- the verdict on the lines that are kept
pub judging-same : (f g : List Kept → Verdict) → ((ks : List Kept) → f ks ≡ g ks) → (o : Outcome (List Kept)) → judging f o ≡ judging g o
judging-same f g h (answer ks) = h ks
judging-same f g h (refusal code place) = refl

pub judging_with : (f : List Kept → Verdict) (k : Kept) (o : Outcome (List Kept)) → judging f (with_answer (λ ks. k ∷ ks) o) ≡ judging (λ ks. f (k ∷ ks)) o
judging_with f k (answer ks) = refl
judging_with f k (refusal code place) = refl

-- ---- a line is taken up
module _ (unit number : ℕ) (shown text raw : Text) (end : Verdict) (later : Option Kept → Outcome (List Kept)) (is_shown : shown_fields raw ≡ shown)
    (strict : is_strict text ≡ true) (numbered : 1 ≤ number) where
  abbrev k : Kept
  k = record { line = number; raw = raw; text = text }

  pub held_first : (j : Judged) (m n : ℕ) → NoneHeld unit j end (λ before. kept_then before k later)
      → LineHeld unit (record { some = true; shown = m; size = n; number = number; follows = false; judged = j }) shown text end later
  held_first j m n h = record {
    line = k;
    before = none;
    begun = none;
    is_shown = is_shown;
    is_text = refl;
    is_number = refl;
    numbered = numbered;
    strict = strict;
    follows_is = refl;
    tracks = h.tracks;
    ends = h.ends ∙ judging_with (verdict unit j none none) k (later (some k));
  }

  module _ (h : Held) (old_shown old : Text) (held : LineHeld unit h old_shown old end (λ before. kept_then before k later)) where
    abbrev names : Bool
    names = same_text (take name_columns old) (take name_columns text)

    same_names : same_text (name_of held.line.text) (name_of text) ≡ names
    same_names = ap (λ (t : Text). same_text (name_of t) (name_of text)) held.is_text

    bytes_are : same_text (name_bytes held.line) (name_bytes k) ≡ same_name_bytes old_shown old shown text
    unfolding name_bytes
    bytes_are =
        ap₂ (λ (s t : Text). same_text (take (length s + name_columns - length t) s) (name_bytes k)) held.is_shown held.is_text
        ∙ ap (λ (s : Text). same_text (take (length old_shown + name_columns - length old) old_shown) (take (length s + name_columns - length text) s)) is_shown

    -- what the line leaves, by its name
    abbrev by_name : Bool → Outcome (List Kept)
    by_name b = cond b (refuse 22 number) (with_answer (λ ks. k ∷ ks) (later (some k)))

    abbrev so-far : List Kept → Verdict
    so-far ks = verdict unit h.judged held.begun held.before (held.line ∷ ks)

    ends_by : (b : Bool) → (names && not (same_name_bytes old_shown old shown text)) ≡ b → end ≡ judging so-far (by_name b)
    ends_by b e = held.ends ∙ ap (λ (x : Bool). judging so-far (by_name x)) (ap₂ (λ (x y : Bool). x && not y) same_names bytes_are ∙ e)

    pub held_misnamed : names ≡ true → same_name_bytes old_shown old shown text ≡ false → end ≡ refusal 22 (capped number)
    held_misnamed e f = ends_by true (ap₂ (λ (x y : Bool). x && not y) e f)

    pub held_next : (goes : Bool) (j : Judged) (m n : ℕ) → names ≡ goes → (names && not (same_name_bytes old_shown old shown text)) ≡ false
        → Behind unit goes held.line held.before held.begun h.judged j
        → LineHeld unit (record { some = true; shown = m; size = n; number = number; follows = goes; judged = j }) shown text end later
    unfolding continues
    held_next goes j m n e f b = record {
      line = k;
      before = some held.line;
      begun = b.begun-behind;
      is_shown = is_shown;
      is_text = refl;
      is_number = refl;
      numbered = numbered;
      strict = strict;
      follows_is = same_names ∙ e;
      tracks = b.tracks;
      ends =
          ends_by false f ∙ judging_with so-far k (later (some k))
          ∙ judging-same (λ ks. so-far (k ∷ ks)) (λ ks. verdict unit j b.begun-behind (some held.line) (k ∷ ks))
          (λ ks. b.same-verdict (k ∷ ks) (same_names ∙ e)) (later (some k));
    }

-- ---- the end
pub held-last : (unit : ℕ) (h : Held) (shown old : Text) (end : Verdict) (held : LineHeld unit h shown old end (λ before. answer [])) (j : Judged)
    (b : Behind unit false held.line held.before held.begun h.judged j) → end ≡ verdict unit j b.begun-behind (some held.line) []
unfolding continues
held-last unit h shown old end held j b = held.ends ∙ b.same-verdict [] refl

-- ---- what is held, whether a line or none
module _ (unit : ℕ) (h : Held) (shown text : Text) (end : Verdict) (later : Option Kept → Outcome (List Kept)) where
  pub holds_same : (other : Option Kept → Outcome (List Kept)) (x : Bool) → HoldsBy x unit h shown text end later
      → ((before : Option Kept) → later before ≡ other before) → HoldsBy x unit h shown text end other
  holds_same other true l e = record {
    line = l.line;
    before = l.before;
    begun = l.begun;
    is_shown = l.is_shown;
    is_text = l.is_text;
    is_number = l.is_number;
    numbered = l.numbered;
    strict = l.strict;
    follows_is = l.follows_is;
    tracks = l.tracks;
    ends = l.ends ∙ ap (judging (λ ks. verdict unit h.judged l.begun l.before (l.line ∷ ks))) (e (some l.line));
  }
  holds_same other false n e = record { tracks = n.tracks; ends = n.ends ∙ ap (judging (verdict unit h.judged none none)) (e none) }

  pub holds_refused : (x : Bool) (code place : ℕ) → HoldsBy x unit h shown text end later
      → ((before : Option Kept) → later before ≡ refuse code place) → end ≡ refusal code (capped place)
  holds_refused true code place l e = l.ends ∙ ap (judging (λ ks. verdict unit h.judged l.begun l.before (l.line ∷ ks))) (e (some l.line))
  holds_refused false code place n e = n.ends ∙ ap (judging (verdict unit h.judged none none)) (e none)

  pub holds_strict : (x : Bool) → HoldsBy x unit h shown text end later → x ≡ true → is_strict text ≡ true
  holds_strict true l e = l.strict
  holds_strict false n e = clash cc

  pub holds-numbered : (x : Bool) → HoldsBy x unit h shown text end later → x ≡ true → 1 ≤ h.number
  holds-numbered true l e = l.numbered
  holds-numbered false n e = clash cc

-- the fronts of the two arrays
pub held_bytes : {unit : ℕ} {h : Held} {end : Verdict} {later : Option Kept → Outcome (List Kept)} (shown text : Text) (m n : ℕ) → m ≤ length shown → n ≤ length text
    → HeldNow unit (take m shown) (take n text) end later h → HeldBytes unit h shown text end later
held_bytes {unit} {h} {end} {later} shown text m n f g now =
    let a : h.shown ≡ m = now.shown_is ∙ length-take-le m shown f in
    let b : h.size ≡ n = now.size_is ∙ length-take-le n text g in
    record {
      shown-fits = omega arith;
      text-fits = omega arith;
      holds = subst (λ (k : ℕ). Holds unit h (take k shown) (take h.size text) end later) (sym a)
          (subst (λ (k : ℕ). Holds unit h (take m shown) (take k text) end later) (sym b) now.holds);
    }

-- ---- a strict line
only_strict : (t : Text) (o : Option Text) (u : Text) → only_one (is_strict t) t (if_strict o) ≡ some u → is_strict u ≡ true
only_strict t o u e = go (is_strict t) o refl e
  where
    second : (v : Text) (b : Bool) → is_strict v ≡ b → cond b (some v) none ≡ some u → is_strict u ≡ true
    second v true f e = ap is_strict (sym (some-injective v u e)) ∙ f
    second v false f e = clash cc

    first : (o : Option Text) → is_strict t ≡ true → only_one true t o ≡ some u → is_strict u ≡ true
    first none f e = ap is_strict (sym (some-injective t u e)) ∙ f
    first (some v) f e = clash cc

    go : (b : Bool) (o : Option Text) → is_strict t ≡ b → only_one b t (if_strict o) ≡ some u → is_strict u ≡ true
    go true o f e = first (if_strict o) f e
    go false none f e = clash cc
    go false (some v) f e = second v (is_strict v) refl e

answer-same : (t u : Text) → ◌≡◌ {A = Outcome Text} (answer t) (answer u) → t ≡ u
answer-same t u e = cc

pub answer_strict : (place : ℕ) (raw t : Text) → strict_line place raw ≡ answer t → is_strict t ≡ true
unfolding strict_line strict_bytes masked
answer_strict place raw t e = go (any_high u) (has_tab raw) (is_strict u) refl e
  where
    u : Text
    u = shown_fields raw

    by_mask : (o : Option Text) → ((v : Text) → o ≡ some v → is_strict v ≡ true) → or_refused place o ≡ answer t → is_strict t ≡ true
    by_mask none h e = clash cc
    by_mask (some v) h e = ap is_strict (sym (answer-same v t e)) ∙ h v refl

    go : (high tabbed b : Bool) → is_strict u ≡ b
        → cond high (cond tabbed (refuse 22 place) (or_refused place (only_one (is_strict (bytes_masked u)) (bytes_masked u) (if_strict (characters_masked u)))))
        (cond b (answer u) (refuse 11 place)) ≡ answer t → is_strict t ≡ true
    go true true b f e = clash cc
    go true false b f e = by_mask _ (λ v. only_strict (bytes_masked u) (characters_masked u) v) e
    go false tabbed true f e = ap is_strict (sym (answer-same u t e)) ∙ f
    go false tabbed false f e = clash cc

pub strict_fits : (raw : Text) (s : Result StrictLine ℕ) (shown text : Text) → StrictTold raw s shown text → StrictFits s shown text
strict_fits raw (Ok l) shown text t = (t.shown-fits, (t.line-fits, answer_strict 0 raw (take l.size text) (t.is_line 0)))
strict_fits raw (Err code) shown text t = tt
