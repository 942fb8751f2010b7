-- What is shown of a line by its first 72 columns and the rest, with or without a site name; and the lengths of what is shown.
use mathlib.Core.Path.{◌≡◌, refl, sym, ◌∙◌, ap, ap₂}
use mathlib.Core.Bool.{Bool, true, false, cond, ◌||◌, or-false as or-none}
use mathlib.Core.List.{[], ◌∷◌, ◌++◌, append-nil}
use Prim.Native.Nat.{ℕ, zero, suc, ◌+◌, ◌<◌, ◌≤◌}
use native.Mathlib.Omega.{arith}
use borrow.Author.Tests.{ne_eqb, eqb-true, eqb-false, lt-ltb, le-ltb, ltb-true, ltb-false}
use lib.Dec.{eqb, ltb}
use lib.ListN.{length, take, drop, replicate, length-append, drop_of_length-le}
use lib.Seq.{slice, slice_empty, length-slice, length-take-le, take_at, drop_at}
use Rattle.base_text.specs.Bytes.{Text, index_where}
use Rattle.spec_tucson.specs.Columns.{blank}
use Rattle.spec_tucson.specs.FileText.{tab}
use Rattle.spec_tucson.specs.Shown.{tab_blanks, expanded, trimmed, any_tab, in_its_columns, shown, is_blank_line, has_trailing}
use Rattle.spec_tucson.specs.StrictLine.{has_site, without_site, line_columns, is_high, any_high}
use Rattle.tucson_columns.specs.Machine.{cells, shown_byte, StopTold, ShownTold, LineShown}
use Rattle.tucson_columns.proofs.Shown.{slice-split, expanded_append, expanded-step, expanded-none, expanded_some, expanded-plain}
use Rattle.tucson_site.specs.Machine.{site_behind}
use Rattle.tucson_strict.proofs.Strict.{high_append}
use Rattle.tucson_shown.specs.Machine.{FieldsAre, FieldsLong}

-- ---- how much is shown
pub blank-line : (text : Text) (from end to : ℕ) → to ≤ length text → LineShown text from end to → is_blank_line (slice from (end + 1) text) ≡ eqb to from
unfolding is_blank_line
blank-line text from end to w told = ap (λ (t : Text). eqb (length t) 0) told.is ∙ go (eqb to from) refl
  where
    go : (b : Bool) → eqb to from ≡ b → eqb (length (expanded 0 (slice from to text))) 0 ≡ b
    go true e =
        ap (λ (n : ℕ). eqb (length (expanded 0 (slice from n text))) 0) (eqb-true to from e)
        ∙ ap (λ (t : Text). eqb (length (expanded 0 t)) 0) (slice_empty from text) ∙ ap (λ (t : Text). eqb (length t) 0) (expanded-none 0)
    go false e =
        let longer : from < to = omega (arith, told.after, eqb-false to from e) in
        ne_eqb (length (expanded 0 (slice from to text))) 0
        (λ z. omega (arith, expanded_some 0 (slice from to text) (omega (arith, length-slice from to text w))))

pub trailing : (text : Text) (from end stop to : ℕ) → stop ≤ length text → StopTold text from end stop → ShownTold text from stop to
    → has_trailing (slice from (end + 1) text) ≡ ltb to stop
unfolding has_trailing shown in_its_columns
trailing text from end stop to w s told =
    ap (λ (t : Text). ltb (length (trimmed (expanded 0 t))) (length (expanded 0 t))) s.are
    ∙ ap (λ (t : Text). ltb (length t) (length (expanded 0 (slice from stop text)))) told.is ∙ go (ltb to stop) refl
  where
    split : length (expanded 0 (slice from stop text))
        ≡ length (expanded 0 (slice from to text)) + length (expanded (0 + length (expanded 0 (slice from to text))) (slice to stop text))
    split =
        ap (λ (t : Text). length (expanded 0 t)) (slice-split from to stop text told.after told.before)
        ∙ ap length (expanded_append 0 (slice from to text) (slice to stop text)) ∙ length-append (expanded 0 (slice from to text)) _

    go : (b : Bool) → ltb to stop ≡ b → ltb (length (expanded 0 (slice from to text))) (length (expanded 0 (slice from stop text))) ≡ b
    go true e =
        lt-ltb (length (expanded 0 (slice from to text))) (length (expanded 0 (slice from stop text)))
        (omega (
          arith,
          split,
          expanded_some (0 + length (expanded 0 (slice from to text))) (slice to stop text)
              (omega (arith, length-slice to stop text w, ltb-true to stop e)),
        ))
    go false e =
        let same : stop ≡ to = omega (arith, told.before, ltb-false to stop e) in
        ap (λ (n : ℕ). ltb (length (expanded 0 (slice from to text))) (length (expanded 0 (slice from n text)))) same
        ∙ le-ltb (length (expanded 0 (slice from to text))) (length (expanded 0 (slice from to text))) (omega arith)

-- ---- bytes over 127
blanks_low : (k : ℕ) → any_high (replicate k blank) ≡ false
unfolding any_high
blanks_low zero = refl
blanks_low (suc k) = blanks_low k

byte_high : (n c : ℕ) → any_high (shown_byte n c) ≡ is_high c
unfolding any_high
byte_high n c = go (eqb c tab) refl
  where
    go : (b : Bool) → eqb c tab ≡ b → any_high (cond b (replicate (tab_blanks n) blank) (c ∷ [])) ≡ is_high c
    go true e = blanks_low (tab_blanks n) ∙ sym (ap is_high (eqb-true c tab e))
    go false e = or-none (is_high c)

pub high-shown : (n : ℕ) (t : Text) → any_high (expanded n t) ≡ any_high t
unfolding any_high
high-shown n [] = ap any_high (expanded-none n)
high-shown n (c ∷ t) =
    ap any_high (expanded-step n c t) ∙ high_append (shown_byte n c) (expanded (n + length (shown_byte n c)) t)
    ∙ ap₂ ◌||◌ (byte_high n c) (high-shown (n + length (shown_byte n c)) t)

-- ---- a site name
pub no_site-short : (t : Text) → length t ≤ line_columns → has_site t ≡ false
unfolding has_site index_where
no_site-short t h = ap site_behind (drop_of_length-le t h)

pub site_by_rest : (t front rest : Text) → t ≡ front ++ rest → length front ≡ line_columns → has_site t ≡ site_behind rest
unfolding has_site
site_by_rest t front rest e h = ap site_behind (ap (drop line_columns) e ∙ drop_at front rest line_columns h)

pub without-none : (t : Text) → has_site t ≡ false → without_site t ≡ t
unfolding without_site
without-none t e = rw e

without_some : (t front rest : Text) → t ≡ front ++ rest → length front ≡ line_columns → has_site t ≡ true → without_site t ≡ trimmed front
unfolding without_site
without_some t front rest e h s = rw s (ap trimmed (ap (take line_columns) e ∙ take_at front rest line_columns h))

-- a part without a tab that is no longer than a strict line
pub plain-fields : (t bytes : Text) (n : ℕ) → any_tab t ≡ false → length t ≡ n → n ≤ line_columns → take n bytes ≡ t → FieldsAre (expanded 0 t) n false bytes
plain-fields t bytes n e size h is =
    let s : has_site t ≡ false = no_site-short t (omega (arith, size)) in
    rw (expanded-plain 0 t e) (record { fits = omega arith; are = is ∙ sym (without-none t s); is_site = sym s })

-- ---- what is put into the array
module _ (text : Text) (to : ℕ) (t bytes : Text) (at n : ℕ) (size : length bytes ≡ cells) (fits : n ≤ cells)
    (is : take n bytes ++ expanded n (slice at to text) ≡ t) where
  all_put : at ≡ to → t ≡ take n bytes
  all_put e =
      sym is ∙ ap (λ (i : ℕ). take n bytes ++ expanded n (slice i to text)) e
      ∙ ap (λ (u : Text). take n bytes ++ expanded n u) (slice_empty to text) ∙ ap (λ (u : Text). take n bytes ++ u) (expanded-none n) ∙ append-nil (take n bytes)

  put-size : length (take n bytes) ≡ n
  put-size = length-take-le n bytes (omega arith)

  -- the whole, without a site name
  pub whole_fields : at ≡ to → has_site t ≡ false → FieldsAre t n false bytes
  whole_fields e s = record { fits = fits; are = sym (all_put e) ∙ sym (without-none t s); is_site = sym s }

  pub short-fields : at ≡ to → n ≤ line_columns → FieldsAre t n false bytes
  short-fields e h = whole_fields e (no_site-short t (rw (all_put e) (omega (arith, put-size))))

  -- the first 72 columns and the rest
  module _ (full : n ≡ line_columns) where
    front_is : t ≡ take line_columns bytes ++ expanded line_columns (slice at to text)
    front_is = sym is ∙ ap (λ (m : ℕ). take m bytes ++ expanded m (slice at to text)) full

    front-size : length (take line_columns bytes) ≡ line_columns
    front-size = length-take-le line_columns bytes (omega arith)

    pub site_is : has_site t ≡ site_behind (expanded line_columns (slice at to text))
    site_is = site_by_rest t (take line_columns bytes) (expanded line_columns (slice at to text)) front_is front-size

    pub site-fields : (m : ℕ) → m ≤ line_columns → take m bytes ≡ trimmed (take line_columns bytes) → has_site t ≡ true → FieldsAre t m true bytes
    site-fields m h e s = record {
      fits = omega arith;
      are = e ∙ sym (without_some t (take line_columns bytes) (expanded line_columns (slice at to text)) front_is front-size s);
      is_site = sym s;
    }

  -- more than the array takes
  pub long_fields : at < to → to ≤ length text → n ≡ cells → has_site t ≡ false → FieldsLong t
  long_fields h w full s = record {
    long =
        omega (
          arith,
          ap length (sym is),
          length-append (take n bytes) (expanded n (slice at to text)),
          put-size,
          expanded_some n (slice at to text) (omega (arith, length-slice at to text w)),
        );
    no_site = s;
  }
