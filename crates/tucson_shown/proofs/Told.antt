-- The strict line of a raw line, or its refusal, from what the tests of its shown bytes say.
use mathlib.Core.Path.{◌≡◌, refl, sym, ◌∙◌, ap, subst}
use mathlib.Core.Bool.{Bool, true, false, cond}
use mathlib.Core.Option.{some, none}
use Prim.Native.Nat.{ℕ, ◌<◌, ◌≤◌}
use native.Mathlib.Omega.{arith}
use lib.ListN.{length, take}
use lib.Seq.{length-take-le}
use Rattle.base_outcome.specs.Outcome.{answer, refuse}
use Rattle.base_text.specs.Bytes.{Text}
use Rattle.spec_tucson.specs.Shown.{expanded, shown, has_tab}
use Rattle.spec_tucson.specs.StrictLine.{line_columns, any_high, is_strict, bytes_masked, masked, strict_bytes, shown_fields, strict_line}
use Rattle.tucson_columns.specs.Machine.{cells}
use Rattle.tucson_strict.proofs.Strict.{strict_ascii, strict_long, strict_size}
use Rattle.tucson_masks.proofs.Masks.{masked_long, masked_ascii}
use Rattle.tucson_shown.specs.Machine.{LineTold, PlainLine, FieldsAre, FieldsLong}
use Rattle.tucson_shown.proofs.Fields.{without-none, plain-fields}
use Rattle.tucson_shown.proofs.Untabbed.{strict_untabbed}

module _ (raw : Text) where
  pub told_strict : is_strict (shown_fields raw) ≡ true → (place : ℕ) → strict_line place raw ≡ answer (shown_fields raw)
  unfolding strict_line strict_bytes
  told_strict e place = rw (strict_ascii (shown_fields raw) e, e)

  pub told_malformed : is_strict (shown_fields raw) ≡ false → any_high (shown_fields raw) ≡ false → (place : ℕ) → strict_line place raw ≡ refuse 11 place
  unfolding strict_line strict_bytes
  told_malformed e h place = rw (h, e)

  module _ (high : any_high (shown_fields raw) ≡ true) where
    pub told_tabbed : has_tab raw ≡ true → (place : ℕ) → strict_line place raw ≡ refuse 22 place
    unfolding strict_line strict_bytes
    told_tabbed e place = rw (high, e)

    pub told_masked : (u : Text) → has_tab raw ≡ false → masked (shown_fields raw) ≡ some u → (place : ℕ) → strict_line place raw ≡ answer u
    unfolding strict_line strict_bytes
    told_masked u e m place = rw (high, e, m)

    pub told_unmasked : masked (shown_fields raw) ≡ none → (place : ℕ) → strict_line place raw ≡ refuse 22 place
    unfolding strict_line strict_bytes
    told_unmasked m place = rw (high, m) (go (has_tab raw))
      where
        go : (b : Bool) → cond b (refuse {A = Text} 22 place) (refuse 22 place) ≡ refuse 22 place
        go true = refl
        go false = refl

  -- a line that is too long
  module _ (told : FieldsLong (shown raw)) where
    long_is : shown_fields raw ≡ shown raw
    unfolding shown_fields
    long_is = without-none (shown raw) told.no_site

    longer : cells < length (shown_fields raw)
    longer = rw long_is told.long

    pub long_high : any_high (shown raw) ≡ true → (place : ℕ) → strict_line place raw ≡ refuse 22 place
    long_high h = told_unmasked (ap any_high long_is ∙ h) (masked_long (shown_fields raw) longer)

    pub long_low : any_high (shown raw) ≡ false → (place : ℕ) → strict_line place raw ≡ refuse 11 place
    long_low h = told_malformed (strict_long (shown_fields raw) (omega (arith, longer))) (ap any_high long_is ∙ h)

-- ---- the strict line in two arrays
module _ (raw bytes line : Text) (m : ℕ) (site : Bool) (size : length bytes ≡ cells) (room : length line ≡ cells) (fields : FieldsAre (shown raw) m site bytes) where
  pub fields_are : take m bytes ≡ shown_fields raw
  unfolding shown_fields
  fields_are = fields.are

  pub line-told : (n : ℕ) → n ≤ line_columns → ((place : ℕ) → strict_line place raw ≡ answer (take n line)) → LineTold raw m n site bytes line
  line-told n h e = record {
    shown-fits = omega (arith, fields.fits);
    line-fits = omega arith;
    line-short = h;
    is_shown = fields_are;
    is_line = e;
    is_site = fields.is_site;
  }

  pub strict_told : is_strict (take m bytes) ≡ true → take m line ≡ bytes_masked (take m bytes) → LineTold raw m m site bytes line
  strict_told s e =
      line-told m (omega (arith, strict_size (take m bytes) s, length-take-le m bytes (omega (arith, fields.fits))))
      (λ place. told_strict raw (ap is_strict (sym fields_are) ∙ s) place
      ∙ ap (λ (u : Text). answer u) (sym (e ∙ masked_ascii (take m bytes) (strict_ascii (take m bytes) s) ∙ fields_are)))

-- a strict line as it stands
pub plain_told : (raw t bytes line : Text) (n : ℕ) → length bytes ≡ cells → length line ≡ cells → shown raw ≡ expanded 0 t → PlainLine t n bytes line
    → LineTold raw n n false bytes line
plain_told raw t bytes line n size room e p =
    let fields : FieldsAre (shown raw) n false bytes =
    subst (λ (u : Text). FieldsAre u n false bytes) (sym e) (plain-fields t bytes n (strict_untabbed t p.is-strict) p.long p.short p.are) in
    let are = fields_are raw bytes line n false size room fields in
    line-told raw bytes line n false size room fields n p.short
    (λ place. told_strict raw (ap is_strict (sym are ∙ p.are) ∙ p.is-strict) place ∙ ap (λ (u : Text). answer u) (sym are ∙ p.are ∙ sym p.is_line))
