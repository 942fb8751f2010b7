-- A strict line is shown as it is: it has no tab, no byte 13, no trailing blank, no site name and nothing that is not ASCII.
use mathlib.Core.Path.{◌≡◌, refl, sym, ◌∙◌, ap, ap₂}
use mathlib.Core.Bool.{Bool, true, false, cond, ◌&&◌}
use mathlib.Core.List.{List, [], ◌∷◌, ◌++◌}
use Prim.Native.Nat.{ℕ, suc, ◌+◌, ◌-◌, ◌≤◌}
use native.Mathlib.Omega.{arith}
use borrow.Author.Tests.{ne_eqb}
use lib.Dec.{eqb, leb}
use lib.ListN.{length, take, drop, replicate, take-append-drop, length-append, drop_of_length-le}
use Rattle.base_outcome.specs.Outcome.{answer, refuse}
use Rattle.base_text.specs.Bytes.{Text, newline, index_where}
use Rattle.base_text.specs.Numeral.{decimal}
use Rattle.base_text.proofs.Lacking.{lacks, byte, byte-outside, lacks-first, decimal-lacks, cut-first}
use Rattle.base_text.proofs.RoundTrip.{decimal_any}
use Rattle.spec_tucson.specs.Columns.{blank, columns}
use Rattle.spec_tucson.specs.Line.{field_columns}
use Rattle.spec_tucson.specs.TextReading.{last_field}
use Rattle.spec_tucson.specs.FileText.{tab, carriage_return}
use Rattle.spec_tucson.specs.Shown.{before_cut, unended, ends_in_return, without_return, tab_blanks, expanded, unless_trailing, trimmed, line_bytes, in_its_columns, shown, is_blank_line, has_tab}
use Rattle.spec_tucson.specs.StrictLine.{blanks_before, is_site_name, line_columns, has_site, without_site, masked, or_refused, is_strict, strict_bytes, shown_fields, strict_line}
use Rattle.spec_tucson.specs.KeptLines.{is_answer, reads_strictly}
use Rattle.spec_tucson.specs.CleanSeries.{with_end}
use Rattle.tucson_strict.proofs.Strict.{strict_size, strict_ascii}
use Rattle.theorems_clean.proofs.StrictLines.{strict-line, no_control, lacks-byte}
use Rattle.theorems_clean.proofs.WrittenForm.{columns_form}
use Rattle.theorems_clean.proofs.Shown.{last-columns}

-- ---- no byte 13, no tab

pub no_return : (t : Text) → lacks (byte carriage_return) t ≡ true → ends_in_return t ≡ false
unfolding ends_in_return
no_return [] e = refl
no_return (c ∷ []) e = (lacks-first (byte carriage_return) c [] e).0
no_return (c ∷ d ∷ t) e = no_return (d ∷ t) (lacks-first (byte carriage_return) c (d ∷ t) e).1

pub no_tab_expands : (n : ℕ) (t : Text) → lacks (byte tab) t ≡ true → expanded n t ≡ t
unfolding expanded
no_tab_expands n [] e = refl
no_tab_expands n (c ∷ t) e =
    let both = lacks-first (byte tab) c t e in
    ap (λ (b : Bool). cond b (replicate (tab_blanks n) blank ++ expanded (n + tab_blanks n) t) (c ∷ expanded (suc n) t)) both.0
    ∙ ap (λ (s : Text). c ∷ s) (no_tab_expands (suc n) t both.1)

-- ---- no trailing blank

trimmed_more : (c : ℕ) (t : Text) → 1 ≤ length t → trimmed t ≡ t → trimmed (c ∷ t) ≡ c ∷ t
unfolding trimmed
trimmed_more c [] h e = absurd (omega arith)
trimmed_more c (d ∷ t) h e = ap (unless_trailing c) e

trimmed_append : (s t : Text) → 1 ≤ length t → trimmed t ≡ t → trimmed (s ++ t) ≡ s ++ t
trimmed_append [] t h e = e
trimmed_append (c ∷ s) t h e = trimmed_more c (s ++ t) (omega (arith, length-append s t)) (trimmed_append s t h e)

trimmed-full : (t : Text) → lacks (byte blank) t ≡ true → trimmed t ≡ t
unfolding trimmed
trimmed-full [] e = refl
trimmed-full (c ∷ []) e = ap (λ (b : Bool). cond b [] (c ∷ [])) (lacks-first (byte blank) c [] e).0
trimmed-full (c ∷ d ∷ t) e = trimmed_more c (d ∷ t) (omega arith) (trimmed-full (d ∷ t) (lacks-first (byte blank) c (d ∷ t) e).1)

pub strict_trimmed : (t : Text) → is_strict t ≡ true → trimmed t ≡ t
unfolding columns
strict_trimmed t e =
    let l = strict-line t e in
    let z = last_field l.line.fields in
    let k = length t - field_columns in
    let form = columns_form (drop k t) z (last-columns t l.line l.is) in
    let some_byte = decimal_any z in
    let blanks = replicate (length (drop k t) - length (decimal z)) blank in
    let field : trimmed (blanks ++ decimal z) ≡ blanks ++ decimal z =
    trimmed_append blanks (decimal z) some_byte (trimmed-full (decimal z) (decimal-lacks (byte blank) (byte-outside blank refl refl) z)) in
    let whole : t ≡ take k t ++ (blanks ++ decimal z) = sym (take-append-drop k t) ∙ ap (λ (s : Text). take k t ++ s) form in
    ap trimmed whole ∙ trimmed_append (take k t) (blanks ++ decimal z) (omega (arith, length-append blanks (decimal z))) field ∙ sym whole

-- ---- shown as it is

pub unended_end : (t : Text) → lacks (byte newline) t ≡ true → unended (with_end t) ≡ t
unfolding unended
unended_end t e = ap (before_cut (with_end t)) (cut-first newline t [] e)

module _ (t : Text) (e : is_strict t ≡ true) where
  pub strict_unended : unended (with_end t) ≡ t
  strict_unended = unended_end t (lacks-byte newline t (omega arith) (no_control t e))

  strict-bytes : line_bytes (with_end t) ≡ t
  unfolding line_bytes without_return
  strict-bytes =
      ap (λ (s : Text). cond (ends_in_return s) (mathlib.Core.List.drop_last s) s) strict_unended
      ∙ ap (λ (b : Bool). cond b (mathlib.Core.List.drop_last t) t) (no_return t (lacks-byte carriage_return t (omega arith) (no_control t e)))

  pub strict_in_columns : in_its_columns (with_end t) ≡ t
  unfolding in_its_columns
  strict_in_columns = ap (expanded 0) strict-bytes ∙ no_tab_expands 0 t (lacks-byte tab t (omega arith) (no_control t e))

  pub strict_shown : shown (with_end t) ≡ t
  unfolding shown
  strict_shown = ap trimmed strict_in_columns ∙ strict_trimmed t e

  pub strict_no_site : has_site t ≡ false
  unfolding has_site index_where
  strict_no_site =
      ap (λ (s : Text). leb 1 (blanks_before s) && is_site_name (drop (blanks_before s) s)) (drop_of_length-le t (strict_size t e).1)

  pub strict_fields-shown : shown_fields (with_end t) ≡ t
  unfolding shown_fields without_site
  strict_fields-shown =
      ap (λ (s : Text). cond (has_site s) (trimmed (take line_columns s)) s) strict_shown
      ∙ ap (λ (b : Bool). cond b (trimmed (take line_columns t)) t) strict_no_site

  pub strict_is_read : (place : ℕ) → strict_line place (with_end t) ≡ answer t
  unfolding strict_line strict_bytes
  strict_is_read place =
      ap (λ (s : Text). strict_bytes place (has_tab (with_end t)) s) strict_fields-shown
      ∙ ap₂ (λ (a b : Bool). cond a (cond (has_tab (with_end t)) (refuse 22 place) (or_refused place (masked t))) (cond b (answer t) (refuse 11 place))) (strict_ascii t e) e

  pub strict_not_blank : is_blank_line (with_end t) ≡ false
  unfolding is_blank_line
  strict_not_blank = ap (λ (s : Text). eqb (length s) 0) strict_shown ∙ ne_eqb (length t) 0 (λ z. omega (arith, z, strict_size t e))

  pub strict_reads_strictly : reads_strictly (with_end t) ≡ true
  unfolding reads_strictly
  strict_reads_strictly = ap is_answer (strict_is_read 0)
