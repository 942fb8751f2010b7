-- A strict line has no tab.
use mathlib.Core.Path.{◌≡◌, refl, sym, ◌∙◌, ap, ap₂}
use mathlib.Core.Bool.{Bool, true, false, ◌&&◌, ◌||◌, not}
use mathlib.Core.List.{[], ◌∷◌, ◌++◌}
use Prim.Native.Nat.{ℕ}
use native.Mathlib.Omega.{arith}
use borrow.Author.Tests.{ne_eqb, leb-true}
use lib.Dec.{eqb, leb}
use lib.ListN.{length, take, drop, take-append-drop}
use Rattle.base_exact.proofs.Decide.{and-true, or-false}
use Rattle.base_text.specs.Bytes.{Text}
use Rattle.base_text.proofs.Digits.{digit-bounds}
use Rattle.base_text.proofs.Lacking.{lacks, lacks-first, Outside}
use Rattle.spec_tucson.specs.Columns.{blank}
use Rattle.spec_tucson.specs.FileText.{tab}
use Rattle.spec_tucson.specs.Line.{name_columns, last_printable, all_printable, all_blank, is_name}
use Rattle.spec_tucson.specs.Shown.{any_tab}
use Rattle.spec_tucson.specs.StrictLine.{is_strict}
use Rattle.tucson_strict.proofs.Strict.{strict_parts, strict_lacks}

abbrev is_tab : ℕ → Bool
is_tab c = eqb c tab

outside-tab : Outside is_tab
outside-tab = record { digit = λ c e. ne_eqb c tab (λ z. omega (arith, z, digit-bounds c e)); sign = refl }

tab_append : (s t : Text) → any_tab s ≡ false → any_tab t ≡ false → any_tab (s ++ t) ≡ false
unfolding any_tab
tab_append [] t e f = f
tab_append (c ∷ s) t e f = let both = or-false (eqb c tab) (any_tab s) e in ap₂ ◌||◌ both.0 (tab_append s t both.1 f)

lacking_tab : (t : Text) → lacks is_tab t ≡ true → any_tab t ≡ false
unfolding any_tab
lacking_tab [] e = refl
lacking_tab (c ∷ t) e = let both = lacks-first is_tab c t e in ap₂ ◌||◌ both.0 (lacking_tab t both.1)

printable_untabbed : (t : Text) → all_printable t ≡ true → any_tab t ≡ false
unfolding all_printable any_tab
printable_untabbed [] e = refl
printable_untabbed (c ∷ t) e =
    let halves = and-true (leb blank c && leb c last_printable) (all_printable t) e in
    let bounds = and-true (leb blank c) (leb c last_printable) halves.0 in
    ap₂ ◌||◌ (ne_eqb c tab (λ z. omega (arith, z, leb-true blank c bounds.0))) (printable_untabbed t halves.1)

pub strict_untabbed : (t : Text) → is_strict t ≡ true → any_tab t ≡ false
unfolding is_name
strict_untabbed t e =
    let name = take name_columns t in
    let printable = (and-true (eqb (length name) name_columns) (all_printable name)
    (and-true (eqb (length name) name_columns && all_printable name) (not (all_blank name)) (strict_parts t e).named).0).1 in
    ap any_tab (sym (take-append-drop name_columns t))
    ∙ tab_append name (drop name_columns t) (printable_untabbed name printable) (lacking_tab (drop name_columns t) (strict_lacks is_tab outside-tab refl t e))
