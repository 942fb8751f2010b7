-- What is made of a file by the tests before its lines: the options, its length, its bytes.
use mathlib.Core.Path.{◌≡◌, refl, ◌∙◌, ap}
use mathlib.Core.Bool.{Bool, true, false, cond}
use mathlib.Core.Option.{Option, some, none}
use Prim.Native.Nat.{ℕ}
use lib.Dec.{leb}
use lib.ListN.{length}
use Rattle.base_outcome.specs.Outcome.{Outcome, refusal, capped, refuse, largest_place, ◌then◌}
use Rattle.base_outcome.specs.Tests.{refuse_first}
use Rattle.base_text.specs.Bytes.{Text}
use Rattle.spec_tucson.specs.Line.{lines_of}
use Rattle.spec_tucson.specs.FileText.{text_of, text_fault}
use Rattle.spec_tucson.specs.KeptLines.{header_of}
use Rattle.spec_tucson.specs.CleanCall.{Cleaned, is_header_option, is_unit_option, file_limit, cleaned_below, cleaned_file, cleaned}

module _ (t : Text) (header unit : ℕ) where
  abbrev below : Outcome Cleaned
  below = header_of header (lines_of (text_of t)) then cleaned_below t unit

  pub file_fault : (line : ℕ) → text_fault t ≡ some line → cleaned_file t header unit ≡ refusal 21 (capped line)
  unfolding cleaned_file
  file_fault line e = ap (λ (o : Option ℕ). refuse_first 21 o below) e

  pub file_clear : text_fault t ≡ none → cleaned_file t header unit ≡ below
  unfolding cleaned_file
  file_clear e = ap (λ (o : Option ℕ). refuse_first 21 o below) e

  tested : Bool → Bool → Bool → Outcome Cleaned
  tested h u l = cond h (cond u (cond l (cleaned_file t header unit) (refuse 21 largest_place)) (refuse 24 0)) (refuse 26 0)

  by_tests : (h u l : Bool) → is_header_option header ≡ h → is_unit_option unit ≡ u → leb (length t) file_limit ≡ l → cleaned t header unit ≡ tested h u l
  unfolding cleaned tested
  by_tests h u l a b c = ap (λ (x : Bool). tested x (is_unit_option unit) (leb (length t) file_limit)) a
      ∙ ap (λ (x : Bool). tested h x (leb (length t) file_limit)) b ∙ ap (tested h u) c

  pub no_header : is_header_option header ≡ false → cleaned t header unit ≡ refusal 26 0
  unfolding tested capped
  no_header e = by_tests false (is_unit_option unit) (leb (length t) file_limit) e refl refl

  pub no_unit : is_header_option header ≡ true → is_unit_option unit ≡ false → cleaned t header unit ≡ refusal 24 0
  unfolding tested capped
  no_unit e f = by_tests true false (leb (length t) file_limit) e f refl

  pub too_long : is_header_option header ≡ true → is_unit_option unit ≡ true → leb (length t) file_limit ≡ false → cleaned t header unit ≡ refusal 21 4294967295
  unfolding tested capped
  too_long e f g = by_tests true true false e f g

  pub not_long : is_header_option header ≡ true → is_unit_option unit ≡ true → leb (length t) file_limit ≡ true → cleaned t header unit ≡ cleaned_file t header unit
  unfolding tested
  not_long e f g = by_tests true true true e f g
