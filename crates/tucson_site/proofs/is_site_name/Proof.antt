-- The letters are counted, then the digits, and what is left is letters to the end.
use borrow.Author.Rules.{rules}
use mathlib.Core.Path.{◌≡◌, sym, ◌∙◌, ap}
use Prim.Native.Nat.{ℕ, ◌+◌, ◌-◌, ◌≤◌}
use native.Mathlib.Omega.{arith}
use lib.Dec.{eqb}
use lib.ListN.{length, drop}
use lib.Seq.{slice, length-slice}
use Rattle.base_text.specs.Bytes.{Text}
use Rattle.base_text.proofs.Slice.{drop-slice}
use Rattle.base_text.proofs.Cutting.{index-within}
use Rattle.base_text.specs.Numeral.{is_digit}
use mathlib.Core.Bool.{not}
use Rattle.spec_tucson.specs.StrictLine.{is_letter, letters_before, digits_before}
use Rattle.tucson_site.proofs.Sites.{site_few, site_many, site-digits, site_long, site-last, same-moved}
use Rattle.tucson_site.proofs.is_site_name.Statement.{statement}
use Rattle.tucson_site.proofs.is_site_name.Tie as tie

-- the letters are counted
module _ (c : tie.After-letters_end-number) where
  abbrev s : tie.Start
  s = c.before.before

  abbrev text : Text
  text = s.args.text.now

  abbrev from : ℕ
  from = s.args.from

  abbrev to : ℕ
  to = s.args.to

  abbrev t : Text
  t = slice from to text

  abbrev number : ℕ
  number = c.letters_end-number.result

  abbrev u : Text
  u = slice number to text

  size : length t ≡ to - from
  size = length-slice from to text s.requires.within

  number_is : number ≡ from + letters_before t
  number_is = c.letters_end-number.ensures

  number-within : number ≤ to
  number-within = omega (arith, number_is, size, index-within (λ b. not (is_letter b)) t, s.requires.ordered)

  rest : drop (letters_before t) t ≡ u
  rest = drop-slice (letters_before t) from to text ∙ ap (λ (n : ℕ). slice n to text) (sym number_is)

returns : tie.Need-returns-then-number-from-lt-LETTERS
returns c = let k = c in sym (site_few (t k.before) (omega (arith, number_is k.before, c.if-number-from-lt-LETTERS.true)))

returns-2 : tie.Need-returns-then-number-from-gt-MOST_LETTERS
returns-2 c = let k = c in sym (site_many (t k.before.before) (omega (arith, number_is k.before.before, c.if-number-from-gt-MOST_LETTERS.true)))

-- and the digits
module _ (c : tie.After-digits_end-last) where
  abbrev k1 : tie.After-letters_end-number
  k1 = c.before.before.before

  abbrev last : ℕ
  last = c.digits_end-last.result

  last_is : last ≡ number k1 + digits_before (u k1)
  last_is = c.digits_end-last.ensures

  u_size : length (u k1) ≡ to k1 - number k1
  u_size = length-slice (number k1) (to k1) (text k1) (s k1).requires.within

  last_within : last ≤ to k1
  last_within = omega (arith, last_is, u_size, index-within (λ b. not (is_digit b)) (u k1), number-within k1)

  enough : 2 ≤ letters_before (t k1)
  enough = omega (arith, number_is k1, c.if-number-from-lt-LETTERS.false)

  few : letters_before (t k1) ≤ 4
  few = omega (arith, number_is k1, c.if-number-from-gt-MOST_LETTERS.false)

returns-3 : tie.Need-returns-then-last-number-ne-DIGITS
returns-3 c =
    let d = c in
    let k = k1 d.before in
    sym (site-digits (t k) (u k) (rest k) (enough d.before) (few d.before) (λ e. c.if-last-number-ne-DIGITS.true (omega (arith, last_is d.before))))

returns-4 : tie.Need-returns-then-to-number
returns-4 c =
    let d = c in
    let k = k1 d.before.before in
    sym (site_long (t k) (u k) (rest k) (enough d.before.before) (few d.before.before) (omega (arith, last_is d.before.before, c.if-last-number-ne-DIGITS.false)) (omega (arith, u_size d.before.before, c.if-to-number.true)))

returns-5 : tie.Need-returns
returns-5 c =
    let d = c in
    let k = k1 d.before.before.before in
    let v = slice (last d.before.before.before) (to k) (text k) in
    let e : number k + 3 ≡ last d.before.before.before = omega (arith, c.if-last-number-ne-DIGITS.false, last_is d.before.before.before) in
    let left : drop 3 (u k) ≡ v = drop-slice 3 (number k) (to k) (text k) ∙ ap (λ (n : ℕ). slice n (to k) (text k)) e in
    ap (λ (n : ℕ). eqb n (to k)) c.letters_end.ensures ∙ same-moved (last d.before.before.before) (letters_before v) (to k) (last_within d.before.before.before)
    ∙ sym (site-last (t k) (u k) (rest k) (enough d.before.before.before) (few d.before.before.before) (omega (arith, e, last_is d.before.before.before)) (omega (arith, u_size d.before.before.before, c.if-to-number.false))
    ∙ ap (λ (x : Text). eqb (letters_before x) (length x)) left
    ∙ ap (eqb (letters_before v)) (length-slice (last d.before.before.before) (to k) (text k) (s k).requires.within))

pub is_site_name_spec : {M : Type 1} → statement M
is_site_name_spec =
    tie.close (tie.spec (λ c κs. search rules) (λ c. search rules) returns (λ c. search rules) returns-2
    (λ c κs. let k = c in record { ordered = number-within k.before.before; within = (s k.before.before).requires.within }) (λ c. search rules) returns-3
    (λ c. number-within (k1 c.before)) (λ c. search rules) returns-4
    (λ c κs. let d = c in record { ordered = last_within d.before.before; within = (s (k1 d.before.before)).requires.within }) returns-5)
