-- The fields of a line as the reader finds them: a text without special bytes up to a comma or to the end, and a name in quotation marks.
use mathlib.Core.Path.{◌≡◌, refl, sym, ap, ap₂, ◌∙◌}
use mathlib.Core.Bool.{Bool, true, false, cond, ◌&&◌, ◌||◌, not}
use mathlib.Core.List.{List, [], ◌∷◌, ◌++◌, append_assoc, append-nil}
use Prim.Native.Nat.{ℕ, zero, suc, ◌+◌, ◌%◌, ◌/◌, ◌^◌}
use native.Mathlib.Omega.{arith}
use lib.Dec.{eqb, leb}
use lib.IntN.{ℤ, pos, negsuc, nat_abs}
use Rattle.base_exact.proofs.Decide.{or-false}
use Rattle.base_text.specs.Bytes.{Text, newline, comma, minus, digit_zero}
use Rattle.base_text.specs.Numeral.{digits, decimal}
use Rattle.base_text.proofs.Digits.{digit_yes}
use Rattle.base_text.proofs.Lacking.{lacks, lacks_append, lacks-first, byte, Outside, byte-outside, either-outside, decimal-lacks}
use Rattle.spec_table.specs.Decimals.{point, last_digits, sign, with_decimals, index_text}
use Rattle.spec_table.specs.RingLines.{quotation_mark, asks_quotes, holds_quoted, doubled, quoted_name}
use Rattle.theorems_table.specs.Reader.{Lines, Place, outside, within, behind, byte_first, field_first, line_first, cuts, takes, next, lines_from}

-- A byte at which the reader does something.
abbrev pub special : ℕ → Bool
special c = byte newline c || (byte comma c || byte quotation_mark c)

-- A text in front of the first field.
abbrev pub text_first : Text → Lines → Lines
text_first [] ls = ls
text_first (c ∷ cs) ls = byte_first c (text_first cs ls)

text-first : (t f : Text) (fs : List Text) (ls : Lines) → text_first t ((f ∷ fs) ∷ ls) ≡ ((t ++ f) ∷ fs) ∷ ls
text-first [] f fs ls = refl
text-first (c ∷ t) f fs ls = ap (byte_first c) (text-first t f fs ls)

pub text-alone : (t : Text) (fs : List Text) (ls : Lines) → text_first t (([] ∷ fs) ∷ ls) ≡ (t ∷ fs) ∷ ls
text-alone t fs ls = text-first t [] fs ls ∙ ap (λ (u : Text). (u ∷ fs) ∷ ls) (append-nil t)

-- ---- texts without such a byte

-- the three tests of such a byte are false
none-special : (c : ℕ) → special c ≡ false → (eqb c newline ≡ false) × (eqb c comma ≡ false) × (eqb c quotation_mark ≡ false)
none-special c e =
    let first = or-false (eqb c newline) (eqb c comma || eqb c quotation_mark) e in
    let rest = or-false (eqb c comma) (eqb c quotation_mark) first.1 in
    (first.0, rest.0, rest.1)

pub plain-first : (t u : Text) → lacks special t ≡ true → lines_from outside (t ++ u) ≡ text_first t (lines_from outside u)
unfolding lines_from cuts
plain-first [] u h = refl
plain-first (c ∷ t) u h =
    let first = lacks-first special c t h in
    let none = none-special c first.0 in
    rw (none.0, none.1, none.2) (ap (byte_first c) (plain-first t u first.1))

pub comma-next : (u : Text) → lines_from outside (comma ∷ u) ≡ field_first (lines_from outside u)
unfolding lines_from cuts
comma-next u = refl

pub end_next : (u : Text) → lines_from outside (newline ∷ u) ≡ line_first (lines_from outside u)
unfolding lines_from cuts
end_next u = refl

-- ---- quotation marks

quoted-first : (t u : Text) → lines_from within (doubled t ++ (quotation_mark ∷ u)) ≡ text_first t (lines_from behind u)
unfolding lines_from doubled
quoted-first [] u = refl
quoted-first (c ∷ t) u = go (eqb c quotation_mark) refl (quoted-first t u)
  where
    go : (b : Bool) → eqb c quotation_mark ≡ b → lines_from within (doubled t ++ (quotation_mark ∷ u)) ≡ text_first t (lines_from behind u)
        → lines_from within (cond b (c ∷ c ∷ doubled t) (c ∷ doubled t) ++ (quotation_mark ∷ u)) ≡ byte_first c (text_first t (lines_from behind u))
    go true e ih = simp e (ap (byte_first c) ih)
    go false e ih = rw e (ap (byte_first c) ih)

behind-comma : (u : Text) → lines_from behind (comma ∷ u) ≡ field_first (lines_from outside u)
unfolding lines_from cuts
behind-comma u = refl

-- a name that holds neither a comma nor a quotation mark, and no byte 10, lacks all three
lacks-special : (t : Text) → lacks (byte newline) t ≡ true → holds_quoted t ≡ false → lacks special t ≡ true
unfolding holds_quoted
lacks-special [] h e = refl
lacks-special (c ∷ t) h e =
    let line = lacks-first (byte newline) c t h in
    let asks = or-false (asks_quotes c) (holds_quoted t) e in
    ap₂ (λ (p q : Bool). not p && q) (ap₂ (λ (p q : Bool). p || q) line.0 asks.0) (lacks-special t line.1 asks.1)

pub name-first : (t u : Text) → lacks (byte newline) t ≡ true → lines_from outside (quoted_name t ++ (comma ∷ u)) ≡ text_first t (field_first (lines_from outside u))
unfolding quoted_name lines_from cuts
name-first t u h = go (holds_quoted t) refl
  where
    go : (b : Bool) → holds_quoted t ≡ b
        → lines_from outside (cond b (quotation_mark ∷ (doubled t ++ (quotation_mark ∷ []))) t ++ (comma ∷ u)) ≡ text_first t (field_first (lines_from outside u))
    go true e =
        ap (lines_from within) (append_assoc (doubled t) (quotation_mark ∷ []) (comma ∷ u))
        ∙ quoted-first t (comma ∷ u) ∙ ap (text_first t) (behind-comma u)
    go false e = plain-first t (comma ∷ u) (lacks-special t h e) ∙ ap (text_first t) (comma-next u)

-- ---- numbers lack such bytes

special-outside : Outside special
special-outside =
    either-outside (byte newline) (λ c. byte comma c || byte quotation_mark c) (byte-outside newline refl refl)
    (either-outside (byte comma) (byte quotation_mark) (byte-outside comma refl refl) (byte-outside quotation_mark refl refl))

pub whole-lacks : (z : ℤ) → lacks special (decimal z) ≡ true
whole-lacks z = decimal-lacks special special-outside z

pub index-lacks : (z : ℤ) → lacks special (index_text z) ≡ true
unfolding index_text
index-lacks (pos n) = whole-lacks (pos n)
index-lacks (negsuc zero) = refl
index-lacks (negsuc (suc n)) = whole-lacks (negsuc (suc n))

digits-lack : (n : ℕ) → lacks special (digits n) ≡ true
unfolding decimal
digits-lack n = whole-lacks (pos n)

lasts-lack : (i n : ℕ) → lacks special (last_digits i n) ≡ true
unfolding last_digits
lasts-lack zero n = refl
lasts-lack (suc i) n = lacks_append special (last_digits i (n / 10)) ((digit_zero + n % 10) ∷ []) (lasts-lack i (n / 10))
    (ap (λ (b : Bool). not b && true) (special-outside.digit (digit_zero + n % 10) (digit_yes (digit_zero + n % 10) (omega arith) (omega arith))))

pub decimals_lack : (places : ℕ) (z : ℤ) → lacks special (with_decimals places z) ≡ true
unfolding with_decimals
decimals_lack places (pos n) =
    lacks_append special (digits (n / 10 ^ places)) (point ∷ last_digits places n) (digits-lack (n / 10 ^ places)) (lasts-lack places n)
decimals_lack places (negsuc n) =
    lacks_append special (digits (suc n / 10 ^ places)) (point ∷ last_digits places (suc n)) (digits-lack (suc n / 10 ^ places)) (lasts-lack places (suc n))
