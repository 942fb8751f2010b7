-- The bytes of the sheet's text (§ 13), and how a text is cut at one of them.
use Rattle.std.specs.Prelude.{Bool, true, false, cond, List, [], ◌∷◌, ◌++◌, ℕ, suc, ◌≤◌, eqb, length}
use Rattle.std.proofs.Math.Option.{Option, some, none}
use Prim.Native.Char.{code}
use Prim.Native.String.{String}
use Prim.Native.String as string

-- A text is a list of bytes.
abbrev pub Text : Type 0
Text = List ℕ

-- Byte 10, which ends a line.
abbrev pub newline : ℕ
newline = 10

abbrev pub comma : ℕ
comma = 44

abbrev pub minus : ℕ
minus = 45

abbrev pub slash : ℕ
slash = 47

abbrev pub colon : ℕ
colon = 58

-- The digit 0.
abbrev pub digit_zero : ℕ
digit_zero = 48

-- The bytes of a text of ASCII characters.
unfoldable pub bytes : String → Text
bytes string.[] = []
bytes (string.◌∷◌ c s) = code c ∷ bytes s

-- Lines, each ended by byte 10.
unfoldable pub lines : List String → Text
lines [] = []
lines (s ∷ ss) = bytes s ++ (newline ∷ lines ss)

-- What stands before the first such byte, and what stands after it.
pub record Cut : Type 0 where
  pub before : Text
  pub after : Text

abbrev pub with_byte : ℕ → Option Cut → Option Cut
with_byte c none = none
with_byte c (some r) = some (record { before = c ∷ r.before; after = r.after })

-- The text cut at the first byte b, if it has one.
unfoldable pub cut : ℕ → Text → Option Cut
cut b [] = none
cut b (c ∷ cs) = cond (eqb c b) (some (record { before = []; after = cs })) (with_byte c (cut b cs))

abbrev pub on_first : ℕ → List Text → List Text
on_first c [] = (c ∷ []) ∷ []
on_first c (f ∷ fs) = (c ∷ f) ∷ fs

-- The fields between the bytes that the test picks: one more than there are such bytes.
unfoldable pub fields_between : (ℕ → Bool) → Text → List Text
fields_between picks [] = [] ∷ []
fields_between picks (c ∷ cs) = cond (picks c) ([] ∷ fields_between picks cs) (on_first c (fields_between picks cs))

-- The fields between the commas.
abbrev pub fields : Text → List Text
fields = fields_between (λ c. eqb c comma)

-- What follows the given beginning, if the text begins so.
unfoldable pub stripped : Text → Text → Option Text
stripped [] text = some text
stripped (p ∷ ps) [] = none
stripped (p ∷ ps) (c ∷ cs) = cond (eqb c p) (stripped ps cs) none

-- ---- what the reading functions look for in a part of a text

-- Two indices of a text, the one not after the other: the part from the one up to the other is `slice from to text`.
pub record Range (text : Text) (from to : ℕ) : Type 0 where
  pub ordered : from ≤ to
  pub within : to ≤ length text

-- The index of the first byte that the test picks, or the length where there is none.
unfoldable pub index_where : (ℕ → Bool) → Text → ℕ
index_where picks [] = 0
index_where picks (c ∷ cs) = cond (picks c) 0 (suc (index_where picks cs))

-- The index of the first byte b, or the length.
abbrev pub index_of : ℕ → Text → ℕ
index_of b = index_where (λ c. eqb c b)

-- Whether the text begins with the key.
unfoldable pub begins_with : Text → Text → Bool
begins_with [] text = true
begins_with (p ∷ ps) [] = false
begins_with (p ∷ ps) (c ∷ cs) = cond (eqb c p) (begins_with ps cs) false
