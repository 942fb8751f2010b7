-- The text of a laboratory's file (§ 16, the text): where it ends, and the bytes that no text has.
use Rattle.std.specs.Prelude.{Bool, true, cond, ◌&&◌, ◌||◌, not, [], ◌∷◌, ℕ, suc, eqb, ltb, length, take, drop}
use Rattle.std.proofs.Math.Option.{Option, some, none}
use Rattle.base_text.specs.Bytes.{Text, newline, index_of, begins_with}
use Rattle.spec_tucson.specs.Columns.{blank}

-- Byte 9, a tab.
abbrev pub tab : ℕ
tab = 9

-- Byte 13, which some systems put before byte 10.
abbrev pub carriage_return : ℕ
carriage_return = 13

-- Byte 26, with which some programs end a text.
abbrev pub substitute : ℕ
substitute = 26

-- The three bytes with which some programs mark a text as UTF-8.
abbrev pub byte_order_mark : Text
byte_order_mark = 239 ∷ 187 ∷ 191 ∷ []

-- The file begins with that mark.
unfoldable pub is_marked : Text → Bool
is_marked t = begins_with byte_order_mark t

-- The file without a mark at its start.
unfoldable pub unmarked : Text → Text
unmarked t = cond (is_marked t) (drop (length byte_order_mark) t) t

-- The text of a file: what stands before the first byte 26, without a mark.
unfoldable pub text_of : Text → Text
text_of t = take (index_of substitute (unmarked t)) (unmarked t)

-- A byte 26 ends the text.
unfoldable pub ends_early : Text → Bool
ends_early t = ltb (index_of substitute (unmarked t)) (length (unmarked t))

-- ---- code 21

-- The bytes that may stand behind the first byte 26.
abbrev pub is_padding : ℕ → Bool
is_padding c = eqb c substitute || eqb c blank || eqb c tab || eqb c newline || eqb c carriage_return

-- All of them are such bytes.
unfoldable pub all_padding : Text → Bool
all_padding [] = true
all_padding (c ∷ cs) = is_padding c && all_padding cs

-- A byte that no text has, with what follows it: zero, the first of a mark, byte 13 without byte 10.
unfoldable pub is_fault : ℕ → Text → Bool
is_fault c cs = eqb c 0 || begins_with byte_order_mark (c ∷ cs) || (eqb c carriage_return && not (begins_with (newline ∷ []) cs))

-- The line after a byte of this line.
abbrev pub line_after : ℕ → ℕ → ℕ
line_after c line = cond (eqb c newline) (suc line) line

-- The line of the first byte at fault, if there is one; the first byte of the text stands in this line.
unfoldable pub fault_line : ℕ → Text → Option ℕ
fault_line line [] = none
fault_line line (c ∷ cs) =
    cond (eqb c substitute) (cond (all_padding cs) none (some line))
    (cond (is_fault c cs) (some line) (fault_line (line_after c line) cs))

-- The file begins as texts of 16-bit characters do.
unfoldable pub is_wide : Text → Bool
is_wide t = begins_with (255 ∷ 254 ∷ []) t || begins_with (254 ∷ 255 ∷ []) t

-- The line of code 21, if the file has a byte at fault.
unfoldable pub text_fault : Text → Option ℕ
text_fault t = cond (is_wide t) (some 1) (fault_line 1 (unmarked t))
