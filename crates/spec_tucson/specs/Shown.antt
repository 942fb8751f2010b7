-- A line as it is shown (§ 16, a line as it is shown): its end taken off, its tabs as blanks, no trailing blanks. A raw line is one of
-- `lines_of`: its bytes with the byte 10 that ends it; the last may lack that.
use Rattle.std.specs.Prelude.{Bool, true, false, cond, ◌&&◌, ◌||◌, not, ℕ, suc, ◌+◌, ◌-◌, ◌%◌, eqb, ltb, length, replicate}
use mathlib.Core.List.{List, [], ◌∷◌, ◌++◌, drop_last}
use Rattle.std.proofs.Math.Option.{Option, some, none}
use Rattle.base_text.specs.Bytes.{Text, newline, Cut, cut}
use Rattle.spec_tucson.specs.Columns.{blank}
use Rattle.spec_tucson.specs.FileText.{tab, carriage_return}

-- ---- the end

abbrev pub before_cut : Text → Option Cut → Text
before_cut raw none = raw
before_cut raw (some c) = c.before

-- The raw line without byte 10.
unfoldable pub unended : Text → Text
unended raw = before_cut raw (cut newline raw)

abbrev pub is_cut : Option Cut → Bool
is_cut none = false
is_cut (some c) = true

-- Byte 10 ends the raw line.
unfoldable pub has_end : Text → Bool
has_end raw = is_cut (cut newline raw)

-- The last byte is a byte 13.
unfoldable pub ends_in_return : Text → Bool
ends_in_return [] = false
ends_in_return (c ∷ []) = eqb c carriage_return
ends_in_return (c ∷ d ∷ cs) = ends_in_return (d ∷ cs)

-- The bytes without byte 13 at their end.
unfoldable pub without_return : Text → Text
without_return t = cond (ends_in_return t) (drop_last t) t

-- ---- tabs

-- A tab goes on to a column that is a multiple of eight.
abbrev pub tab_width : ℕ
tab_width = 8

-- How many blanks a tab becomes behind so many columns.
abbrev pub tab_blanks : ℕ → ℕ
tab_blanks n = tab_width - n % tab_width

-- The bytes with blanks for each tab; so many columns stand before them.
unfoldable pub expanded : ℕ → Text → Text
expanded n [] = []
expanded n (c ∷ cs) = cond (eqb c tab) (replicate (tab_blanks n) blank ++ expanded (n + tab_blanks n) cs) (c ∷ expanded (suc n) cs)

-- There is a tab.
unfoldable pub any_tab : Text → Bool
any_tab [] = false
any_tab (c ∷ cs) = eqb c tab || any_tab cs

-- ---- trailing blanks

-- The byte in front, unless it is a blank with nothing behind it.
abbrev pub unless_trailing : ℕ → Text → Text
unless_trailing c [] = cond (eqb c blank) [] (c ∷ [])
unless_trailing c (d ∷ ds) = c ∷ d ∷ ds

-- The bytes without trailing blanks.
unfoldable pub trimmed : Text → Text
trimmed [] = []
trimmed (c ∷ cs) = unless_trailing c (trimmed cs)

-- ---- the line

-- The bytes of the raw line before its end.
unfoldable pub line_bytes : Text → Text
line_bytes raw = without_return (unended raw)

-- The raw line in its columns, trailing blanks and all.
unfoldable pub in_its_columns : Text → Text
in_its_columns raw = expanded 0 (line_bytes raw)

-- The raw line as it is shown.
unfoldable pub shown : Text → Text
shown raw = trimmed (in_its_columns raw)

-- Nothing is shown of it.
unfoldable pub is_blank_line : Text → Bool
is_blank_line raw = eqb (length (shown raw)) 0

-- ---- what was changed

-- Note 3: a byte 13 was taken off.
unfoldable pub has_return : Text → Bool
has_return raw = ends_in_return (unended raw)

-- Note 4: there was a tab.
unfoldable pub has_tab : Text → Bool
has_tab raw = any_tab (unended raw)

-- Note 5: trailing blanks were taken off.
unfoldable pub has_trailing : Text → Bool
has_trailing raw = ltb (length (shown raw)) (length (in_its_columns raw))
