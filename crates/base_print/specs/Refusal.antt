-- The line that a refusal prints (§ 13).
use Rattle.std.specs.Prelude.{[], ◌∷◌, ◌++◌, ℕ}
use Rattle.base_text.specs.Bytes.{Text, newline, comma}
use Rattle.base_text.specs.Numeral.{digits}

-- no=
abbrev pub refusal_key : Text
refusal_key = 110 ∷ 111 ∷ 61 ∷ []

-- "A refusal prints one line, no=number,place." (§ 13)
unfoldable pub refusal_line : ℕ → ℕ → Text
refusal_line code place = refusal_key ++ (digits code ++ (comma ∷ (digits place ++ (newline ∷ []))))

-- The most bytes of such a line: both numbers are counted with the 20 digits that 64 bits can have.
abbrev pub refusal_line_limit : ℕ
refusal_line_limit = 45
