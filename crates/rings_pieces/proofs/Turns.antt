-- Series k of a list of series in its four lists: its name, year, count and widths; and that what reading answers can be printed.
use mathlib.Core.Path.{◌≡◌, refl, sym, ◌∙◌, ap}
use mathlib.Core.Bool.{true}
use mathlib.Core.List.{List, [], ◌∷◌, ◌++◌}
use mathlib.Core.Option.{none}
use Prim.Native.Nat.{ℕ, zero, suc, ◌+◌, ◌*◌, ◌<◌, ◌≤◌}
use native.Mathlib.Omega.{arith}
use lib.IntN.{pos}
use lib.ListN.{length, take, drop, get_or, length-append}
use lib.Seq.{take-take, take_at, drop_at, drop-drop, get_or-take}
use Rattle.base_text.specs.Bytes.{Text}
use Rattle.spec_tucson.specs.Line.{name_columns, is_name}
use Rattle.spec_tucson.specs.Series.{Series}
use Rattle.spec_tucson.specs.Writing.{first_unwritable}
use Rattle.spec_tucson.specs.ReadCall.{names_of, years_of, counts_of, widths_of}
use Rattle.theorems_tucson.proofs.ReadsBack.{first-parts}
use Rattle.tucson_lines.proofs.GoodLines.{name_length}
use Rattle.rings_read.specs.Machine.{Front}

-- What stands for a series past the end.
abbrev pub no_series : Series
no_series = record { name = []; first_year = pos 0; widths = [] }

-- Series k.
abbrev pub series_at : List Series → ℕ → Series
series_at ss k = get_or ss k no_series

-- ---- names
pub named_at : (ss : List Series) (place : ℕ) (before : Text) → first_unwritable place before ss ≡ none → (k : ℕ) → k < length ss → is_name (series_at ss k).name ≡ true
named_at [] place before e k h = absurd (omega arith)
named_at (s ∷ ss) place before e zero h = (first-parts place before s ss e).0.named
named_at (s ∷ ss) place before e (suc k) h = named_at ss (suc place) s.name (first-parts place before s ss e).1 k (omega arith)

abbrev AllNamed : List Series → Type 0
AllNamed ss = (k : ℕ) → k < length ss → is_name (series_at ss k).name ≡ true

pub names_at : (ss : List Series) → ((k : ℕ) → k < length ss → is_name (series_at ss k).name ≡ true) → (k : ℕ) → k < length ss
    → take name_columns (drop (k * name_columns) (names_of ss)) ≡ (series_at ss k).name
unfolding names_of
names_at [] all k h = absurd (omega arith)
names_at (s ∷ ss) all zero h = take_at s.name (names_of ss) name_columns (name_length s.name (all 0 (omega arith)))
names_at (s ∷ ss) all (suc k) h =
    let size : length s.name ≡ name_columns = name_length s.name (all 0 (omega arith)) in
    ap (take name_columns)
    (ap (λ (j : ℕ). drop j (s.name ++ names_of ss)) (let e : suc k * name_columns ≡ name_columns + k * name_columns = omega arith in e)
    ∙ sym (drop-drop (k * name_columns) name_columns (s.name ++ names_of ss))
    ∙ ap (drop (k * name_columns)) (drop_at s.name (names_of ss) name_columns size))
    ∙ names_at ss (λ j l. all (suc j) (omega arith)) k (omega arith)

-- ---- years and counts
pub year-at : (ss : List Series) (k : ℕ) → k < length ss → get_or (years_of ss) k (pos 0) ≡ (series_at ss k).first_year
unfolding years_of
year-at [] k h = absurd (omega arith)
year-at (s ∷ ss) zero h = refl
year-at (s ∷ ss) (suc k) h = year-at ss k (omega arith)

pub count_at : (ss : List Series) (k : ℕ) → k < length ss → get_or (counts_of ss) k 0 ≡ length (series_at ss k).widths
unfolding counts_of
count_at [] k h = absurd (omega arith)
count_at (s ∷ ss) zero h = refl
count_at (s ∷ ss) (suc k) h = count_at ss k (omega arith)

-- ---- widths
pub widths_at : (ss : List Series) (k : ℕ) → k < length ss
    → take (length (series_at ss k).widths) (drop (length (widths_of (take k ss))) (widths_of ss)) ≡ (series_at ss k).widths
unfolding widths_of
widths_at [] k h = absurd (omega arith)
widths_at (s ∷ ss) zero h = take_at s.widths (widths_of ss) (length s.widths) refl
widths_at (s ∷ ss) (suc k) h =
    ap (take (length (series_at ss k).widths))
    (ap (λ (j : ℕ). drop j (s.widths ++ widths_of ss)) (length-append s.widths (widths_of (take k ss)))
    ∙ sym (drop-drop (length (widths_of (take k ss))) (length s.widths) (s.widths ++ widths_of ss))
    ∙ ap (drop (length (widths_of (take k ss)))) (drop_at s.widths (widths_of ss) (length s.widths) refl))
    ∙ widths_at ss k (omega arith)

-- the widths of one series more
pub widths_more : (ss : List Series) (k : ℕ) → k < length ss
    → length (widths_of (take (k + 1) ss)) ≡ length (widths_of (take k ss)) + length (series_at ss k).widths
unfolding widths_of
widths_more [] k h = absurd (omega arith)
widths_more (s ∷ ss) zero h = omega (arith, length-append s.widths [])
widths_more (s ∷ ss) (suc k) h =
    ap (λ (j : ℕ). length (widths_of (take j (s ∷ ss)))) (let e : suc k + 1 ≡ suc (k + 1) = omega arith in e)
    ∙ omega (
      arith,
      length-append s.widths (widths_of (take (k + 1) ss)),
      length-append s.widths (widths_of (take k ss)),
      widths_more ss k (omega arith),
    )

pub widths_within : (ss : List Series) (k : ℕ) → length (widths_of (take k ss)) ≤ length (widths_of ss)
unfolding widths_of
widths_within ss zero = omega arith
widths_within [] (suc k) = omega arith
widths_within (s ∷ ss) (suc k) =
    omega (arith, length-append s.widths (widths_of (take k ss)), length-append s.widths (widths_of ss), widths_within ss k)

-- ---- parts of buffers
part_of_take : {A : Type 0} (m j n : ℕ) (xs : List A) → j + m ≤ n → take m (drop j (take n xs)) ≡ take m (drop j xs)
part_of_take m zero n xs h = take-take m n xs (omega arith)
part_of_take m (suc j) zero xs h = absurd (omega arith)
part_of_take m (suc j) (suc n) [] h = refl
part_of_take m (suc j) (suc n) (x ∷ xs) h = part_of_take m j n xs (omega arith)

pub front-part : {A : Type 0} {list buffer : List A} {n : ℕ} → Front list n buffer → (m j : ℕ) → j + m ≤ n → take m (drop j buffer) ≡ take m (drop j list)
front-part {list = list} {buffer = buffer} {n = n} f m j h = sym (part_of_take m j n buffer h) ∙ ap (λ xs. take m (drop j xs)) f.is

pub front_at : {A : Type 0} {list buffer : List A} {n : ℕ} → Front list n buffer → (d : A) (k : ℕ) → k < n → get_or buffer k d ≡ get_or list k d
front_at {buffer = buffer} {n = n} f d k h = sym (get_or-take n buffer k d h) ∙ ap (λ xs. get_or xs k d) f.is
