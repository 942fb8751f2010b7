-- The machine's form of what is ready: lists at the fronts of buffers, and their lengths.
use Rattle.std.specs.Prelude.{List, ◌≡◌, ℕ, ◌*◌, ◌≤◌, ℤ, length, take, Result, Ok, Err}
use Rattle.base_outcome.specs.Codes as codes
use Rattle.base_outcome.specs.Outcome.{Outcome, answer, refusal, ◌then◌}
use Rattle.base_outcome.specs.declared.Refusal.{Refusal}
use Rattle.base_text.specs.Bytes.{Text}
use Rattle.spec_spline.specs.Space.{Space}
use Rattle.spec_spline.specs.Table.{table_cells}
use Rattle.spec_spline.specs.Reading.{side_by_side}
use Rattle.spec_calls.specs.CurveAlone.{curve_alone}
use Rattle.spec_sheet.specs.SheetReading.{Lists}
use Rattle.spec_tucson.specs.Line.{name_columns}
use Rattle.spec_tucson.specs.Series.{Series}
use Rattle.spec_tucson.specs.ReadCall.{names_of, years_of, counts_of, widths_of}
use Rattle.sheet_read.specs.declared.Lengths.{Lengths}
use Rattle.curve_ordinates.specs.Wood.{wood_of}
use Rattle.spec_rings.specs.Ready.{text_limit, Ready, series_read}
use Rattle.rings_read.specs.declared.Ready as machine

-- The list stands at the front of the buffer, in its first n cells.
pub record Front {A : Type 0} (list : List A) (n : ℕ) (buffer : List A) : Type 0 where
  pub fits : n ≤ length buffer
  pub is : take n buffer ≡ list

-- The four lists of a sheet that are used stand at the fronts of their buffers.
pub record ListsHeld (l : Lists) (b d o c : ℕ) (breaks degrees orders coefs : List ℤ) : Type 0 where
  pub breaks_held : Front l.breaks b breaks
  pub degrees_held : Front l.degrees d degrees
  pub orders_held : Front l.orders o orders
  pub coefs_held : Front (side_by_side l.coefs) c coefs

-- The series stand at the fronts of the four buffers of reading.
pub record FileHeld (ss : List Series) (n : ℕ) (names : List ℕ) (years : List ℤ) (counts : List ℕ) (widths : List ℤ) : Type 0 where
  pub count : n ≡ length ss
  pub names-held : Front (names_of ss) (n * name_columns) names
  pub years_held : Front (years_of ss) n years
  pub counts-held : Front (counts_of ss) n counts
  pub widths_held : Front (widths_of ss) (length (widths_of ss)) widths

-- The sheet's lists are held, or its refusal is answered.
abbrev pub SheetHeld : Outcome Lists → Result Lengths ℕ → List ℤ → List ℤ → List ℤ → List ℤ → Type 0
SheetHeld (answer l) (Ok n) breaks degrees orders coefs = ListsHeld l n.breaks n.degrees n.orders n.coefs breaks degrees orders coefs
SheetHeld (answer l) (Err place) breaks degrees orders coefs = ⊥
SheetHeld (refusal code place) (Ok n) breaks degrees orders coefs = ⊥
SheetHeld (refusal code place) (Err at) breaks degrees orders coefs = (code ≡ codes.sheet_line) × (place ≡ at)

-- The file's series are held, or its refusal is answered.
abbrev pub SeriesHeld : Outcome (List Series) → Result ℕ Refusal → List ℕ → List ℤ → List ℕ → List ℤ → Type 0
SeriesHeld (answer ss) (Ok n) names years counts widths = FileHeld ss n names years counts widths
SeriesHeld (answer ss) (Err r) names years counts widths = ⊥
SeriesHeld (refusal code place) (Ok n) names years counts widths = ⊥
SeriesHeld (refusal code place) (Err r) names years counts widths = (code ≡ r.code) × (place ≡ r.place)

-- The file's series, where the curve call does not refuse these lists; both in the order of § 18.
abbrev pub file_judged : Text → Space → List ℤ → Outcome (List Series)
file_judged t s coefs = series_read t then λ ss. curve_alone s coefs table_cells table_cells then λ r. answer ss

-- What judging a file asks: a text that is not too long, and counts within their buffers.
pub record FrontsAsk (text : Text) (b : ℕ) (breaks : List ℤ) (d : ℕ) (degrees : List ℤ) (o : ℕ) (orders : List ℤ) (c : ℕ)
    (coefs : List ℤ) : Type 0 where
  pub short : length text ≤ text_limit
  pub breaks_fit : b ≤ length breaks
  pub degrees_fit : d ≤ length degrees
  pub orders_fit : o ≤ length orders
  pub coefs_fit : c ≤ length coefs

-- What is ready is held by the eight buffers, or the refusal is answered.
abbrev pub JudgedAs : Outcome Ready → Result machine.Ready Refusal → List ℤ → List ℤ → List ℤ → List ℤ
    → List ℕ → List ℤ → List ℕ → List ℤ → Type 0
JudgedAs (answer r) (Ok m) breaks degrees orders coefs names years counts widths =
    (r.wood ≡ wood_of m.wood) × ((ListsHeld r.lists m.breaks m.degrees m.orders m.coefs breaks degrees orders coefs)
    × (FileHeld r.series m.series names years counts widths))
JudgedAs (answer r) (Err e) breaks degrees orders coefs names years counts widths = ⊥
JudgedAs (refusal code place) (Ok m) breaks degrees orders coefs names years counts widths = ⊥
JudgedAs (refusal code place) (Err e) breaks degrees orders coefs names years counts widths = (code ≡ e.code)
    × (place ≡ e.place)
