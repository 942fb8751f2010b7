-- What is ready can be printed: its lists fit and its names are of the form. And the header and the pieces are what the program gives.
use mathlib.Core.Path.{◌≡◌, refl, sym, ◌∙◌, ap}
use mathlib.Core.Bool.{true}
use mathlib.Core.List.{List, [], ◌∷◌, ◌++◌, map}
use Prim.Native.Nat.{ℕ, zero, suc, ◌+◌, ◌*◌, ◌<◌, ◌≤◌}
use native.Mathlib.Omega.{arith}
use lib.IntN.{ℤ, pos}
use lib.ListN.{length, take, drop, get_or, length-map}
use lib.Seq.{ext_get_or}
use Rattle.base_exact.specs.Tabulate.{tab}
use Rattle.base_exact.proofs.Tabulate.{tab_length, tab_get_d}
use Rattle.base_outcome.specs.Outcome.{answer}
use Rattle.base_outcome.proofs.Outcome.{then_inverts}
use Rattle.base_text.specs.Bytes.{Text}
use Rattle.spec_spline.specs.Space.{Space, lengths_fit}
use Rattle.spec_spline.specs.Reading.{Wood, side_by_side}
use Rattle.spec_spline.specs.CurveCall.{CurveResult, curve_checked, curve_read, curve_outcome}
use Rattle.spec_spline.proofs.Legal.{fitting_inverts}
use Rattle.spec_sheet.specs.SheetReading.{Lists}
use Rattle.spec_sheet.specs.Sheet.{arguments_of, space_of}
use Rattle.spec_sheet.specs.Printout.{joined}
use Rattle.spec_tucson.specs.Line.{name_columns, is_name}
use Rattle.spec_tucson.specs.Series.{Series}
use Rattle.spec_tucson.specs.ReadCall.{widths_of}
use Rattle.theorems_tucson.proofs.Rewritten.{read_is_writable}
use Rattle.build_space.specs.Machine.{space}
use Rattle.spec_rings.specs.Ready.{sheet_curve, Ready, ready}
use Rattle.spec_rings.specs.Rings.{header_line, series_text, pieces, ready_text, rings}
use Rattle.spec_rings.proofs.Accepted.{accepted}
use Rattle.rings_pieces.specs.Piece.{piece_of, Held, Turn, PiecesAreRings, RefusalIsRings}
use Rattle.rings_pieces.proofs.Turns.{series_at, named_at, names_at, year-at, count_at, widths_at, widths_more, widths_within, front-part, front_at}

-- ---- what is ready

lists-fit : (l : Lists) (q : CurveResult) → sheet_curve l ≡ answer q → lengths_fit (space_of (arguments_of l)) ≡ true
unfolding sheet_curve curve_outcome curve_checked
lists-fit l q e =
    let s = space_of (arguments_of l) in
    let c = then_inverts (curve_checked s (side_by_side l.coefs) []) (curve_read (side_by_side l.coefs) []) e in
    (fitting_inverts (lengths_fit s) 2 0 _ c.before).0

module _ (input : Text) (r : Ready) (e : ready input ≡ answer r) where
  pub ready-fits : lengths_fit (space_of (arguments_of r.lists)) ≡ true
  ready-fits = let p = accepted input r e in lists-fit r.lists p.result p.curve

  pub ready-named : (k : ℕ) → k < length r.series → is_name (series_at r.series k).name ≡ true
  ready-named = let p = accepted input r e in named_at r.series 0 [] (read_is_writable p.text r.series p.reads)

  pub piece_is : (k : ℕ) → k < length r.series
      → piece_of (ready input) k ≡ series_text r.wood (space_of (arguments_of r.lists)) (side_by_side r.lists.coefs) (series_at r.series k)
  unfolding piece_of pieces
  piece_is k h = ap (λ o. piece_of o k) e ∙ mapped r.series k h
    where
      f : Series → Text
      f = series_text r.wood (space_of (arguments_of r.lists)) (side_by_side r.lists.coefs)

      mapped : (ss : List Series) (k : ℕ) → k < length ss → get_or (map f ss) k [] ≡ f (series_at ss k)
      mapped [] k h = absurd (omega arith)
      mapped (s ∷ ss) zero h = refl
      mapped (s ∷ ss) (suc k) h = mapped ss k (omega arith)

-- ---- the pieces, one after another
pub pieces_are_rings : PiecesAreRings
unfolding rings ready_text piece_of pieces
pieces_are_rings input r e =
    ap (λ (ts : List Text). header_line ++ joined ts)
    (ext_get_or [] (tab (length r.series) (piece_of (ready input))) (pieces r)
    (tab_length (length r.series) (piece_of (ready input)) ∙ sym (length-map r.series _))
    (λ k h. tab_get_d (length r.series) (piece_of (ready input)) k [] (omega (arith, tab_length (length r.series) (piece_of (ready input)))) ∙ ap (λ o. piece_of o k) e))
    ∙ sym (ap ready_text e)

pub refusal_is_rings : RefusalIsRings
unfolding rings ready_text
refusal_is_rings input code place e = sym (ap ready_text e)

-- ---- the turn of a series
module _ {input : Text} {wood : Wood} {breaks degrees orders coefs : List ℤ} {n : ℕ} {names : List ℕ} {years : List ℤ} {counts : List ℕ} {widths : List ℤ}
    (h : Held input wood breaks degrees orders coefs n names years counts widths) {k start : ℕ} (t : Turn h k start) where
  abbrev ss : List Series
  ss = h.made.series

  abbrev it : Series
  it = series_at ss k

  pub inside : k < length ss
  inside = omega (arith, t.within, h.file.count)

  pub name-named : is_name it.name ≡ true
  name-named = ready-named input h.made h.is k inside

  pub name_is : take name_columns (drop (k * name_columns) names) ≡ it.name
  name_is =
      front-part h.file.names-held name_columns (k * name_columns) (omega (arith, t.within))
      ∙ names_at ss (ready-named input h.made h.is) k inside

  pub year_is : get_or years k (pos 0) ≡ it.first_year
  year_is = front_at h.file.years_held (pos 0) k t.within ∙ year-at ss k inside

  pub count_is : get_or counts k 0 ≡ length it.widths
  count_is = front_at h.file.counts-held 0 k t.within ∙ count_at ss k inside

  -- its widths lie within the buffer
  pub next_start : length (widths_of (take (k + 1) ss)) ≡ start + length it.widths
  next_start = omega (arith, widths_more ss k inside, t.starts)

  pub widths_fit : start + length it.widths ≤ length widths
  widths_fit = omega (arith, next_start, widths_within ss (k + 1), h.file.widths_held.fits)

  pub widths_are : take (length it.widths) (drop start widths) ≡ it.widths
  widths_are =
      front-part h.file.widths_held (length it.widths) start (omega (arith, next_start, widths_within ss (k + 1)))
      ∙ ap (λ (j : ℕ). take (length it.widths) (drop j (widths_of ss))) t.starts
      ∙ widths_at ss k inside

  pub space_is : space breaks degrees orders ≡ space_of (arguments_of h.made.lists)
  space_is i = record { breaks = h.breaks_are i; degrees = h.degrees_are i; orders = h.orders_are i }

  pub fits : lengths_fit (space breaks degrees orders) ≡ true
  fits = ap lengths_fit space_is ∙ ready-fits input h.made h.is

  -- its bytes
  pub text_is : {name : Text} {year : ℤ} {ws : List ℤ} → name ≡ it.name → year ≡ it.first_year → ws ≡ it.widths
      → series_text wood (space breaks degrees orders) coefs (record { name = name; first_year = year; widths = ws }) ≡ piece_of (ready input) k
  text_is {name} {year} {ws} a b c =
      all (sym h.wood_is) space_is h.coefs_are (λ i. record { name = a i; first_year = b i; widths = c i }) ∙ sym (piece_is input h.made h.is k inside)
    where
      all : {w w' : Wood} {s s' : Space} {c c' : List ℤ} {x x' : Series} → w ≡ w' → s ≡ s' → c ≡ c' → x ≡ x' → series_text w s c x ≡ series_text w' s' c' x'
      all a b c d i = series_text (a i) (b i) (c i) (d i)
