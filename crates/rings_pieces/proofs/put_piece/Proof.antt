-- `put_piece` meets its contract: the parts of the four lists at turn k are the name, the year and the widths of series k.
use borrow.Author.Rules.{rules}
use native.Mathlib.Omega.{arith}
use mathlib.Core.Path.{◌≡◌, sym, ap, ◌∙◌, subst}
use mathlib.Core.Bool.{true}
use mathlib.Core.List.{List}
use Prim.Native.Nat.{ℕ, ◌+◌, ◌*◌, ◌-◌, ◌≤◌}
use lib.IntN.{ℤ, pos}
use lib.ListN.{length, take, drop, get_or}
use mir.Syntax.{w32}
use mir.Val.{SFits}
use Rattle.base_exact.proofs.Word.{to_z-of_z}
use Rattle.base_text.specs.Bytes.{Text}
use Rattle.spec_tucson.specs.Line.{is_name}
use Rattle.spec_tucson.specs.Series.{Series}
use Rattle.rings_read.specs.Machine.{Front}
use Rattle.rings_pieces.proofs.Turns.{series_at}
use Rattle.rings_pieces.proofs.Pieces.{name-named, name_is, year_is, count_is, widths_fit, widths_are, fits, text_is}
use Rattle.rings_pieces.proofs.put_piece.Statement.{statement}
use Rattle.rings_pieces.proofs.put_piece.Tie as tie

module _ (s : tie.Start) where
  abbrev k : ℕ
  k = s.args.k

  abbrev start : ℕ
  start = s.args.start

  abbrev it : Series
  it = series_at s.requires.held.made.series k

  abbrev names : List ℕ
  names = s.args.names.now

  abbrev counts : List ℕ
  counts = s.args.counts.now

  abbrev widths : List ℤ
  widths = s.args.widths.now

  count : get_or counts k 0 ≡ length it.widths
  count = count_is s.requires.held s.requires.turn

  part-fits : start + get_or counts k 0 ≤ length widths
  part-fits = omega (arith, count, widths_fit s.requires.held s.requires.turn)

  part_small : start + get_or counts k 0 ≤ 174762
  part_small = omega (arith, part-fits, s.requires.few)

  name : take (k * 8 + 8 - k * 8) (drop (k * 8) names) ≡ it.name
  name = ap (λ (j : ℕ). take j (drop (k * 8) names)) (let e : k * 8 + 8 - k * 8 ≡ 8 = omega arith in e) ∙ name_is s.requires.held s.requires.turn

  part : take (start + get_or counts k 0 - start) (drop start widths) ≡ it.widths
  part =
      ap (λ (j : ℕ). take j (drop start widths)) (let e : start + get_or counts k 0 - start ≡ length it.widths = omega (arith, count) in e)
      ∙ widths_are s.requires.held s.requires.turn

cast-end : tie.Need-overflow_cast-end
cast-end c = let s = c in omega (arith, c.shared_slice_known-4-1.given (k s.before.before.before.before.before))

add-end : tie.Need-overflow_add-end
add-end c = let s = c in omega (arith, part_small s.before.before.before.before.before)

mul-put-series-2 : tie.Need-offset_bounds-widths-start
mul-put-series-2 c = let s = c in omega (arith, part_small s.before.before.before.before.before.before.before)

part-put-series-end-2 : tie.Need-slice_bounds-put_series-end-2
part-put-series-end-2 c = let s = c in let h = part-fits s.before.before.before.before.before.before.before in search rules

put-series-requires : tie.Need-put_series-requires
put-series-requires c κs =
    let s = c in
    record {
      fitting = fits s.requires.held s.requires.turn;
      named = subst (λ (t : Text). is_name t ≡ true) (sym (name s.before.before.before.before.before.before.before.before.before)) (name-named s.requires.held s.requires.turn);
      room = s.requires.room;
    }

returns : tie.Need-returns
returns c =
    let s = c in
    let f : SFits w32 (get_or s.args.years.now (k s.before.before.before.before.before.before.before.before.before.before.before.before) (pos 0)) = search rules in
    subst (λ (t : Text). Front t c.put_series.result c.put_series.new.out)
    (text_is s.requires.held s.requires.turn (name s.before.before.before.before.before.before.before.before.before.before.before.before) (year_is s.requires.held s.requires.turn) (part s.before.before.before.before.before.before.before.before.before.before.before.before))
    (simp to_z-of_z at c.put_series.ensures)

pub put_piece_spec : {M : Type 1} → statement M
put_piece_spec =
    tie.close
    (tie.spec
    (λ c. search rules)
    (λ c. search rules)
    (λ c. search rules)
    (λ c. search rules)
    cast-end
    add-end
    (λ c. search rules)
    (λ c. search rules)
    (λ c. search rules)
    (λ c. search rules)
    (λ c. search rules)
    mul-put-series-2
    (λ c. search rules)
    (λ c. search rules)
    part-put-series-end-2
    put-series-requires
    (λ c. search rules)
    returns)
