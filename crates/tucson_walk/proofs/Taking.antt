-- A strict line taken: what is put for it, and what is held of its series behind it.
use mathlib.Core.Path.{◌≡◌, refl, sym, ◌∙◌, ap, ap₂, subst}
use mathlib.Core.Bool.{Bool, true, false, cond, not}
use mathlib.Core.List.{List, [], ◌∷◌, ◌++◌}
use Prim.Native.Nat.{ℕ, suc, ◌-◌, ◌≤◌}
use native.Mathlib.Omega.{arith}
use borrow.Author.Tests.{ne_eqb}
use lib.Dec.{eqb}
use lib.IntN.{ℤ}
use lib.ListN.{length, take}
use lib.Seq.{take_all}
use Rattle.base_print.proofs.Buffer.{puts_as}
use Rattle.base_text.specs.Bytes.{Text}
use Rattle.spec_tucson.specs.Columns.{columns}
use Rattle.spec_tucson.specs.Line.{field_columns}
use Rattle.spec_tucson.specs.Shown.{shown}
use Rattle.spec_tucson.specs.StrictLine.{has_site, any_high, shown_fields, Kept}
use Rattle.spec_tucson.specs.CleanSeries.{continues, follows_its, fields_of, closing_of, is_reclosed, reclosed, with_end}
use Rattle.spec_tucson.specs.CleanNotes.{Ahead, ahead, remarks, kept_notes, line_notes, at_line, Before, behind}
use Rattle.tucson_notes.specs.Machine.{SumsUp, ahead_of, shown_marked, form_marked, marked, strict_put}
use Rattle.tucson_notes.specs.declared.Fields.{Fields}
use Rattle.tucson_notes.specs.declared.Marks.{Marks}
use Rattle.spec_tucson.proofs.Kept.{ahead_some}
use Rattle.tucson_walk.specs.declared.Series.{Series}
use Rattle.tucson_walk.specs.declared.Walked.{Walked}
use Rattle.tucson_walk.specs.declared.Turn.{Turn}
use Rattle.tucson_walk.specs.Tracking.{ahead_with}
use Rattle.tucson_walk.specs.Walking.{Holds, Entered, LeaveTold, reclosing, marks_of, PutsKept, Took}
use Rattle.tucson_walk.proofs.Tracking.{ahead_more, ahead-last, tracks_on}

-- ---- the last line of a series
pub last_is : (unit : ℕ) (k : Kept) (ks : List Kept) → eqb (ahead unit (k ∷ ks)).count 1 ≡ not (continues k ks)
unfolding continues
last_is unit k [] = ap (λ (a : Ahead). eqb a.count 1) (ahead-last unit k [] refl)
last_is unit k (l ∷ ls) = go (continues k (l ∷ ls)) refl
  where
    go : (b : Bool) → continues k (l ∷ ls) ≡ b → eqb (ahead unit (k ∷ l ∷ ls)).count 1 ≡ not b
    go true e = ne_eqb (ahead unit (k ∷ l ∷ ls)).count 1 (λ z. omega (arith, z, ap (λ (a : Ahead). a.count) (ahead_more unit k (l ∷ ls) e), ahead_some unit l ls))
    go false e = ap (λ (a : Ahead). eqb a.count 1) (ahead-last unit k (l ∷ ls) e)

not_not : (b : Bool) → not (not b) ≡ b
not_not true = refl
not_not false = refl

-- ---- what is held behind the line
module _ {unit : ℕ} {b : Before} {k : Kept} {ks : List Kept} {old s gone : Series} (e : Entered unit b k ks old s) (l : LeaveTold s gone) where
  some_line : 1 ≤ s.ahead.count
  unfolding ahead_of
  some_line = omega (arith, ahead_some unit k ks, ap (λ (a : Ahead). a.count) e.ahead_is)

  abbrev fewer : ℕ
  fewer = s.ahead.count - 1

  count_is : s.ahead.count ≡ suc fewer
  count_is = omega (arith, some_line)

  ahead-here : ahead unit (k ∷ ks) ≡ ahead_with (suc fewer) s.ahead.closing s.ahead.fields
  unfolding ahead_of
  ahead-here = sym e.ahead_is ∙ ap (λ (n : ℕ). ahead_with n s.ahead.closing s.ahead.fields) count_is

  pub holds-behind : Holds unit (behind s.first k) ks gone
  holds-behind = subst (Holds unit (behind s.first k) ks) (sym (l fewer count_is))
      (record { tracks = tracks_on unit fewer s.ahead.closing s.ahead.fields k ks ahead-here; knows = (e.known_is, refl) })

-- ---- the strict line
module _ (unit : ℕ) (k : Kept) (ks : List Kept) (s : Series) (f : Fields) (a : ahead_of s.ahead ≡ ahead unit (k ∷ ks)) (u : SumsUp (fields_of k.text) f) where
  abbrev closes : Bool
  closes = reclosing unit (eqb s.ahead.count 1) f.last

  count_same : eqb s.ahead.count 1 ≡ eqb (ahead unit (k ∷ ks)).count 1
  unfolding ahead_of
  count_same = ap (λ (x : Ahead). eqb x.count 1) a

  closes_is : closes ≡ is_reclosed unit (continues k ks) k.text
  unfolding is_reclosed
  closes_is = ap₂ (λ (x : Bool) (z : ℤ). reclosing unit x z) (count_same ∙ last_is unit k ks) u.last_is

  closes_noted : closes ≡ is_reclosed unit (not (eqb (ahead unit (k ∷ ks)).count 1)) k.text
  unfolding is_reclosed
  closes_noted = ap₂ (λ (x : Bool) (z : ℤ). reclosing unit x z) (count_same ∙ sym (not_not (eqb (ahead unit (k ∷ ks)).count 1))) u.last_is

  pub text_is : strict_put k.text (length k.text) closes unit ≡ with_end (reclosed unit (continues k ks) k.text)
  unfolding strict_put reclosed
  text_is = ap₂ (λ (x : Bool) (t : Text). with_end (cond x (take (length k.text - field_columns) k.text ++ columns field_columns (closing_of unit)) t)) closes_is
      (take_all (length k.text) k.text (omega arith))

  pub notes_are : (early first first' : Bool) → first ≡ first'
      → marked (marks_of early k.raw (has_site (shown k.raw)) (any_high (shown_fields k.raw)) closes) (remarks s.first first (ahead_of s.ahead) (fields_of k.text))
      ≡ line_notes early k.raw (kept_notes unit s.first first' (ahead unit (k ∷ ks)) k)
  unfolding shown_marked form_marked line_notes kept_notes
  notes_are early first first' e =
      ap₂ (λ (x : Bool) (ns : List ℕ). marked (marks_of early k.raw (has_site (shown k.raw)) (any_high (shown_fields k.raw)) x) ns) closes_noted
      (ap₂ (λ (y : Bool) (z : Ahead). remarks s.first y z (fields_of k.text)) e a)

pub puts_kept_as : {unit : ℕ} {s : Series} {f : Fields} {w r : Walked} {out out' : Text} {lines lines' notes notes' : List ℕ} {x y : Text} {i j : ℕ} {m n : Marks} {first : Bool}
    → x ≡ y → i ≡ j → m ≡ n → PutsKept x i unit m first s f w out out' lines lines' notes notes' r → PutsKept y j unit n first s f w out out' lines lines' notes notes' r
puts_kept_as {unit} {s} {f} {w} {r} {out} {out'} {lines} {lines'} {notes} {notes'} {x} {y} {i} {j} {m} {n} {first} a b c p =
    subst (λ (q : Marks). PutsKept y j unit q first s f w out out' lines lines' notes notes' r) c
    (subst (λ (q : ℕ). PutsKept y q unit m first s f w out out' lines lines' notes notes' r) b
    (subst (λ (q : Text). PutsKept q i unit m first s f w out out' lines lines' notes notes' r) a p))

pub took : {unit : ℕ} {early : Bool} {b : Before} {k : Kept} {ks : List Kept} {t : Turn} {s gone : Series} {f : Fields} {r : Walked}
    {out out' : Text} {lines lines' notes notes' : List ℕ} → Entered unit b k ks t.series s → LeaveTold s gone → SumsUp (fields_of k.text) f
    → PutsKept k.text k.line unit
    (marks_of early k.raw (has_site (shown k.raw)) (any_high (shown_fields k.raw)) (reclosing unit (eqb s.ahead.count 1) f.last))
    (eqb t.series.ahead.count 0) s f t.walked out out' lines lines' notes notes' r
    → Took unit early b k ks t out out' lines lines' notes notes' (record { series = gone; walked = r })
took {unit} {early} {b} {k} {ks} {t} {s} {gone} {f} e l u p = record {
  closing = s.first;
  closing_is = e.closing_is;
  holds = holds-behind e l;
  bytes-put = puts_as (text_is unit k ks s f e.ahead_is u) p.text-put;
  number_put = p.line-put;
  cells-put = puts_as (ap (at_line k.line) (notes_are unit k ks s f e.ahead_is u early (eqb t.series.ahead.count 0) (not (follows_its b.kept k)) e.first_is))
      (p.notes_put (fields_of k.text) u);
}
