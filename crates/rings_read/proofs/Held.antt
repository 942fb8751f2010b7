-- From the contracts of the calls that read to what their buffers hold: the sheet's lists, the file's series, and what the curve call
-- says.
use mathlib.Core.Path.{◌≡◌, refl, sym, ◌∙◌, ap, subst}
use mathlib.Core.List.{List, []}
use Prim.Native.Nat.{ℕ, zero, suc, ◌+◌, ◌≤◌}
use native.Mathlib.Omega.{arith}
use lib.IntN.{ℤ}
use lib.ListN.{length, take, drop, length-append}
use lib.Seq.{take_at}
use Rattle.std.specs.Prelude.{Result, Ok, Err}
use Rattle.std.specs.Result.{MatchResult, IsErrAnd}
use Rattle.std.proofs.lemmas.Result.{err_from_is_err_and}
use Rattle.base_exact.proofs.Decide.{clash}
use Rattle.base_outcome.specs.Outcome.{Outcome, answer, refusal, capped}
use Rattle.base_outcome.proofs.Outcome.{with_refuses}
use Rattle.base_outcome.specs.Machine.{reply, refused, passed}
use Rattle.base_outcome.proofs.Machine.{answer_passed}
use Rattle.base_outcome.proofs.Reply.{count_inverts, refused_inverts}
use Rattle.base_outcome.specs.declared.Refusal.{Refusal}
use Rattle.base_text.specs.Bytes.{Text}
use Rattle.spec_spline.specs.Space.{Space}
use Rattle.spec_spline.specs.Table.{table_cells}
use Rattle.spec_spline.specs.Reading.{side_by_side}
use Rattle.spec_spline.specs.CurveCall.{CurveResult, curve_outcome, returned}
use Rattle.spec_calls.specs.CurveAlone.{curve_alone}
use Rattle.spec_sheet.specs.SheetReading.{read}
use Rattle.spec_sheet.specs.ReadSheet.{Lengths, read_end}
use Rattle.spec_tucson.specs.Series.{Series}
use Rattle.spec_tucson.specs.TextReading.{read_text}
use Rattle.spec_tucson.specs.ReadCall as file
use Rattle.theorems_tucson.proofs.TucsonCells.{read_lists_fit, years_count}
use Rattle.tucson_text.proofs.Rewriting as buffers
use Rattle.sheet_read.specs.Machine as sheet
use Rattle.sheet_read.specs.declared.Lengths as machine
use Rattle.sheet_read.proofs.Answers.{reply-read, reply_malformed, part-fits, part_is}
use Rattle.spec_rings.specs.Ready.{sheet_place, series_place, sheet_read, series_read, text_limit}
use Rattle.rings_read.specs.Machine.{Front, SheetHeld, SeriesHeld}

-- ---- what `map_err` was given, by what it made of it
module _ {A E E' : Type 0} {m : Result A E'} (Q : E → E' → Type 0) where
  pub mapped_ok : (r : Result A E) {x : A} → MatchResult r (λ y. m ≡ Ok y) (λ e. IsErrAnd m (Q e)) → m ≡ Ok x → r ≡ Ok x
  mapped_ok (Ok y) {x} h k = ap Ok (let z : ◌≡◌ {A = Result A E'} (Ok y) (Ok x) = sym h ∙ k in let w : y ≡ x = cc in w)
  mapped_ok (Err e) h k = absurd (subst (λ m. IsErrAnd m (Q e)) k h)

  pub mapped_err : (r : Result A E) {x : E'} → MatchResult r (λ y. m ≡ Ok y) (λ e. IsErrAnd m (Q e)) → m ≡ Err x
      → (e : E) × (r ≡ Err e) × Q e x
  mapped_err (Ok y) h k = absurd (let z = sym h ∙ k in clash cc)
  mapped_err (Err e) h k = (e, refl, subst (λ m. IsErrAnd m (Q e)) k h)

-- ---- places
pub first-place : (place : ℕ) → place ≡ 0 → 0 ≡ capped (sheet_place place)
unfolding capped
first-place place e = ap (λ (p : ℕ). capped (sheet_place p)) (sym e)

pub later-place : (place : ℕ) → (place ≡ 0 → ⊥) → capped (place + 1) ≡ capped (sheet_place place)
later-place zero h = absurd (h refl)
later-place (suc p) h = ap capped (let e : suc p + 1 ≡ suc (suc p) = omega arith in e)

-- ---- the sheet
module _ (text : Text) (b d o c p : List ℤ) (a : Result machine.Lengths ℕ) (b' d' o' c' p' : List ℤ) (e : sheet.EndsAs (read_end text b d o c p) a b' d' o' c' p') where
  pub sheet_refused : {place at : ℕ} → a ≡ Err place → at ≡ capped (sheet_place place)
      → SheetHeld (sheet_read text) (Err at) b' d' o' c'
  unfolding sheet_read
  sheet_refused {place} {at} v h = rw (reply_malformed (read text) a place e.replies v) (refl, sym h)

  pub sheet_held : {n : machine.Lengths} → a ≡ Ok n → SheetHeld (sheet_read text) (Ok n) b' d' o' c'
  unfolding sheet_read
  sheet_held {n} v =
      let l = reply-read (read text) a n e.replies v in
      rw l.is (record {
        breaks_held = record {
          fits = part-fits (λ q. q.breaks) l.is b e.breaks_are (ap (λ (n : Lengths). n.breaks) l.counts);
          is = part_is (λ q. q.breaks) l.is b e.breaks_are (ap (λ (n : Lengths). n.breaks) l.counts);
        };
        degrees_held = record {
          fits = part-fits (λ q. q.degrees) l.is d e.degrees_are (ap (λ (n : Lengths). n.degrees) l.counts);
          is = part_is (λ q. q.degrees) l.is d e.degrees_are (ap (λ (n : Lengths). n.degrees) l.counts);
        };
        orders_held = record {
          fits = part-fits (λ q. q.orders) l.is o e.orders_are (ap (λ (n : Lengths). n.orders) l.counts);
          is = part_is (λ q. q.orders) l.is o e.orders_are (ap (λ (n : Lengths). n.orders) l.counts);
        };
        coefs_held = record {
          fits = part-fits (λ q. side_by_side q.coefs) l.is c e.coefs_are (ap (λ (n : Lengths). n.coefs) l.counts);
          is = part_is (λ q. side_by_side q.coefs) l.is c e.coefs_are (ap (λ (n : Lengths). n.coefs) l.counts);
        };
      })

  -- by what `map_err` made of it
  pub sheet_moved : (r : Result machine.Lengths ℕ) (Q : ℕ → ℕ → Type 0) → ((place at : ℕ) → Q place at → at ≡ capped (sheet_place place))
      → MatchResult a (λ n. r ≡ Ok n) (λ place. IsErrAnd r (Q place)) → SheetHeld (sheet_read text) r b' d' o' c'
  sheet_moved r Q made h = go a refl h
    where
      go : (x : Result machine.Lengths ℕ) → a ≡ x → MatchResult x (λ n. r ≡ Ok n) (λ place. IsErrAnd r (Q place))
          → SheetHeld (sheet_read text) r b' d' o' c'
      go (Ok n) v h = subst (λ q. SheetHeld (sheet_read text) q b' d' o' c') (sym h) (sheet_held v)
      go (Err place) v h =
          let p = err_from_is_err_and r h in
          subst (λ q. SheetHeld (sheet_read text) q b' d' o' c') (sym p.1) (sheet_refused v (made place p.0 p.2))

-- ---- the file
front_of : {A : Type 0} (xs before : List A) {n : ℕ} {buffer : List A} → n ≡ length xs → buffer ≡ file.overwritten xs before → Front xs n buffer
front_of xs before {n} {buffer} k h = record {
  fits = omega (arith, ap length h, length-append xs (drop (length xs) before));
  is = ap (take n) h ∙ take_at xs (drop (length xs) before) n (sym k);
}

module _ (text : Text) (short : length text ≤ text_limit) (names : Text) (years : List ℤ) (counts : List ℕ) (widths : List ℤ)
    (cells : buffers.Cells names years counts widths) (a : Result ℕ Refusal)
    (replies : reply a ≡ (file.read_end text names years counts widths).answers) where
  abbrev outcome : Outcome (List Series)
  outcome = file.read_outcome text (length names) (length years) (length counts) (length widths)

  pub series_refused : {r : Refusal} {at : ℕ} (ns : List ℕ) (ys : List ℤ) (cs : List ℕ) (ws : List ℤ) → a ≡ Err r
      → at ≡ capped (series_place r.place) → SeriesHeld (series_read text) (Err (refused r.code at)) ns ys cs ws
  unfolding series_read
  series_refused {r} ns ys cs ws v h =
      let e : read_text text ≡ refusal r.code r.place =
      sym (buffers.reads_whole text short cells) ∙ with_refuses length outcome (sym replies ∙ ap reply v) in
      rw e (refl, sym h)

  pub series-held : {n : ℕ} {ns : List ℕ} {ys : List ℤ} {cs : List ℕ} {ws : List ℤ} → a ≡ Ok n
      → ns ≡ (file.read_end text names years counts widths).names → ys ≡ (file.read_end text names years counts widths).years
      → cs ≡ (file.read_end text names years counts widths).counts → ws ≡ (file.read_end text names years counts widths).widths
      → SeriesHeld (series_read text) (Ok n) ns ys cs ws
  unfolding series_read file.filled
  series-held {n} v p q r s =
      let h = buffers.read text short cells (sym replies ∙ ap reply v) in
      let ss = h.series in
      let f = read_lists_fit text ss h.reads in
      let whole : outcome ≡ answer ss = buffers.reads_whole text short cells ∙ h.reads in
      rw h.reads (record {
        count = sym h.count;
        names-held = front_of (file.names_of ss) names (omega (arith, h.count, years_count ss, f.names_fit)) (p ∙ ap (λ o. file.filled file.names_of o names) whole);
        years_held = front_of (file.years_of ss) years (omega (arith, h.count, years_count ss)) (q ∙ ap (λ o. file.filled file.years_of o years) whole);
        counts-held = front_of (file.counts_of ss) counts (omega (arith, h.count, years_count ss, f.counts_fit)) (r ∙ ap (λ o. file.filled file.counts_of o counts) whole);
        widths_held = front_of (file.widths_of ss) widths refl (s ∙ ap (λ o. file.filled file.widths_of o widths) whole);
      })

  -- by what `map_err` made of it
  pub series_moved : (m : Result ℕ Refusal) {ns : List ℕ} {ys : List ℤ} {cs : List ℕ} {ws : List ℤ} (Q : Refusal → Refusal → Type 0)
      → ((r s : Refusal) → Q r s → s ≡ refused r.code (capped (series_place r.place)))
      → MatchResult a (λ n. m ≡ Ok n) (λ r. IsErrAnd m (Q r))
      → ns ≡ (file.read_end text names years counts widths).names → ys ≡ (file.read_end text names years counts widths).years
      → cs ≡ (file.read_end text names years counts widths).counts → ws ≡ (file.read_end text names years counts widths).widths
      → SeriesHeld (series_read text) m ns ys cs ws
  series_moved m {ns} {ys} {cs} {ws} Q made h p q r s = go a refl h
    where
      go : (x : Result ℕ Refusal) → a ≡ x → MatchResult x (λ n. m ≡ Ok n) (λ r. IsErrAnd m (Q r)) → SeriesHeld (series_read text) m ns ys cs ws
      go (Ok n) v h = subst (λ x. SeriesHeld (series_read text) x ns ys cs ws) (sym h) (series-held v p q r s)
      go (Err e) v h =
          let z = err_from_is_err_and m h in
          subst (λ x. SeriesHeld (series_read text) x ns ys cs ws) (sym (z.1 ∙ ap Err (made e z.0 z.2))) (series_refused ns ys cs ws v refl)

-- ---- the curve
module _ (s : Space) (coefs : List ℤ) (a : Result ℕ Refusal) (replies : reply a ≡ returned (curve_outcome s coefs [] table_cells table_cells 1)) where
  alone : curve_outcome s coefs [] table_cells table_cells 1 ≡ curve_alone s coefs table_cells table_cells
  unfolding curve_outcome
  alone = refl

  abbrev count : CurveResult → ℕ
  count q = length q.values

  pub curve_refused : {r : Refusal} → a ≡ Err r → curve_alone s coefs table_cells table_cells ≡ refusal r.code r.place
  curve_refused v = sym alone ∙ refused_inverts count (curve_outcome s coefs [] table_cells table_cells 1) (sym (ap reply v) ∙ replies)

  pub curve_legal : {n : ℕ} → a ≡ Ok n → answer (tt {0}) ≡ passed (curve_alone s coefs table_cells table_cells)
  curve_legal v =
      answer_passed _ (sym alone ∙ (count_inverts count (curve_outcome s coefs [] table_cells table_cells 1) (sym (ap reply v) ∙ replies)).is)
