-- What the read call ends with, from what the first pass found and the second wrote.
use mathlib.Core.Path.{◌≡◌, refl, sym, ◌∙◌, ap, subst}
use mathlib.Core.Bool.{Bool, true, false, cond, ◌&&◌, and-false}
use mathlib.Core.List.{List, [], ◌∷◌}
use mathlib.Core.Option.{Option, none}
use Prim.Native.Nat.{ℕ, suc, ◌+◌, ◌*◌, ◌/◌, ◌<◌, ◌≤◌}
use native.Mathlib.Omega.{arith}
use borrow.Author.Tests.{le-leb, lt-leb}
use lib.Dec.{leb}
use lib.IntN.{ℤ}
use lib.ListN.{length, length-append, length-map}
use lib.Seq.{sets}
use Rattle.std.specs.Prelude.{Result, Ok, Err}
use Rattle.base_exact.proofs.Decide.{clash}
use Rattle.base_outcome.specs.Outcome.{Outcome, answer, refusal, capped, with_answer, ◌then◌}
use Rattle.base_outcome.proofs.Outcome.{answer_unique}
use Rattle.base_text.specs.Bytes.{Text}
use Rattle.spec_tucson.specs.Line.{name_columns}
use Rattle.spec_tucson.specs.Series.{Series}
use Rattle.spec_tucson.specs.TextReading.{Begun, goes_on, read_lines, read_text}
use Rattle.spec_tucson.specs.ReadCall.{names_of, years_of, counts_of, widths_of, room_for, read_outcome, filled}
use Rattle.tucson_lines.proofs.GoodLines.{good-name, name_length}
use Rattle.tucson_scan.specs.Scan.{scan_told}
use Rattle.tucson_read.specs.Write.{series_in, WriteAsks, Written}
use Rattle.base_outcome.specs.Machine.{refused, reply}
use Rattle.base_outcome.specs.declared.Refusal.{Refusal}
use Rattle.tucson_scan.specs.declared.Totals.{Totals}
use Rattle.tucson_read.proofs.Sets.{sets-front}
use Rattle.tucson_read.proofs.Writes.{turn_more, turn_last}

-- ---- what the first pass says
pub scan_refused : (o : Outcome (List Series)) {r : Refusal} → Err r ≡ scan_told 0 0 o → o ≡ refusal r.code r.place
unfolding scan_told
scan_refused (answer ss) e = clash cc
scan_refused (refusal n p) {r} e = let is : refused n p ≡ r = cc in ap (λ q. refusal q.code q.place) is

pub record Found (o : Outcome (List Series)) (totals : Totals) : Type 0 where
  pub list : List Series
  pub is : o ≡ answer list
  pub series_is : length list ≡ totals.series
  pub widths_is : length (widths_of list) ≡ totals.widths

pub scan-found : (o : Outcome (List Series)) {totals : Totals} → Ok totals ≡ scan_told 0 0 o → Found o totals
unfolding scan_told
scan-found (answer ss) {totals} e =
    let is : record { series = 0 + length ss; widths = 0 + length (widths_of ss) } ≡ totals = cc in
    record { list = ss; is = refl; series_is = omega (arith, ap (λ t. t.series) is); widths_is = omega (arith, ap (λ t. t.widths) is) }
scan-found (refusal n p) e = clash cc

-- ---- eight bytes a name
abbrev EightEach : List Series → Type 0
EightEach ss = length (names_of ss) ≡ length ss * name_columns

more_names : (place : ℕ) (b : Option Begun) (t : Text) (ts : List Text) (ss : List Series)
    → ((p : ℕ) (c : Option Begun) (rs : List Series) → read_lines p c ts ≡ answer rs → EightEach rs)
    → read_lines place b (t ∷ ts) ≡ answer ss → (m : Bool) → goes_on t ts ≡ m → EightEach ss
unfolding names_of
more_names place b t ts ss ih e true k = ih (suc place) _ ss (turn_more place b t ts ss e k).reads
more_names place b t ts ss ih e false k =
    let z = turn_last place b t ts ss e k in
    let name : length z.series.name ≡ name_columns = ap length z.name ∙ name_length z.line.name (good-name t z.line z.good) in
    omega (
      arith,
      ap (λ rs. length (names_of rs)) z.is,
      ap length z.is,
      length-append z.series.name (names_of z.later),
      ih (suc place) none z.later z.reads,
    )

names-length : (place : ℕ) (b : Option Begun) (ts : List Text) (ss : List Series) → read_lines place b ts ≡ answer ss → EightEach ss
unfolding read_lines names_of
names-length place b [] ss e = let is : [] ≡ ss = answer_unique {o = answer []} refl e in subst EightEach is refl
names-length place b (t ∷ ts) ss e = more_names place b t ts ss (λ p c rs. names-length p c ts rs) e (goes_on t ts) refl

-- ---- the end of the call
-- What a caller gives: a text, and four buffers.
pub record Given : Type 0 where
  pub text : Text
  pub names : Text
  pub years : List ℤ
  pub counts : List ℕ
  pub widths : List ℤ

module _ (given : Given) where
  abbrev text : Text
  text = given.text

  abbrev names : Text
  names = given.names

  abbrev years : List ℤ
  years = given.years

  abbrev counts : List ℕ
  counts = given.counts

  abbrev widths : List ℤ
  widths = given.widths

  abbrev outcome : Outcome (List Series)
  outcome = read_outcome text (length names) (length years) (length counts) (length widths)

  -- The answer and the four buffers, as the definition of the call gives them.
  abbrev Ends : Result ℕ Refusal → List ℕ → List ℤ → List ℕ → List ℤ → Type 0
  Ends r ns ys cs ws =
      (reply r ≡ with_answer length outcome)
      × ((ns ≡ filled names_of outcome names)
      × ((ys ≡ filled years_of outcome years) × ((cs ≡ filled counts_of outcome counts) × (ws ≡ filled widths_of outcome widths))))

  ends_refused : (code place : ℕ) → outcome ≡ refusal code place → Ends (Err (refused code place)) names years counts widths
  unfolding filled
  ends_refused code place e = rw e (refl, (refl, (refl, (refl, refl))))

  -- what is answered where the text reads so
  abbrev ended_by : Outcome (List Series) → Outcome (List Series)
  ended_by o = o then λ ss. cond (room_for ss (length names) (length years) (length counts) (length widths)) (answer ss) (refusal 1 (capped 0))

  pub read_refused : {code place : ℕ} → read_text text ≡ refusal code place → Ends (Err (refused code place)) names years counts widths
  unfolding read_outcome
  read_refused {code} {place} e = ends_refused code place (ap ended_by e)

  module _ {ss : List Series} (e : read_text text ≡ answer ss) where
    abbrev room : Bool
    room = room_for ss (length names) (length years) (length counts) (length widths)

    outcome_is : (b : Bool) → room ≡ b → outcome ≡ cond b (answer ss) (refusal 1 (capped 0))
    unfolding read_outcome
    outcome_is b k =
        ap ended_by e
        ∙ ap (λ (r : Bool). cond r (answer ss) (refusal 1 (capped 0))) k

    read_short : room ≡ false → Ends (Err (refused 1 0)) names years counts widths
    unfolding capped
    read_short k = ends_refused 1 0 (outcome_is false k)

    pub names-size : length (names_of ss) ≡ length ss * name_columns
    unfolding read_text
    names-size = names-length 1 none _ ss e

    years_size : length (years_of ss) ≡ length ss
    unfolding years_of
    years_size = length-map ss _

    counts-size : length (counts_of ss) ≡ length ss
    unfolding counts_of
    counts-size = length-map ss _

    pub short-names : length names / name_columns < length ss → Ends (Err (refused 1 0)) names years counts widths
    unfolding room_for
    short-names h = read_short (rw (lt-leb (length (names_of ss)) (length names) (omega (arith, names-size))))

    pub short_years : length years < length ss → Ends (Err (refused 1 0)) names years counts widths
    unfolding room_for
    short_years h =
        read_short (rw (
          lt-leb (length (years_of ss)) (length years) (omega (arith, years_size)),
          and-false (leb (length (names_of ss)) (length names)),
        ))

    pub short-counts : length counts < length ss → Ends (Err (refused 1 0)) names years counts widths
    unfolding room_for
    short-counts h =
        read_short (rw (
          lt-leb (length (counts_of ss)) (length counts) (omega (arith, counts-size)),
          and-false (leb (length (names_of ss)) (length names) && leb (length (years_of ss)) (length years)),
        ))

    pub short_widths : length widths < length (widths_of ss) → Ends (Err (refused 1 0)) names years counts widths
    unfolding room_for
    short_widths h =
        read_short (rw (
          lt-leb (length (widths_of ss)) (length widths) h,
          and-false
              (leb (length (names_of ss)) (length names) && leb (length (years_of ss)) (length years) && leb (length (counts_of ss)) (length counts)),
        ))

    -- every buffer is long enough
    module _ (hn : length ss ≤ length names / name_columns) (hy : length ss ≤ length years) (hc : length ss ≤ length counts)
        (hw : length (widths_of ss) ≤ length widths) where
      long_names : length (names_of ss) ≤ length names
      long_names = omega (arith, names-size)

      enough : room ≡ true
      unfolding room_for
      enough = rw (
        le-leb (length (names_of ss)) (length names) long_names,
        le-leb (length (years_of ss)) (length years) (omega (arith, years_size)),
        le-leb (length (counts_of ss)) (length counts) (omega (arith, counts-size)),
        le-leb (length (widths_of ss)) (length widths) hw,
      )

      pub write-ready : WriteAsks text names years counts widths
      write-ready = record { good = rw e; names_fit = rw e long_names; years-fit = rw e hy; counts_fit = rw e hc; widths_fit = rw e hw }

      pub read-answers : {series : ℕ} → length ss ≡ series → {ns : List ℕ} {ys : List ℤ} {cs : List ℕ} {ws : List ℤ}
          → Written text names years counts widths ns ys cs ws → Ends (Ok series) ns ys cs ws
      unfolding filled
      read-answers k w =
          rw (outcome_is true enough) (
            ap answer (sym k),
            (
              w.names_are ∙ ap (λ o. sets names 0 (names_of (series_in o))) e ∙ sets-front names (names_of ss) long_names,
              (
                w.years_are ∙ ap (λ o. sets years 0 (years_of (series_in o))) e ∙ sets-front years (years_of ss) (omega (arith, years_size)),
                (
                  w.counts_are ∙ ap (λ o. sets counts 0 (counts_of (series_in o))) e ∙ sets-front counts (counts_of ss) (omega (arith, counts-size)),
                  w.widths_are ∙ ap (λ o. sets widths 0 (widths_of (series_in o))) e ∙ sets-front widths (widths_of ss) hw,
                ),
              ),
            ),
          )
