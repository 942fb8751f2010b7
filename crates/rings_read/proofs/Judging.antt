-- The refusals of the input in their order: from what each part is judged to be to what is ready.
use mathlib.Core.Path.{◌≡◌, refl, sym, ◌∙◌, ap, ap₂}
use mathlib.Core.List.{List}
use mathlib.Core.Option as math
use mathlib.Core.Option.{some, none}
use Prim.Native.Nat.{ℕ, ◌+◌, ◌-◌, ◌<◌, ◌≤◌}
use native.Mathlib.Omega.{arith}
use borrow.Author.Tests.{lt-ltb, le-ltb}
use lib.IntN.{ℤ}
use lib.ListN.{length, take, drop, length-drop}
use lib.Seq.{drop-drop, take-length}
use Rattle.base_exact.proofs.Decide.{cond_false, clash}
use Rattle.std.specs.Prelude.{Some, None, Ok, Err}
use Rattle.base_outcome.specs.Outcome.{Outcome, answer, refusal, refuse, capped, ◌then◌}
use Rattle.base_outcome.specs.Machine.{passed, refused}
use Rattle.base_outcome.specs.declared.Refusal.{Refusal}
use Rattle.base_text.specs.Bytes.{Text}
use Rattle.spec_spline.specs.Table.{table_cells}
use Rattle.spec_spline.specs.CurveCall.{CurveResult}
use Rattle.spec_calls.specs.CurveAlone.{curve_alone}
use Rattle.spec_sheet.specs.SheetReading.{Lists}
use Rattle.spec_tucson.specs.Series.{Series}
use Rattle.build_space.specs.Machine.{space}
use Rattle.curve_ordinates.specs.Wood.{wood_of}
use Rattle.sheet_read.specs.declared.Lengths.{Lengths}
use Rattle.spec_rings.specs.Parts.{Headed, headed, sheet_lines, lines_end, sheet_part, series_part}
use Rattle.spec_rings.specs.Ready.{text_limit, sheet_read, series_read, sheet_curve, ready_of, ready_if, ready}
use Rattle.rings_input.specs.Machine.{HeadedAs}
use Rattle.rings_input.specs.declared.Heading.{Heading}
use Rattle.rings_read.specs.Machine.{ListsHeld, SheetHeld, SeriesHeld, file_judged, JudgedAs}
use Rattle.rings_read.specs.declared.Ready as machine

-- ---- the file and the curve
module _ (o : Outcome (List Series)) (q : Outcome CurveResult) (ns : List ℕ) (ys : List ℤ) (cs : List ℕ) (ws : List ℤ) where
  abbrev both : Outcome (List Series)
  both = o then λ ss. q then λ r. answer ss

  pub curve_refused : (n : ℕ) (r : Refusal) → SeriesHeld o (Ok n) ns ys cs ws → refusal r.code r.place ≡ passed q → SeriesHeld both (Err r) ns ys cs ws
  unfolding passed
  curve_refused n r h e = go o q h e
    where
      go : (o : Outcome (List Series)) (q : Outcome CurveResult) → SeriesHeld o (Ok n) ns ys cs ws → refusal r.code r.place ≡ passed q
          → SeriesHeld (o then λ ss. q then λ r. answer ss) (Err r) ns ys cs ws
      go (answer ss) (answer r) h e = clash cc
      go (answer ss) (refusal m p) h e = let a : m ≡ r.code = cc in let b : p ≡ r.place = cc in (a, b)
      go (refusal m p) q h e = absurd h

  pub file_held : (n : ℕ) → SeriesHeld o (Ok n) ns ys cs ws → answer (tt {0}) ≡ passed q → SeriesHeld both (Ok n) ns ys cs ws
  unfolding passed
  file_held n h e = go o q h e
    where
      go : (o : Outcome (List Series)) (q : Outcome CurveResult) → SeriesHeld o (Ok n) ns ys cs ws → answer (tt {0}) ≡ passed q
          → SeriesHeld (o then λ ss. q then λ r. answer ss) (Ok n) ns ys cs ws
      go (answer ss) (answer r) h e = h
      go (answer ss) (refusal m p) h e = clash cc
      go (refusal m p) q h e = absurd h

-- ---- the input

module _ (t : Text) (bs ds os cs : List ℤ) (ns : List ℕ) (ys : List ℤ) (ks : List ℕ) (ws : List ℤ) where
  pub judged_long : text_limit < length t → JudgedAs (ready t) (Err (refused 1 0)) bs ds os cs ns ys ks ws
  unfolding ready capped
  judged_long h = rw (lt-ltb text_limit (length t) h) (refl, refl)

  module _ (short : length t ≤ text_limit) where
    begun : ready t ≡ ready_if (headed t)
    unfolding ready
    begun = cond_false (refuse 1 0) (ready_if (headed t)) (le-ltb text_limit (length t) short)

    pub judged_other : HeadedAs t (headed t) None → JudgedAs (ready t) (Err (refused 10 1)) bs ds os cs ns ys ks ws
    unfolding capped
    judged_other h = rw begun (go (headed t) h)
      where
        go : (o : math.Option Headed) → HeadedAs t o None → JudgedAs (ready_if o) (Err (refused 10 1)) bs ds os cs ns ys ks ws
        go none h = (refl, refl)
        go (some q) h = absurd h

    module _ (line : Heading) (to : ℕ) (h : HeadedAs t (headed t) (Some line))
        (stop : to ≡ line.next + lines_end sheet_lines (drop line.next t)) where
      abbrev from : ℕ
      from = line.next

      abbrev rest : Text
      rest = drop from t

      named : ready t ≡ ready_of (record { wood = wood_of line.wood; rest = rest })
      named = begun ∙ go (headed t) h
        where
          go : (o : math.Option Headed) → HeadedAs t o (Some line) → ready_if o ≡ ready_of (record { wood = wood_of line.wood; rest = rest })
          go none h = absurd h
          go (some q) h = ap ready_of (same q h.0 h.1.0)
            where
              same : (q : Headed) → q.wood ≡ wood_of line.wood → q.rest ≡ rest → q ≡ record { wood = wood_of line.wood; rest = rest }
              same q a b i = record { wood = a i; rest = b i }

      -- the two parts, as the slices of the machine are
      abbrev sheet : Text
      sheet = take (to - from) (drop from t)

      abbrev file : Text
      file = take (length t - to) (drop to t)

      sheet_is : sheet ≡ sheet_part rest
      sheet_is = ap (λ (k : ℕ). take k (drop from t)) (let e : to - from ≡ lines_end sheet_lines (drop from t) = omega (arith, stop) in e)

      file_is : file ≡ series_part rest
      file_is =
          ap (λ (k : ℕ). take k (drop to t)) (sym (length-drop to t)) ∙ take-length (drop to t)
          ∙ ap (λ (k : ℕ). drop k t) stop ∙ sym (drop-drop (lines_end sheet_lines rest) from t)

      ready_is : ready t ≡ (sheet_read sheet then λ l. series_read file then λ ss. sheet_curve l then λ r. answer (record { wood = wood_of line.wood; lists = l; series = ss }))
      unfolding ready_of
      ready_is =
          named
          ∙ ap₂ (λ (a b : Text). sheet_read a then λ l. series_read b then λ ss. sheet_curve l then λ r. answer (record { wood = wood_of line.wood; lists = l; series = ss }))
          (sym sheet_is) (sym file_is)

      pub judged_sheet : (at : ℕ) → SheetHeld (sheet_read sheet) (Err at) bs ds os cs
          → JudgedAs (ready t) (Err (refused 10 at)) bs ds os cs ns ys ks ws
      judged_sheet at k = rw ready_is (go (sheet_read sheet) k)
        where
          go : (o : Outcome Lists) → SheetHeld o (Err at) bs ds os cs
              → JudgedAs (o then λ l. series_read file then λ ss. sheet_curve l then λ r. answer (record { wood = wood_of line.wood; lists = l; series = ss }))
              (Err (refused 10 at)) bs ds os cs ns ys ks ws
          go (answer l) k = absurd k
          go (refusal code place) k = k

      -- the lists stand at the fronts
      module _ (n : Lengths) (k : SheetHeld (sheet_read sheet) (Ok n) bs ds os cs) where
        -- what is judged of the file with these lists
        abbrev judged : Outcome (List Series)
        judged = file_judged file (space (take n.breaks bs) (take n.degrees ds) (take n.orders os)) (take n.coefs cs)

        curve_is : (l : Lists) → ListsHeld l n.breaks n.degrees n.orders n.coefs bs ds os cs
            → curve_alone (space (take n.breaks bs) (take n.degrees ds) (take n.orders os)) (take n.coefs cs) table_cells table_cells ≡ sheet_curve l
        unfolding sheet_curve
        curve_is l h = rw (h.breaks_held.is, h.degrees_held.is, h.orders_held.is, h.coefs_held.is)

        pub judged_file : (e : Refusal) → SeriesHeld judged (Err e) ns ys ks ws
            → JudgedAs (ready t) (Err e) bs ds os cs ns ys ks ws
        judged_file e j = rw ready_is (go (sheet_read sheet) k)
          where
            files : (l : Lists) (z : Outcome (List Series)) (q q' : Outcome CurveResult) → q ≡ q'
                → SeriesHeld (z then λ ss. q then λ r. answer ss) (Err e) ns ys ks ws
                → JudgedAs (z then λ ss. q' then λ r. answer (record { wood = wood_of line.wood; lists = l; series = ss })) (Err e) bs ds os cs ns ys ks ws
            files l (answer ss) (answer r) q' same h = absurd h
            files l (answer ss) (refusal m p) q' same h = rw (sym same) h
            files l (refusal m p) q q' same h = h

            go : (z : Outcome Lists) → SheetHeld z (Ok n) bs ds os cs
                → JudgedAs (z then λ l. series_read file then λ ss. sheet_curve l then λ r. answer (record { wood = wood_of line.wood; lists = l; series = ss }))
                (Err e) bs ds os cs ns ys ks ws
            go (answer l) h = files l (series_read file) _ (sheet_curve l) (curve_is l h) j
            go (refusal m p) h = absurd h

        abbrev told : ℕ → machine.Ready
        told count = record {
          wood = line.wood;
          breaks = n.breaks;
          degrees = n.degrees;
          orders = n.orders;
          coefs = n.coefs;
          series = count;
        }

        pub judged_ready : (count : ℕ) → SeriesHeld judged (Ok count) ns ys ks ws
            → JudgedAs (ready t) (Ok (told count)) bs ds os cs ns ys ks ws
        judged_ready count j = rw ready_is (go (sheet_read sheet) k)
          where
            files : (l : Lists) → ListsHeld l n.breaks n.degrees n.orders n.coefs bs ds os cs
                → (z : Outcome (List Series)) (q q' : Outcome CurveResult) → q ≡ q'
                → SeriesHeld (z then λ ss. q then λ r. answer ss) (Ok count) ns ys ks ws
                → JudgedAs (z then λ ss. q' then λ r. answer (record { wood = wood_of line.wood; lists = l; series = ss }))
                (Ok (told count)) bs ds os cs ns ys ks ws
            files l h (answer ss) (answer r) q' e g = rw (sym e) (refl, (h, g))
            files l h (answer ss) (refusal m p) q' e g = absurd g
            files l h (refusal m p) q q' e g = absurd g

            go : (z : Outcome Lists) → SheetHeld z (Ok n) bs ds os cs
                → JudgedAs (z then λ l. series_read file then λ ss. sheet_curve l then λ r. answer (record { wood = wood_of line.wood; lists = l; series = ss }))
                (Ok (told count)) bs ds os cs ns ys ks ws
            go (answer l) h = files l h (series_read file) _ (sheet_curve l) (curve_is l h) j
            go (refusal m p) h = absurd h
