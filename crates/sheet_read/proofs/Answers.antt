-- What reading answers and leaves in the buffers: from its outcome to the contract's words, and from those back to the
-- outcome, as a caller needs it.
use mathlib.Core.Path.{◌≡◌, refl, sym, ◌∙◌, ap, ap₂, subst}
use mathlib.Core.List.{List, [], ◌∷◌, ◌++◌}
use mathlib.Core.Option.{Option, some, none}
use Prim.Native.Nat.{ℕ, ◌+◌, ◌*◌, ◌≤◌}
use native.Mathlib.Omega.{arith}
use lib.Dec.{ltb}
use lib.IntN.{ℤ}
use lib.ListN.{length, take, drop, length-append}
use lib.Seq.{slice, take-append_seam}
use Rattle.std.specs.Prelude.{Result, Ok, Err}
use Rattle.base_outcome.specs.Outcome.{Outcome, answer, refusal, refuse}
use Rattle.spec_spline.specs.Reading.{Pair, side_by_side}
use Rattle.base_outcome.proofs.Outcome.{answer_unique, answer_not_refusal, then_inverts}
use Rattle.spec_spline.proofs.Legal.{cond_refuse_inverts}
use Rattle.spec_spline.proofs.Pairs.{side_by_side_length}
use Rattle.base_text.specs.Bytes.{Text, newline, Cut, cut, stripped, Range}
use Rattle.base_text.specs.Numeral.{numeral}
use Rattle.spec_sheet.specs.SheetReading.{pair, Lists, Line, list_of, line_of, body_of, cut_line, line, read_line, breaks_key, degrees_key}
use Rattle.spec_sheet.specs.SheetReading.{orders_key, coefs_key, at_key, ended, five_lines, list_limit, sheet_limit, read}
use Rattle.sheet_lines.specs.Machine.{ListAt}
use Rattle.sheet_read.specs.Machine.{numerals_of, numerals, reply, ListFits, ListPut, EndsAs}
use Rattle.spec_sheet.specs.ReadSheet.{overwritten, Lengths, lengths, counted, after, read_end}
use Rattle.sheet_read.specs.declared.Lengths as machine
use Rattle.sheet_read.proofs.Numerals.{list_few, plain-numerals, pair-numerals}

-- ---- from the outcome to the answer and the buffers
pub refused : (text : Text) {place : ℕ} → read text ≡ refusal 10 place → {b d o c p : List ℤ}
    → EndsAs (read_end text b d o c p) (Err place) b d o c p
unfolding reply after
refused text e =
    rw e (record { replies = refl; breaks_are = refl; degrees_are = refl; orders_are = refl; coefs_are = refl; positions_are = refl })

-- a list written at the front of its buffer, and its length
pub record Fills (zs before now : List ℤ) (n : ℕ) : Type 0 where
  pub count : n ≡ length zs
  pub put : now ≡ overwritten zs before

pub answered : (text : Text) {l : Lists} → read text ≡ answer l → {b d o c p b' d' o' c' p' : List ℤ} {n : machine.Lengths}
    → Fills l.breaks b b' n.breaks → Fills l.degrees d d' n.degrees → Fills l.orders o o' n.orders
    → Fills (side_by_side l.coefs) c c' n.coefs → Fills l.positions p p' n.positions → EndsAs (read_end text b d o c p) (Ok n) b' d' o' c' p'
unfolding reply after
answered text e fb fd fo fc fp = rw e (record {
  replies = rw (fb.count, fd.count, fo.count, fc.count, fp.count);
  breaks_are = fb.put;
  degrees_are = fd.put;
  orders_are = fo.put;
  coefs_are = fc.put;
  positions_are = fp.put;
})

-- ---- writing a list

-- A list with these numbers, at most so many, in a part of the text.
pub record NumeralsAt (limit : ℕ) (text : Text) (zs : List ℤ) (start end : ℕ) : Type 0 where
  pub range : Range text start end
  pub are : numerals_of (slice start end text) ≡ some zs
  pub few : length zs ≤ limit

pub numerals-at : {text : Text} {zs : List ℤ} {start end : ℕ} → ListAt numeral text zs start end → NumeralsAt list_limit text zs start end
numerals-at {text} {zs} {start} {end} at =
    record {
      range = at.range;
      are = plain-numerals (slice start end text) zs at.list;
      few = list_few numeral (slice start end text) zs at.list;
    }

-- two numbers for each pair
pub pairs_at : {text : Text} {ps : List Pair} {start end : ℕ} → ListAt pair text ps start end → NumeralsAt (2 * list_limit) text (side_by_side ps) start end
pairs_at {text} {ps} {start} {end} at =
    record {
      range = at.range;
      are = pair-numerals (slice start end text) ps at.list;
      few = omega (arith, side_by_side_length ps, list_few pair (slice start end text) ps at.list);
    }

module _ {limit : ℕ} {text : Text} {zs : List ℤ} {start end : ℕ} (at : NumeralsAt limit text zs start end) where
  pub fill_ready : {room : ℕ} → room ≡ limit → ListFits text start end room
  fill_ready h = record { range = at.range; good = rw at.are; fits = rw at.are (omega (arith, at.few)) }

  pub fills : {before now : List ℤ} {n : ℕ} → ListPut text start end before now n → Fills zs before now n
  fills {before} p = record {
    count = p.count ∙ ap (λ (o : Option (List ℤ)). length (numerals o)) at.are;
    put = p.put ∙ ap (λ (o : Option (List ℤ)). overwritten (numerals o) before) at.are;
  }

-- ---- from the answer and the buffers back to the outcome

-- A reply of five lengths comes from five such lists, one of a place from code 10 at that place.
pub record Listed (o : Outcome Lists) (n : Lengths) : Type 0 where
  pub lists : Lists
  pub is : o ≡ answer lists
  pub counts : n ≡ lengths lists

pub reply-read : (o : Outcome Lists) (a : Result machine.Lengths ℕ) (n : machine.Lengths) → reply a ≡ counted o → a ≡ Ok n
    → Listed o (record { breaks = n.breaks; degrees = n.degrees; orders = n.orders; coefs = n.coefs; positions = n.positions })
unfolding reply
reply-read (answer l) a n e v = record { lists = l; is = refl; counts = answer_unique (ap reply v) e }
reply-read (refusal code place) a n e v = absurd (answer_not_refusal (ap reply v) e)

pub reply_malformed : (o : Outcome Lists) (a : Result machine.Lengths ℕ) (place : ℕ) → reply a ≡ counted o → a ≡ Err place
    → o ≡ refusal 10 place
unfolding reply
reply_malformed (answer l) a place e v = absurd (answer_not_refusal e (ap reply v))
reply_malformed (refusal n p) a place e v = same (sym e ∙ ap reply v)
  where
    same : ◌≡◌ {A = Outcome Lengths} (refusal n p) (refusal 10 place) → ◌≡◌ {A = Outcome Lists} (refusal n p) (refusal 10 place)
    same z = let x : n ≡ 10 = cc in let y : p ≡ place = cc in ap₂ refusal x y

-- ---- a buffer after reading

module _ (list : Lists → List ℤ) {o : Outcome Lists} {l : Lists} (e : o ≡ answer l) (before : List ℤ) {buffer : List ℤ}
    (h : buffer ≡ after list o before) {n : ℕ} (k : n ≡ length (list l)) where
  whole : buffer ≡ list l ++ drop (length (list l)) before
  unfolding after
  whole = h ∙ ap (λ q. after list q before) e

  -- it is long enough for the list, and its part up to the count is the list
  pub part-fits : n ≤ length buffer
  part-fits = let z : length buffer ≡ length (list l) + length (drop (length (list l)) before) = ap length whole ∙ length-append (list l) _ in omega arith

  pub part_is : take n buffer ≡ list l
  part_is = ap₂ take k whole ∙ take-append_seam (list l) (drop (length (list l)) before)

-- ---- the lengths of the lists

record Found {A : Type 0} (entry : Text → Option A) (r : Line A) : Type 0 where
  body : Text
  is : list_of entry body ≡ some r.list

module _ {A : Type 0} (entry : Text → Option A) (key text : Text) (place : ℕ) (r : Line A) where
  line-body : read_line place entry key text ≡ answer r → Found entry r
  unfolding read_line line
  line-body e = cuts (cut newline text) e
    where
      lists : (o : Option (List A)) (rest : Text) → elim (line_of o rest) [ none ↦ refuse 10 place | some l ↦ answer l ] ≡ answer r → o ≡ some r.list
      lists none rest f = absurd (answer_not_refusal f refl)
      lists (some xs) rest f = ap (λ l. some l.list) (answer_unique {a = record { list = xs; rest = rest }} refl f)

      bodies : (o : Option Text) (rest : Text) → elim (line_of (body_of entry o) rest) [ none ↦ refuse 10 place | some l ↦ answer l ] ≡ answer r → Found entry r
      bodies none rest f = absurd (answer_not_refusal f refl)
      bodies (some t) rest f = record { body = t; is = lists (list_of entry t) rest f }

      cuts : (o : Option Cut) → elim (cut_line entry key o) [ none ↦ refuse 10 place | some l ↦ answer l ] ≡ answer r → Found entry r
      cuts none f = absurd (answer_not_refusal f refl)
      cuts (some c) f = bodies (stripped key c.before) c.after f

ended_positions : (rest : Text) (m l : Lists) → ended rest m ≡ answer l → m.positions ≡ l.positions
ended_positions [] m l e = ap (λ q. q.positions) (answer_unique {a = m} {b = l} refl e)
ended_positions (c ∷ cs) m l e = absurd (answer_not_refusal e refl)

-- "at most 4,096 entries a list" (§ 13)
pub positions_few : (text : Text) (l : Lists) → read text ≡ answer l → length l.positions ≤ list_limit
unfolding read five_lines
positions_few text l e =
    let f = (cond_refuse_inverts (ltb sheet_limit (length text)) 10 0 (five_lines text) e).1 in
    let b = then_inverts (read_line 1 numeral breaks_key text) _ f in
    let d = then_inverts (read_line 2 numeral degrees_key b.middle.rest) _ b.after in
    let o = then_inverts (read_line 3 numeral orders_key d.middle.rest) _ d.after in
    let c = then_inverts (read_line 4 pair coefs_key o.middle.rest) _ o.after in
    let p = then_inverts (read_line 5 numeral at_key c.middle.rest) _ c.after in
    let t = line-body numeral at_key c.middle.rest 5 p.middle p.before in
    let few : length p.middle.list ≤ list_limit = list_few numeral t.body p.middle.list t.is in
    let m : Lists =
    record {
      breaks = b.middle.list;
      degrees = d.middle.list;
      orders = o.middle.list;
      coefs = c.middle.list;
      positions = p.middle.list;
    } in
    let same : p.middle.list ≡ l.positions = ended_positions p.middle.rest m l p.after in
    subst (λ xs. length xs ≤ list_limit) same few
