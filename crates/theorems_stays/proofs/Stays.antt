-- What is strict stays as it is: a text that the strict reader reads is answered byte for byte, whatever the options.
use mathlib.Core.Path.{◌≡◌, refl, sym, ◌∙◌, ap, ap₂, subst}
use mathlib.Core.Bool.{Bool, true, false, cond, ◌&&◌, not}
use mathlib.Core.List.{List, [], ◌∷◌, ◌++◌, drop_last}
use mathlib.Core.Option.{Option, some, none}
use Prim.Native.Nat.{ℕ, zero, suc, ◌-◌, ◌≤◌}
use native.Mathlib.Omega.{arith}
use borrow.Author.Tests.{ne_eqb, lt-ltb, leb-false}
use lib.Dec.{eqb}
use lib.IntN.{ℤ}
use lib.ListN.{length, take, drop}
use lib.Seq.{take_all}
use Rattle.base_exact.proofs.Decide.{clash, or-false, true_not_false}
use Rattle.base_outcome.specs.Outcome.{answer}
use Rattle.base_outcome.proofs.Outcome.{answer_unique, then_inverts, with_inverts}
use Rattle.base_text.specs.Bytes.{Text, newline, on_first, index_where, index_of, begins_with}
use Rattle.base_text.proofs.Lacking.{lacks, byte, lacks_append, lacks-first}
use Rattle.spec_tucson.specs.Columns.{columns}
use Rattle.spec_tucson.specs.Line.{Line, field_columns, lines_of, same}
use Rattle.spec_tucson.specs.Series.{Series, closed_by}
use Rattle.spec_tucson.specs.TextReading.{goes_on, Begun, begun_by, Step, opened, closed, last_field, line_step, read_line, after, read_lines, read_text}
use Rattle.spec_tucson.specs.FileText.{substitute, is_marked, unmarked, text_of}
use Rattle.spec_tucson.specs.Shown.{is_blank_line}
use Rattle.spec_tucson.specs.StrictLine.{is_high, any_high, is_strict, strict_line, Kept}
use Rattle.spec_tucson.specs.KeptLines.{reads_strictly, is_data, header_of, kept_lines}
use Rattle.spec_tucson.specs.CleanSeries.{continues, fields_in, fields_of, unknown_unit, unit_not_said, closing_of, is_reclosed, reclosed, closed_lines, with_end, strict_text}
use Rattle.spec_tucson.proofs.Lines.{same_is, refute}
use Rattle.spec_tucson.proofs.Kept.{kept_data}
use Rattle.tucson_strict.proofs.Strict.{strict_ascii}
use Rattle.theorems_tucson.proofs.GoodLines.{at_end_only, AllAtEndOnly, lines_end}
use Rattle.theorems_clean.specs.Places.{here}
use Rattle.theorems_stays.proofs.Reader.{reader-accepts}
use Rattle.theorems_stays.specs.Stays.{StrictStays, CleanedStays}
use Rattle.theorems_clean.proofs.Answers.{answered}
use Rattle.theorems_clean.proofs.ReadLines.{line_read, closes}
use Rattle.theorems_clean.proofs.StrictLines.{AllStrict, line_strict, no_control, lacks-byte, with_ends, strict_goes}
use Rattle.theorems_clean.proofs.Sources.{kept-none}
use Rattle.theorems_clean.proofs.Headers.{header_free, line_free}
use Rattle.theorems_clean.proofs.StrictShown.{strict_is_read, strict_not_blank, strict_reads_strictly}

-- ---- a text is its lines

abbrev joined_lines : List Text → Text
joined_lines [] = []
joined_lines (t ∷ ts) = t ++ joined_lines ts

join_first : (c : ℕ) (ts : List Text) → joined_lines (on_first c ts) ≡ c ∷ joined_lines ts
join_first c [] = refl
join_first c (t ∷ ts) = refl

lines_join : (t : Text) → joined_lines (lines_of t) ≡ t
unfolding lines_of
lines_join [] = refl
lines_join (c ∷ t) = go (eqb c newline) (lines_join t)
  where
    go : (b : Bool) → joined_lines (lines_of t) ≡ t → joined_lines (cond b ((c ∷ []) ∷ lines_of t) (on_first c (lines_of t))) ≡ c ∷ t
    go true e = ap (λ (s : Text). c ∷ s) e
    go false e = join_first c (lines_of t) ∙ ap (λ (s : Text). c ∷ s) e

strict-text : (ks : List Kept) → strict_text ks ≡ joined_lines (with_ends ks)
unfolding strict_text
strict-text [] = refl
strict-text (k ∷ ks) = ap (λ (s : Text). with_end k.text ++ s) (strict-text ks)

-- ---- a line that the strict reader reads

-- It is a strict line with its end, and -999 does not close it.
record Strict (goes : Bool) (t : Text) : Type 0 where
  body : Text
  is : t ≡ with_end body
  strict : is_strict body ≡ true
  known : goes ≡ false → same (last_field (fields_of body)) unknown_unit ≡ false

-- all lines of a text
abbrev StrictLines : List Text → Type 0
StrictLines [] = Unit {0}
StrictLines (t ∷ ts) = Strict (goes_on t ts) t × StrictLines ts

-- -999 closes no series
unknown_refused : (f : ℤ) (ws vs : List ℤ) → closed_by f ws ≡ some vs → same f unknown_unit ≡ true → ⊥
unfolding closed_by
unknown_refused f ws vs e u =
    let z : none ≡ some vs = ap (λ (g : ℤ). closed_by g ws) (sym (same_is f unknown_unit u)) ∙ e in
    clash cc

step-known : (place : ℕ) (b : Option Begun) (more : Bool) (l : Line) (s : Step) → line_step place b more l ≡ answer s → more ≡ false → same (last_field l.fields) unknown_unit ≡ false
step-known place b true l s e m = clash cc
step-known place b false l s e m =
    let c = (closes place b l s e).1 in
    refute (same (last_field l.fields) unknown_unit) (unknown_refused (last_field l.fields) ((begun_by b l).widths ++ drop_last l.fields) c.widths c.closed-by)

read_strict : (place : ℕ) (b : Option Begun) (more : Bool) (t : Text) (s : Step) → at_end_only t ≡ true → read_line place b more t ≡ answer s → Strict more t
unfolding fields_of
read_strict place b more t s once e =
    let r = line_read place b more t s once e in
    record {
      body = r.body;
      is = r.is;
      strict = line_strict r.body r.line r.reads;
      known = λ m. ap (λ (o : Option Line). same (last_field (fields_in o)) unknown_unit) r.reads ∙ step-known place b more r.line s r.leaves m;
    }

all_strict : (ts : List Text) (place : ℕ) (b : Option Begun) (ss : List Series) → AllAtEndOnly ts → read_lines place b ts ≡ answer ss → StrictLines ts
unfolding read_lines
all_strict [] place b ss once e = tt
all_strict (t ∷ ts) place b ss once e =
    let c = then_inverts (read_line place b (goes_on t ts) t) (after (λ b'. read_lines (suc place) b' ts)) e in
    (read_strict place b (goes_on t ts) t c.middle once.0 c.before, go c.middle c.after (λ b' us. all_strict ts (suc place) b' us once.1))
  where
    go : (s : Step) → after (λ b'. read_lines (suc place) b' ts) s ≡ answer ss → ((b' : Option Begun) (us : List Series) → read_lines (suc place) b' ts ≡ answer us → StrictLines ts) → StrictLines ts
    go (opened c) e ih = ih (some c) ss e
    go (closed s) e ih = let w = with_inverts (λ us. s ∷ us) (read_lines (suc place) none ts) e in ih none w.before w.answers

-- ---- the text has no mark and no byte 26

pub ascii_lacks : (b : ℕ) (t : Text) → 128 ≤ b → any_high t ≡ false → lacks (byte b) t ≡ true
unfolding any_high
ascii_lacks b [] h e = refl
ascii_lacks b (c ∷ t) h e =
    let both = or-false (is_high c) (any_high t) e in
    ap₂ (λ (x y : Bool). not x && y) (ne_eqb c b (λ z. omega (arith, z, leb-false 128 c both.0))) (ascii_lacks b t h both.1)

lines-lack : (b : ℕ) → eqb newline b ≡ false → ((t : Text) → is_strict t ≡ true → lacks (byte b) t ≡ true) → (ts : List Text) → StrictLines ts → lacks (byte b) (joined_lines ts) ≡ true
lines-lack b n h [] s = refl
lines-lack b n h (t ∷ ts) s =
    lacks_append (byte b) t (joined_lines ts)
    (ap (lacks (byte b)) s.0.is ∙ lacks_append (byte b) s.0.body (newline ∷ []) (h s.0.body s.0.strict) (ap (λ (x : Bool). not x && true) n))
    (lines-lack b n h ts s.1)

pub index-lacks : (b : ℕ) (t : Text) → lacks (byte b) t ≡ true → index_of b t ≡ length t
unfolding index_where
index-lacks b [] e = refl
index-lacks b (c ∷ t) e =
    let both = lacks-first (byte b) c t e in
    ap (λ (x : Bool). cond x 0 (suc (index_of b t))) both.0 ∙ ap suc (index-lacks b t both.1)

pub no_marked : (t : Text) → lacks (byte 239) t ≡ true → is_marked t ≡ false
unfolding is_marked begins_with
no_marked [] e = refl
no_marked (c ∷ t) e = ap (λ (x : Bool). cond x (begins_with (187 ∷ 191 ∷ []) t) false) (lacks-first (byte 239) c t e).0

text-whole : (t : Text) → StrictLines (lines_of t) → text_of t ≡ t
unfolding text_of unmarked
text-whole t s =
    let mark = ap (lacks (byte 239)) (sym (lines_join t)) ∙ lines-lack 239 refl (λ u e. ascii_lacks 239 u (omega arith) (strict_ascii u e)) (lines_of t) s in
    let end = ap (lacks (byte substitute)) (sym (lines_join t)) ∙ lines-lack substitute refl (λ u e. lacks-byte substitute u (omega arith) (no_control u e)) (lines_of t) s in
    ap (λ (b : Bool). take (index_of substitute (cond b (drop 3 t) t)) (cond b (drop 3 t) t)) (no_marked t mark)
    ∙ take_all (index_of substitute t) t (omega (arith, index-lacks substitute t end))

-- ---- every line is kept as it is

pub strict_data : (i : ℕ) (t : Text) → is_strict t ≡ true → 1 ≤ i → is_data 0 i (with_end t) ≡ true
unfolding is_data
strict_data i t e h = ap₂ (λ (a b : Bool). not a && b) (strict_not_blank t e) (lt-ltb 0 i h)

-- The lines that are kept of a strict text.
record KeptAsIs (ts : List Text) (ks : List Kept) : Type 0 where
  same_lines : with_ends ks ≡ ts
  all : AllStrict ks

kept_as_is : (ts : List Text) (i : ℕ) (b : Option Kept) (ks : List Kept) → 1 ≤ i → StrictLines ts → kept_lines 0 i b ts ≡ answer ks → KeptAsIs ts ks
kept_as_is [] i b ks h s e = subst (KeptAsIs []) (sym (kept-none 0 i b ks e)) (record { same_lines = refl; all = tt })
kept_as_is (t ∷ ts) i b ks h s e =
    let l = s.0 in
    let d : is_data 0 i t ≡ true = ap (is_data 0 i) l.is ∙ strict_data i l.body l.strict h in
    let k = kept_data 0 i b t ts ks d e in
    let text : k.text ≡ l.body = answer_unique k.strict (ap (strict_line i) l.is ∙ strict_is_read l.body l.strict i) in
    let rest = kept_as_is ts (suc i) _ k.others (omega arith) s.1 k.rest in
    subst (KeptAsIs (t ∷ ts)) (sym k.is) (record {
      same_lines = ap₂ (λ (x : Text) (xs : List Text). x ∷ xs) (ap with_end text ∙ sym l.is) rest.same_lines;
      all = (ap is_strict text ∙ l.strict, rest.all);
    })

-- the closings stay
pub reclosed-same : (unit : ℕ) (goes : Bool) (t : Text) → (goes ≡ false → same (last_field (fields_of t)) unknown_unit ≡ false) → reclosed unit goes t ≡ t
unfolding reclosed is_reclosed
reclosed-same unit true t h = refl
reclosed-same unit false t h =
    ap (λ (b : Bool). cond (b && not (eqb unit unit_not_said)) (take (length t - field_columns) t ++ columns field_columns (closing_of unit)) t) (h refl)

end_injective : (s t : Text) → with_end s ≡ with_end t → s ≡ t
end_injective s t e = sym (front s) ∙ ap drop_last e ∙ front t
  where
    front : (u : Text) → drop_last (with_end u) ≡ u
    front [] = refl
    front (c ∷ []) = refl
    front (c ∷ d ∷ u) = ap (λ (v : Text). c ∷ v) (front (d ∷ u))

closed_same : (unit : ℕ) (ks : List Kept) (ts : List Text) → AllStrict ks → with_ends ks ≡ ts → StrictLines ts → with_ends (closed_lines unit ks) ≡ with_ends ks
unfolding closed_lines
closed_same unit [] ts all e s = refl
closed_same unit (k ∷ ks) [] all e s = absurd (omega (arith, ap length e))
closed_same unit (k ∷ ks) (t ∷ ts) all e s =
    let first : with_end k.text ≡ t = ap (λ (us : List Text). first_or us) e in
    let others : with_ends ks ≡ ts = ap (drop 1) e in
    let body : s.0.body ≡ k.text = end_injective s.0.body k.text (sym s.0.is ∙ sym first) in
    let goes : goes_on t ts ≡ continues k ks = ap₂ goes_on (sym first) (sym others) ∙ strict_goes k ks all in
    ap₂ (λ (x : Text) (xs : List Text). with_end x ∷ xs)
    (reclosed-same unit (continues k ks) k.text (λ m. ap (λ (u : Text). same (last_field (fields_of u)) unknown_unit) (sym body) ∙ s.0.known (goes ∙ m)))
    (closed_same unit ks ts all.1 others s.1)
  where
    first_or : List Text → Text
    first_or [] = []
    first_or (u ∷ us) = u

-- ---- the header

header-none : (header : ℕ) (t : Text) (ts : List Text) (last : ℕ) → Strict (goes_on t ts) t → header_of header (t ∷ ts) ≡ answer last → last ≡ 0
header-none header t ts last s e = go last refl
  where
    go : (n : ℕ) → last ≡ n → last ≡ 0
    go zero w = w
    go (suc n) w =
        absurd (true_not_false (ap reads_strictly s.is ∙ strict_reads_strictly s.body s.strict)
        (line_free (t ∷ ts) 1 last (header_free header (t ∷ ts) last e) 0 t here (ap is_blank_line s.is ∙ strict_not_blank s.body s.strict) (omega arith)))

header-kept : (ts : List Text) (header last : ℕ) (ks : List Kept) → StrictLines ts → header_of header ts ≡ answer last → kept_lines last 1 none ts ≡ answer ks → kept_lines 0 1 none ts ≡ answer ks
unfolding kept_lines
header-kept [] header last ks s h e = e
header-kept (t ∷ ts) header last ks s h e = ap (λ (n : ℕ). kept_lines n 1 none (t ∷ ts)) (sym (header-none header t ts last s.0 h)) ∙ e

pub strict_stays : StrictStays
unfolding read_text
strict_stays t ss header unit c r e =
    let a = answered t header unit c e in
    let s = all_strict (lines_of t) 1 none ss (lines_end t) r in
    let whole = text-whole t s in
    let h : header_of header (lines_of t) ≡ answer a.last = ap (λ (u : Text). header_of header (lines_of u)) (sym whole) ∙ a.header_is in
    let k : kept_lines a.last 1 none (lines_of t) ≡ answer a.kept = ap (λ (u : Text). kept_lines a.last 1 none (lines_of u)) (sym whole) ∙ a.kept_are in
    let is = kept_as_is (lines_of t) 1 none a.kept (omega arith) s (header-kept (lines_of t) header a.last a.kept s h k) in
    a.text_is ∙ strict-text (closed_lines unit a.kept)
    ∙ ap joined_lines (closed_same unit a.kept (lines_of t) is.all is.same_lines s ∙ is.same_lines)
    ∙ lines_join t

-- and so what was cleaned, which the strict reader accepts
pub cleaned_stays : CleanedStays
cleaned_stays t header unit c e header' unit' d f =
    let r = reader-accepts t header unit c e in
    strict_stays c.text r.0 header' unit' d r.1 f
