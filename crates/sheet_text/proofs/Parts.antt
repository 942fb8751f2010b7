-- From what reading leaves to the printout of the text: the call on the lists that were read is the sheet's, and a text that
-- is not read prints code 10.
use mathlib.Core.Path.{◌≡◌, refl, sym, ap, ◌∙◌}
use mathlib.Core.List.{List}
use Prim.Native.Nat.{ℕ, ◌≤◌}
use lib.IntN.{ℤ}
use lib.ListN.{length, take}
use Rattle.std.specs.Prelude.{Ok, Err}
use Rattle.base_outcome.specs.Outcome.{answer}
use Rattle.spec_spline.specs.Reading.{side_by_side}
use Rattle.base_text.specs.Bytes.{Text}
use Rattle.spec_sheet.specs.SheetReading.{Lists, read}
use Rattle.sheet_read.specs.Machine.{reply, EndsAs}
use Rattle.spec_sheet.specs.ReadSheet.{counted, read_end}
use Rattle.sheet_read.specs.declared.Lengths.{Lengths}
use Rattle.sheet_read.proofs.Answers.{reply-read, reply_malformed, part-fits, part_is}
use Rattle.base_print.specs.Refusal.{refusal_line}
use Rattle.spec_sheet.specs.Sheet.{Arguments, arguments_of, called_text, read_text, printout}

same-arguments : (a b : Arguments) → a.breaks ≡ b.breaks → a.degrees ≡ b.degrees → a.orders ≡ b.orders → a.coefs ≡ b.coefs → a.positions ≡ b.positions → a ≡ b
same-arguments a b hb hd ho hc hp i = record { breaks = hb i; degrees = hd i; orders = ho i; coefs = hc i; positions = hp i }

-- The lists are the fronts of these buffers, and a call on them prints the text's printout.
pub record Front (text : Text) (n : Lengths) (b d o c p : List ℤ) : Type 0 where
  pub breaks_fit : n.breaks ≤ length b
  pub degrees_fit : n.degrees ≤ length d
  pub orders_fit : n.orders ≤ length o
  pub coefs_fit : n.coefs ≤ length c
  pub positions_fit : n.positions ≤ length p
  pub prints : called_text (record {
    breaks = take n.breaks b;
    degrees = take n.degrees d;
    orders = take n.orders o;
    coefs = take n.coefs c;
    positions = take n.positions p;
  }) ≡ printout text

module _ (text : Text) where
  -- a call on the lists of the text prints the text's printout
  called_prints : (l : Lists) → read text ≡ answer l → (a : Arguments)
      → a.breaks ≡ l.breaks → a.degrees ≡ l.degrees → a.orders ≡ l.orders → a.coefs ≡ side_by_side l.coefs → a.positions ≡ l.positions
      → called_text a ≡ printout text
  unfolding printout read_text
  called_prints l e a b d o c p = ap called_text (same-arguments a (arguments_of l) b d o c p) ∙ ap read_text (sym e)

  -- the lists after reading, whatever the buffers held before
  pub lists_front : (b₀ d₀ o₀ c₀ p₀ : List ℤ) {n : Lengths} {b d o c p : List ℤ} → EndsAs (read_end text b₀ d₀ o₀ c₀ p₀) (Ok n) b d o c p
      → Front text n b d o c p
  lists_front b₀ d₀ o₀ c₀ p₀ {n} e =
      let l = reply-read (read text) (Ok n) n e.replies refl in
      let nb = ap (λ m. m.breaks) l.counts in
      let nd = ap (λ m. m.degrees) l.counts in
      let no = ap (λ m. m.orders) l.counts in
      let nc = ap (λ m. m.coefs) l.counts in
      let np = ap (λ m. m.positions) l.counts in
      record {
        breaks_fit = part-fits (λ q. q.breaks) l.is b₀ e.breaks_are nb;
        degrees_fit = part-fits (λ q. q.degrees) l.is d₀ e.degrees_are nd;
        orders_fit = part-fits (λ q. q.orders) l.is o₀ e.orders_are no;
        coefs_fit = part-fits (λ q. side_by_side q.coefs) l.is c₀ e.coefs_are nc;
        positions_fit = part-fits (λ q. q.positions) l.is p₀ e.positions_are np;
        prints =
            called_prints l.lists l.is _ (part_is (λ q. q.breaks) l.is b₀ e.breaks_are nb) (part_is (λ q. q.degrees) l.is d₀ e.degrees_are nd)
            (part_is (λ q. q.orders) l.is o₀ e.orders_are no) (part_is (λ q. side_by_side q.coefs) l.is c₀ e.coefs_are nc)
            (part_is (λ q. q.positions) l.is p₀ e.positions_are np);
      }

  pub malformed_prints : (place : ℕ) → reply (Err place) ≡ counted (read text) → refusal_line 10 place ≡ printout text
  unfolding printout read_text
  malformed_prints place e = ap read_text (sym (reply_malformed (read text) (Err place) place e refl))
