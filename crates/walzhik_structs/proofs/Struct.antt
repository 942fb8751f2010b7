-- A piece as the struct: the floats of each case with zeros behind them, and the zeros of a refusal.
use native.Mathlib.Omega.{arith}
use mathlib.Core.Path.{◌≡◌, refl, sym, subst}
use mathlib.Core.List.{List, [], ◌∷◌, ◌++◌}
use Prim.Native.Nat.{ℕ, ◌-◌}
use lib.Ieee.{Float, binary64, of_bits}
use lib.IntN.{ℤ, pos}
use lib.ListN.{length, replicate}
use Rattle.std.specs.Prelude.{Result, Ok, Err}
use Rattle.base_outcome.specs.declared.Refusal.{Refusal}
use Rattle.base_outcome.specs.Outcome.{Outcome, answer, refusal}
use Rattle.spec_spline.specs.Reading.{fineness}
use Rattle.curve_drawing.specs.Floats.{Is, Each, none, more}
use Rattle.curve_drawing.specs.declared.Curve.TheVariants.{Line, Quadratic, Cubic}
use Rattle.spec_calls.specs.Pieces as pieces
use Rattle.curve_pieces.specs.Machine.{Shows, Replies, drawn, refused}
use Rattle.curve_pieces.specs.declared.Ends.{Ends}
use Rattle.curve_pieces.specs.declared.Drawing.{Drawing}
use Rattle.walzhik_structs.specs.declared.Piece.{Piece}
use Rattle.walzhik_structs.specs.Piece.{room, Sent}

-- the code's 0.0
abbrev pub nought : Float
nought = of_bits binary64 0

pub nought_is : (d : ℕ) → Is nought (pos 0) d
unfolding of_bits
nought_is d = (refl, omega arith)

-- the struct of a degree
abbrev pub struct : ℕ → Float → Float → Float → Float → Ends → Piece
struct degree o0 o1 o2 o3 ends =
    record { number = 0; place = 0; degree = degree; unused = 0; o0 = o0; o1 = o1; o2 = o2; o3 = o3; start = ends.start; end = ends.end }

-- the struct of a refusal
abbrev pub not_sent : Refusal → Piece
not_sent r = record {
  number = r.code;
  place = r.place;
  degree = 0;
  unused = 0;
  o0 = nought;
  o1 = nought;
  o2 = nought;
  o3 = nought;
  start = nought;
  end = nought;
}

-- ordinates with zeros behind them
record Padded (degree : ℕ) (xs : List Float) (zs : List ℤ) : Type 0 where
  size : degree ≡ length zs - 1
  each : Each fineness xs (zs ++ replicate (room - length zs) (pos 0))

two : (a b : Float) {zs : List ℤ} → Each fineness (a ∷ b ∷ []) zs → Padded 1 (a ∷ b ∷ nought ∷ nought ∷ []) zs
two a b (more x (more y none)) = record { size = refl; each = more x (more y (more (nought_is fineness) (more (nought_is fineness) none))) }

three : (a b c : Float) {zs : List ℤ} → Each fineness (a ∷ b ∷ c ∷ []) zs → Padded 2 (a ∷ b ∷ c ∷ nought ∷ []) zs
three a b c (more x (more y (more z none))) = record { size = refl; each = more x (more y (more z (more (nought_is fineness) none))) }

four : (a b c d : Float) {zs : List ℤ} → Each fineness (a ∷ b ∷ c ∷ d ∷ []) zs → Padded 3 (a ∷ b ∷ c ∷ d ∷ []) zs
four a b c d (more x (more y (more z (more w none)))) = record { size = refl; each = more x (more y (more z (more w none))) }

module _ (ends : Ends) (p : pieces.Piece) where
  pub line-sent : (a b : Float) → Shows (record { curve = Line a b; ends = ends }) p → Sent (struct 1 a b nought nought ends) (answer p)
  line-sent a b s =
      let o = two a b s.ordinates in
      record {
        code_is = refl;
        place_is = refl;
        degree_is = o.size;
        unused_is = refl;
        ordinates_are = o.each;
        start_is = s.start;
        end_is = s.end;
      }

  pub quadratic_sent : (a b c : Float) → Shows (record { curve = Quadratic a b c; ends = ends }) p
      → Sent (struct 2 a b c nought ends) (answer p)
  quadratic_sent a b c s =
      let o = three a b c s.ordinates in
      record {
        code_is = refl;
        place_is = refl;
        degree_is = o.size;
        unused_is = refl;
        ordinates_are = o.each;
        start_is = s.start;
        end_is = s.end;
      }

  pub cubic-sent : (a b c d : Float) → Shows (record { curve = Cubic a b c d; ends = ends }) p → Sent (struct 3 a b c d ends) (answer p)
  cubic-sent a b c d s =
      let o = four a b c d s.ordinates in
      record {
        code_is = refl;
        place_is = refl;
        degree_is = o.size;
        unused_is = refl;
        ordinates_are = o.each;
        start_is = s.start;
        end_is = s.end;
      }

-- ---- what the calls' answers tell

module _ (w : Drawing) (p : pieces.Piece) {r : Piece} where
  pub line-told : (a b : Float) → w.curve ≡ Line a b → r ≡ struct 1 a b nought nought w.ends → Shows w p → Sent r (answer p)
  line-told a b k e s =
      subst (λ t. Sent t (answer p)) (sym e) (line-sent w.ends p a b (subst (λ q. Shows (record { curve = q; ends = w.ends }) p) k s))

  pub quadratic_told : (a b c : Float) → w.curve ≡ Quadratic a b c → r ≡ struct 2 a b c nought w.ends → Shows w p → Sent r (answer p)
  quadratic_told a b c k e s =
      subst (λ t. Sent t (answer p)) (sym e)
      (quadratic_sent w.ends p a b c (subst (λ q. Shows (record { curve = q; ends = w.ends }) p) k s))

  pub cubic_told : (a b c d : Float) → w.curve ≡ Cubic a b c d → r ≡ struct 3 a b c d w.ends → Shows w p → Sent r (answer p)
  cubic_told a b c d k e s =
      subst (λ t. Sent t (answer p)) (sym e)
      (cubic-sent w.ends p a b c d (subst (λ q. Shows (record { curve = q; ends = w.ends }) p) k s))

pub drawn_sent : (r : Piece) {a : Result Drawing Refusal} {o : Outcome pieces.Piece} → Replies a o → (w : Drawing) → a ≡ Ok w
    → ((p : pieces.Piece) → Shows w p → Sent r (answer p)) → Sent r o
drawn_sent r (drawn {r = v} {p = p} s) w k h = h p (subst (λ x. Shows x p) (let z : v ≡ w = cc in z) s)
drawn_sent r refused w k h = absurd (let z : ◌≡◌ {A = ℕ} 0 1 = cc in omega arith)

-- number and place, and zeros
pub refused_sent : (r : Refusal) {a : Result Drawing Refusal} {o : Outcome pieces.Piece} → Replies a o → a ≡ Err r → Sent (not_sent r) o
refused_sent r (drawn s) k = absurd (let z : ◌≡◌ {A = ℕ} 0 1 = cc in omega arith)
refused_sent r (refused {r = v}) k = subst (λ w. Sent (not_sent r) (refusal w.code w.place)) (let z : r ≡ v = cc in z) (record {
  code_is = refl;
  place_is = refl;
  degree_is = refl;
  unused_is = refl;
  ordinates_are = more (nought_is 256) (more (nought_is 256) (more (nought_is 256) (more (nought_is 256) none)));
  start_is = nought_is 1;
  end_is = nought_is 1;
})
