-- `curve_reach_steps::value_on` meets its contract: the triangle at that location. Assumes nothing.
use borrow.Author.Rules.{rules}
use native.Mathlib.Omega.{arith}
use mathlib.Core.Path.{◌≡◌, sym, ◌∙◌, subst}
use Prim.Native.Nat.{◌≤◌}
use lib.IntN.{ℤ, pos, nat_abs}
use mir.Syntax.{w32, w64}
use mir.Val.{SFits, to_z}
use Rattle.base_exact.proofs.Integer as Z
use Rattle.base_exact.proofs.Word.{to_z-of_z, to_z_pos, sfits_widen}
use Rattle.curve_ordinates.specs.Ordinates.{ordinate_limit}
use Rattle.curve_places.specs.Location.{Sound, value_of}
use Rattle.curve_reach_steps.specs.Machine.{value_on}
use Rattle.curve_reach_steps.proofs.Passing.{value-small}
use Rattle.curve_reach_steps.proofs.value_on.Statement.{statement}
use Rattle.curve_reach_steps.proofs.value_on.Tie as tie

-- the location of offset u
module _ (s : tie.Start) where
  value_is : (o w : ℤ) → let a = s.args in o ≡ pos a.u → w ≡ pos a.d
      → value_of a.ordinates.now (record { column = a.c; degree = a.p; offset = o; width = w })
      ≡ value_on a.ordinates.now a.c a.p a.d a.u
  unfolding value_of value_on
  value_is o w e f = cc

  offset_word : to_z w64 s.args.u ≡ pos s.args.u
  offset_word = to_z_pos w64 s.args.u (omega (arith, s.requires.segment.short, s.requires.within))

  width_word : to_z w64 s.args.d ≡ pos s.args.d
  width_word = to_z_pos w64 s.args.d (omega (arith, s.requires.segment.short))

  sound : (o w : ℤ) → o ≡ pos s.args.u → w ≡ pos s.args.d
      → Sound (record { column = s.args.c; degree = s.args.p; offset = o; width = w })
  sound o w e f = record {
    low = s.requires.segment.degree_low;
    within = s.requires.segment.columns.columns-within;
    inside = rw (e, f) (record {
      above = Z.≤_in (pos 0) (pos s.args.u) (omega arith);
      below = Z.≤_in (pos s.args.u) (pos s.args.d) (omega (arith, s.requires.within));
      long = Z.<_in (pos 0) (pos s.args.d) (omega (arith, s.requires.segment.long));
      short = Z.≤_in (pos s.args.d) (pos 512000) (omega (arith, s.requires.segment.short));
    });
  }

value-at-requires : tie.Need-value_at-requires
value-at-requires c κs = record { sound = sound c _ _ (offset_word c) (width_word c); ordinates = c.requires.segment.columns.ordinates }

module _ (c : tie.After-value_at) where
  abbrev start : tie.Start
  start = c.before

  abbrev value : ℤ
  value = value_on start.args.ordinates.now start.args.c start.args.p start.args.d start.args.u

  result_fits : SFits w32 c.value_at.result
  result_fits = record { sfits = c.value_at.type_inv }

  result_is : c.value_at.result ≡ value
  result_is = c.value_at.ensures ∙ value_is start _ _ (offset_word start) (width_word start)

  small : nat_abs value ≤ ordinate_limit
  small =
      let a = start.args in
      let s = start.requires.segment in
      value-small a.ordinates.now a.c a.p a.d a.u s.long start.requires.within s.columns.ordinates.bounded

returns : tie.Need-returns
returns c = let f = result_fits c in let g = sfits_widen f in simp to_z-of_z (record {
  is = result_is c;
  small = subst (λ z. nat_abs z ≤ ordinate_limit) (sym (result_is c)) (small c);
})

pub value_on_spec : {M : Type 1} → statement M
value_on_spec =
    tie.close (tie.spec (λ c. search rules) (λ c. search rules) value-at-requires
    (λ c. let f = result_fits c in simp to_z-of_z (sfits_widen f)) returns)
