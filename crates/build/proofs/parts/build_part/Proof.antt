-- `build_part`: the three slices are the lists of the part, which are legal. Assumes nothing.
use borrow.Author.Rules.{rules}
use mathlib.Core.Path.{subst}
use native.Mathlib.Omega.{arith}
use lib.ListN.{length}
use Rattle.spec_spline.specs.Space.{Space, row_count}
use Rattle.spec_spline.specs.Build.{weights}
use Rattle.build_space.specs.Machine.{space}
use Rattle.build_joins.specs.Leaves.{Ends}
use Rattle.build.proofs.Beam.{sliced, Lies, part_lies, slices_legal}
use Rattle.build.proofs.parts.build_part.Statement.{statement}
use Rattle.build.proofs.parts.build_part.Tie as tie

abbrev lists : tie.Start → Space
lists c = space c.args.breaks.now c.args.degrees.now c.args.orders.now

lies : (c : tie.Start) → Lies (length c.args.breaks.now) (length c.args.degrees.now) (length c.args.orders.now) c.args.a c.args.b
lies c = part_lies _ _ _ c.requires.legal c.requires.part.starts c.requires.part.ends

build-legal-requires : tie.Need-build_legal-requires
build-legal-requires c κs =
    let s = c in
    record {
      part = slices_legal _ _ _ s.requires.legal s.requires.part.starts s.requires.part.ends;
      room = s.requires.room;
      rest = s.requires.rest;
    }

returns : tie.Need-returns
returns c =
    let m = c in
    let s = m in
    subst (λ (p : Space). Ends (weights p) (row_count p) m.build_legal.result s.args.num.now s.args.den.now
    m.build_legal.new.num m.build_legal.new.den)
    (sliced (lists s.before.before.before.before.before.before.before.before) s.args.a s.args.b (lies s.before.before.before.before.before.before.before.before).some) m.build_legal.ensures

pub build_part_spec : {M : Type 1} → statement M
build_part_spec =
    tie.close (tie.spec (λ c. let l = lies c in omega arith) (λ c. search rules) (λ c. let l = lies c in omega arith)
    (λ c. let l = lies c in omega arith) (λ c. let l = lies c in omega arith) (λ c. search rules)
    (λ c. let l = lies c.before in omega arith) (λ c. let l = lies c.before in omega arith)
    (λ c. let l = lies c.before in omega arith) (λ c. let l = lies c.before.before in omega arith) (λ c. search rules)
    (λ c. let l = lies c.before.before in omega arith) (λ c. let l = lies c.before.before in omega arith)
    (λ c. let l = lies c.before.before in omega arith) build-legal-requires (λ c. search rules) (λ c. search rules) returns)
