-- A part of an accepted beam is accepted, so its build answers its rows and is never refused.
use Rattle.std.proofs.Common.{◌≡◌, refl, sym, ◌∙◌, arith, Ok}
use Rattle.sheet_beam.proofs.Beam.{beam_legal, part_told}
use Rattle.sheet_beam.proofs.part_rows.Goals as goal

pub build_part-requires : goal.build_part-requires
build_part-requires c =
    let p = c.requires in
    record {
      legal = beam_legal _ p.accepted;
      part = record { starts = p.starts; ends = p.ends };
      room = record { num_long = p.num_long; den_long = p.den_long };
      rest = record { few = omega arith; clear = record { zeros = λ k h l. absurd (omega arith); ones = λ k h l. absurd (omega arith) } };
    }

pub unwrap-requires : goal.unwrap-requires
unwrap-requires c =
    let p = c.requires in
    let left = rw p.ends at c.build_part.ensures in
    rw (part_told _ p.accepted _ p.starts c.build_part.result left.answers) refl

pub returns : goal.returns
returns c =
    let p = c.requires in
    let left = rw p.ends at c.build_part.ensures in
    let told = part_told _ p.accepted _ p.starts c.build_part.result left.answers in
    record {
      rows_are = let e : Ok c.unwrap.result ≡ Ok _ = sym c.unwrap.ensures ∙ told in cc;
      num_is = left.numerators_are;
      den_is = left.denominators_are;
    }
