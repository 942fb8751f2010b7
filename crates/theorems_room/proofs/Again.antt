-- A file of at most half the longest file's bytes is answered again: its answer is no longer than the longest file.
use native.Mathlib.Omega.{arith}
use Rattle.theorems_again.proofs.Again.{cleaned-again}
use Rattle.theorems_room.specs.AgainRoom.{HalfIsCleanedAgain}
use Rattle.theorems_room.proofs.WholeFile.{room_by_bytes}

pub half_is_cleaned-again : HalfIsCleanedAgain
half_is_cleaned-again t header unit c e l header' unit' h u = cleaned-again t header unit c e (omega (arith, (room_by_bytes t header unit c e).text)) header' unit' h u
