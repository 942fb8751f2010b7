-- What is left of the room and the bytes of the series passed are the room.
use Rattle.std.proofs.Common.{◌≡◌, ◌+◌, true, length, drop}
use Rattle.tucson_series.specs.Sizes.{closings_fit, text_bytes}
use Rattle.tucson_series.proofs.room.text_fits.Given as goal

abbrev pub invariant-loop-year : goal.invariant-loop-year
invariant-loop-year l = record {
  room_is : text_bytes l.years l.counts + l.left
      ≡ l.fn.room + text_bytes (drop (length l.yielded) l.years) (drop (length l.yielded) l.counts);
  fit : closings_fit (drop (length l.yielded) l.years) (drop (length l.yielded) l.counts) ≡ true;
}
