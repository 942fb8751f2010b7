-- By the law and with their number, since the zeros are too many to be counted one by one.
use Rattle.std.proofs.Common.{◌≡◌, ℕ, ◌≤◌, sym, arith}
use Rattle.std.proofs.lemmas.List.{length-replicate}
use Rattle.rings_text.specs.Printed.{series_limit}
use Rattle.rings.proofs.write_pieces.Goals as goal

room : {size : ℕ} → size ≡ series_limit → series_limit ≤ size
room e = omega arith

pub slice_bounds-write_over-end : goal.slice_bounds-write_over-end
slice_bounds-write_over-end g c = sym (length-replicate {0} {A = ℕ} series_limit 0)

pub write_over-requires : goal.write_over-requires
write_over-requires g c =
    record {
      held = c.requires.held;
      widths_len_bound = c.requires.widths_len_bound;
      room = room (length-replicate {0} {A = ℕ} series_limit 0);
    }
