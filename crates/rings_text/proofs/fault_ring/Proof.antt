-- `fault_ring` meets its contract: for 2 the ring behind the most, else the place.
use Rattle.rings_text.proofs.Fronts.{faulty_many, faulty_place}
use Rattle.rings_text.proofs.fault_ring.Statement.{statement}
use Rattle.rings_text.proofs.fault_ring.Tie as tie

returns : tie.Need-returns-then-code-eq-LENGTHS
returns c = faulty_many c.args.code c.args.place c.if-code-eq-LENGTHS.true

returns-2 : tie.Need-returns
returns-2 c = faulty_place c.args.code c.args.place c.if-code-eq-LENGTHS.false

pub fault_ring_spec : {M : Type 1} → statement M
fault_ring_spec = tie.close (tie.spec returns returns-2)
