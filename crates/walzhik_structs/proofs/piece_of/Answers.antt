-- The piece or the refusal, as a struct.
use Rattle.walzhik_structs.proofs.Struct.{drawn_sent, refused_sent}
use Rattle.walzhik_structs.proofs.piece_of.Goals as goal

pub returns-in-Ok : goal.returns-in-Ok
returns-in-Ok c o told = drawn_sent c.sent.result told c.in-Ok.drawing c.in-Ok.is c.sent.ensures

pub returns-in-Err : goal.returns-in-Err
returns-in-Err c o told = refused_sent c.in-Err.refusal told c.in-Err.is
