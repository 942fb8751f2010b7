-- Each arm is the case of the definition.
use Rattle.std.proofs.Common.{sym, ap}
use Rattle.base_outcome.specs.Machine.{reply}
use Rattle.walzhik_reply.specs.Machine.{replied}
use Rattle.walzhik_reply.proofs.reply_of.Goals as goal

pub returns-in-Ok : goal.returns-in-Ok
unfolding replied
returns-in-Ok c = sym (ap (λ a. replied (reply a)) c.in-Ok.is)

pub returns-in-Err : goal.returns-in-Err
unfolding replied
returns-in-Err c = sym (ap (λ a. replied (reply a)) c.in-Err.is)
