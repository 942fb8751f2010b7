-- Each arm is the case of the definition.
use Rattle.std.proofs.Common.{sym, ap}
use Rattle.tucson_clean.specs.Machine.{counts}
use Rattle.walzhik_structs.specs.File.{cleaned}
use Rattle.walzhik_structs.proofs.cleaned_of.Goals as goal

pub returns-in-Ok : goal.returns-in-Ok
unfolding counts cleaned
returns-in-Ok c = sym (ap (λ a. cleaned (counts a)) c.in-Ok.is)

pub returns-in-Err : goal.returns-in-Err
unfolding counts cleaned
returns-in-Err c = sym (ap (λ a. cleaned (counts a)) c.in-Err.is)
