-- The floats of the case, and zeros behind them.
use Rattle.walzhik_structs.proofs.Struct.{line-told, quadratic_told, cubic_told}
use Rattle.walzhik_structs.proofs.sent.Goals as goal

pub returns-in-Line : goal.returns-in-Line
returns-in-Line c p s = line-told c.args.drawing p _ _ c.in-Line.is c.of_degree.ensures s

pub returns-in-Quadratic : goal.returns-in-Quadratic
returns-in-Quadratic c p s = quadratic_told c.args.drawing p _ _ _ c.in-Quadratic.is c.of_degree-in-Quadratic.ensures s

pub returns-in-Cubic : goal.returns-in-Cubic
returns-in-Cubic c p s = cubic_told c.args.drawing p _ _ _ _ c.in-Cubic.is c.of_degree-in-Cubic.ensures s
