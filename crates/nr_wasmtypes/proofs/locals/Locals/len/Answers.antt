-- Answers for `locals::Locals::len`.
use Rattle.std.proofs.Common.{ap, length, arith}
use Rattle.nr_wasmtypes.proofs.OnRuns.{reached}
use Rattle.nr_wasmtypes.proofs.locals.Locals.len.Goals as goal

pub returns : goal.returns
returns c = omega (arith, reached 0 c.self.inside.count c.self.inside.runs.items c.self.invariant, ap length c.self.view_is)
