-- The goals of `quiet::next_quiet` that no tactic closes.
use Rattle.std.proofs.Common.{ap, ◌∙◌}
use Rattle.nr_wasmtypes.specs.Code.{begins}
use Rattle.nr_wasmtypes.proofs.Levels.{begins_put}
use Rattle.nr_wasmexec.proofs.Paying.{begun_any}
use Rattle.nr_wasmexec.proofs.quiet.next_quiet.Goals as goal

pub returns-in-Some-clause-begun : goal.returns-in-Some-clause-begun
returns-in-Some-clause-begun c =
    begun_any c.quiet.result c.args.thread.now.code (ap begins c.in-Some.ensures ∙ begins_put c.in-Some.instr.now _)
