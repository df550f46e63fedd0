-- The goals of `caller::drive` that no tactic closes.
use Rattle.std.proofs.Common.{[], sym, ◌∙◌}
use Rattle.nr_hostctx.specs.Host.{with_guest}
use Rattle.nr_hostctx.specs.State.{state_of}
use Rattle.nr_contract.proofs.Ending.{driven}
use Rattle.nr_contract.proofs.caller.drive.Goals as goal

pub returns-clause-drives : goal.returns-clause-drives
returns-clause-drives g c =
    driven c.args.machine.now c.args.func c.args.load c.from.result c.burnt.result
    (with_guest (state_of c.args.host.now) []) _ (with_guest (state_of c.run-end.new.host) []) _ c.burn.result
    c.run-end.result c.ended_as.result
    c.requires.cost c.from.ensures (sym c.is_err.ensures.value ∙ c.if-is_err.false) c.burn.ensures.burns
    c.run-end.ensures.ends c.burnt.ensures c.ended_as.ensures
