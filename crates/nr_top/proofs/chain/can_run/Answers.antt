-- The goals of `chain::can_run` that no tactic closes.
use Rattle.nr_contract.specs.Contract.{call}
use Rattle.nr_contract.specs.LocalCalls.{call_is_local}
use Rattle.nr_top.proofs.chain.can_run.Goals as goal

pub returns : goal.returns
returns c =
    let files = c.args.files.now in
    c.course_laws.ensures.can files.config files.genesis files.file (call files.config) (call_is_local files.config)
    c.requires c.block_count.ensures
