-- The goals of `commands::recheck::run_again` that no tactic closes.
use Rattle.std.proofs.Common.{subst}
use Rattle.nr_bytes.specs.Answers.{Gives}
use Rattle.nr_config.specs.Config.{Config}
use Rattle.nr_contract.specs.Contract.{call}
use Rattle.nr_recheck.specs.Rechecking.{memory_fault, rechecked}
use Rattle.nr_top.proofs.commands.recheck.run_again.Goals as goal

pub returns : goal.returns
returns c = subst (λ (k : Config). Gives memory_fault c.recheck.result (rechecked c.args.config (call k) c.args.gathered)) c.new-caller.ensures c.recheck.ensures.gives
