-- The goals of `preparing::prepare_module` that no tactic closes.
use Rattle.nr_config.specs.Config.{max_pages}
use Rattle.nr_contract.proofs.Making.{runs_over}
use Rattle.nr_contract.proofs.preparing.prepare_module.Goals as goal

pub returns-in-Ok-clause-over : goal.returns-in-Ok-clause-over
returns-in-Ok-clause-over c =
    runs_over (max_pages c.args.config.now) c.args.module c.in-Ok.valid c.prepare_valid.result
    c.in-Ok.ensures.verdict.0 c.in-Ok.ensures.breach c.prepare_valid.ensures.code
