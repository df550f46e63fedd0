-- The goals of `running::over_genesis` that no tactic closes.
use Rattle.std.proofs.Common.{ap}
use Rattle.nr_config.specs.Config.{Config as Configuration}
use Rattle.nr_files.specs.declared.command.Work.TheVariants.{MakeBlocks}
use Rattle.nr_shell.proofs.Leading.{stop_follows, then_follows}
use Rattle.nr_top.proofs.BothLegs.{follows_same}
use Rattle.nr_jsonrun.specs.Plans.{made, over_both}
use Rattle.nr_words.specs.Words.{names_in}
use Rattle.nr_jsonrun.proofs.running.over_genesis.Goals as goal

pub returns-in-Ok-clause-follows : goal.returns-in-Ok-clause-follows
returns-in-Ok-clause-follows g c =
    let names = names_in c.args.names.now in
    then_follows (over_both names c.args.config c.args.genesis)
    (follows_same (ap (λ (config : Configuration). made MakeBlocks config names.blocks) c.free.ensures) c.in-Ok.ensures.follows)
    c.over_both.ensures.follows

pub returns-in-Err-clause-follows : goal.returns-in-Err-clause-follows
returns-in-Err-clause-follows g c =
    let names = names_in c.args.names.now in
    stop_follows (over_both names c.args.config c.args.genesis)
    (follows_same (ap (λ (config : Configuration). made MakeBlocks config names.blocks) c.free.ensures) c.in-Err.ensures.follows)
