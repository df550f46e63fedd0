-- The goals of `loading::load_chain` that no tactic closes.
use Rattle.nr_shell.proofs.Leading.{stop_follows, then_follows}
use Rattle.nr_chainfiles.specs.Plans.{by_config}
use Rattle.nr_words.specs.Words.{names_in}
use Rattle.nr_chainfiles.proofs.loading.load_chain.Goals as goal

pub returns-in-Ok-clause-follows : goal.returns-in-Ok-clause-follows
returns-in-Ok-clause-follows g c =
    then_follows
    (by_config g.E.ConfigRefusal.refusal g.E.ChainRefusal.genesis_refusal g.E.ChainRefusal.blocks_refusal
    (names_in c.args.names.now)) c.in-Ok.ensures c.with_genesis.ensures.follows

pub returns-in-Err-clause-follows : goal.returns-in-Err-clause-follows
returns-in-Err-clause-follows g c =
    stop_follows
    (by_config g.E.ConfigRefusal.refusal g.E.ChainRefusal.genesis_refusal g.E.ChainRefusal.blocks_refusal
    (names_in c.args.names.now)) c.in-Err.ensures
