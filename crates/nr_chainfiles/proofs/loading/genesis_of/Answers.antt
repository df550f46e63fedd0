-- The goals of `loading::genesis_of` that no tactic closes.
use Rattle.std.proofs.Common.{sym}
use Rattle.nr_shell.proofs.Leading.{read_follows, stop_follows}
use Rattle.nr_chainfiles.specs.Plans.{by_genesis_bytes}
use Rattle.nr_chainfiles.proofs.loading.genesis_of.Goals as goal

pub returns-in-Ok-clause-follows : goal.returns-in-Ok-clause-follows
returns-in-Ok-clause-follows g c =
    rw (sym c.of_genesis.ensures.value)
    (read_follows (by_genesis_bytes g.E.ChainRefusal.genesis_refusal c.args.config.now)
    (c.in-Ok.ensures g.E.ConfigRefusal.refuses c.of_genesis.ensures.refuses) c.deref.ensures.value c.genesis_in.ensures.judges)

pub returns-in-Err-clause-follows : goal.returns-in-Err-clause-follows
returns-in-Err-clause-follows g c =
    rw (sym c.of_genesis.ensures.value)
    (stop_follows (by_genesis_bytes g.E.ChainRefusal.genesis_refusal c.args.config.now)
    (c.in-Err.ensures g.E.ConfigRefusal.refuses c.of_genesis.ensures.refuses))
