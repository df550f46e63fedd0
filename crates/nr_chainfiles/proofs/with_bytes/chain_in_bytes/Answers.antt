-- The goals of `with_bytes::chain_in_bytes` that no tactic closes.
use Rattle.nr_chainfiles.proofs.WithBytes.{over, stopped}
use Rattle.nr_chainfiles.proofs.with_bytes.chain_in_bytes.Goals as goal

pub returns-in-Ok-clause-judges : goal.returns-in-Ok-clause-judges
returns-in-Ok-clause-judges g c = λ names.
    over g.E.ConfigRefusal.refusal g.E.ChainRefusal.genesis_refusal g.E.ChainRefusal.blocks_refusal names c.args.config c.args.genesis.items c.args.blocks.items
    g.E.ConfigRefusal.refuses c.in-Ok.genesis c.over_genesis.result c.in-Ok.ensures.judges c.over_genesis.ensures.judges

pub returns-in-Err-clause-judges : goal.returns-in-Err-clause-judges
returns-in-Err-clause-judges g c = λ names.
    stopped g.E.ConfigRefusal.refusal g.E.ChainRefusal.genesis_refusal g.E.ChainRefusal.blocks_refusal names c.args.config c.args.genesis.items c.args.blocks.items
    g.E.ConfigRefusal.refuses c.in-Err.stop c.in-Err.ensures.judges
