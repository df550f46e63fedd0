-- The chain that a run works on, whoever runs its contracts. This project's own.
use Rattle.nr_chunk.specs.Chain.{Chain, chain_with}
use Rattle.nr_chunk.specs.Store.{StateStore}
use Rattle.nr_chunk.specs.declared.chain.ChainRun.{ChainRun}
use Rattle.nr_state.specs.declared.calls.Caller.{Ghosts}

abbrev pub chain_in : {C : Type 0} {g : Ghosts C StateStore} → ChainRun C g → Chain
chain_in {C} {g} run = chain_with run.config run.grounds.start run.blocks (g.meaning run.caller)
