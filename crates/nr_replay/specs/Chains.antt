-- A chain whose calls contracts run, as its threads share it. This project's own.
use Rattle.nr_chunk.specs.Chain.{Chain, chain_with}
use Rattle.nr_chunk.specs.Store.{StateStore}
use Rattle.nr_chunk.specs.declared.chain.ChainRun.{ChainRun}
use Rattle.nr_contract.specs.Contract.{call}
use Rattle.nr_contract.specs.declared.caller.ContractCaller.{ContractCaller}
use Rattle.nr_state.specs.declared.calls.Caller.{Ghosts}

-- whatever the caller's traits are
abbrev pub chain_in : {g : Ghosts ContractCaller StateStore} → ChainRun ContractCaller g → Chain
chain_in run = chain_with run.config run.grounds.start run.blocks (call run.caller)
