-- A chain at a moment of its run, as contracts see its core. This project's own.
use Rattle.std.specs.Prelude.{◌≡◌, false}
use Rattle.nr_chunk.specs.Chain.{Chain, IsChain, chain_with, rules_of}
use Rattle.nr_chunk.specs.Store.{StateStore}
use Rattle.nr_chunk.specs.declared.chain.ChainRun.{ChainRun}
use Rattle.nr_contract.specs.Contract.{call}
use Rattle.nr_contract.specs.declared.caller.ContractCaller.{ContractCaller}
use Rattle.nr_overlap.specs.CoreView.{CoreView}
use Rattle.nr_overlap.specs.Held.{IsReached}
use Rattle.nr_state.specs.declared.calls.Caller.{Ghosts}

-- whatever the caller's traits are
abbrev pub Chains : Ghosts ContractCaller StateStore → Type 0
Chains g = CoreView (ChainRun ContractCaller g)

abbrev pub chain_of : {g : Ghosts ContractCaller StateStore} → Chains g → Chain
chain_of core = chain_with core.phases.config core.phases.grounds.start core.phases.blocks (call core.phases.caller)

-- a sound chain, no want of memory, and positions that steps lead to
pub record IsMoment {g : Ghosts ContractCaller StateStore} (core : Chains g) : Type 0 where
  pub chain : IsChain (chain_of core)
  pub whole : core.lost ≡ false
  pub reached : IsReached (rules_of (chain_of core)) core.positions
