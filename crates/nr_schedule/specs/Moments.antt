-- A chain at a moment of its run, as contracts see its core. This project's own.
use Rattle.std.specs.Prelude.{◌≡◌, false}
use Rattle.nr_chunk.specs.Chain.{IsChain, rules_of}
use Rattle.nr_chunk.specs.Runs.{chain_in}
use Rattle.nr_chunk.specs.Store.{StateStore}
use Rattle.nr_chunk.specs.declared.chain.ChainRun.{ChainRun}
use Rattle.nr_overlap.specs.CoreView.{CoreView}
use Rattle.nr_overlap.specs.Held.{IsReached}
use Rattle.nr_state.specs.declared.calls.Caller.{Ghosts}

-- a sound chain, no want of memory, and positions that steps lead to
pub record IsMoment {C : Type 0} {g : Ghosts C StateStore} (core : CoreView (ChainRun C g)) : Type 0 where
  pub chain : IsChain (chain_in core.phases)
  pub whole : core.lost ≡ false
  pub reached : IsReached (rules_of (chain_in core.phases)) core.positions
