-- The working state that the code's own chunk stands for. This project's own.
use Rattle.std.specs.Prelude.{◌≡◌, true, []}
use Rattle.nr_chunk.specs.Views.{Kept, Working}
use Rattle.nr_chunk.specs.declared.work.Work.{Work}
use Rattle.nr_state.specs.View.{StateView}

-- a shard with this state, before its chunk takes anything
abbrev pub kept_of : StateView → Kept
kept_of state = record { config = state.config; world = state.world; carried = [] }

abbrev pub working_of : Work → Working
working_of k =
    record {
      whole = true;
      config = k.state.config;
      shard = k.shard;
      place = k.place;
      world = k.state.world;
      gas = k.gas;
      burnt = k.burnt;
      local = k.local;
      outgoing = k.outgoing.items;
      lines = k.lines.items;
    }

-- no change was left in the middle, and no checkpoint stands
pub record IsReady (k : Work) : Type 0 where
  pub whole : k.state.whole ≡ true
  pub marks : k.state.marks ≡ []
