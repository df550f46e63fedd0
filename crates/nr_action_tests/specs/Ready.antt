-- What the states of the tests are like. This project's own.
use Rattle.std.specs.Prelude.{◌≡◌, ◌<◌, true, []}
use Rattle.nr_config.specs.Config.{Config}
use Rattle.nr_state.specs.View.{StateView}

-- the state is of this configuration, and can make a checkpoint
abbrev pub IsReady : Config → StateView → Type 0
IsReady c s = (s.whole ≡ true) × (s.config ≡ c) × (s.marks ≡ []) × (0 < s.spare)
