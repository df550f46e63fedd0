-- What the parts of such a call answer. This project's own.
use Rattle.std.specs.Prelude.{◌≡◌, Option, Some, None}
use Rattle.nr_state.specs.Calls.{Called, Ended, Stopped, Stands}
use Rattle.nr_state.specs.View.{StateView}
use Rattle.nr_state.specs.declared.calls.CallEnd.{CallEnd}

-- an end, or nothing was sent and the state is as it was
abbrev pub Sends : Option CallEnd → StateView → StateView → Called → Type 0
Sends (Some end) old new called = (called ≡ Ended end new.world) × Stands old new
Sends None old new called = (called ≡ Stopped 14 0 0) × (new ≡ old)
