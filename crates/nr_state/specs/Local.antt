-- What a call sees of a world, and what it changes. A promise of this project's own.
use Rattle.std.specs.Prelude.{◌≡◌}
use Rattle.nr_state.specs.Calls.{Called}
use Rattle.nr_state.specs.World.{World}
use Rattle.nr_state.specs.declared.calls.CallContext.{CallContext}
use Rattle.nr_state.specs.Scopes.{one_account, over, over_called}

-- it depends on the current account, its code, its data and the context alone, and changes nothing else: with all else
-- of another world it comes to the same
pub record IsLocal (call : World → CallContext → Called) : Type 0 where
  pub alone : (w v : World) (x : CallContext)
      → call (over (one_account x.current) w v) x ≡ over_called (one_account x.current) v (call w x)
