-- Calls that always fail as calls of an absent method do, and burn nothing. This project's own.
use Rattle.std.specs.Prelude.{ℕ, refl}
use Rattle.std.proofs.Common.{ap, arith}
use Rattle.nr_config.specs.Config.{Config}
use Rattle.nr_state.specs.Calls.{Called, Ended, Stopped, IsCaller}
use Rattle.nr_state.specs.Local.{IsLocal}
use Rattle.nr_state.specs.World.{World}
use Rattle.nr_state.specs.declared.calls.CallContext.{CallContext}

abbrev pub refused : World → CallContext → Called
refused w x = Stopped 14 0 0

-- ---- they keep what every caller promises
abbrev burnt_of : Called → ℕ
burnt_of (Ended end after) = 0
burnt_of (Stopped kind part burnt) = burnt

pub refused_law : (c : Config) → IsCaller c refused
refused_law c = record {
  ended = λ w x end after can e. absurd cc;
  stopped = λ w x kind part burnt can e. omega (arith, ap burnt_of e);
}

pub refused_local : IsLocal refused
refused_local = record { alone = λ w v x. refl }
