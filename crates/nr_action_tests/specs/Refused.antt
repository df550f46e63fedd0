-- Calls that always fail, and burn so much gas, or all of theirs. This project's own.
use Rattle.std.specs.Prelude.{ℕ, min, refl}
use Rattle.std.proofs.Common.{ap, arith}
use Rattle.nr_config.specs.Config.{Config}
use Rattle.nr_state.specs.Calls.{Called, Ended, Stopped, IsCaller}
use Rattle.nr_state.specs.Local.{IsLocal}
use Rattle.nr_state.specs.World.{World}
use Rattle.nr_action_tests.specs.Burning.{at_most}
use Rattle.nr_state.specs.declared.calls.CallContext.{CallContext}

abbrev pub refused : ℕ → ℕ → ℕ → World → CallContext → Called
refused kind part burnt w x = Stopped kind part (min burnt x.gas)

-- ---- they keep what every caller promises
abbrev burnt_of : Called → ℕ
burnt_of (Ended end after) = 0
burnt_of (Stopped kind part burnt) = burnt

pub refused_law : (c : Config) (kind part burnt : ℕ) → IsCaller c (refused kind part burnt)
refused_law c kind part burnt = record {
  ended = λ w x end after can e. absurd cc;
  stopped = λ w x k p b can e. omega (arith, ap burnt_of e, at_most burnt x.gas);
}

pub refused_local : (kind part burnt : ℕ) → IsLocal (refused kind part burnt)
refused_local kind part burnt = record { alone = λ w v x. refl }
