-- More gas than any call has.
use Rattle.std.proofs.Common.{◌≡◌, ℕ, ◌+◌, ◌^◌, ◌<◌, ◌≤◌, false, refl, arith}
use Rattle.std.proofs.lemmas.Bool.{lt-leb}
use Rattle.nr_wasmmem.specs.declared.fault.HostStop.TheVariants as stop
use Rattle.nr_hostctx.specs.Acts.{Stops, burn, promise, burnt_all, has_gas}
use Rattle.nr_hostctx.specs.State.{HostState, Gas}

passed : (g : Gas) (n : ℕ) → g.limit < 2 ^ 64 → 2 ^ 64 ≤ n → has_gas g n ≡ false
passed g n small great = lt-leb (g.burnt + g.promised + n) g.limit (omega (arith, small, great))

-- what costs 2 ^ 64 or more stops the call
pub burns_all : (s : HostState) (n : ℕ) → s.gas.limit < 2 ^ 64 → 2 ^ 64 ≤ n
    → burn n s ≡ Stops (record s { gas = burnt_all s.gas }) stop.Gas
unfolding burn
burns_all s n small great = rw (passed s.gas n small great) refl

pub promises_none : (s : HostState) (n : ℕ) → s.gas.limit < 2 ^ 64 → 2 ^ 64 ≤ n
    → promise n s ≡ Stops (record s { gas = burnt_all s.gas }) stop.Gas
unfolding promise
promises_none s n small great = rw (passed s.gas n small great) refl

pub past_gas : (n : ℕ) → 2 ^ 128 ≤ n → 2 ^ 64 ≤ n
past_gas n h = omega (arith, h)
