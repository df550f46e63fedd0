-- What a call of one of the host's functions answers, and the state behind it.
use Rattle.std.proofs.Common.{◌≡◌, ℕ, ◌+◌, ◌^◌, ◌<◌, List, [], Option, arith}
use Rattle.nr_config.specs.Config.{Config, IsValidConfig, greatest, max_all_register_bytes, max_promises}
use Rattle.nr_config.specs.Table.{table}
use Rattle.nr_contract.specs.Contract.{first_state}
use Rattle.nr_contract_laws.proofs.Along.{OnGives}
use Rattle.nr_contract_laws.proofs.Given.{IsGiven, IsSmall, row_given}
use Rattle.nr_contract_laws.proofs.Turning.{Counts, Good, apart, counts_here}
use Rattle.nr_contract_laws.specs.Numbers.{FitsContext, FitsState, most_added, usage_of}
use Rattle.nr_hostctx.specs.Acts.{Came, Goes, Stops}
use Rattle.nr_hostctx.specs.Host.{called, meaning, with_guest}
use Rattle.nr_hostctx.specs.Rows.{row}
use Rattle.nr_hostctx.specs.State.{fresh}
use Rattle.nr_hostctx.specs.declared.seen.HostState.{HostState}
use Rattle.nr_machine_laws.specs.Steps.{GivesOf}
use Rattle.nr_state.specs.World.{World}
use Rattle.nr_state.specs.declared.calls.CallContext.{CallContext}
use Rattle.nr_wasmmem.specs.Meaning.{Answer, Fails, Gives, OutOfGas, Store, burnt}
use Rattle.nr_wasmmem.specs.declared.fault.HostStop.TheVariants as stop
use Rattle.nr_wasmtypes.specs.Host.{host_type}
use Rattle.nr_wasmtypes.specs.declared.host.HostFn.{HostFn}
use Rattle.nr_wasmvalid.specs.Rules.{Types?}

-- ---- as a call begins
registers_bound : (c : Config) → IsValidConfig c → max_all_register_bytes c < 2 ^ 64
unfolding greatest table
registers_bound c v = omega (arith, (v.within 19 (omega arith) (omega arith)).1)

promises_bound : (c : Config) → IsValidConfig c → max_promises c < 2 ^ 64
unfolding greatest table
promises_bound c v = omega (arith, (v.within 25 (omega arith) (omega arith)).1)

fresh_fits : (c : Config) (w : World) (x : CallContext) → IsValidConfig c → FitsContext x → FitsState (fresh w x c)
fresh_fits c w x v fits =
    record {
      within = omega arith;
      limit = fits.gas;
      context = fits;
      held = omega arith;
      registers = registers_bound c v;
      promises = promises_bound c v;
    }

-- gas is burnt, or all that is left
pub burnt_fits : (s : HostState) (n : ℕ) → FitsState s → FitsState (burnt meaning s n)
burnt_fits s n fits =
    record {
      within = let within = fits.within in omega (arith, within);
      limit = fits.limit;
      context = fits.context;
      held = fits.held;
      registers = fits.registers;
      promises = fits.promises;
    }

pub begins : (c : Config) (w : World) (x : CallContext) (load : ℕ) → IsValidConfig c → FitsContext x
    → FitsState (first_state c w x load)
begins c w x load v fits = burnt_fits (fresh w x c) load (fresh_fits c w x v fits)

-- ---- a call
module _ (c : Config) (u : ℕ) where
  abbrev More : HostState → Type 0
  More s = Counts c (u + most_added c) s

  given : (Met : Type 0) (t : Types?) (came : Came (Option ℕ)) → Good More (IsGiven Met t) came → Met
      → GivesOf t (called came).answer
  given Met t (Goes s value) h met = h.0 met
  given Met t (Stops s stop.Gas) h met = tt
  given Met t (Stops s (stop.Fault kind)) h met = tt
  given Met t (Stops s stop.Memory) h met = tt

  behind : (V : Option ℕ → Type 0) (came : Came (Option ℕ)) → Good More V came
      → OnGives More (called came).answer (called came).store.host
  behind V (Goes s value) h = apart c (u + most_added c) s [] s.logs s.returned h.1
  behind V (Stops s stop.Gas) h = tt
  behind V (Stops s (stop.Fault kind)) h = tt
  behind V (Stops s stop.Memory) h = tt

  module _ (s : Store HostState) (h : Counts c u s.host) (f : HostFn) (args : List ℕ) where
    came : Good More (IsGiven (IsSmall f u) (host_type f).result) (row f args (with_guest s.host s.memory))
    came =
        (row_given c u f args).at (with_guest s.host s.memory)
        (apart c u s.host s.memory s.host.logs s.host.returned h)

    pub answer_given : IsSmall f u → GivesOf (host_type f).result (meaning.call s f args).answer
    answer_given met = given (IsSmall f u) (host_type f).result (row f args (with_guest s.host s.memory)) came met

    pub counts_behind : OnGives (Counts c (u + most_added c)) (meaning.call s f args).answer
        (meaning.call s f args).store.host
    counts_behind =
        behind (IsGiven (IsSmall f u) (host_type f).result) (row f args (with_guest s.host s.memory)) came

-- ---- the laws of a call
pub answers : (s : Store HostState) (f : HostFn) (args : List ℕ) → FitsState s.host → IsSmall f (usage_of s.host)
    → GivesOf (host_type f).result (meaning.call s f args).answer
answers s f args fits met =
    answer_given s.host.config (usage_of s.host) s (counts_here s.host fits) f args met

goes_on_by : (Q : HostState → Type 0) (a : Answer) (s : HostState) (value : Option ℕ) → a ≡ Gives value → OnGives Q a s
    → Q s
goes_on_by Q (Gives value) s other e h = h
goes_on_by Q OutOfGas s other e h = absurd cc
goes_on_by Q (Fails kind) s other e h = absurd cc

-- where the call goes on, the numbers fit behind it, and the account is counted as at most so much more
pub goes_on : (s : Store HostState) (f : HostFn) (args : List ℕ) (value : Option ℕ) → FitsState s.host
    → (meaning.call s f args).answer ≡ Gives value
    → Counts s.host.config (usage_of s.host + most_added s.host.config) (meaning.call s f args).store.host
goes_on s f args value fits e =
    goes_on_by (Counts s.host.config (usage_of s.host + most_added s.host.config))
    (meaning.call s f args).answer (meaning.call s f args).store.host value e
    (counts_behind s.host.config (usage_of s.host) s (counts_here s.host fits) f args)
