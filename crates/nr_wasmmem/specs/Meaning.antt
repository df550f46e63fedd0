-- WebAssembly Core 1.0, "Function Instances", host functions; gas is of this project's own: what a host means, over
-- its states.
use Rattle.std.specs.Prelude.{◌≡◌, ℕ, ◌-◌, ◌<◌, ◌≤◌, List, length, Option, Some, None, Result, Ok, Err}
use Rattle.nr_wasmtypes.specs.declared.exceeded.Exceeded.{Exceeded}
use Rattle.nr_wasmtypes.specs.declared.host.HostFn.{HostFn}
use Rattle.nr_wasmtypes.specs.declared.instr.ValType.{ValType}
use Rattle.nr_wasmtypes.specs.Host.{host_type}
use Rattle.nr_wasmmem.specs.declared.fault.HostStop.{HostStop}
use Rattle.nr_wasmmem.specs.declared.fault.HostStop.TheVariants.{Gas, Fault, Memory}

-- what a call answers
pub data Answer : Type 0 where
  Gives : (value : Option ℕ) → Answer
  OutOfGas : Answer
  Fails : (kind : ℕ) → Answer

-- the host's state, and the bytes of the guest's memory
pub record Store (S : Type 0) : Type 0 where
  pub host : S
  pub memory : List ℕ

-- what a call comes to
pub record Called (S : Type 0) : Type 0 where
  pub store : Store S
  pub answer : Answer

-- what a host is, over its states
pub record HostMeaning (S : Type 0) : Type 0 where
  -- the gas that is left
  pub gas : S → ℕ
  -- the state with this much gas left, and nothing else changed
  pub with_gas : S → ℕ → S
  -- what a call comes to, for a function and its arguments
  pub call : Store S → HostFn → List ℕ → Called S

-- burning takes gas, and takes all that is left where that isn't enough
abbrev pub burnt : {S : Type 0} → HostMeaning S → S → ℕ → S
burnt m s n = m.with_gas s (m.gas s - n)

abbrev pub Burns : {S : Type 0} → HostMeaning S → ℕ → Result (Unit {0}) Exceeded → S → S → Type 0
Burns m n (Ok u) old new = (n ≤ m.gas old) × (new ≡ burnt m old n)
Burns m n (Err e) old new = (m.gas old < n) × (new ≡ burnt m old n)

-- a call answers what it comes to, unless memory ran out
abbrev pub AnswersCall : {S : Type 0} → Result (Option ℕ) HostStop → S → List ℕ → Called S → Type 0
AnswersCall (Ok value) host memory called =
    called ≡ record { store = record { host = host; memory = memory }; answer = Gives value }
AnswersCall (Err Gas) host memory called =
    called ≡ record { store = record { host = host; memory = memory }; answer = OutOfGas }
AnswersCall (Err (Fault kind)) host memory called =
    called ≡ record { store = record { host = host; memory = memory }; answer = Fails kind }
AnswersCall (Err Memory) host memory called = Unit {0}

-- the number that an answer gives is there exactly where the function has a result
abbrev pub IsResult : Option ValType → Answer → Type 0
IsResult None (Gives None) = Unit {0}
IsResult None (Gives (Some v)) = ⊥
IsResult (Some t) (Gives None) = ⊥
IsResult (Some t) (Gives (Some v)) = Unit {0}
IsResult t OutOfGas = Unit {0}
IsResult t (Fails kind) = Unit {0}

-- what every host promises
pub record IsHost {S : Type 0} (m : HostMeaning S) : Type 0 where
  -- a state may have less gas left
  pub gas_is : (s : S) (n : ℕ) → n ≤ m.gas s → m.gas (m.with_gas s n) ≡ n
  -- of the gas that is set nothing else is kept
  pub gas_over : (s : S) (n k : ℕ) → m.with_gas (m.with_gas s n) k ≡ m.with_gas s k
  -- a call never raises the gas that is left
  pub no_more_gas : (s : Store S) (f : HostFn) (args : List ℕ) → m.gas (m.call s f args).store.host ≤ m.gas s.host
  pub result : (s : Store S) (f : HostFn) (args : List ℕ) → IsResult (host_type f).result (m.call s f args).answer
  -- a call leaves the size of the guest's memory
  pub size : (s : Store S) (f : HostFn) (args : List ℕ) → length (m.call s f args).store.memory ≡ length s.memory
