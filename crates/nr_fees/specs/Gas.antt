-- What burning and promising gas do to a counter. Burnt gas and gas for further receipts are after the Nomicon,
-- Economics (Gas); the counter is this project's.
use Rattle.std.specs.Prelude.{ℕ, ◌+◌, ◌-◌, ◌≡◌, ◌<◌, ◌≤◌, Result, Ok, Err}
use Rattle.nr_fees.specs.declared.gas.GasCounter.{GasCounter}

-- n more are within the limit
abbrev pub HasRoom : GasCounter → ℕ → Type 0
HasRoom counter n = counter.burnt + counter.promised + n ≤ counter.limit

-- the limit is passed: all that wasn't promised is burnt
pub record SpendsAll (old new : GasCounter) (n : ℕ) : Type 0 where
  pub passed : old.limit < old.burnt + old.promised + n
  pub burnt : new.burnt ≡ old.limit - old.promised
  pub promised : new.promised ≡ old.promised
  pub limit : new.limit ≡ old.limit

-- n are burnt within the limit
pub record BurnsWithin (old new : GasCounter) (n : ℕ) : Type 0 where
  pub room : HasRoom old n
  pub burnt : new.burnt ≡ old.burnt + n
  pub promised : new.promised ≡ old.promised
  pub limit : new.limit ≡ old.limit

-- n are promised within the limit
pub record PromisesWithin (old new : GasCounter) (n : ℕ) : Type 0 where
  pub room : HasRoom old n
  pub burnt : new.burnt ≡ old.burnt
  pub promised : new.promised ≡ old.promised + n
  pub limit : new.limit ≡ old.limit

-- what a call answers that burns n
abbrev pub Burns : {T E : Type 0} → Result T E → GasCounter → GasCounter → ℕ → Type 0
Burns (Ok done) old new n = BurnsWithin old new n
Burns (Err exceeded) old new n = SpendsAll old new n

-- what a call answers that promises n
abbrev pub Promises : {T E : Type 0} → Result T E → GasCounter → GasCounter → ℕ → Type 0
Promises (Ok done) old new n = PromisesWithin old new n
Promises (Err exceeded) old new n = SpendsAll old new n
