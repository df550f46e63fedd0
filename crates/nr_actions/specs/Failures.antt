-- The failures of actions, by number. The names are after the Nomicon, Runtime Specification, Actions; the numbers
-- are this project's.
use Rattle.std.specs.Prelude.{ℕ}
use Rattle.nr_actions.specs.declared.failure.Failure.{Failure}
use Rattle.nr_actions.specs.declared.failure.Failure.TheVariants.{AccountExists, NoAccount, OnlyRegistrar, NotParent}
use Rattle.nr_actions.specs.declared.failure.Failure.TheVariants.{NoPermission, NoSuchKey, KeyExists, Locked}
use Rattle.nr_actions.specs.declared.failure.Failure.TheVariants.{LargeState, LackBalanceForState, OnlyImplicit, NoCode}
use Rattle.nr_actions.specs.declared.failure.Failure.TheVariants.{Code, NoMethod, Trap, HostFault, GasExceeded}

abbrev pub number : Failure → ℕ
number AccountExists = 1
number NoAccount = 2
number OnlyRegistrar = 3
number NotParent = 4
number NoPermission = 5
number NoSuchKey = 6
number KeyExists = 7
number Locked = 8
number LargeState = 9
number LackBalanceForState = 10
number OnlyImplicit = 11
number NoCode = 12
number Code = 13
number NoMethod = 14
number Trap = 15
number HostFault = 16
number GasExceeded = 17
