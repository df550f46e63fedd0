-- The table of the fees: which number each has, and in which column a payment stands. After the Nomicon, Runtime
-- Fees; names, order and columns are this project's.
use Rattle.std.specs.Prelude.{ℕ}
use Rattle.nr_fees.specs.declared.table.Fee.{Fee}
use Rattle.nr_fees.specs.declared.table.Fee.TheVariants.{ActionReceipt, DataBase, DataByte, CreateAccount, DeployBase}
use Rattle.nr_fees.specs.declared.table.Fee.TheVariants.{DeployByte, CallBase, CallByte, Transfer, AddFullKey}
use Rattle.nr_fees.specs.declared.table.Fee.TheVariants.{AddCallKeyBase, AddCallKeyByte, DeleteKey, DeleteAccount}
use Rattle.nr_fees.specs.declared.table.Payment.{Payment}
use Rattle.nr_fees.specs.declared.table.Payment.TheVariants.{SendLocal, SendRemote, Execute}

abbrev pub number : Fee → ℕ
number ActionReceipt = 0
number DataBase = 1
number DataByte = 2
number CreateAccount = 3
number DeployBase = 4
number DeployByte = 5
number CallBase = 6
number CallByte = 7
number Transfer = 8
number AddFullKey = 9
number AddCallKeyBase = 10
number AddCallKeyByte = 11
number DeleteKey = 12
number DeleteAccount = 13

abbrev pub column : Payment → ℕ
column SendLocal = 0
column SendRemote = 1
column Execute = 2
