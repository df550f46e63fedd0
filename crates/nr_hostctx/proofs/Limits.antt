-- Bounds of what bindings count with.
use Rattle.std.proofs.Common.{◌+◌, ◌*◌, ◌^◌, ◌<◌, ◌≤◌, arith}
use Rattle.nr_config.specs.Config.{Config, greatest, max_key_bytes, max_value_bytes, IsValidConfig}
use Rattle.nr_config.specs.Table.{table}
use Rattle.nr_config.proofs.Bounds.{fee-bound}
use Rattle.nr_fees.specs.Fees.{fee}
use Rattle.nr_fees.specs.declared.table.Fee.{Fee}
use Rattle.nr_fees.specs.declared.table.Payment.{Payment}
use Rattle.nr_fees.specs.Table.{number, column}
use Rattle.nr_fees.specs.declared.table.Fee.TheVariants as which
use Rattle.nr_fees.specs.declared.table.Payment.TheVariants as payment

pub key_bytes : (c : Config) → IsValidConfig c → max_key_bytes c < 2 ^ 32
unfolding greatest table
key_bytes c v = omega (arith, (v.within 22 (omega arith) (omega arith)).1)

pub value_bytes : (c : Config) → IsValidConfig c → max_value_bytes c < 2 ^ 32
unfolding greatest table
value_bytes c v = omega (arith, (v.within 23 (omega arith) (omega arith)).1)

in_table : (f : Fee) → number f < 14
in_table which.ActionReceipt = omega arith
in_table which.DataBase = omega arith
in_table which.DataByte = omega arith
in_table which.CreateAccount = omega arith
in_table which.DeployBase = omega arith
in_table which.DeployByte = omega arith
in_table which.CallBase = omega arith
in_table which.CallByte = omega arith
in_table which.Transfer = omega arith
in_table which.AddFullKey = omega arith
in_table which.AddCallKeyBase = omega arith
in_table which.AddCallKeyByte = omega arith
in_table which.DeleteKey = omega arith
in_table which.DeleteAccount = omega arith

in_columns : (p : Payment) → column p < 3
in_columns payment.SendLocal = omega arith
in_columns payment.SendRemote = omega arith
in_columns payment.Execute = omega arith

pub fee_bound : (c : Config) (p : Payment) (f : Fee) → IsValidConfig c → fee c p f ≤ 10 ^ 15
fee_bound c p f v = fee-bound c (34 + 3 * number f + column p) v (omega arith) (omega (arith, in_table f, in_columns p))
