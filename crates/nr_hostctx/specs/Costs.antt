-- What sending costs a call, by whether the receiver is the account itself. This project's own.
use Rattle.std.specs.Prelude.{ℕ, ◌+◌, Bool, cond, List}
use Rattle.std.specs.Str.{bytes_eq}
use Rattle.nr_config.specs.Config.{Config}
use Rattle.nr_fees.specs.Fees.{fee}
use Rattle.nr_fees.specs.declared.table.Fee.{Fee}
use Rattle.nr_fees.specs.declared.table.Payment.{Payment}
use Rattle.nr_fees.specs.declared.table.Payment.TheVariants.{SendLocal, SendRemote, Execute}
use Rattle.nr_hostctx.specs.State.{HostState}

-- the receiver is the account itself
abbrev pub is_local : HostState → List ℕ → Bool
is_local s receiver = bytes_eq receiver s.context.current

abbrev pub sending : Bool → Payment
sending local = cond local SendLocal SendRemote

-- a fee that is burnt at once for sending and for executing
abbrev pub both_fees : Config → Bool → Fee → ℕ
both_fees c local f = fee c (sending local) f + fee c Execute f
