-- The numbers of the faults that a binding can have. This project's own.
use Rattle.std.specs.Prelude.{ℕ}
use Rattle.nr_guest.specs.declared.fault.GuestFault.{GuestFault}
use Rattle.nr_guest.specs.declared.fault.GuestFault.TheVariants as guest
use Rattle.nr_promises.specs.declared.fault.PromiseFault.{PromiseFault}
use Rattle.nr_promises.specs.declared.fault.PromiseFault.TheVariants as promise
use Rattle.nr_wasmmem.specs.declared.fault.HostStop.{HostStop}
use Rattle.nr_wasmmem.specs.declared.fault.HostStop.TheVariants.{Fault, Memory}

abbrev pub bad_register : ℕ
bad_register = 1

abbrev pub out_of_bounds : ℕ
out_of_bounds = 2

abbrev pub register_limit : ℕ
register_limit = 3

abbrev pub bad_utf8 : ℕ
bad_utf8 = 4

abbrev pub bad_account_id : ℕ
bad_account_id = 5

abbrev pub bad_promise : ℕ
bad_promise = 6

abbrev pub empty_method : ℕ
empty_method = 7

abbrev pub balance_exceeded : ℕ
balance_exceeded = 8

abbrev pub key_too_long : ℕ
key_too_long = 9

abbrev pub value_too_long : ℕ
value_too_long = 10

abbrev pub too_many_logs : ℕ
too_many_logs = 11

abbrev pub too_many_promises : ℕ
too_many_promises = 12

abbrev pub bad_result : ℕ
bad_result = 13

abbrev pub guest_panic : ℕ
guest_panic = 14

abbrev pub return_too_long : ℕ
return_too_long = 15

abbrev pub bad_public_key : ℕ
bad_public_key = 16

abbrev pub joint : ℕ
joint = 17

abbrev pub too_many_actions : ℕ
too_many_actions = 18

abbrev pub too_many_inputs : ℕ
too_many_inputs = 19

-- ---- what the parts below answer
abbrev pub guest_stop : GuestFault → HostStop
guest_stop guest.BadRegister = Fault bad_register
guest_stop guest.OutOfBounds = Fault out_of_bounds
guest_stop guest.RegisterLimit = Fault register_limit
guest_stop guest.Memory = Memory

abbrev pub promise_stop : PromiseFault → HostStop
promise_stop promise.BadIndex = Fault bad_promise
promise_stop promise.Joint = Fault joint
promise_stop promise.TooMany = Fault too_many_promises
promise_stop promise.TooManyActions = Fault too_many_actions
promise_stop promise.TooManyInputs = Fault too_many_inputs
promise_stop promise.Memory = Memory
