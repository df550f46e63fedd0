-- The two account ids of a call are ids.
use Rattle.std.proofs.Common.{◌≡◌, None, refl}
use Rattle.nr_ids.specs.Grammar.{id_fault, first_below}
use Rattle.nr_onecall.specs.Setting.{caller, contract}

pub contract_is_id : id_fault contract ≡ None
unfolding id_fault first_below
contract_is_id = refl

pub caller_is_id : id_fault caller ≡ None
unfolding id_fault first_below
caller_is_id = refl
