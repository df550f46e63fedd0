-- The id of the system account is an id, and the only one that passes the test.
use Rattle.std.proofs.Common.{◌≡◌, true, List, ℕ, None, refl}
use Rattle.std.specs.Cmp.Lexicographic.{bytes_decides}
use Rattle.nr_ids.specs.Grammar.{id_fault, first_below, is_system, system}

pub system_is_id : id_fault system ≡ None
unfolding id_fault first_below
system_is_id = refl

pub system_is : is_system system ≡ true
unfolding is_system
system_is = refl

pub only_system : (id : List ℕ) → is_system id ≡ true → id ≡ system
unfolding is_system
only_system id e = (bytes_decides id system).0 e
