-- What holds at the loops of `slots::below`.
use Rattle.std.proofs.Common.{◌≡◌, ◌++◌}
use Rattle.nr_store.proofs.Prefixes.{Rises, keys_in}
use Rattle.nr_store.proofs.slots.below.Given as goal

abbrev pub invariant-loop-key : goal.invariant-loop-key
invariant-loop-key l =
    record { keys : l.keys.items ++ keys_in l.prefix l.key-iterator ≡ keys_in l.prefix l.slots.entries; rises : Rises l.prefix l.key-iterator }
