-- What holds at the loops of `account_id::bad_separator`.
use Rattle.std.proofs.Common.{◌≡◌, None}
use Rattle.nr_ids.specs.Grammar.{first_below, is_bad_separator}
use Rattle.nr_ids.proofs.account_id.bad_separator.Given as goal

abbrev pub invariant-loop-at : goal.invariant-loop-at
invariant-loop-at l = first_below (is_bad_separator l.bytes) l.at ≡ None
