-- What holds at the loops of `walking::push_signers`.
use Rattle.std.proofs.Common.{◌≡◌, ◌++◌, map, take}
use Rattle.nr_records.specs.declared.transaction.Transaction.{Transaction}
use Rattle.nr_recheck.proofs.walking.push_signers.Given as goal

abbrev pub invariant-loop-tx : goal.invariant-loop-tx
invariant-loop-tx l = l.ids.items ≡ l.initial.ids.items ++ map (λ (tx : Transaction). tx.signer) (take l.tx-index l.txs)
