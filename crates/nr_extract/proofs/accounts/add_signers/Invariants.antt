-- What holds at the loops of `accounts::add_signers`.
use Rattle.std.proofs.Common.{◌≡◌, ◌++◌, map, take}
use Rattle.nr_records.specs.declared.transaction.Transaction.{Transaction}
use Rattle.nr_extract.proofs.accounts.add_signers.Given as goal

abbrev pub invariant-loop-transaction : goal.invariant-loop-transaction
invariant-loop-transaction l = l.accounts.items ≡ l.initial.accounts.items ++ map (λ (tx : Transaction). tx.signer) (take l.transaction-index l.transactions)
