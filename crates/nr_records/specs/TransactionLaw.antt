-- The law of transactions.
use Rattle.std.proofs.Common.{refl}
use Rattle.nr_records.specs.declared.transaction.Transaction.{Transaction}
use Rattle.nr_bytes.specs.Spelling.{IsRead}
use Rattle.nr_bytes.proofs.Fields.{nat_law}
use Rattle.nr_bytes.proofs.Combined.{list_law}
use Rattle.nr_bytes.proofs.Values.{pair_law, mapped_law}
use Rattle.nr_records.specs.Fault.{record_fault}
use Rattle.nr_records.specs.IdLaws.{id_law, hash_law, key_law}
use Rattle.nr_records.specs.ActionLaw.{action_law}
use Rattle.nr_records.specs.Transactions.{transaction_bytes, IsTransaction, Fields, transaction_of, transaction_at}

abbrev fields_of : Transaction → Fields
fields_of t = (t.signer, (t.public_key, (t.nonce, (t.receiver, (t.block_hash, t.actions)))))

pub transaction_law : IsRead transaction_at transaction_bytes IsTransaction
unfolding transaction_at
transaction_law = mapped_law transaction_of fields_of (λ _. refl) (λ _. refl) _ _ _
    (pair_law _ _ _ _ _ _ id_law (pair_law _ _ _ _ _ _ key_law
    (pair_law _ _ _ _ _ _ (nat_law record_fault 8) (pair_law _ _ _ _ _ _ id_law
    (pair_law _ _ _ _ _ _ hash_law (list_law record_fault _ _ _ action_law))))))
