-- The law of accounts.
use Rattle.std.proofs.Common.{refl}
use Rattle.nr_records.specs.declared.account.Account.{Account}
use Rattle.nr_bytes.specs.Spelling.{IsRead}
use Rattle.nr_bytes.proofs.Fields.{nat_law}
use Rattle.nr_bytes.proofs.Values.{pair_law, mapped_law}
use Rattle.nr_records.specs.Fault.{record_fault}
use Rattle.nr_records.specs.IdLaws.{hash_law}
use Rattle.nr_records.specs.Accounts.{account_bytes, IsAccount, Fields, account_of, account_at}

abbrev fields_of : Account → Fields
fields_of a = (a.amount, (a.locked, (a.code_hash, a.storage_usage)))

pub account_law : IsRead account_at account_bytes IsAccount
unfolding account_at
account_law = mapped_law account_of fields_of (λ _. refl) (λ _. refl) _ _ _
    (pair_law _ _ _ _ _ _ (nat_law record_fault 16)
    (pair_law _ _ _ _ _ _ (nat_law record_fault 16) (pair_law _ _ _ _ _ _ hash_law (nat_law record_fault 8))))
