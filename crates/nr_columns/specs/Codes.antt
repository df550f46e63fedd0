-- How what a store of columns shows is stored as a value. This project's own.
use Rattle.std.specs.Prelude.{ℕ, List, Option, refl}
use Rattle.std.specs.FinMap.{FinMap, code}
use Rattle.std.specs.Ordering.{nat_cmp}
use Rattle.std.specs.Coded.{Coded, code_by, coded×, coded_ℕ, coded_list, coded_option}
use Rattle.nr_ids.specs.declared.key.Hash32.{Hash32}
use Rattle.nr_ids.specs.contracts.key.Hash32 as hash
use Rattle.nr_ids.specs.contracts.key.PublicKey as public_key
use Rattle.nr_records.specs.contracts.account.Account as account
use Rattle.nr_records.specs.contracts.access_key.AccessKey as access_key
use Rattle.nr_records.specs.contracts.receipt.Receipt as receipt
use Rattle.nr_records.specs.declared.account.Account.{Account}
use Rattle.nr_records.specs.declared.access_key.AccessKey.{AccessKey}
use Rattle.nr_records.specs.declared.receipt.Receipt.{Receipt}
use Rattle.nr_columns.specs.Columns.{Columns}
use Rattle.nr_columns.specs.Orders.{bytes_cmp, pair_cmp, key_cmp}
use Rattle.nr_columns.specs.View.{ColumnsView}

abbrev text : Coded (List ℕ)
text = coded_list coded_ℕ

abbrev pair : Coded (List ℕ × List ℕ)
pair = coded× text text

abbrev pub First : Type 0
First =
    FinMap bytes_cmp Account × (FinMap key_cmp AccessKey
    × (FinMap bytes_cmp (List ℕ) × (FinMap pair_cmp (List ℕ) × FinMap pair_cmp (Option (List ℕ)))))

abbrev pub first : Coded First
first =
    coded× (code text account.the_row.coded)
    (coded× (code (coded× text public_key.the_row.coded) access_key.the_row.coded)
    (coded× (code text text)
    (coded× (code pair text) (code pair (coded_option text)))))

-- postponed receipts
abbrev pub second_receipts : Coded (FinMap pair_cmp Receipt)
second_receipts = code pair receipt.the_row.coded

abbrev Second : Type 0
Second =
    FinMap pair_cmp Hash32 × (FinMap pair_cmp ℕ
    × (FinMap pair_cmp Receipt × (Option (ℕ × ℕ) × FinMap nat_cmp Receipt)))

abbrev second : Coded Second
second =
    coded× (code pair hash.the_row.coded)
    (coded× (code pair coded_ℕ)
    (coded× second_receipts
    (coded× (coded_option (coded× coded_ℕ coded_ℕ)) (code coded_ℕ receipt.the_row.coded))))

abbrev taken_apart : Columns → First × Second
taken_apart k = (
  (k.accounts, (k.keys, (k.code, (k.data_of, k.received)))),
  (k.awaited, (k.missing, (k.postponed, (k.queue, k.delayed)))),
)

abbrev put_together : First × Second → Columns
put_together p =
    record {
      accounts = p.0.0;
      keys = p.0.1.0;
      code = p.0.1.1.0;
      data_of = p.0.1.1.1.0;
      received = p.0.1.1.1.1;
      awaited = p.1.0;
      missing = p.1.1.0;
      postponed = p.1.1.1.0;
      queue = p.1.1.1.1.0;
      delayed = p.1.1.1.1.1;
    }

abbrev pub columns_code : Coded Columns
columns_code = code_by (First × Second) (coded× first second) taken_apart put_together (λ _. refl)

abbrev pub view_code : Coded ColumnsView
view_code =
    code_by (Columns × (List Columns × ℕ)) (coded× columns_code (coded× (coded_list columns_code) coded_ℕ))
    (λ v. (v.columns, (v.marks, v.spare))) (λ p. record { columns = p.0; marks = p.1.0; spare = p.1.1 }) (λ _. refl)
