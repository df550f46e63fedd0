-- What bytes that spell an access key are.
use Rattle.std.proofs.Common.{◌≡◌, ℕ, List, Option, Some, None, Result, Ok, Err, refl, ap}
use Rattle.std.specs.Prelude.{IsSome, unwrap_or}
use Rattle.nr_bytes.specs.Numbers.{IsBytes}
use Rattle.nr_bytes.proofs.Whole.{whole_taken, whole_again}
use Rattle.nr_records.specs.AccessKeys.{access_key_at, access_key_bytes, IsAccessKey}
use Rattle.nr_records.specs.AccessKeyLaws.{access_key_law}
use Rattle.nr_records.specs.Fault.{record_fault}
use Rattle.nr_records.specs.Reading.{all_of}
use Rattle.nr_records.specs.declared.access_key.AccessKey.{AccessKey}
use Rattle.nr_records.specs.declared.fault.RecordFault.{RecordFault}
use Rattle.nr_columns.specs.SpelledKeys.{key_read, key_in, SpellsKey}
use Rattle.nr_columns.specs.Tables.{read_of}

pub read_ok : {X : Type 0} (r : Result X RecordFault) (x : X) → read_of r ≡ Some x → r ≡ Ok x
read_ok (Ok y) x e = cc
read_ok (Err f) x e = absurd cc

pub is_read : {X : Type 0} (o : Option X) (x : X) → IsSome o → o ≡ Some (unwrap_or o x)
is_read None x there = absurd cc
is_read (Some y) x there = refl

pub spelled_so : (bytes : List ℕ) (access : AccessKey) → IsBytes bytes → key_read bytes ≡ Some access → IsAccessKey access × (bytes ≡ access_key_bytes access)
spelled_so bytes access fits e =
    whole_taken record_fault access_key_at access_key_bytes IsAccessKey access_key_law bytes access fits (read_ok (all_of access_key_at bytes) access e)

pub read_again : (access : AccessKey) → IsAccessKey access → key_read (access_key_bytes access) ≡ Some access
read_again access fits = ap read_of (whole_again record_fault access_key_at access_key_bytes IsAccessKey access_key_law access fits)

pub is_spelled : (bytes : List ℕ) → IsSome (key_read bytes) → key_read bytes ≡ Some (key_in bytes)
is_spelled bytes there = is_read (key_read bytes) _ there

pub spelled_bytes : (bytes : List ℕ) → SpellsKey bytes → bytes ≡ access_key_bytes (key_in bytes)
spelled_bytes bytes is = (spelled_so bytes (key_in bytes) is.0 is.1).1

pub spelled_fits : (bytes : List ℕ) → SpellsKey bytes → IsAccessKey (key_in bytes)
spelled_fits bytes is = (spelled_so bytes (key_in bytes) is.0 is.1).0

-- what was read whole
pub read_so : (bytes : List ℕ) (access : AccessKey) → all_of access_key_at bytes ≡ Ok access → key_read bytes ≡ Some access
read_so bytes access e = ap read_of e
