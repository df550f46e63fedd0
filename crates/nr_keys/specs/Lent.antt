-- Access keys whose methods are lent as they are spelled. This project's own.
use Rattle.std.specs.Prelude.{ℕ, List, Option}
use Rattle.nr_records.specs.AccessKeys.{call_permission_at}
use Rattle.nr_records.specs.Reading.{all_of}
use Rattle.nr_records.specs.declared.access_key.AccessKey.{AccessKey}
use Rattle.nr_records.specs.declared.access_key.CallPermission.{CallPermission}
use Rattle.nr_records.specs.declared.access_key.Permission.{Permission}
use Rattle.nr_records.specs.declared.access_key.Permission.TheVariants as kept
use Rattle.nr_columns.specs.Tables.{read_of}
use Rattle.nr_keys.specs.declared.lent.LentCalls.{LentCalls}
use Rattle.nr_keys.specs.declared.lent.LentKey.{LentKey}
use Rattle.nr_keys.specs.declared.lent.LentPermission.{LentPermission}
use Rattle.nr_keys.specs.declared.lent.LentPermission.TheVariants.{Call, Full}

-- the calls that bytes permit
abbrev pub calls_read : List ℕ → Option CallPermission
calls_read bytes = read_of (all_of call_permission_at bytes)

-- the key that stands in the record with its methods
abbrev pub shown_calls : LentCalls → CallPermission
shown_calls calls = record { allowance = calls.allowance; receiver = calls.receiver; methods = calls.methods }

abbrev pub shown_permission : LentPermission → Permission
shown_permission (Call calls) = kept.Call (shown_calls calls)
shown_permission Full = kept.Full

abbrev pub shown : LentKey → AccessKey
shown key = record { nonce = key.nonce; permission = shown_permission key.permission }
