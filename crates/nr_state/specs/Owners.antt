-- The owner of a record that is written or taken out. This project's own.
use Rattle.std.specs.Prelude.{◌≡◌, ℕ, List, length, Some, option_map}
use Rattle.std.specs.FinMap.{insert, get}
use Rattle.nr_records.specs.declared.account.Account.{Account}
use Rattle.nr_triedef.specs.Node.{digest}
use Rattle.nr_columns.specs.Columns.{Columns}
use Rattle.nr_state.specs.Changes.{moved, usage_of_code}
use Rattle.nr_state.specs.World.{World}

-- the owner's account once its usage is moved from one count to another
abbrev pub IsMoved : World → List ℕ → ℕ → ℕ → Account → Type 0
IsMoved w id less more after = option_map (moved less more) (get w.accounts id) ≡ Some after

-- the owner's account once its code is written
abbrev pub with_code_of : World → List ℕ → List ℕ → Account → Account
with_code_of w id code owner = record (moved (usage_of_code w id) (length code) owner) { code_hash = digest code }

abbrev pub HasCode : World → List ℕ → List ℕ → Account → Type 0
HasCode w id code after = option_map (with_code_of w id code) (get w.accounts id) ≡ Some after

-- columns with an owner's account written anew
abbrev pub with_owner : Columns → List ℕ → Account → Columns
with_owner k id owner = record k { accounts = insert k.accounts id owner }
