-- A signer whose account was written stands, and a key that was used costs what it did.
use Rattle.std.proofs.Common.{◌≡◌, ℕ, suc, ◌-◌, cond, List, ◌++◌, length, Option, Some, None, refl, sym, ap, ◌∙◌}
use Rattle.std.specs.Prelude.{IsSome, is_some, option_map}
use Rattle.std.specs.FinMap.{get, get-insert}
use Rattle.std.specs.Cmp.{eq_by_cmp_equiv}
use Rattle.std.specs.Cmp.Lexicographic.{nat_list_cmp_total}
use Rattle.nr_bytes.specs.Numbers.{little}
use Rattle.nr_bytes.specs.Spelling.{list}
use Rattle.nr_bytes.specs.Writing.{counted_bytes}
use Rattle.nr_config.specs.Config.{Config}
use Rattle.nr_ids.specs.declared.key.PublicKey.{PublicKey}
use Rattle.nr_records.specs.AccessKeys.{permission_bytes}
use Rattle.nr_records.specs.Options.{option_bytes}
use Rattle.nr_records.specs.declared.access_key.AccessKey.{AccessKey}
use Rattle.nr_records.specs.declared.access_key.Permission.{Permission}
use Rattle.nr_records.specs.declared.access_key.Permission.TheVariants.{Call, Full}
use Rattle.nr_records.specs.declared.account.Account.{Account}
use Rattle.nr_state.specs.Changes.{or_none, usage_of_key}
use Rattle.nr_state.specs.Usage.{key_usage}
use Rattle.nr_state.specs.World.{World, with_account}
use Rattle.nr_txconvert.specs.Conversion.{lowered}
use Rattle.nr_state.proofs.KeyCosts.{same_length, by_permission, nonce_free}

pub is_written : (w : World) (id : List ℕ) (account : Account) → get (with_account w id account).accounts id ≡ Some account
is_written w id account =
    get-insert nat_list_cmp_total w.accounts id account id ∙ ap (λ b. cond b (Some account) (get w.accounts id)) ((eq_by_cmp_equiv nat_list_cmp_total).refl id)

pub stands_with_account : (w : World) (id : List ℕ) (account : Account) → IsSome (get (with_account w id account).accounts id)
stands_with_account w id account = ap is_some (is_written w id account)

-- ---- an allowance takes as many bytes whatever it is
by_option : (f : ℕ → ℕ) (o : Option ℕ) (rest : List ℕ) → length (option_bytes (little 16) (option_map f o) ++ rest) ≡ length (option_bytes (little 16) o ++ rest)
by_option f None rest = refl
by_option f (Some most) rest = ap suc (same_length 16 (f most) most rest)

by_cost : (cost : ℕ) (p : Permission) → length (permission_bytes (lowered cost p)) ≡ length (permission_bytes p)
by_cost cost (Call call) =
    ap suc (by_option (λ allowance. allowance - cost) call.allowance (counted_bytes call.receiver ++ list counted_bytes call.methods))
by_cost cost Full = refl

alike : (c : Config) (key : PublicKey) (access : AccessKey) (nonce cost : ℕ) → key_usage c key (record { nonce = nonce; permission = lowered cost access.permission }) ≡ key_usage c key access
alike c key access nonce cost =
    by_permission c key nonce (lowered cost access.permission) access.permission (by_cost cost access.permission) ∙ nonce_free c key access nonce

pub costs_alike : (c : Config) (w : World) (id : List ℕ) (key : PublicKey) (access used : AccessKey) (nonce cost : ℕ) → get w.keys (id, key) ≡ Some access
    → used ≡ record { nonce = nonce; permission = lowered cost access.permission } → usage_of_key c w id key ≡ key_usage c key used
costs_alike c w id key access used nonce cost is so =
    ap (λ (o : Option AccessKey). or_none (option_map (key_usage c key) o)) is
    ∙ sym (ap (key_usage c key) so ∙ alike c key access nonce cost)
