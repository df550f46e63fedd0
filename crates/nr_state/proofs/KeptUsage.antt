-- A key that costs its owner what the one in its place did leaves the owner as it is.
use Rattle.std.proofs.Common.{◌≡◌, ◌+◌, ◌-◌, ◌≤◌, List, ℕ, Some, ap, ◌∙◌, arith}
use Rattle.std.specs.FinMap.{get, insert}
use Rattle.std.specs.Cmp.Lexicographic.{nat_list_cmp_total}
use Rattle.std.proofs.lemmas.Map.Lookups.{exact_bytes}
use Rattle.nr_config.specs.Config.{Config}
use Rattle.nr_ids.specs.declared.key.PublicKey.{PublicKey}
use Rattle.nr_records.specs.declared.access_key.AccessKey.{AccessKey}
use Rattle.nr_records.specs.declared.account.Account.{Account}
use Rattle.nr_state.specs.Changes.{with_moved, usage_of_key, set_key}
use Rattle.nr_state.specs.Usage.{key_usage}
use Rattle.nr_state.specs.World.{World, with_account, with_key}
use Rattle.nr_state.proofs.ValidSums.{insert_same}

pub usage_kept : (c : Config) (w : World) (id : List ℕ) (key : PublicKey) (access : AccessKey) (owner : Account) → get w.accounts id ≡ Some owner → usage_of_key c w id key ≡ key_usage c key access
    → key_usage c key access ≤ owner.storage_usage → set_key c w id key access ≡ with_key w id key access
usage_kept c w id key access owner is same within =
    let usage : owner.storage_usage - usage_of_key c w id key + key_usage c key access ≡ owner.storage_usage = omega (arith, same, within) in
    ap (with_moved (with_key w id key access) id (usage_of_key c w id key) (key_usage c key access)) is
    ∙ (λ i. with_account (with_key w id key access) id (record owner { storage_usage = usage i }))
    ∙ (λ i. record w { accounts = insert_same nat_list_cmp_total exact_bytes w.accounts id owner is i; keys = insert w.keys (id, key) access })
