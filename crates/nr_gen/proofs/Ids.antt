-- The names of a generated chain are account ids.
use Rattle.std.proofs.Common.{◌≡◌, ℕ, ◌<◌, true, refl}
use Rattle.nr_ids.specs.Grammar.{id_fault, first_below}
use Rattle.nr_records.specs.Ids.{IsId}
use Rattle.nr_gen.proofs.Below.{passes_at, passes_below}
use Rattle.nr_gen.proofs.Layouts.{is_none, no_fault}
use Rattle.nr_gen.specs.Names.{contract_id, user_id}

users_pass : passes_below (λ s. passes_below (λ k. no_fault (id_fault (user_id s k))) 8) 16 ≡ true
unfolding id_fault first_below
users_pass = refl

contracts_pass : passes_below (λ s. no_fault (id_fault (contract_id s))) 16 ≡ true
unfolding id_fault first_below
contracts_pass = refl

pub user_is_id : (s k : ℕ) → s < 16 → k < 8 → IsId (user_id s k)
user_is_id s k low small =
    let shard = passes_at (λ s. passes_below (λ k. no_fault (id_fault (user_id s k))) 8) 16 s users_pass low in
    is_none (id_fault (user_id s k)) (passes_at (λ k. no_fault (id_fault (user_id s k))) 8 k shard small)

pub contract_is_id : (s : ℕ) → s < 16 → IsId (contract_id s)
contract_is_id s low = is_none (id_fault (contract_id s)) (passes_at (λ s. no_fault (id_fault (contract_id s))) 16 s contracts_pass low)
