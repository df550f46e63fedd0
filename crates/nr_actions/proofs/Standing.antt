-- An account that was written stands, and what it can hold.
use Rattle.std.proofs.Common.{◌≡◌, ℕ, ◌+◌, ◌^◌, ◌<◌, ◌≤◌, cond, List, Option, Some, None, refl, ap, ◌∙◌, arith}
use Rattle.std.specs.Prelude.{IsSome, IfSome, is_some}
use Rattle.std.specs.FinMap.{get, get-insert}
use Rattle.std.specs.Cmp.{eq_by_cmp_equiv}
use Rattle.std.specs.Cmp.Lexicographic.{nat_list_cmp_total}
use Rattle.nr_records.specs.declared.account.Account.{Account}
use Rattle.nr_config.specs.Config.{Config}
use Rattle.nr_actions.specs.Actions.{HasRoom}
use Rattle.nr_state.specs.Keeping.{MovesTokens}
use Rattle.nr_state.specs.Tokens.{world_tokens}
use Rattle.nr_state.specs.World.{World, with_account}

pub stands_with_account : (w : World) (id : List ℕ) (account : Account) → IsSome (get (with_account w id account).accounts id)
stands_with_account w id account =
    ap is_some (get-insert nat_list_cmp_total w.accounts id account id ∙ ap (λ b. cond b (Some account) (get w.accounts id)) ((eq_by_cmp_equiv nat_list_cmp_total).refl id))

-- an account and a deposit fit in 128 bits where all tokens are within 2^127
pub has_room : (c : Config) → ((w : World) → MovesTokens c w) → (w : World) (id : List ℕ) (deposit : ℕ) → world_tokens c w + deposit ≤ 2 ^ 127 → HasRoom w id deposit
has_room c moves w id deposit within = at (get w.accounts id) refl
  where
    at : (o : Option Account) → get w.accounts id ≡ o → IfSome o (λ account. account.amount + deposit < 2 ^ 128)
    at None is = tt
    at (Some account) is =
        let none : Account = record { amount = 0; locked = 0; code_hash = account.code_hash; storage_usage = 0 } in
        omega (arith, (moves w).account_changed id account none is)

pub room_for : (w : World) (id : List ℕ) (deposit : ℕ) (account : Account) → get w.accounts id ≡ Some account → HasRoom w id deposit → account.amount + deposit < 2 ^ 128
room_for w id deposit account is room = rw is at room
