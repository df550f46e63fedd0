-- The world in which a call begins: its account stands, and has its code.
use Rattle.std.proofs.Common.{◌≡◌, ℕ, List, refl, sym, ap, subst, ◌∙◌}
use Rattle.std.specs.Prelude.{IsSome, is_some, option_map}
use Rattle.std.specs.FinMap.{get, insert}
use Rattle.nr_config.specs.Config.{Config}
use Rattle.nr_records.specs.declared.account.Account.{Account}
use Rattle.nr_state.specs.Calls.{CanCall}
use Rattle.nr_state.specs.Changes.{set_code}
use Rattle.nr_state.specs.Owners.{with_code_of}
use Rattle.nr_state.specs.World.{World, no_world, with_account}
use Rattle.nr_state.specs.declared.calls.CallContext.{CallContext}
use Rattle.nr_state.proofs.CodeWrites.{code_set, get_inserted as inserted}
use Rattle.nr_contract.specs.Contract.{call}
use Rattle.nr_onecall.specs.Setting.{CallRequest, called_of, contract, first_account, first_context, first_world}

pub stands : (w : World) (id : List ℕ) (account : Account) → IsSome (get (with_account w id account).accounts id)
stands w id account = ap is_some (inserted w.accounts id account)

-- an account and its code, one written after the other
pub begins : (c : Config) (code : List ℕ) (deposit : ℕ) (id : List ℕ) (account : Account) (fresh standing world : World) → fresh ≡ no_world → id ≡ contract → account ≡ first_account c deposit → standing ≡ with_account fresh id account
    → world ≡ set_code standing id code → world ≡ first_world c code deposit
unfolding first_world
begins c code deposit id account fresh standing world new named same stood coded = rw (coded, stood, new, named, same) refl

module _ (c : Config) (code : List ℕ) (deposit : ℕ) where
  abbrev before : World
  before = with_account no_world contract (first_account c deposit)

  abbrev account : Account
  account = with_code_of before contract code (first_account c deposit)

  abbrev written : World
  written = with_account (record before { code = insert before.code contract code }) contract account

  first_is : first_world c code deposit ≡ written
  unfolding first_world
  first_is = code_set before contract code account (ap (option_map (with_code_of before contract code)) (inserted no_world.accounts contract (first_account c deposit)))

  pub has_account : IsSome (get (first_world c code deposit).accounts contract)
  has_account =
      subst (λ (w : World). IsSome (get w.accounts contract)) (sym first_is) (stands (record before { code = insert before.code contract code }) contract account)

  pub has_code : IsSome (get (first_world c code deposit).code contract)
  has_code =
      subst (λ (w : World). IsSome (get w.code contract)) (sym first_is) (ap is_some (inserted before.code contract code))

pub can_call : (c : Config) (code : List ℕ) (q : CallRequest) (w : World) (x : CallContext) → w ≡ first_world c code q.deposit
    → x ≡ first_context c q → CanCall w x
can_call c code q w x world context =
    subst (λ (v : World). CanCall v x) (sym world)
    (subst (λ (y : CallContext). CanCall (first_world c code q.deposit) y) (sym context)
    (record { stands = has_account c code q.deposit; code = has_code c code q.deposit }))

-- the call is what is asked for
pub came : (c : Config) (code : List ℕ) (q : CallRequest) (caller : Config) (w : World) (x : CallContext) → caller ≡ c → w ≡ first_world c code q.deposit → x ≡ first_context c q → call caller w x ≡ called_of c code q
came c code q caller w x same world context =
    ap (λ (k : Config). call k w x) same
    ∙ (ap (λ (v : World). call c v x) world ∙ ap (λ (y : CallContext). call c (first_world c code q.deposit) y) context)
