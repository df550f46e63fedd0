-- A failed action burns no more gas than is attached to it.
use Rattle.std.proofs.Common.{◌≡◌, ℕ, ◌≤◌, Bool, true, false, cond, List, [], ◌∷◌, Option, Some, None, refl, ap, arith}
use Rattle.std.specs.Prelude.{not, is_some}
use Rattle.std.specs.FinMap.{get}
use Rattle.nr_actions.specs.Accounts.{new_account, with_deposit, with_implicit}
use Rattle.nr_actions.specs.Actions.{Acted, Acts, Fails, fails, unless, on_account, ended, on_code, given, makes_account, act, is_other, creation_failures, deletion_failures, after_deletion}
use Rattle.nr_actions.specs.Calling.{context_of}
use Rattle.nr_actions.specs.declared.failure.Failure.{Failure}
use Rattle.nr_actions.specs.declared.failure.Failure.TheVariants.{NoAccount, NoPermission, KeyExists, NoSuchKey}
use Rattle.nr_actions.specs.declared.frame.Frame.{Frame}
use Rattle.nr_actions.proofs.Standing.{stands_with_account}
use Rattle.nr_config.specs.Config.{Config}
use Rattle.nr_fees.specs.Fees.{attached}
use Rattle.nr_records.specs.declared.account.Account.{Account}
use Rattle.nr_records.specs.declared.action.Action.{Action}
use Rattle.nr_records.specs.declared.action.Action.TheVariants.{CreateAccount, DeployContract, FunctionCall, Transfer, AddKey, DeleteKey, DeleteAccount}
use Rattle.nr_state.specs.Calls.{Called, Ended, Stopped, CanCall, IsCaller}
use Rattle.nr_state.specs.Changes.{set_key, removed_key, set_code, without_account}
use Rattle.nr_state.specs.World.{World, with_account}
use Rattle.nr_state.specs.declared.calls.CallContext.{CallContext}

-- ---- the gas of a failure
abbrev burnt_of : Acted → ℕ
burnt_of (Acts after frame) = 0
burnt_of (Fails kind part burnt) = burnt

unless_burns : (tests : List (Bool × Failure)) (w : World) (f : Frame) → burnt_of (unless tests (Acts w f)) ≡ 0
unless_burns [] w f = refl
unless_burns (t ∷ ts) w f = by t.0 (unless_burns ts w f)
  where
    by : (b : Bool) → burnt_of (unless ts (Acts w f)) ≡ 0 → burnt_of (cond b (fails t.1) (unless ts (Acts w f))) ≡ 0
    by true e = refl
    by false e = e

-- a call of an account that stands and has code
pub can_call : (w : World) (x : CallContext) (account : Account) (code : List ℕ) → get w.code x.current ≡ Some code → CanCall (with_account w x.current account) x
can_call w x account code e = record { stands = stands_with_account w x.current account; code = ap is_some e }

on_burns : (o : Option Account) (g : Account → Acted) (n : ℕ) → ((account : Account) → burnt_of (g account) ≤ n) → burnt_of (on_account o g) ≤ n
on_burns None g n each = omega arith
on_burns (Some account) g n each = each account

module _ (c : Config) (call : World → CallContext → Called) (caller : IsCaller c call) (w : World) (f : Frame) (last : Bool) where
  ended_burns : (v : World) (x : CallContext) → CanCall v x → (called : Called) → call v x ≡ called → burnt_of (ended f last called) ≤ x.gas
  ended_burns v x can (Ended end after) e = omega arith
  ended_burns v x can (Stopped kind part burnt) e = caller.stopped v x kind part burnt can e

  code_burns : (method args : List ℕ) (gas deposit : ℕ) (account : Account) (o : Option (List ℕ)) → get w.code f.receiver ≡ o
      → burnt_of (on_code o (ended f last (call (with_account w f.receiver (with_deposit account deposit)) (context_of f last method args gas deposit)))) ≤ gas
  code_burns method args gas deposit account None is = omega arith
  code_burns method args gas deposit account (Some code) is =
      let x : CallContext = context_of f last method args gas deposit in
      let v : World = with_account w f.receiver (with_deposit account deposit) in
      ended_burns v x (can_call w x (with_deposit account deposit) code is) (call v x) refl

  given_burns : (deposit n : ℕ) (o : Option Account) → burnt_of (given c w f deposit o) ≤ n
  given_burns deposit n None = by (makes_account f)
    where
      by : (b : Bool) → burnt_of (cond b (Acts (with_implicit c w f.receiver deposit) f) (fails NoAccount)) ≤ n
      by true = omega arith
      by false = omega arith
  given_burns deposit n (Some account) = omega arith

  burns : (a : Action) → burnt_of (act c call w f last a) ≤ attached a
  unfolding act
  burns CreateAccount = omega (arith, unless_burns (creation_failures c w f) (with_account w f.receiver (new_account c 0)) (record f { actor = f.receiver }))
  burns (DeployContract code) = on_burns (get w.accounts f.receiver) _ 0 (λ account. omega (arith, unless_burns ((is_other f, NoPermission) ∷ []) (set_code w f.receiver code) f))
  burns (FunctionCall method args gas deposit) = on_burns (get w.accounts f.receiver) _ gas (λ account. code_burns method args gas deposit account (get w.code f.receiver) refl)
  burns (Transfer deposit) = given_burns deposit 0 (get w.accounts f.receiver)
  burns (AddKey key access) =
      on_burns (get w.accounts f.receiver) _ 0 (λ account. omega (arith, unless_burns ((is_other f, NoPermission) ∷ (is_some (get w.keys (f.receiver, key)), KeyExists) ∷ []) (set_key c w f.receiver key access) f))
  burns (DeleteKey key) =
      on_burns (get w.accounts f.receiver) _ 0 (λ account. omega (arith, unless_burns ((is_other f, NoPermission) ∷ (not (is_some (get w.keys (f.receiver, key))), NoSuchKey) ∷ []) (removed_key c w f.receiver key) f))
  burns (DeleteAccount beneficiary) = on_burns (get w.accounts f.receiver) _ 0 (λ account. omega (arith, unless_burns (deletion_failures c w f account) (without_account w f.receiver) (after_deletion f beneficiary account)))

  pub failure_burns : (a : Action) (kind part burnt : ℕ) → act c call w f last a ≡ Fails kind part burnt → burnt ≤ attached a
  failure_burns a kind part burnt e = omega (arith, burns a, ap burnt_of e)
