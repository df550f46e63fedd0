-- The gas attached to the actions of the receipts made fits in 64 bits.
use Rattle.std.proofs.Common.{◌≡◌, ℕ, ◌+◌, ◌^◌, ◌<◌, Bool, true, false, cond, List, [], ◌∷◌, ◌++◌, Option, Some, None, refl, sym, subst, ◌∙◌, arith}
use Rattle.std.specs.Prelude.{◌==◌, is_some, not}
use Rattle.std.specs.FinMap.{get}
use Rattle.std.specs.List.{AllByRecursion}
use Rattle.std.proofs.lemmas.List.{append-nil}
use Rattle.std.proofs.lemmas.List.Sums.{sum_by-cons}
use Rattle.nr_actions.specs.Accounts.{new_account, with_deposit, with_implicit}
use Rattle.nr_actions.specs.Actions.{Acted, Acts, Fails, fails, unless, on_account, ended, on_code, given, makes_account, act, is_other, creation_failures, deletion_failures, after_deletion}
use Rattle.nr_actions.specs.Calling.{context_of}
use Rattle.nr_actions.specs.Refunds.{deposit_refund}
use Rattle.nr_actions.specs.declared.failure.Failure.{Failure}
use Rattle.nr_actions.specs.declared.failure.Failure.TheVariants.{NoAccount, NoPermission, KeyExists, NoSuchKey}
use Rattle.nr_actions.specs.declared.frame.Frame.{Frame}
use Rattle.nr_actions.proofs.Failing.{can_call}
use Rattle.nr_config.specs.Config.{Config}
use Rattle.nr_fees.specs.Fees.{attached, attached_gas, body_gas}
use Rattle.nr_ids.specs.Derive.{derived}
use Rattle.nr_ids.specs.declared.key.Hash32.{Hash32}
use Rattle.nr_receipt.specs.Keeping.{HasSmallCalls}
use Rattle.nr_records.specs.declared.account.Account.{Account}
use Rattle.nr_records.specs.declared.action.Action.{Action}
use Rattle.nr_records.specs.declared.action.Action.TheVariants.{CreateAccount, DeployContract, FunctionCall, Transfer, AddKey, DeleteKey, DeleteAccount}
use Rattle.nr_records.specs.declared.receipt.Body.{Body}
use Rattle.nr_records.specs.declared.receipt.Body.TheVariants.{Act, Datum}
use Rattle.nr_records.specs.declared.receipt.Receipt.{Receipt}
use Rattle.nr_state.specs.Calls.{Called, Ended, Stopped, CanCall, IsCaller, made_gas}
use Rattle.nr_state.specs.Changes.{removed_key, set_code, set_key, without_account}
use Rattle.nr_state.specs.World.{World, with_account}
use Rattle.nr_state.specs.declared.calls.CallContext.{CallContext}

-- ---- of actions whose attached gas is within 64 bits in all
pub small_actions : (actions : List Action) → attached_gas actions < 2 ^ 64 → AllByRecursion (λ a. attached a < 2 ^ 64) actions
small_actions [] h = tt
small_actions (a ∷ rest) h =
    let all : attached_gas (a ∷ rest) ≡ attached a + attached_gas rest = sum_by-cons attached a rest in
    (omega (arith, all, h), small_actions rest (omega (arith, all, h)))

pub small_body : (c : Config) (b : Body) → body_gas c false b < 2 ^ 64 → HasSmallCalls b
small_body c (Act act) h = small_actions act.actions (omega (arith, h))
small_body c (Datum d) h = tt

small_made : (c : Config) (made : List Receipt) → made_gas c made < 2 ^ 64 → AllByRecursion (λ r. HasSmallCalls r.body) made
small_made c [] h = tt
small_made c (r ∷ rest) h =
    let all : made_gas c (r ∷ rest) ≡ body_gas c false r.body + made_gas c rest = sum_by-cons (λ (q : Receipt). body_gas c false q.body) r rest in
    (small_body c r.body (omega (arith, all, h)), small_made c rest (omega (arith, all, h)))

-- ---- an action adds such receipts
pub record AddsSmall (f g : Frame) : Type 0 where
  pub more : List Receipt
  pub all : g.made ≡ f.made ++ more
  pub small : AllByRecursion (λ r. HasSmallCalls r.body) more

abbrev Adds : Frame → Acted → Type 0
Adds f (Acts after g) = AddsSmall f g
Adds f (Fails kind part burnt) = Unit {0}

none_more : (f g : Frame) → g.made ≡ f.made → AddsSmall f g
none_more f g e = record { more = []; all = e ∙ sym (append-nil f.made); small = tt }

unless_adds : (tests : List (Bool × Failure)) (f : Frame) (acted : Acted) → Adds f acted → Adds f (unless tests acted)
unless_adds [] f acted h = h
unless_adds (t ∷ ts) f acted h = by t.0 (unless_adds ts f acted h)
  where
    by : (b : Bool) → Adds f (unless ts acted) → Adds f (cond b (fails t.1) (unless ts acted))
    by true k = tt
    by false k = k

on_adds : (o : Option Account) (f : Frame) (next : Account → Acted) → ((account : Account) → Adds f (next account)) → Adds f (on_account o next)
on_adds None f next each = tt
on_adds (Some account) f next each = each account

deletion_adds : (f : Frame) (beneficiary : List ℕ) (id : Hash32) (amount : ℕ) (actor : List ℕ) (b : Bool)
    → AddsSmall f (record (cond b f (record f { made = f.made ++ deposit_refund beneficiary id amount ∷ []; next_ordinal = f.next_ordinal + 1 })) { actor = actor })
deletion_adds f beneficiary id amount actor true = none_more f (record f { actor = actor }) refl
deletion_adds f beneficiary id amount actor false = record { more = deposit_refund beneficiary id amount ∷ []; all = refl; small = ((omega arith, tt), tt) }

module _ (c : Config) (call : World → CallContext → Called) (caller : IsCaller c call) (w : World) (f : Frame) (last : Bool) where
  ended_adds : (v : World) (x : CallContext) → CanCall v x → x.gas < 2 ^ 64 → (called : Called) → call v x ≡ called → Adds f (ended f last called)
  ended_adds v x can small (Ended end after) e =
      let h = caller.ended v x end after can e in
      record { more = end.made; all = refl; small = small_made c end.made (omega (arith, small, h.gas, h.promised)) }
  ended_adds v x can small (Stopped kind part burnt) e = tt

  code_adds : (method args : List ℕ) (gas deposit : ℕ) (account : Account) (o : Option (List ℕ)) → get w.code f.receiver ≡ o → gas < 2 ^ 64
      → Adds f (on_code o (ended f last (call (with_account w f.receiver (with_deposit account deposit)) (context_of f last method args gas deposit))))
  code_adds method args gas deposit account None is small = tt
  code_adds method args gas deposit account (Some code) is small =
      let x : CallContext = context_of f last method args gas deposit in
      let v : World = with_account w f.receiver (with_deposit account deposit) in
      ended_adds v x (can_call w x (with_deposit account deposit) code is) small (call v x) refl

  given_adds : (deposit : ℕ) (o : Option Account) → Adds f (given c w f deposit o)
  given_adds deposit None = by (makes_account f)
    where
      by : (b : Bool) → Adds f (cond b (Acts (with_implicit c w f.receiver deposit) f) (fails NoAccount))
      by true = none_more f f refl
      by false = tt
  given_adds deposit (Some account) = none_more f f refl

  adds : (a : Action) → attached a < 2 ^ 64 → Adds f (act c call w f last a)
  unfolding act
  adds CreateAccount h = unless_adds (creation_failures c w f) f (Acts (with_account w f.receiver (new_account c 0)) (record f { actor = f.receiver })) (none_more f (record f { actor = f.receiver }) refl)
  adds (DeployContract code) h = on_adds (get w.accounts f.receiver) f _ (λ account. unless_adds ((is_other f, NoPermission) ∷ []) f (Acts (set_code w f.receiver code) f) (none_more f f refl))
  adds (FunctionCall method args gas deposit) h = on_adds (get w.accounts f.receiver) f _ (λ account. code_adds method args gas deposit account (get w.code f.receiver) refl h)
  adds (Transfer deposit) h = given_adds deposit (get w.accounts f.receiver)
  adds (AddKey key access) h =
      on_adds (get w.accounts f.receiver) f _ (λ account. unless_adds ((is_other f, NoPermission) ∷ (is_some (get w.keys (f.receiver, key)), KeyExists) ∷ []) f (Acts (set_key c w f.receiver key access) f) (none_more f f refl))
  adds (DeleteKey key) h =
      on_adds (get w.accounts f.receiver) f _ (λ account. unless_adds ((is_other f, NoPermission) ∷ (not (is_some (get w.keys (f.receiver, key))), NoSuchKey) ∷ []) f (Acts (removed_key c w f.receiver key) f) (none_more f f refl))
  adds (DeleteAccount beneficiary) h =
      on_adds (get w.accounts f.receiver) f _ (λ account. unless_adds (deletion_failures c w f account) f (Acts (without_account w f.receiver) (after_deletion f beneficiary account))
      (deletion_adds f beneficiary (derived f.receipt_id f.place.height.0 f.next_ordinal) account.amount f.predecessor (account.amount == 0)))

  pub adds_small : (a : Action) (after : World) (g : Frame) → attached a < 2 ^ 64 → act c call w f last a ≡ Acts after g → AddsSmall f g
  adds_small a after g h e = subst (Adds f) e (adds a h)
