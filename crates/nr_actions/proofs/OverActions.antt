-- Actions in a world that is put together from two.
use Rattle.std.proofs.Common.{◌≡◌, ℕ, ◌==◌, Bool, true, false, cond, List, [], ◌∷◌, Option, Some, None, refl, ap}
use Rattle.std.proofs.Common.{◌∙◌}
use Rattle.std.specs.Prelude.{not, is_some, nat_lt, ◌-◌}
use Rattle.std.specs.FinMap.{get}
use Rattle.nr_actions.specs.Accounts.{new_account, with_deposit, with_implicit, implicit_key, full_key, raised}
use Rattle.nr_actions.specs.Accounts.{with_raised}
use Rattle.nr_actions.specs.Actions.{Acted, Acts, Fails, fails, unless, on_account, is_other, is_reserved, is_no_child}
use Rattle.nr_actions.specs.Actions.{creation_failures, created, deployed, ended, on_code, called, makes_account}
use Rattle.nr_actions.specs.Actions.{is_refund, refunded, given, transferred, key_added, key_deleted, with_refund}
use Rattle.nr_actions.specs.Actions.{deletion_failures, after_deletion, deleted, act}
use Rattle.nr_actions.specs.Calling.{context_of}
use Rattle.nr_actions.specs.declared.failure.Failure.{Failure}
use Rattle.nr_actions.specs.declared.failure.Failure.TheVariants.{AccountExists, NoAccount, OnlyRegistrar, NotParent}
use Rattle.nr_actions.specs.declared.failure.Failure.TheVariants.{NoPermission, NoSuchKey, KeyExists, Locked}
use Rattle.nr_actions.specs.declared.failure.Failure.TheVariants.{LargeState, OnlyImplicit}
use Rattle.nr_actions.specs.declared.frame.Frame.{Frame}
use Rattle.nr_config.specs.Config.{Config, delete_state_limit}
use Rattle.nr_ids.specs.Grammar.{is_implicit}
use Rattle.nr_ids.specs.declared.key.PublicKey.{PublicKey}
use Rattle.nr_records.specs.declared.access_key.AccessKey.{AccessKey}
use Rattle.nr_records.specs.declared.account.Account.{Account}
use Rattle.nr_records.specs.declared.action.Action.{Action}
use Rattle.nr_records.specs.declared.action.Action.TheVariants.{CreateAccount, DeployContract, FunctionCall, Transfer}
use Rattle.nr_records.specs.declared.action.Action.TheVariants.{AddKey, DeleteKey, DeleteAccount}
use Rattle.nr_state.specs.Calls.{Called, Ended, Stopped}
use Rattle.nr_state.specs.Changes.{set_key, removed_key, set_code, without_account}
use Rattle.nr_state.specs.World.{World, with_account}
use Rattle.nr_state.specs.declared.calls.CallContext.{CallContext}
use Rattle.nr_state.specs.Local.{IsLocal}
use Rattle.nr_state.proofs.OverCalls.{called_over}
use Rattle.nr_state.proofs.OverWorlds.{seen, key_seen, code_seen, usage_of_code_seen, account_written, key_set}
use Rattle.nr_state.proofs.OverWorlds.{key_removed, code_set, account_removed}
use Rattle.nr_state.specs.Scopes.{Scope, over, over_called}

abbrev pub over_acted : Scope → World → Acted → Acted
over_acted p v (Acts after frame) = Acts (over p after v) frame
over_acted p v (Fails kind part burnt) = Fails kind part burnt

module _ (p : Scope) (v : World) where
  unless_over : (ts : List (Bool × Failure)) (a : Acted) → unless ts (over_acted p v a) ≡ over_acted p v (unless ts a)
  unless_over [] a = refl
  unless_over (t ∷ ts) a =
      elim t.0 as (λ b. cond b (fails t.1) (unless ts (over_acted p v a))
      ≡ over_acted p v (cond b (fails t.1) (unless ts a)))
      [ true ↦ refl | false ↦ unless_over ts a ]

  on_account_over : (o : Option Account) (f g : Account → Acted)
      → ((account : Account) → f account ≡ over_acted p v (g account))
      → on_account o f ≡ over_acted p v (on_account o g)
  on_account_over None f g h = refl
  on_account_over (Some account) f g h = h account

module _ (p : Scope) (v : World) (c : Config) (f : Frame) (own : p.own f.receiver ≡ true) (keys : p.keys f.receiver
    ≡ true) where
  at_receiver : (w : World) (d e : Account → Acted) → ((account : Account) → d account ≡ over_acted p v (e account))
      → on_account (get (over p w v).accounts f.receiver) d ≡ over_acted p v (on_account (get w.accounts f.receiver) e)
  at_receiver w d e h =
      ap (λ o. on_account o d) (seen p v w f.receiver own) ∙ on_account_over p v (get w.accounts f.receiver) d e h

  created_over : (w : World) → created c (over p w v) f ≡ over_acted p v (created c w f)
  created_over w =
      let made : Account = new_account c 0 in
      let g : Frame = record f { actor = f.receiver } in
      (λ i. unless ((is_some (seen p v w f.receiver own i), AccountExists) ∷ (is_implicit f.receiver, OnlyImplicit)
      ∷ (is_reserved c f, OnlyRegistrar) ∷ (is_no_child f, NotParent) ∷ [])
      (Acts (account_written p v w f.receiver made own i) g))
      ∙ unless_over p v (creation_failures c w f) (Acts (with_account w f.receiver made) g)

  deployed_over : (w : World) (code : List ℕ) → deployed (over p w v) f code ≡ over_acted p v (deployed w f code)
  deployed_over w code =
      at_receiver w _ _ (λ account.
      ap (λ u. unless ((is_other f, NoPermission) ∷ []) (Acts u f)) (code_set p v w f.receiver code own)
      ∙ unless_over p v ((is_other f, NoPermission) ∷ []) _)

  ended_over : (last : Bool) (came : Called) → ended f last (over_called p v came) ≡ over_acted p v (ended f last came)
  ended_over last (Ended end after) = refl
  ended_over last (Stopped kind part burnt) = refl

  on_code_over : (o : Option (List ℕ)) (a : Acted) → on_code o (over_acted p v a) ≡ over_acted p v (on_code o a)
  on_code_over None a = refl
  on_code_over (Some code) a = refl

  called_over_both : (call : World → CallContext → Called) → IsLocal call → (w : World) (last : Bool) (x : CallContext)
      → x.current ≡ f.receiver → called call (over p w v) f last x ≡ over_acted p v (called call w f last x)
  called_over_both call local w last x is =
      let current : p.own x.current ≡ true = ap p.own is ∙ own in
      at_receiver w _ _ (λ account.
      let paid : Account = with_deposit account x.deposit in
      (λ i. on_code (code_seen p v w f.receiver own i)
      (ended f last (call (account_written p v w f.receiver paid own i) x)))
      ∙ ap (λ came. on_code (get w.code f.receiver) (ended f last came))
      (called_over call local p (with_account w f.receiver paid) v x current)
      ∙ ap (on_code (get w.code f.receiver)) (ended_over last (call (with_account w f.receiver paid) x))
      ∙ on_code_over (get w.code f.receiver) (ended f last (call (with_account w f.receiver paid) x)))

  implicit_over : (w : World) (amount : ℕ)
      → with_implicit c (over p w v) f.receiver amount ≡ over p (with_implicit c w f.receiver amount) v
  implicit_over w amount =
      ap (λ u. set_key c u f.receiver (implicit_key f.receiver) full_key)
      (account_written p v w f.receiver (new_account c amount) own)
      ∙ key_set p v c (with_account w f.receiver (new_account c amount)) f.receiver (implicit_key f.receiver) full_key
      own keys

  raised_over : (w : World) (key : PublicKey) (amount : ℕ) (o : Option AccessKey)
      → with_raised c (over p w v) f.receiver key amount o ≡ over p (with_raised c w f.receiver key amount o) v
  raised_over w key amount None = refl
  raised_over w key amount (Some access) =
      key_set p v c w f.receiver key (record access { permission = raised amount access.permission }) own keys

  refunded_over : (w : World) (deposit : ℕ) → refunded c (over p w v) f deposit ≡ over p (refunded c w f deposit) v
  refunded_over w deposit =
      elim (is_refund f)
      as (λ b. cond b (with_raised c (over p w v) f.receiver f.act.signer_key deposit
      (get (over p w v).keys (f.receiver, f.act.signer_key))) (over p w v)
      ≡ over p (cond b (with_raised c w f.receiver f.act.signer_key deposit
      (get w.keys (f.receiver, f.act.signer_key))) w) v) [
        | true ↦ ap (with_raised c (over p w v) f.receiver f.act.signer_key deposit)
            (key_seen p v w f.receiver f.act.signer_key keys)
            ∙ raised_over w f.act.signer_key deposit (get w.keys (f.receiver, f.act.signer_key))
        | false ↦ refl
      ]

  given_over : (w : World) (deposit : ℕ) (o : Option Account) → given c (over p w v) f deposit o
      ≡ over_acted p v (given c w f deposit o)
  given_over w deposit None =
      elim (makes_account f)
      as (λ b. cond b (Acts (with_implicit c (over p w v) f.receiver deposit) f) (fails NoAccount)
      ≡ over_acted p v (cond b (Acts (with_implicit c w f.receiver deposit) f) (fails NoAccount))) [
        | true ↦ ap (λ u. Acts u f) (implicit_over w deposit)
        | false ↦ refl
      ]
  given_over w deposit (Some account) =
      ap (λ u. Acts u f)
      (ap (λ u. refunded c u f deposit) (account_written p v w f.receiver (with_deposit account deposit) own)
      ∙ refunded_over (with_account w f.receiver (with_deposit account deposit)) deposit)

  transferred_over : (w : World) (deposit : ℕ) → transferred c (over p w v) f deposit
      ≡ over_acted p v (transferred c w f deposit)
  transferred_over w deposit =
      ap (given c (over p w v) f deposit) (seen p v w f.receiver own) ∙ given_over w deposit (get w.accounts f.receiver)

  key_added_over : (w : World) (key : PublicKey) (access : AccessKey)
      → key_added c (over p w v) f key access ≡ over_acted p v (key_added c w f key access)
  key_added_over w key access =
      at_receiver w _ _ (λ account.
      (λ i. unless ((is_other f, NoPermission) ∷ (is_some (key_seen p v w f.receiver key keys i), KeyExists) ∷ [])
      (Acts (key_set p v c w f.receiver key access own keys i) f))
      ∙ unless_over p v ((is_other f, NoPermission) ∷ (is_some (get w.keys (f.receiver, key)), KeyExists) ∷ []) _)

  key_deleted_over : (w : World) (key : PublicKey) → key_deleted c (over p w v) f key
      ≡ over_acted p v (key_deleted c w f key)
  key_deleted_over w key =
      at_receiver w _ _ (λ account.
      (λ i. unless ((is_other f, NoPermission) ∷ (not (is_some (key_seen p v w f.receiver key keys i)), NoSuchKey) ∷ [])
      (Acts (key_removed p v c w f.receiver key own keys i) f))
      ∙ unless_over p v ((is_other f, NoPermission) ∷ (not (is_some (get w.keys (f.receiver, key))), NoSuchKey) ∷ []) _)

  deleted_over : (w : World) (beneficiary : List ℕ) → deleted c (over p w v) f beneficiary
      ≡ over_acted p v (deleted c w f beneficiary)
  deleted_over w beneficiary =
      at_receiver w _ _ (λ account.
      (λ i. unless ((is_other f, NoPermission) ∷ (not (account.locked == 0), Locked)
      ∷ (
        nat_lt (delete_state_limit c) (account.storage_usage - usage_of_code_seen p v w f.receiver own i),
        LargeState,
      ) ∷ [])
      (Acts (account_removed p v w f.receiver own keys i) (after_deletion f beneficiary account)))
      ∙ unless_over p v (deletion_failures c w f account) _)

  -- an action looks at the receiver alone
  pub act_over : (call : World → CallContext → Called) → IsLocal call → (w : World) (last : Bool) (a : Action)
      → act c call (over p w v) f last a ≡ over_acted p v (act c call w f last a)
  unfolding act
  act_over call local w last CreateAccount = created_over w
  act_over call local w last (DeployContract code) = deployed_over w code
  act_over call local w last (FunctionCall method args gas deposit) =
      called_over_both call local w last (context_of f last method args gas deposit) refl
  act_over call local w last (Transfer deposit) = transferred_over w deposit
  act_over call local w last (AddKey key access) = key_added_over w key access
  act_over call local w last (DeleteKey key) = key_deleted_over w key
  act_over call local w last (DeleteAccount beneficiary) = deleted_over w beneficiary

-- ---- the receiver of the frame stays
abbrev pub KeepsReceiver : Frame → Acted → Type 0
KeepsReceiver f (Acts after g) = g.receiver ≡ f.receiver
KeepsReceiver f (Fails kind part burnt) = Unit {0}

module _ (f : Frame) where
  done : (ts : List (Bool × Failure)) (after : World) (g : Frame) → g.receiver ≡ f.receiver
      → KeepsReceiver f (unless ts (Acts after g))
  done [] after g h = h
  done (t ∷ ts) after g h =
      elim t.0 as (λ b. KeepsReceiver f (cond b (fails t.1) (unless ts (Acts after g))))
      [ true ↦ tt | false ↦ done ts after g h ]

  on_account_keeps : (o : Option Account) (a : Account → Acted) → ((account : Account) → KeepsReceiver f (a account))
      → KeepsReceiver f (on_account o a)
  on_account_keeps None a h = tt
  on_account_keeps (Some account) a h = h account

  called_keeps : (last : Bool) (o : Option (List ℕ)) (came : Called) → KeepsReceiver f (on_code o (ended f last came))
  called_keeps last None came = tt
  called_keeps last (Some code) (Ended end after) = refl
  called_keeps last (Some code) (Stopped kind part burnt) = tt

  given_keeps : (c : Config) (w : World) (deposit : ℕ) (o : Option Account) → KeepsReceiver f (given c w f deposit o)
  given_keeps c w deposit None =
      elim (makes_account f)
      as (λ b. KeepsReceiver f (cond b (Acts (with_implicit c w f.receiver deposit) f) (fails NoAccount)))
      [ true ↦ refl | false ↦ tt ]
  given_keeps c w deposit (Some account) = refl

  pub refund_receiver : (receiver : List ℕ) (amount : ℕ) → (with_refund f receiver amount).receiver ≡ f.receiver
  refund_receiver receiver amount = by (amount == 0) _ refl
    where
      by : (b : Bool) (g : Frame) → g.receiver ≡ f.receiver → (cond b f g).receiver ≡ f.receiver
      by true g h = refl
      by false g h = h

  pub act_keeps : (c : Config) (call : World → CallContext → Called) (w : World) (last : Bool) (a : Action)
      → KeepsReceiver f (act c call w f last a)
  unfolding act
  act_keeps c call w last CreateAccount =
      done (creation_failures c w f) (with_account w f.receiver (new_account c 0)) (record f { actor = f.receiver })
      refl
  act_keeps c call w last (DeployContract code) =
      on_account_keeps (get w.accounts f.receiver) _ (λ account.
      done ((is_other f, NoPermission) ∷ []) (set_code w f.receiver code) f refl)
  act_keeps c call w last (FunctionCall method args gas deposit) =
      on_account_keeps (get w.accounts f.receiver) _ (λ account. called_keeps last (get w.code f.receiver) _)
  act_keeps c call w last (Transfer deposit) = given_keeps c w deposit (get w.accounts f.receiver)
  act_keeps c call w last (AddKey key access) =
      on_account_keeps (get w.accounts f.receiver) _ (λ account.
      done ((is_other f, NoPermission) ∷ (is_some (get w.keys (f.receiver, key)), KeyExists) ∷ [])
      (set_key c w f.receiver key access) f refl)
  act_keeps c call w last (DeleteKey key) =
      on_account_keeps (get w.accounts f.receiver) _ (λ account.
      done ((is_other f, NoPermission) ∷ (not (is_some (get w.keys (f.receiver, key))), NoSuchKey) ∷ [])
      (removed_key c w f.receiver key) f refl)
  act_keeps c call w last (DeleteAccount beneficiary) =
      on_account_keeps (get w.accounts f.receiver) _ (λ account.
      done (deletion_failures c w f account) (without_account w f.receiver) (after_deletion f beneficiary account)
      (refund_receiver beneficiary account.amount))
