-- What an action does to the world and to the frame of its receipt. After the Nomicon, Runtime Specification, Actions.
use Rattle.std.specs.Prelude.{◌≡◌, ℕ, ◌+◌, ◌-◌, ◌^◌, ◌<◌, ◌==◌, ◌&&◌, ◌||◌, not, Bool, cond, List, [], ◌∷◌, ◌++◌}
use Rattle.std.specs.Prelude.{length, Option, Some, None, Result, Ok, Err, IfSome, is_some, nat_lt, codes}
use Rattle.std.specs.FinMap.{get}
use Rattle.std.specs.Str.{bytes_eq}
use Rattle.nr_actions.specs.Accounts.{new_account, with_deposit, with_implicit, with_raised}
use Rattle.nr_actions.specs.Calling.{context_of, after_call}
use Rattle.nr_actions.specs.Failures.{number}
use Rattle.nr_actions.specs.Refunds.{deposit_refund}
use Rattle.nr_actions.specs.declared.failure.Failure.{Failure}
use Rattle.nr_actions.specs.declared.failure.Failure.TheVariants.{AccountExists, NoAccount, OnlyRegistrar, NotParent}
use Rattle.nr_actions.specs.declared.failure.Failure.TheVariants.{NoPermission, NoSuchKey, KeyExists, Locked}
use Rattle.nr_actions.specs.declared.failure.Failure.TheVariants.{LargeState, OnlyImplicit, NoCode}
use Rattle.nr_actions.specs.declared.fault.ActionFault.{ActionFault}
use Rattle.nr_actions.specs.declared.fault.ActionFault.TheVariants.{Failed, Memory}
use Rattle.nr_actions.specs.declared.frame.Frame.{Frame}
use Rattle.nr_config.specs.Config.{Config, top_level_min_len, delete_state_limit}
use Rattle.nr_ids.specs.Derive.{derived}
use Rattle.nr_ids.specs.Grammar.{is_implicit, is_sub_of, is_system, is_top}
use Rattle.nr_ids.specs.declared.key.Hash32.{Hash32}
use Rattle.nr_ids.specs.declared.key.PublicKey.{PublicKey}
use Rattle.nr_records.specs.declared.access_key.AccessKey.{AccessKey}
use Rattle.nr_records.specs.declared.account.Account.{Account}
use Rattle.nr_records.specs.declared.action.Action.{Action}
use Rattle.nr_records.specs.declared.action.Action.TheVariants.{CreateAccount, DeployContract, FunctionCall, Transfer}
use Rattle.nr_records.specs.declared.action.Action.TheVariants.{AddKey, DeleteKey, DeleteAccount}
use Rattle.nr_records.specs.declared.receipt.Receipt.{Receipt}
use Rattle.nr_state.specs.Calls.{Called, Ended, Stopped, Stands}
use Rattle.nr_state.specs.Changes.{set_key, removed_key, set_code, usage_of_code, without_account}
use Rattle.nr_state.specs.View.{StateView}
use Rattle.nr_state.specs.World.{World, with_account}
use Rattle.nr_state.specs.declared.calls.CallContext.{CallContext}

-- ---- what an action comes to: the world and the frame after it, or a failure by its number and part, with the gas
-- that its call burnt
pub data Acted : Type 0 where
  Acts : (after : World) (frame : Frame) → Acted
  Fails : (kind : ℕ) (part : ℕ) (burnt : ℕ) → Acted

abbrev pub fails : Failure → Acted
fails failure = Fails (number failure) 0 0

-- the first failure whose test holds, or else what the action does
abbrev pub unless : List (Bool × Failure) → Acted → Acted
unless [] acted = acted
unless (t ∷ ts) acted = cond t.0 (fails t.1) (unless ts acted)

-- the receiver has an account
abbrev pub on_account : Option Account → (Account → Acted) → Acted
on_account None act = fails NoAccount
on_account (Some account) act = act account

-- nobody but the receiver itself may do this
abbrev pub is_other : Frame → Bool
is_other f = not (bytes_eq f.actor f.receiver)

-- ---- making the account; it then acts for itself
abbrev pub registrar : List ℕ
registrar = codes "registrar"

abbrev pub is_reserved : Config → Frame → Bool
is_reserved c f =
    is_system f.receiver || (is_top f.receiver && nat_lt (length f.receiver) (top_level_min_len c)
    && not (bytes_eq f.predecessor registrar))

abbrev pub is_no_child : Frame → Bool
is_no_child f = not (is_top f.receiver) && not (is_sub_of f.receiver f.predecessor)

abbrev pub creation_failures : Config → World → Frame → List (Bool × Failure)
creation_failures c w f =
    (is_some (get w.accounts f.receiver), AccountExists)
    ∷ (is_implicit f.receiver, OnlyImplicit)
    ∷ (is_reserved c f, OnlyRegistrar)
    ∷ (is_no_child f, NotParent)
    ∷ []

abbrev pub created : Config → World → Frame → Acted
created c w f =
    unless (creation_failures c w f) (Acts (with_account w f.receiver (new_account c 0))
    (record f { actor = f.receiver }))

-- ---- the code and its hash
abbrev pub deployed : World → Frame → List ℕ → Acted
deployed w f code = on_account (get w.accounts f.receiver) (λ account.
    unless ((is_other f, NoPermission) ∷ []) (Acts (set_code w f.receiver code) f))

-- ---- a call: the receiver has the deposit before its code runs
abbrev pub ended : Frame → Bool → Called → Acted
ended f last (Ended end after) = Acts after (after_call f last end)
ended f last (Stopped kind part burnt) = Fails kind part burnt

abbrev pub on_code : Option (List ℕ) → Acted → Acted
on_code None acted = fails NoCode
on_code (Some code) acted = acted

abbrev pub called : (World → CallContext → Called) → World → Frame → Bool → CallContext → Acted
called call w f last x = on_account (get w.accounts f.receiver) (λ account.
    on_code (get w.code f.receiver) (ended f last
    (call (with_account w f.receiver (with_deposit account x.deposit)) x)))

-- ---- a transfer: an absent account is made where its id is implicit and the receipt does nothing else
abbrev pub makes_account : Frame → Bool
makes_account f = is_implicit f.receiver && (length f.act.actions == 1) && not (is_system f.predecessor)

-- a refund to the signer
abbrev pub is_refund : Frame → Bool
is_refund f = is_system f.predecessor && bytes_eq f.act.signer f.receiver

abbrev pub refunded : Config → World → Frame → ℕ → World
refunded c w f deposit =
    cond (is_refund f) (with_raised c w f.receiver f.act.signer_key deposit
    (get w.keys (f.receiver, f.act.signer_key))) w

abbrev pub given : Config → World → Frame → ℕ → Option Account → Acted
given c w f deposit None = cond (makes_account f) (Acts (with_implicit c w f.receiver deposit) f) (fails NoAccount)
given c w f deposit (Some account) =
    Acts (refunded c (with_account w f.receiver (with_deposit account deposit)) f deposit) f

abbrev pub transferred : Config → World → Frame → ℕ → Acted
transferred c w f deposit = given c w f deposit (get w.accounts f.receiver)

-- ---- keys
abbrev pub key_added : Config → World → Frame → PublicKey → AccessKey → Acted
key_added c w f key access = on_account (get w.accounts f.receiver) (λ account.
    unless ((is_other f, NoPermission) ∷ (is_some (get w.keys (f.receiver, key)), KeyExists) ∷ [])
    (Acts (set_key c w f.receiver key access) f))

abbrev pub key_deleted : Config → World → Frame → PublicKey → Acted
key_deleted c w f key = on_account (get w.accounts f.receiver) (λ account.
    unless ((is_other f, NoPermission) ∷ (not (is_some (get w.keys (f.receiver, key))), NoSuchKey) ∷ [])
    (Acts (removed_key c w f.receiver key) f))

-- ---- a receipt that is made takes the next id that is drawn from the receipt's
abbrev pub next_id : Frame → Hash32
next_id f = derived f.receipt_id f.place.height.0 f.next_ordinal

abbrev pub with_drawn : Frame → Receipt → Frame
with_drawn f r = record f { made = f.made ++ r ∷ []; next_ordinal = f.next_ordinal + 1 }

-- ---- the end of an account with all that it owns: what it had goes to the beneficiary, and the predecessor acts again
abbrev pub with_refund : Frame → List ℕ → ℕ → Frame
with_refund f receiver amount =
    cond (amount == 0) f (with_drawn f (deposit_refund receiver (next_id f) amount))

abbrev pub deletion_failures : Config → World → Frame → Account → List (Bool × Failure)
deletion_failures c w f account =
    (is_other f, NoPermission)
    ∷ (not (account.locked == 0), Locked)
    ∷ (nat_lt (delete_state_limit c) (account.storage_usage - usage_of_code w f.receiver), LargeState)
    ∷ []

abbrev pub after_deletion : Frame → List ℕ → Account → Frame
after_deletion f beneficiary account = record (with_refund f beneficiary account.amount) { actor = f.predecessor }

abbrev pub deleted : Config → World → Frame → List ℕ → Acted
deleted c w f beneficiary = on_account (get w.accounts f.receiver) (λ account.
    unless (deletion_failures c w f account)
    (Acts (without_account w f.receiver) (after_deletion f beneficiary account)))

-- ---- an action, by what calls mean and by whether it is the receipt's last one
unfoldable pub act : Config → (World → CallContext → Called) → World → Frame → Bool → Action → Acted
act c call w f last CreateAccount = created c w f
act c call w f last (DeployContract code) = deployed w f code
act c call w f last (FunctionCall method args gas deposit) =
    called call w f last (context_of f last method args gas deposit)
act c call w f last (Transfer deposit) = transferred c w f deposit
act c call w f last (AddKey key access) = key_added c w f key access
act c call w f last (DeleteKey key) = key_deleted c w f key
act c call w f last (DeleteAccount beneficiary) = deleted c w f beneficiary

-- ---- what the action brings fits in the receiver's balance
abbrev pub HasRoom : World → List ℕ → ℕ → Type 0
HasRoom w id deposit = IfSome (get w.accounts id) (λ account. account.amount + deposit < 2 ^ 128)

-- ---- what the call answers: exactly that. A failure leaves the world as it was, and of the frame all but the gas
-- that calls burnt. Where memory runs out nothing is said.
pub record IsFailed (kind part : ℕ) (old new : StateView) (before after : Frame) (answer : Acted) : Type 0 where
  pub burnt : ℕ
  pub acted : answer ≡ Fails kind part burnt
  pub frame : after ≡ record before { call_burnt = before.call_burnt + burnt }
  pub world : new.world ≡ old.world
  pub stands : Stands old new

abbrev pub Applies : {A : Type 0} → Result A ActionFault → StateView → StateView → Frame → Frame → Acted → Type 0
Applies (Ok done) old new before after acted = (acted ≡ Acts new.world after) × Stands old new
Applies (Err (Failed kind part)) old new before after acted = IsFailed kind part old new before after acted
Applies (Err Memory) old new before after acted = Unit {0}
