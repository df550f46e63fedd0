-- What an action that is done keeps.
use Rattle.std.proofs.Common.{◌≡◌, ℕ, ◌+◌, ◌-◌, ◌*◌, ◌^◌, ◌<◌, ◌≤◌, Bool, true, false, cond, List, [], ◌∷◌, ◌++◌, length, Option, Some, None, refl, sym, ap, subst, ◌∙◌, arith}
use Rattle.std.specs.Prelude.{not, is_some, ◌==◌}
use Rattle.std.specs.FinMap.{get, insert, remove}
use Rattle.std.specs.List.{AllByRecursion}
use Rattle.std.proofs.lemmas.Bool.{and_parts, or_parts, eqb-true}
use Rattle.std.proofs.lemmas.List.{append-nil}
use Rattle.nr_actions.specs.Accounts.{new_account, with_deposit, implicit_key, full_key, with_implicit, raised, with_raised}
use Rattle.nr_actions.specs.Actions.{Acted, Acts, Fails, fails, unless, on_account, ended, on_code, given, makes_account, is_refund, refunded, act, is_other, creation_failures, deletion_failures, after_deletion}
use Rattle.nr_actions.specs.Calling.{price_of, context_of, after_call}
use Rattle.nr_actions.specs.Keeping.{IsDone}
use Rattle.nr_actions.specs.Refunds.{deposit_refund}
use Rattle.nr_actions.specs.declared.failure.Failure.{Failure}
use Rattle.nr_actions.specs.declared.failure.Failure.TheVariants.{NoAccount, NoPermission, KeyExists, NoSuchKey}
use Rattle.nr_actions.specs.declared.frame.Frame.{Frame}
use Rattle.nr_actions.proofs.Failing.{can_call}
use Rattle.nr_actions.proofs.Made.{all_held, all_act, all_bounded, refund_holds, refund_bounded, returned_before, returned_behind}
use Rattle.nr_actions.proofs.Standing.{stands_with_account}
use Rattle.nr_config.specs.Config.{Config}
use Rattle.nr_fees.specs.Fees.{deposit_of}
use Rattle.nr_ids.specs.Derive.{derived}
use Rattle.nr_ids.specs.Grammar.{is_system, is_implicit}
use Rattle.nr_ids.specs.declared.key.PublicKey.{PublicKey}
use Rattle.nr_ids.proofs.System.{only_system}
use Rattle.nr_records.specs.declared.access_key.AccessKey.{AccessKey}
use Rattle.nr_records.specs.declared.account.Account.{Account}
use Rattle.nr_records.specs.declared.action.Action.{Action}
use Rattle.nr_records.specs.declared.action.Action.TheVariants.{CreateAccount, DeployContract, FunctionCall, Transfer, AddKey, DeleteKey, DeleteAccount}
use Rattle.nr_state.specs.Calls.{Called, Ended, Stopped, CanCall, IsCaller, IsEnd, IsReturned}
use Rattle.nr_state.specs.Changes.{with_moved, with_code_hash, set_key, removed_key, set_code, without_account, usage_of_key, usage_of_code}
use Rattle.nr_state.specs.Keeping.{IsKept, MovesTokens}
use Rattle.nr_state.specs.Tokens.{world_tokens}
use Rattle.nr_state.specs.Usage.{key_usage}
use Rattle.nr_state.specs.Valid.{IsValidWorld}
use Rattle.nr_state.specs.World.{World, with_account, with_key}
use Rattle.nr_state.specs.declared.calls.CallContext.{CallContext}
use Rattle.nr_state.specs.declared.calls.CallEnd.{CallEnd}
use Rattle.nr_triedef.specs.Node.{digest}

-- ---- where an action is done, no test of a failure holds
world_in : World → Acted → World
world_in w (Acts after frame) = after
world_in w (Fails kind part burnt) = w

frame_in : Frame → Acted → Frame
frame_in f (Acts after frame) = frame
frame_in f (Fails kind part burnt) = f

pub record IsPassed (tests : List (Bool × Failure)) (v : World) (h : Frame) (after : World) (g : Frame) : Type 0 where
  pub none : AllByRecursion (λ t. t.0 ≡ false) tests
  pub world : v ≡ after
  pub frame : h ≡ g

not_failed : (b : Bool) (failure : Failure) (acted : Acted) (after : World) (g : Frame) → cond b (fails failure) acted ≡ Acts after g → (b ≡ false) × (acted ≡ Acts after g)
not_failed true failure acted after g e = absurd cc
not_failed false failure acted after g e = (refl, e)

passes : (tests : List (Bool × Failure)) (v : World) (h : Frame) (after : World) (g : Frame) → unless tests (Acts v h) ≡ Acts after g → IsPassed tests v h after g
unfolding world_in frame_in
passes [] v h after g e = record { none = tt; world = ap (world_in v) e; frame = ap (frame_in h) e }
passes (t ∷ ts) v h after g e =
    let here : (t.0 ≡ false) × (unless ts (Acts v h) ≡ Acts after g) = not_failed t.0 t.1 (unless ts (Acts v h)) after g e in
    let rest : IsPassed ts v h after g = passes ts v h after g here.1 in
    record { none = (here.0, rest.none); world = rest.world; frame = rest.frame }

gone : (o : Option Account) → is_some o ≡ false → o ≡ None
gone None e = refl
gone (Some account) e = absurd cc

none_of : (n : ℕ) → not (n == 0) ≡ false → n ≡ 0
none_of n e = eqb-true n 0 (by (n == 0) e)
  where
    by : (b : Bool) → not b ≡ false → b ≡ true
    by true h = refl
    by false h = absurd cc

-- the id of an implicit account is longer than the system's
implicit_plain : (id : List ℕ) → is_implicit id ≡ true → is_system id ≡ false
unfolding is_implicit
implicit_plain id e = by (is_system id) refl
  where
    by : (b : Bool) → is_system id ≡ b → b ≡ false
    by true h =
        let long : length id ≡ 64 = eqb-true (length id) 64 (and_parts _ _ e).0 in
        let short : length id ≡ 6 = ap length (only_system id h) in
        absurd (omega (arith, long, short))
    by false h = refl

-- ---- what waits
abbrev KeepsRest : World → World → Type 0
KeepsRest w v = v ≡ record w { accounts = v.accounts; keys = v.keys; code = v.code; data_of = v.data_of }

moved_rest : (w v : World) (id : List ℕ) (less more : ℕ) (o : Option Account) → KeepsRest w v → KeepsRest w (with_moved v id less more o)
moved_rest w v id less more None e = e
moved_rest w v id less more (Some account) e = ap (λ u. with_account u id (record account { storage_usage = account.storage_usage - less + more })) e

hashed_rest : (w v : World) (id code : List ℕ) (o : Option Account) → KeepsRest w v → KeepsRest w (with_code_hash v id (digest code) o)
hashed_rest w v id code None e = e
hashed_rest w v id code (Some account) e = ap (λ u. with_account u id (record account { code_hash = digest code })) e

key_rest : (c : Config) (w v : World) (id : List ℕ) (key : PublicKey) (access : AccessKey) → KeepsRest w v → KeepsRest w (set_key c v id key access)
key_rest c w v id key access e = moved_rest w (with_key v id key access) id (usage_of_key c v id key) (key_usage c key access) (get v.accounts id) (ap (λ u. with_key u id key access) e)

-- ---- one action
module _ (c : Config) (kept : (w : World) → IsValidWorld c w → IsKept c w) (moves : (w : World) → MovesTokens c w) (w : World) (valid : IsValidWorld c w) (f : Frame) where
  as_done : (a : Action) (v : World) (h : Frame) (after : World) (g : Frame) → v ≡ after → h ≡ g → IsDone c w f a v h → IsDone c w f a after g
  as_done a v h after g world frame d =
      let first : IsDone c w f a after h = subst (λ u. IsDone c w f a u h) world d in
      subst (λ i. IsDone c w f a after i) frame first

  -- nothing but who acts changes in the frame
  quiet : (a : Action) (actor : List ℕ) (v : World) → IsValidWorld c v → world_tokens c w + deposit_of a ≡ world_tokens c v → KeepsRest w v → IsDone c w f a v (record f { actor = actor })
  quiet a actor v good tokens rest = record {
    made = [];
    burnt = 0;
    promised = 0;
    valid = good;
    tokens = omega (arith, tokens);
    rest = rest;
    all_made = sym (append-nil f.made);
    all_burnt = omega arith;
    all_promised = omega arith;
    receipt = refl;
    gas = omega arith;
    actions = tt;
    bounded = λ price gas. tt;
    returned = λ h. h;
  }

  from_account : (a : Action) (after : World) (g : Frame) (o : Option Account) (acted : Account → Acted) → on_account o acted ≡ Acts after g
      → ((account : Account) → o ≡ Some account → acted account ≡ Acts after g → IsDone c w f a after g) → IsDone c w f a after g
  from_account a after g None acted e each = absurd cc
  from_account a after g (Some account) acted e each = each account refl e

  created_done : (after : World) (g : Frame) → unless (creation_failures c w f) (Acts (with_account w f.receiver (new_account c 0)) (record f { actor = f.receiver })) ≡ Acts after g → IsDone c w f CreateAccount after g
  created_done after g e =
      let new : Account = new_account c 0 in
      let v : World = with_account w f.receiver new in
      let p : IsPassed (creation_failures c w f) v (record f { actor = f.receiver }) after g = passes (creation_failures c w f) v (record f { actor = f.receiver }) after g e in
      let absent : get w.accounts f.receiver ≡ None = gone (get w.accounts f.receiver) p.none.0 in
      let tokens : world_tokens c v ≡ world_tokens c w + 0 = (moves w).account_made f.receiver new absent in
      let plain : is_system f.receiver ≡ false = (or_parts _ _ p.none.1.1.0).0 in
      let good : IsValidWorld c v = (kept w valid).account_made f.receiver new absent plain refl refl (omega (arith, tokens, valid.tokens)) in
      as_done CreateAccount v (record f { actor = f.receiver }) after g p.world p.frame (quiet CreateAccount f.receiver v good (omega (arith, tokens)) refl)

  -- what an account does to its own code and keys
  owned_done : (a : Action) (tests : List (Bool × Failure)) (v after : World) (g : Frame) → deposit_of a ≡ 0 → IsValidWorld c v → world_tokens c v ≡ world_tokens c w → KeepsRest w v
      → unless tests (Acts v f) ≡ Acts after g → IsDone c w f a after g
  owned_done a tests v after g none good tokens rest e =
      let p : IsPassed tests v f after g = passes tests v f after g e in
      as_done a v f after g p.world p.frame (quiet a f.actor v good (omega (arith, none, tokens)) rest)

  -- ---- the end of an account
  refund_done : (beneficiary : List ℕ) (account : Account) (v : World) → IsValidWorld c v → world_tokens c v + account.amount ≡ world_tokens c w → KeepsRest w v → (b : Bool) → (account.amount == 0) ≡ b
      → IsDone c w f (DeleteAccount beneficiary) v (record (cond b f (record f { made = f.made ++ deposit_refund beneficiary (derived f.receipt_id f.place.height.0 f.next_ordinal) account.amount ∷ []; next_ordinal = f.next_ordinal + 1 })) { actor = f.predecessor })
  refund_done beneficiary account v good tokens rest true e = quiet (DeleteAccount beneficiary) f.predecessor v good (omega (arith, tokens, eqb-true account.amount 0 e)) rest
  refund_done beneficiary account v good tokens rest false e =
      let id = derived f.receipt_id f.place.height.0 f.next_ordinal in
      record {
        made = deposit_refund beneficiary id account.amount ∷ [];
        burnt = 0;
        promised = 0;
        valid = good;
        tokens = omega (arith, tokens, refund_holds c beneficiary id account.amount);
        rest = rest;
        all_made = refl;
        all_burnt = omega arith;
        all_promised = omega arith;
        receipt = refl;
        gas = omega arith;
        actions = (refl, tt);
        bounded = λ price gas. (refund_bounded c beneficiary id account.amount, tt);
        returned = λ h. returned_before f.made (deposit_refund beneficiary id account.amount ∷ []) f.returned h;
      }

  deleted_done : (beneficiary : List ℕ) (after : World) (g : Frame) (account : Account) → get w.accounts f.receiver ≡ Some account
      → unless (deletion_failures c w f account) (Acts (without_account w f.receiver) (after_deletion f beneficiary account)) ≡ Acts after g → IsDone c w f (DeleteAccount beneficiary) after g
  deleted_done beneficiary after g account is e =
      let v : World = without_account w f.receiver in
      let p : IsPassed (deletion_failures c w f account) v (after_deletion f beneficiary account) after g = passes (deletion_failures c w f account) v (after_deletion f beneficiary account) after g e in
      let tokens : world_tokens c v + (account.amount + account.locked) ≡ world_tokens c w = (moves w).account_removed f.receiver account is in
      let unlocked : account.locked ≡ 0 = none_of account.locked p.none.1.0 in
      let good : IsValidWorld c v = (kept w valid).account_removed f.receiver in
      as_done (DeleteAccount beneficiary) v (after_deletion f beneficiary account) after g p.world p.frame (refund_done beneficiary account v good (omega (arith, tokens, unlocked)) refl (account.amount == 0) refl)

  -- ---- an account with a deposit more
  module _ (deposit : ℕ) (within : world_tokens c w + deposit ≤ 2 ^ 127) (account : Account) (is : get w.accounts f.receiver ≡ Some account) where
    abbrev richer : World
    richer = with_account w f.receiver (with_deposit account deposit)

    richer_tokens : world_tokens c richer ≡ world_tokens c w + deposit
    richer_tokens = omega (arith, (moves w).account_changed f.receiver account (with_deposit account deposit) is)

    richer_valid : IsValidWorld c richer
    richer_valid = (kept w valid).account_changed f.receiver account (with_deposit account deposit) is refl refl (omega (arith, richer_tokens, within))

    raised_done : (o : Option AccessKey) → IsDone c w f (Transfer deposit) (with_raised c richer f.receiver f.act.signer_key deposit o) f
    raised_done None = quiet (Transfer deposit) f.actor richer richer_valid (omega (arith, richer_tokens)) refl
    raised_done (Some access) =
        let more : AccessKey = record access { permission = raised deposit access.permission } in
        let v : World = set_key c richer f.receiver f.act.signer_key more in
        quiet (Transfer deposit) f.actor v ((kept richer richer_valid).key_set f.receiver f.act.signer_key more (stands_with_account w f.receiver (with_deposit account deposit)))
        (omega (arith, richer_tokens, (moves richer).key_set f.receiver f.act.signer_key more)) (key_rest c w richer f.receiver f.act.signer_key more refl)

    refunded_done : (b : Bool) → IsDone c w f (Transfer deposit) (cond b (with_raised c richer f.receiver f.act.signer_key deposit (get richer.keys (f.receiver, f.act.signer_key))) richer) f
    refunded_done true = raised_done (get richer.keys (f.receiver, f.act.signer_key))
    refunded_done false = raised_done None

    -- ---- a call
    module _ (call : World → CallContext → Called) (caller : IsCaller c call) (last : Bool) (method args : List ℕ) (gas : ℕ) where
      abbrev context : CallContext
      context = context_of f last method args gas deposit

      plain : is_system f.receiver ≡ false
      plain = valid.accounts.no_system f.receiver (rw is refl)

      price_small : (b : Bool) → f.act.gas_price < 2 ^ 64 → cond b 0 f.act.gas_price < 2 ^ 64
      price_small true h = omega arith
      price_small false h = h

      returned_by : (b : Bool) (end : CallEnd) → IsReturned end.made end.returned → IsReturned f.made f.returned → IsReturned (f.made ++ end.made) (cond b end.returned f.returned)
      returned_by true end new old = returned_behind f.made end.made end.returned new
      returned_by false end new old = returned_before f.made end.made f.returned old

      ended_done : (end : CallEnd) (after : World) → IsEnd c richer context end after → IsDone c w f (FunctionCall method args gas deposit) after (after_call f last end)
      ended_done end after h =
          record {
            made = end.made;
            burnt = end.burnt;
            promised = end.promised;
            valid = h.valid richer_valid;
            tokens = omega (arith, richer_tokens, h.tokens, all_held c context plain end.made h.made, ap (λ n. n * price_of f) h.promised);
            rest = call_rest after h.changes.rest;
            all_made = refl;
            all_burnt = refl;
            all_promised = refl;
            receipt = refl;
            gas = h.gas;
            actions = all_act context end.made h.made;
            bounded = λ price most. all_bounded c context plain end.made h.made (price_small (is_system f.predecessor) price) (omega (arith, h.promised, h.gas, most));
            returned = returned_by last end h.returned;
          }
        where
          call_rest : (after : World) → after ≡ record richer { accounts = after.accounts; data_of = after.data_of } → KeepsRest w after
          call_rest after e = e ∙ (λ i. record w { accounts = after.accounts; keys = sym (ap (λ v. v.keys) e) i; code = sym (ap (λ v. v.code) e) i; data_of = after.data_of })

      called_done : (after : World) (g : Frame) → CanCall richer context → (called : Called) → call richer context ≡ called → ended f last called ≡ Acts after g → IsDone c w f (FunctionCall method args gas deposit) after g
      unfolding world_in frame_in
      called_done after g can (Ended end v) is e =
          as_done (FunctionCall method args gas deposit) v (after_call f last end) after g (ap (world_in w) e) (ap (frame_in f) e) (ended_done end v (caller.ended richer context end v can is))
      called_done after g can (Stopped kind part burnt) is e = absurd cc

      code_done : (after : World) (g : Frame) (o : Option (List ℕ)) → get w.code f.receiver ≡ o → on_code o (ended f last (call richer context)) ≡ Acts after g → IsDone c w f (FunctionCall method args gas deposit) after g
      code_done after g None is e = absurd cc
      code_done after g (Some code) is e = called_done after g (can_call w context (with_deposit account deposit) code is) (call richer context) refl e

  -- ---- a transfer
  implicit_done : (deposit : ℕ) → world_tokens c w + deposit ≤ 2 ^ 127 → get w.accounts f.receiver ≡ None → is_implicit f.receiver ≡ true → IsDone c w f (Transfer deposit) (with_implicit c w f.receiver deposit) f
  implicit_done deposit within absent implicit =
      let new : Account = new_account c deposit in
      let v : World = with_account w f.receiver new in
      let tokens : world_tokens c v ≡ world_tokens c w + (deposit + 0) = (moves w).account_made f.receiver new absent in
      let good : IsValidWorld c v = (kept w valid).account_made f.receiver new absent (implicit_plain f.receiver implicit) refl refl (omega (arith, tokens, within)) in
      quiet (Transfer deposit) f.actor (with_implicit c w f.receiver deposit) ((kept v good).key_set f.receiver (implicit_key f.receiver) full_key (stands_with_account w f.receiver new))
      (omega (arith, tokens, (moves v).key_set f.receiver (implicit_key f.receiver) full_key)) (key_rest c w v f.receiver (implicit_key f.receiver) full_key refl)

  given_done : (deposit : ℕ) → world_tokens c w + deposit ≤ 2 ^ 127 → (after : World) (g : Frame) (o : Option Account) → get w.accounts f.receiver ≡ o → given c w f deposit o ≡ Acts after g → IsDone c w f (Transfer deposit) after g
  unfolding world_in frame_in
  given_done deposit within after g None absent e = by (makes_account f) refl e
    where
      by : (b : Bool) → makes_account f ≡ b → cond b (Acts (with_implicit c w f.receiver deposit) f) (fails NoAccount) ≡ Acts after g → IsDone c w f (Transfer deposit) after g
      by true makes h = as_done (Transfer deposit) (with_implicit c w f.receiver deposit) f after g (ap (world_in w) h) (ap (frame_in f) h) (implicit_done deposit within absent (and_parts _ _ (and_parts _ _ makes).0).0)
      by false makes h = absurd cc
  given_done deposit within after g (Some account) is e =
      as_done (Transfer deposit) (refunded c (with_account w f.receiver (with_deposit account deposit)) f deposit) f after g (ap (world_in w) e) (ap (frame_in f) e) (refunded_done deposit within account is (is_refund f))

  -- ---- the whole
  pub act_done : (call : World → CallContext → Called) → IsCaller c call → (last : Bool) (a : Action) (after : World) (g : Frame) → world_tokens c w + deposit_of a ≤ 2 ^ 127
      → act c call w f last a ≡ Acts after g → IsDone c w f a after g
  unfolding act
  act_done call caller last CreateAccount after g within e = created_done after g e
  act_done call caller last (DeployContract code) after g within e =
      from_account (DeployContract code) after g (get w.accounts f.receiver) _ e (λ account is h.
      owned_done (DeployContract code) ((is_other f, NoPermission) ∷ []) (set_code w f.receiver code) after g refl ((kept w valid).code_set f.receiver code (rw is refl)) ((moves w).code_set f.receiver code)
      (code_rest code) h)
    where
      code_rest : (code : List ℕ) → KeepsRest w (set_code w f.receiver code)
      code_rest code =
          let v : World = record w { code = insert w.code f.receiver code } in
          let hashed : World = with_code_hash v f.receiver (digest code) (get w.accounts f.receiver) in
          moved_rest w hashed f.receiver (usage_of_code w f.receiver) (length code) (get hashed.accounts f.receiver) (hashed_rest w v f.receiver code (get w.accounts f.receiver) refl)
  act_done call caller last (FunctionCall method args gas deposit) after g within e =
      from_account (FunctionCall method args gas deposit) after g (get w.accounts f.receiver) _ e (λ account is h. code_done deposit within account is call caller last method args gas after g (get w.code f.receiver) refl h)
  act_done call caller last (Transfer deposit) after g within e = given_done deposit within after g (get w.accounts f.receiver) refl e
  act_done call caller last (AddKey key access) after g within e =
      from_account (AddKey key access) after g (get w.accounts f.receiver) _ e (λ account is h.
      owned_done (AddKey key access) ((is_other f, NoPermission) ∷ (is_some (get w.keys (f.receiver, key)), KeyExists) ∷ []) (set_key c w f.receiver key access) after g refl
      ((kept w valid).key_set f.receiver key access (rw is refl)) ((moves w).key_set f.receiver key access) (key_rest c w w f.receiver key access refl) h)
  act_done call caller last (DeleteKey key) after g within e =
      from_account (DeleteKey key) after g (get w.accounts f.receiver) _ e (λ account is h.
      owned_done (DeleteKey key) ((is_other f, NoPermission) ∷ (not (is_some (get w.keys (f.receiver, key))), NoSuchKey) ∷ []) (removed_key c w f.receiver key) after g refl
      ((kept w valid).key_removed f.receiver key (rw is refl)) ((moves w).key_removed f.receiver key)
      (moved_rest w (record w { keys = remove w.keys (f.receiver, key) }) f.receiver (usage_of_key c w f.receiver key) 0 (get w.accounts f.receiver) refl) h)
  act_done call caller last (DeleteAccount beneficiary) after g within e =
      from_account (DeleteAccount beneficiary) after g (get w.accounts f.receiver) _ e (λ account is h. deleted_done beneficiary after g account is h)
