-- Executions in a world that is put together from two.
use Rattle.std.proofs.Common.{◌≡◌, ℕ, ◌+◌, ◌*◌, ◌==◌, true, false, cond, List, [], ◌∷◌, length, Option, Some}
use Rattle.std.proofs.Common.{None, refl, sym, ap, ◌∙◌}
use Rattle.std.specs.Prelude.{fold, not, ◌&&◌, ◌-◌}
use Rattle.std.specs.FinMap.{get}
use Rattle.nr_actions.specs.Accounts.{with_deposit}
use Rattle.nr_actions.specs.Actions.{Acted, Acts, Fails, act}
use Rattle.nr_actions.specs.Failures.{number}
use Rattle.nr_actions.specs.declared.failure.Failure.TheVariants.{LackBalanceForState}
use Rattle.nr_actions.specs.declared.frame.Frame.{Frame}
use Rattle.nr_config.specs.Config.{Config}
use Rattle.nr_receipt.specs.Drawing.{with_datum, with_data, with_result, with_gas_refund, deposits_lost, deposits_back}
use Rattle.nr_receipt.specs.Drawing.{given_up}
use Rattle.nr_receipt.specs.Execution.{Execution, concluded, dropped, ended, execute, executed_as}
use Rattle.nr_receipt.specs.Execution.{status_of}
use Rattle.nr_receipt.specs.Frames.{first_frame, burning_price, burnt_gas}
use Rattle.nr_receipt.specs.Rewards.{reward_of, richer, with_reward, paid_to}
use Rattle.nr_receipt.specs.Running.{Ran, Done, Broken, checked, fails_storage, receiver_lacks, go_on}
use Rattle.nr_receipt.specs.Running.{is_last, run_from, run_actions}
use Rattle.nr_ids.specs.Grammar.{is_system}
use Rattle.nr_records.specs.declared.account.Account.{Account}
use Rattle.nr_records.specs.declared.action.Action.{Action}
use Rattle.nr_records.specs.declared.chunk_result.RunStatus.{RunStatus}
use Rattle.nr_records.specs.declared.chunk_result.RunStatus.TheVariants as status
use Rattle.nr_records.specs.declared.receipt.ActionReceipt.{ActionReceipt}
use Rattle.nr_records.specs.declared.receipt.DataReceiver.{DataReceiver}
use Rattle.nr_records.specs.declared.receipt.Receipt.{Receipt}
use Rattle.nr_state.specs.Calls.{Called}
use Rattle.nr_state.specs.World.{World}
use Rattle.nr_state.specs.declared.calls.CallContext.{CallContext}
use Rattle.nr_state.specs.declared.calls.Returned.{Returned}
use Rattle.nr_state.specs.declared.calls.Returned.TheVariants.{Value, Promise}
use Rattle.nr_state.specs.declared.place.Place.{Place}
use Rattle.nr_state.specs.Local.{IsLocal}
use Rattle.nr_actions.proofs.OverActions.{over_acted, act_over, KeepsReceiver, act_keeps, refund_receiver}
use Rattle.nr_state.proofs.OverCalls.{over_itself}
use Rattle.nr_state.proofs.OverWorlds.{seen, account_written}
use Rattle.nr_state.specs.Scopes.{Scope, over}

abbrev pub over_ran : Scope → World → Ran → Ran
over_ran p v (Done after frame) = Done (over p after v) frame
over_ran p v (Broken index kind part frame) = Broken index kind part frame

abbrev pub over_execution : Scope → World → Execution → Execution
over_execution p v e = record e { world = over p e.world v }

-- ---- the frame's receiver stays
abbrev RanAt : List ℕ → Ran → Type 0
RanAt id (Done after frame) = frame.receiver ≡ id
RanAt id (Broken index kind part frame) = frame.receiver ≡ id

checked_at : (c : Config) (w : World) (f : Frame) (id : List ℕ) → f.receiver ≡ id → RanAt id (checked c w f)
checked_at c w f id h =
    elim (fails_storage c w f) as (λ b. RanAt id (cond b (Broken (length f.act.actions) 10 0 f) (Done w f)))
    [ true ↦ h | false ↦ h ]

go_on_at : (rest : World → Frame → Ran) (index : ℕ) (f : Frame) (id : List ℕ) → f.receiver ≡ id
    → ((after : World) (g : Frame) → g.receiver ≡ id → RanAt id (rest after g)) → (came : Acted) → KeepsReceiver f came
    → RanAt id (go_on rest index f came)
go_on_at rest index f id h on (Acts after g) k = on after g (k ∙ h)
go_on_at rest index f id h on (Fails kind part burnt) k = h

run_at : (c : Config) (call : World → CallContext → Called) (index : ℕ) (actions : List Action) (w : World) (f : Frame)
    (id : List ℕ) → f.receiver ≡ id → RanAt id (run_from c call index actions w f)
unfolding run_from
run_at c call index [] w f id h = checked_at c w f id h
run_at c call index (a ∷ rest) w f id h =
    go_on_at (run_from c call (index + 1) rest) index f id h (λ after g k. run_at c call (index + 1) rest after g id k)
    (act c call w f (is_last f index) a) (act_keeps f c call w (is_last f index) a)

data_at : (bytes : Option (List ℕ)) (f : Frame) (outputs : List DataReceiver)
    → (fold (with_datum bytes) f outputs).receiver ≡ f.receiver
data_at bytes f [] = refl
data_at bytes f (to ∷ outputs) = data_at bytes (with_datum bytes f to) outputs

result_at : (returned : Returned) (f : Frame) → (with_result returned f).receiver ≡ f.receiver
result_at (Value bytes) f = data_at (Some bytes) f f.act.outputs
result_at (Promise id) f = refl

given_up_at : (f : Frame) → (given_up f).receiver ≡ f.receiver
given_up_at f =
    refund_receiver (with_data None f) (with_data None f).predecessor (deposits_back (with_data None f))
    ∙ data_at None f f.act.outputs

-- ---- the actions
module _ (p : Scope) (v : World) (c : Config) where
  checked_over : (w : World) (f : Frame) → p.own f.receiver ≡ true → checked c (over p w v) f
      ≡ over_ran p v (checked c w f)
  checked_over w f own =
      (λ i. cond (not (is_system f.predecessor) && receiver_lacks c (seen p v w f.receiver own i))
      (Broken (length f.act.actions) (number LackBalanceForState) 0 f) (Done (over p w v) f))
      ∙ elim (fails_storage c w f)
      as (λ b. cond b (Broken (length f.act.actions) (number LackBalanceForState) 0 f) (Done (over p w v) f)
      ≡ over_ran p v (cond b (Broken (length f.act.actions) (number LackBalanceForState) 0 f) (Done w f)))
      [ true ↦ refl | false ↦ refl ]

  go_on_over : (rest : World → Frame → Ran) (index : ℕ) (f : Frame)
      → ((after : World) (g : Frame) → g.receiver ≡ f.receiver → rest (over p after v) g ≡ over_ran p v (rest after g))
      → (came : Acted) → KeepsReceiver f came
      → go_on rest index f (over_acted p v came) ≡ over_ran p v (go_on rest index f came)
  go_on_over rest index f on (Acts after g) k = on after g k
  go_on_over rest index f on (Fails kind part burnt) k = refl

  run_over : (call : World → CallContext → Called) → IsLocal call → (index : ℕ) (actions : List Action) (w : World)
      (f : Frame) → p.own f.receiver ≡ true → p.keys f.receiver ≡ true
      → run_from c call index actions (over p w v) f ≡ over_ran p v (run_from c call index actions w f)
  unfolding run_from
  run_over call local index [] w f own keys = checked_over w f own
  run_over call local index (a ∷ rest) w f own keys =
      ap (go_on (run_from c call (index + 1) rest) index f) (act_over p v c f own keys call local w (is_last f index) a)
      ∙ go_on_over (run_from c call (index + 1) rest) index f
      (λ after g k. run_over call local (index + 1) rest after g (ap p.own k ∙ own) (ap p.keys k ∙ keys))
      (act c call w f (is_last f index) a) (act_keeps f c call w (is_last f index) a)

  -- ---- the end
  richer_over : (w : World) (id : List ℕ) (o : Option Account) (reward : ℕ) → p.own id ≡ true
      → richer (over p w v) id o reward ≡ over p (richer w id o reward) v
  richer_over w id None reward own = refl
  richer_over w id (Some account) reward own = account_written p v w id (with_deposit account reward) own

  reward_over : (w : World) (id : List ℕ) (reward : ℕ) → p.own id ≡ true
      → with_reward (over p w v) id reward ≡ over p (with_reward w id reward) v
  reward_over w id reward own =
      elim (reward == 0)
      as (λ b. cond b (over p w v) (richer (over p w v) id (get (over p w v).accounts id) reward)
      ≡ over p (cond b w (richer w id (get w.accounts id) reward)) v) [
        | true ↦ refl
        | false ↦ ap (λ o. richer (over p w v) id o reward) (seen p v w id own)
            ∙ richer_over w id (get w.accounts id) reward own
      ]

  concluded_over : (w : World) (f : Frame) (status : RunStatus) (gas lost : ℕ) → p.own f.receiver ≡ true
      → concluded c (over p w v) f status gas lost ≡ over_execution p v (concluded c w f status gas lost)
  concluded_over w f status gas lost own = λ i. record {
    world = reward_over w f.receiver (reward_of c f) own i;
    executed =
        executed_as (with_gas_refund c gas f) status gas
        (gas * burning_price f - paid_to (seen p v w f.receiver own i) (reward_of c f) + lost);
  }

  ended_over : (w : World) (id : List ℕ) (ran : Ran) → p.own id ≡ true → RanAt id ran
      → ended c (over p w v) (over_ran p v ran) ≡ over_execution p v (ended c w ran)
  ended_over w id (Done after f) own at =
      concluded_over after (with_result f.returned f) (status_of f.returned) (burnt_gas c f (length f.act.actions)) 0
      (ap p.own (result_at f.returned f ∙ at) ∙ own)
  ended_over w id (Broken index kind part f) own at =
      concluded_over w (given_up (dropped f)) (status.Failure index kind part) (burnt_gas c (dropped f) (index + 1))
      (deposits_lost (dropped f)) (ap p.own (given_up_at (dropped f) ∙ at) ∙ own)

  -- an execution looks at the receiver alone
  pub execute_over : (call : World → CallContext → Called) → IsLocal call → (w : World) (r : Receipt)
      (act : ActionReceipt) (inputs : List (Option (List ℕ))) (place : Place) → p.own r.receiver ≡ true
      → p.keys r.receiver ≡ true
      → execute c call (over p w v) r act inputs place ≡ over_execution p v (execute c call w r act inputs place)
  unfolding execute
  execute_over call local w r act inputs place own keys =
      let f : Frame = first_frame r act inputs place in
      ap (ended c (over p w v)) (run_over call local 0 act.actions w f own keys)
      ∙ ended_over w r.receiver (run_actions c call w f) own (run_at c call 0 act.actions w f r.receiver refl)

-- ---- what waits and the queue stay
abbrev pub owned : Scope
owned = record { own = λ q. true; keys = λ q. true; waiting = λ q. false; queue = false }

pub execute_apart : (c : Config) (call : World → CallContext → Called) → IsLocal call → (w : World) (r : Receipt)
    (act : ActionReceipt) (inputs : List (Option (List ℕ))) (place : Place)
    → (execute c call w r act inputs place).world ≡ over owned (execute c call w r act inputs place).world w
execute_apart c call local w r act inputs place =
    ap (λ (e : Execution). e.world)
    (ap (λ u. execute c call u r act inputs place) (sym (over_itself owned w))
    ∙ execute_over owned w c call local w r act inputs place refl refl)
