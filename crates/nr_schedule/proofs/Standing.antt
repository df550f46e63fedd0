-- A core at its moments, and what it shows there.
use Rattle.std.proofs.Common.{◌≡◌, ℕ, ◌^◌, ◌<◌, ◌≤◌, true, false, List, [], Some, refl, sym, subst}
use Rattle.nr_chunk.specs.Chain.{Chain, IsChain, IsCountable, AreBounded, rules_of, working_tokens}
use Rattle.nr_chunk.specs.GoodReceipts.{are_bounded}
use Rattle.nr_chunk.specs.Lasting.{IsGoodMoment, countable as can_count, good_during, reached_by, tried_reached}
use Rattle.nr_chunk.specs.Runs.{chain_in}
use Rattle.nr_chunk.specs.Store.{StateStore}
use Rattle.nr_chunk.specs.Views.{Kept, Working}
use Rattle.nr_chunk.specs.declared.chain.ChainRun.{ChainRun}
use Rattle.nr_config.specs.Config.{Config}
use Rattle.nr_overlap.specs.CoreView.{CoreView}
use Rattle.nr_overlap.specs.Held.{IsReached}
use Rattle.nr_overlap.specs.Inside.{IsInside}
use Rattle.nr_overlap.specs.Moment.{world_at, working_at, flight_at}
use Rattle.nr_overlap.specs.Positions.{at}
use Rattle.nr_overlap.specs.Run.{opening, tried, whole_at}
use Rattle.nr_overlap.specs.declared.event.Event.{Event}
use Rattle.nr_records.specs.declared.receipt.Receipt.{Receipt}
use Rattle.nr_state.specs.Tokens.{list_tokens}
use Rattle.nr_state.specs.Valid.{IsValidWorld}
use Rattle.nr_state.specs.declared.calls.Caller.{Ghosts}
use Rattle.nr_schedule.specs.Moments.{IsMoment}

pub first_moment : {C : Type 0} {g : Ghosts C StateStore} (core : CoreView (ChainRun C g)) → IsChain (chain_in core.phases) → core.lost ≡ false → core.positions ≡ opening (rules_of (chain_in core.phases)) → IsMoment core
first_moment core is whole first = record { chain = is; whole = whole; reached = subst (IsReached (rules_of (chain_in core.phases))) (sym first) (reached_by (rules_of (chain_in core.phases)) [] tt) }

pub tried_moment : {C : Type 0} {g : Ghosts C StateStore} (old new : CoreView (ChainRun C g)) (e : Event) → IsMoment old → IsInside (rules_of (chain_in old.phases)).shards e → new ≡ whole_at old (tried (rules_of (chain_in old.phases)) old.positions e) → IsMoment new
tried_moment old new e is inside made =
    subst IsMoment (sym made) (record { chain = is.chain; whole = refl; reached = tried_reached (rules_of (chain_in old.phases)) old.positions e is.reached inside })

-- ---- what stands at a moment can be counted
module _ {C : Type 0} {g : Ghosts C StateStore} (core : CoreView (ChainRun C g)) (is : IsMoment core) where
  abbrev x : Chain
  x = chain_in core.phases

  abbrev c : Config
  c = core.phases.config

  good : IsGoodMoment x core.positions
  good = good_during x is.chain core.positions is.reached

  pub countable_world : (s : ℕ) (w : Kept) → s < (rules_of x).shards → world_at (rules_of x) s (at core.positions s) ≡ Some w → IsCountable c w
  countable_world s w l e = can_count x core.positions good s w l e

  -- a chunk at work
  pub record CanCount (k : Working) : Type 0 where
    pub whole : k.whole ≡ true
    pub valid : IsValidWorld c k.world
    pub bounded : AreBounded c k.outgoing
    pub room : working_tokens c k ≤ 2 ^ 127

  pub countable : (s : ℕ) (k : Working) → s < (rules_of x).shards → working_at (rules_of x) s (at core.positions s) ≡ Some k → CanCount k
  countable s k l e =
      let work = good.works s k l e in
      record { whole = work.fine.whole; valid = work.valid; bounded = are_bounded c k.outgoing work.fine.sent; room = good.room s k l e }

  pub bounded_list : (s h d : ℕ) (list : List Receipt) → s < (rules_of x).shards → flight_at (rules_of x) core.positions s h d ≡ Some list → AreBounded c list
  bounded_list s h d list l e = are_bounded c list (good.lists s h d list l e)

  pub small_list : (s h d : ℕ) (list : List Receipt) → s < (rules_of x).shards → flight_at (rules_of x) core.positions s h d ≡ Some list → list_tokens c list ≤ 2 ^ 127
  small_list s h d list l e = good.small s h d list l e
