-- The goals of `state_after::entries_after` that no tactic closes.
use Rattle.std.proofs.Common.{◌≡◌, ℕ, ◌<◌, List, Some, sym, ap, subst, ◌∙◌}
use Rattle.std.specs.Prelude.{IfOk}
use Rattle.std.specs.FinMap.{entries}
use Rattle.nr_chunk.specs.Chain.{Chain, rules_of}
use Rattle.nr_chunk.specs.Views.{Kept}
use Rattle.nr_columns.specs.Entries.{pairs_of}
use Rattle.nr_columns.specs.declared.entry.Entry.{Entry}
use Rattle.nr_overlap.specs.Moment.{world_at}
use Rattle.nr_overlap.specs.Positions.{at}
use Rattle.nr_overlap.specs.Serial.{world_after}
use Rattle.nr_overlap.proofs.Basics.{some_alike}
use Rattle.nr_state.specs.Flat.{flat}
use Rattle.nr_top.specs.Moments.{chain_of}
use Rattle.nr_top.proofs.Entered.{in_order, is_chunk, same_chain}
use Rattle.nr_top.proofs.state_after.entries_after.Goals as goal

pub run_to-requires-clause-chunk : goal.run_to-requires-clause-chunk
run_to-requires-clause-chunk c = λ κs. is_chunk (chain_of c.args.core) c.args.shard.0 c.args.height.0 c.requires.there

pub world-requires-clause-inside : goal.world-requires-clause-inside
world-requires-clause-inside c = λ κs.
    let chunk = is_chunk (chain_of c.args.core) c.args.shard.0 c.args.height.0 c.requires.there in
    subst (λ (x : Chain). c.args.shard.0 < (rules_of x).shards) (sym (same_chain c.args.core c.run_to.new.core c.in_ok-run_to.ensures.phases)) chunk.inside

pub returns-clause-entries : goal.returns-clause-entries
returns-clause-entries c =
    let s : ℕ = c.args.shard.0 in
    let there : world_at (rules_of (chain_of c.run_to.new.core)) s (at c.run_to.new.core.positions s) ≡ Some (world_after (rules_of (chain_of c.args.core)) s c.args.height.0) =
    ap (λ (x : Chain). world_at (rules_of x) s (at c.run_to.new.core.positions s)) (same_chain c.args.core c.run_to.new.core c.in_ok-run_to.ensures.phases) ∙ c.in_ok-run_to.ensures.world in
    let same : c.in-Some.world.now ≡ world_after (rules_of (chain_of c.args.core)) s c.args.height.0 = some_alike _ _ (c.in-Some.ensures ∙ there) in
    subst (λ (w : Kept). IfOk c.entries.result (λ (es : List Entry). pairs_of es ≡ entries (flat w.world))) same c.entries.ensures.entries

pub returns-clause-order : goal.returns-clause-order
returns-clause-order c = in_order c.entries.result (flat c.in-Some.world.now.world) c.entries.ensures.entries

pub unreachable-requires : goal.unreachable-requires
unreachable-requires c =
    let s : ℕ = c.args.shard.0 in
    let there : world_at (rules_of (chain_of c.run_to.new.core)) s (at c.run_to.new.core.positions s) ≡ Some (world_after (rules_of (chain_of c.args.core)) s c.args.height.0) =
    ap (λ (x : Chain). world_at (rules_of x) s (at c.run_to.new.core.positions s)) (same_chain c.args.core c.run_to.new.core c.in_ok-run_to.ensures.phases) ∙ c.in_ok-run_to.ensures.world in
    cc (c.in-None.ensures, there)
