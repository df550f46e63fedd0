-- The goals of `running::run_first` that no tactic closes.
use Rattle.std.proofs.Common.{ap, sym, subst, ◌∙◌}
use Rattle.nr_chunk.specs.Chain.{Chain, CanOpen, rules_of}
use Rattle.nr_chunk.specs.Runs.{chain_in}
use Rattle.nr_chunk.specs.Views.{Kept, Working}
use Rattle.nr_recheck.proofs.Firsts.{can_open, can_seal}
use Rattle.nr_recheck.proofs.running.run_first.Goals as goal

pub open_chunk-requires : goal.open_chunk-requires
open_chunk-requires g c =
    let x : Chain = chain_in c.args.chain.now in
    subst (CanOpen x c.args.shard.0 1) (sym c.in_ok-world.ensures) (can_open x c.shards-shards.ensures.run c.args.shard.0 c.requires.inside c.requires.there)

pub seal_chunk-requires : goal.seal_chunk-requires
seal_chunk-requires g c =
    let x : Chain = chain_in c.args.chain.now in
    ap (λ (k : Working). k.whole) (c.in_ok-working.ensures ∙ ap (λ (w : Kept). (rules_of x).opens c.args.shard.0 1 w) c.in_ok-world.ensures)
    ∙ can_seal x c.shards-shards.ensures.run c.args.shard.0 c.requires.inside c.requires.there
