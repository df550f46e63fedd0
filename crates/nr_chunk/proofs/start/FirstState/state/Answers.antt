-- The goals of `start::FirstState::state` that no tactic closes.
use Rattle.std.proofs.Common.{◌≡◌, ◌+◌, ◌<◌, IfOk, List, length, get_or, sym, ap, subst, ◌∙◌, arith}
use Rattle.std.proofs.lemmas.List.{length-map}
use Rattle.nr_chunk.specs.Start.{shards_in, start_world}
use Rattle.nr_chunk.specs.Starts.{IsSoundStart, start_of}
use Rattle.nr_chunk.specs.declared.start.FirstState.{FirstState}
use Rattle.nr_chunk.specs.declared.start.FirstState.TheVariants as first
use Rattle.nr_chunk.proofs.Started.{founded_world, resumed_world}
use Rattle.nr_chunk.proofs.start.FirstState.state.Goals as goal
use Rattle.nr_columns.specs.declared.entry.Entry.{Entry}
use Rattle.nr_state.specs.FromEntries.{world_from}
use Rattle.nr_state.specs.World.{World}

pub returns-in-Founded-clause-world : goal.returns-in-Founded-clause-world
returns-in-Founded-clause-world c =
    let g = c.in-Founded.genesis in
    let inside : c.args.shard.0 < length g.layout + 1 = subst (λ (s : FirstState). c.args.shard.0 < shards_in (start_of s)) c.in-Founded.is c.requires.inside in
    subst (λ (s : FirstState). IfOk c.fill.result (λ state. state.world ≡ start_world (start_of s) c.args.shard.0)) (sym c.in-Founded.is)
    (subst (λ (w : World). IfOk c.fill.result (λ state. state.world ≡ w)) (sym (founded_world g c.args.shard.0 inside)) c.fill.ensures.world)

pub returns-in-Resumed-clause-world : goal.returns-in-Resumed-clause-world
returns-in-Resumed-clause-world c =
    let r = c.in-Resumed.resumed in
    let sound : IsSoundStart c.args.config.now (first.Resumed r) = subst (IsSoundStart c.args.config.now) c.in-Resumed.is c.requires.sound in
    let inside : c.args.shard.0 < shards_in (start_of (first.Resumed r)) = subst (λ (s : FirstState). c.args.shard.0 < shards_in (start_of s)) c.in-Resumed.is c.requires.inside in
    let within : c.args.shard.0 < length r.worlds = omega (arith, inside, sound.start.worlds, length-map r.worlds world_from) in
    let at : c.index-inner-shard.result ≡ get_or r.worlds c.args.shard.0 c.index-inner-shard.result =
    c.index-inner-shard.is ∙ ap (λ (es : List (List Entry)). get_or es c.args.shard.0 c.index-inner-shard.result) c.inner.ensures in
    subst (λ (s : FirstState). IfOk c.from_entries.result (λ state. state.world ≡ start_world (start_of s) c.args.shard.0)) (sym c.in-Resumed.is)
    (subst (λ (w : World). IfOk c.from_entries.result (λ state. state.world ≡ w)) (sym (resumed_world r c.args.shard.0 c.index-inner-shard.result within at)) c.from_entries.ensures.world)
