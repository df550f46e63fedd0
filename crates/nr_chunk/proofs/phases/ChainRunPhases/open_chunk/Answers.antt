-- The goals of `phases::ChainRunPhases::open_chunk` that no tactic closes.
use Rattle.std.proofs.Common.{List, [], ◌≡◌, sym, ap, subst, ◌∙◌}
use Rattle.std.specs.Prelude.{unwrap_or}
use Rattle.nr_chunk.specs.Chain.{Chain, chunk_at, opened_first, place_at}
use Rattle.nr_chunk.specs.Chunk.{begun, open_chunk, serve_all}
use Rattle.nr_chunk.specs.Lawful.{can_take_carried}
use Rattle.nr_chunk.specs.Runs.{chain_in}
use Rattle.nr_chunk.specs.Serving.{CanServe}
use Rattle.nr_chunk.specs.Views.{Kept, Working}
use Rattle.nr_chunk.specs.Works.{working_of}
use Rattle.nr_chunk.proofs.Lent.{lent_or}
use Rattle.nr_chunk.proofs.Started.{chunk_below}
use Rattle.nr_chunk.proofs.phases.ChainRunPhases.open_chunk.Goals as goal
use Rattle.nr_records.specs.declared.receipt.Receipt.{Receipt}

pub place_at-place-requires : goal.place_at-place-requires
place_at-place-requires g c =
    chunk_below (chain_in c.args.self.now) c.args.shard.0 c.args.height.0 c.requires.there

pub serve_all-requires-clause-can : goal.serve_all-requires-clause-can
serve_all-requires-clause-can g c =
    let x : Chain = chain_in c.args.self.now in
    let txs : c.unwrap_or-txs.result.now ≡ unwrap_or (chunk_at x c.args.shard.0 c.args.height.0) [] =
    ap (λ b. b.now) c.unwrap_or-txs.ensures ∙ lent_or c.chunk_at.result _ ∙ ap (λ o. unwrap_or o []) (c.chunk_at.ensures x c.inner.ensures) in
    let first : working_of c.in_ok-work.work ≡ opened_first x c.args.shard.0 c.args.height.0 c.args.world =
    c.in_ok-work.ensures.opened
    ∙ ap (λ (w : Kept). open_chunk x.config x.call (begun w c.args.shard c.place_at-place.result) c.unwrap_or-txs.result.now) c.world.view_is
    ∙ ap (λ p. open_chunk x.config x.call (begun c.args.world c.args.shard p) c.unwrap_or-txs.result.now) c.place_at-place.ensures
    ∙ ap (λ t. open_chunk x.config x.call (begun c.args.world c.args.shard (place_at x c.args.height.0)) t) txs in
    subst (λ (k : Working). CanServe x.config k c.world.inside.carried) (sym first)
    (subst (λ (list : List Receipt). CanServe x.config (opened_first x c.args.shard.0 c.args.height.0 c.args.world) list) (sym (ap (λ (w : Kept). w.carried) c.world.view_is))
    (can_take_carried x c.known.ensures c.args.shard.0 c.args.height.0 c.args.world c.requires))

pub returns : goal.returns
returns g c =
    let x : Chain = chain_in c.args.self.now in
    let txs : c.unwrap_or-txs.result.now ≡ unwrap_or (chunk_at x c.args.shard.0 c.args.height.0) [] =
    ap (λ b. b.now) c.unwrap_or-txs.ensures ∙ lent_or c.chunk_at.result _ ∙ ap (λ o. unwrap_or o []) (c.chunk_at.ensures x c.inner.ensures) in
    let first : working_of c.in_ok-work.work ≡ opened_first x c.args.shard.0 c.args.height.0 c.args.world =
    c.in_ok-work.ensures.opened
    ∙ ap (λ (w : Kept). open_chunk x.config x.call (begun w c.args.shard c.place_at-place.result) c.unwrap_or-txs.result.now) c.world.view_is
    ∙ ap (λ p. open_chunk x.config x.call (begun c.args.world c.args.shard p) c.unwrap_or-txs.result.now) c.place_at-place.ensures
    ∙ ap (λ t. open_chunk x.config x.call (begun c.args.world c.args.shard (place_at x c.args.height.0)) t) txs in
    c.in_ok-serve_all.ensures.served
    ∙ ap (λ (k : Working). serve_all x.config x.call k c.world.inside.carried) first
    ∙ ap (λ (w : Kept). serve_all x.config x.call (opened_first x c.args.shard.0 c.args.height.0 c.args.world) w.carried) c.world.view_is
