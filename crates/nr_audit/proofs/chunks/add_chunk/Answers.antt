-- The goals of `chunks::add_chunk` that no tactic closes.
use Rattle.std.proofs.Common.{◌+◌, ap, ◌∙◌}
use Rattle.nr_chunk.specs.Chain.{place_at}
use Rattle.nr_chunk.specs.Runs.{chain_in}
use Rattle.nr_audit.proofs.Files.{both_added, chunk_named, lines_named}
use Rattle.nr_audit.proofs.chunks.add_chunk.Goals as goal

pub returns : goal.returns
returns g c =
    let x = chain_in c.args.core.now.phases in
    let stands = ap (λ p. p.height.0) (c.place-place.ensures ∙ ap (λ p. place_at (chain_in p) (c.args.below + 1)) c.phases.ensures) in
    both_added x c.args.shard.0 c.args.below c.args.archive.now c.add_named.new.archive c.add_named-2.new.archive _ _ c.in_ok-add_named.ensures c.in_ok-add_named-2.ensures
    (chunk_named x c.args.shard.0 c.args.below _ _ stands (c.inner.ensures ∙ c.requires.file))
    (lines_named x c.args.shard.0 c.args.below _ _ c.args.core.now.positions c.requires.inside c.requires.within c.requires.places stands (c.inner-2.ensures ∙ c.in_ok-lines.ensures))
