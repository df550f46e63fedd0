-- The goals of `extracting::chunk_of` that no tactic closes.
use Rattle.std.proofs.Common.{ap, ◌∙◌}
use Rattle.std.specs.FinMap.{entries}
use Rattle.std.specs.Option.{option_copied}
use Rattle.nr_chunk.specs.Locality.{touched}
use Rattle.nr_gather.specs.Gathered.{gathered, root_in}
use Rattle.nr_state.specs.Flat.{flat}
use Rattle.nr_stateless.specs.Accounts.{searched_of}
use Rattle.nr_triedef.specs.Root.{paths}
use Rattle.nr_extract.proofs.Chunks.{chunk_is}
use Rattle.nr_extract.proofs.extracting.chunk_of.Goals as goal

pub returns-clause-chunk : goal.returns-clause-chunk
returns-clause-chunk g c =
    chunk_is c.args.core.now.phases c.phases-chain.result.now c.args.shard c.args.below
    c.args.world.now c.root_of_gathered.result c.in_ok-duplicate.field-0 c.place-place.result (option_copied c.block-block.result) c.stated_price.result c.in_ok-transactions.transactions c.in_ok-taken.taken c.in_ok-texts.texts
    c.phases-chain.ensures c.requires.world (c.in_ok-duplicate.ensures ∙ c.layout.ensures) c.place-place.ensures c.block-block.ensures c.stated_price.ensures c.in_ok-transactions.ensures c.in_ok-taken.ensures
    (c.in_ok-texts.ensures.texts ∙ (λ i. gathered (searched_of (touched c.args.world.now.world (c.inner.ensures i) (c.inner-2.ensures i))) (paths (entries (flat c.args.world.now.world)))))
    (c.root_of_gathered.ensures ∙ ap root_in c.inner-3.ensures ∙ c.in_ok-texts.ensures.root)
