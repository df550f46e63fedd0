-- The goals of `chunks::add_if_there` that no tactic closes.
use Rattle.std.proofs.Common.{◌+◌, sym, ◌∙◌}
use Rattle.nr_chunk.specs.Chain.{rules_of}
use Rattle.nr_chunk.specs.Runs.{chain_in}
use Rattle.nr_audit.proofs.Files.{files_added, none_added, some_there}
use Rattle.nr_audit.proofs.chunks.add_if_there.Goals as goal

pub add_chunk-requires-clause-file : goal.add_chunk-requires-clause-file
add_chunk-requires-clause-file g c =
    let r = rules_of (chain_in c.args.core.now.phases) in
    (some_there (r.present c.args.shard.0 (c.args.below + 1)) _ c.in-Some.file (sym c.in-Some.is ∙ c.requires.file)).1

pub returns-in_ok-add_chunk-in-Some : goal.returns-in_ok-add_chunk-in-Some
returns-in_ok-add_chunk-in-Some g c =
    files_added (chain_in c.args.core.now.phases) c.args.shard.0 c.args.below c.args.archive.now c.add_chunk.new.archive
    c.in-Some.file (sym c.in-Some.is ∙ c.requires.file) c.in_ok-add_chunk-in-Some.ensures

pub returns-in-None : goal.returns-in-None
returns-in-None g c =
    none_added (chain_in c.args.core.now.phases) c.args.shard.0 c.args.below c.args.archive.now (sym c.in-None.is ∙ c.requires.file)
