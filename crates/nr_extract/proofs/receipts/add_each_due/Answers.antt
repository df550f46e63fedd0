-- The goals of `receipts::add_each_due` that no tactic closes.
use Rattle.std.proofs.Common.{◌<◌, length, arith}
use Rattle.std.proofs.lemmas.Option.{slice_get-get_or}
use Rattle.nr_chunk.specs.Chain.{rules_of}
use Rattle.nr_chunk.specs.Runs.{chain_in}
use Rattle.nr_extract.proofs.Taking.{due_inside}
use Rattle.nr_extract.proofs.receipts.add_each_due.Goals as goal

pub add_due-requires-clause-from : goal.add_due-requires-clause-from
add_due-requires-clause-from g c =
    let here : c.loop-due.due-index < length c.args.dues.now = omega (arith, c.loop-due-test.true, c.loop-due.auto.due-index-end) in
    (due_inside (rules_of (chain_in c.args.core.now.phases)) c.args.shard.0 c.args.below c.loop-due.due-index c.args.dues.now _ c.requires.dues (slice_get-get_or c.args.dues.now c.loop-due.due-index _ here)).0

pub add_due-requires-clause-to : goal.add_due-requires-clause-to
add_due-requires-clause-to g c =
    let here : c.loop-due.due-index < length c.args.dues.now = omega (arith, c.loop-due-test.true, c.loop-due.auto.due-index-end) in
    (due_inside (rules_of (chain_in c.args.core.now.phases)) c.args.shard.0 c.args.below c.loop-due.due-index c.args.dues.now _ c.requires.dues (slice_get-get_or c.args.dues.now c.loop-due.due-index _ here)).1.0

pub add_due-requires-clause-source : goal.add_due-requires-clause-source
add_due-requires-clause-source g c =
    let here : c.loop-due.due-index < length c.args.dues.now = omega (arith, c.loop-due-test.true, c.loop-due.auto.due-index-end) in
    (due_inside (rules_of (chain_in c.args.core.now.phases)) c.args.shard.0 c.args.below c.loop-due.due-index c.args.dues.now _ c.requires.dues (slice_get-get_or c.args.dues.now c.loop-due.due-index _ here)).1.1
