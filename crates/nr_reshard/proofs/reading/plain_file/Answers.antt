-- The goals of `reading::plain_file` that no tactic closes.
use Rattle.nr_reshard.proofs.Sound.{plain_before, plain_found, plain_gives, plain_only, plain_priced, plain_whole}
use Rattle.nr_reshard.proofs.reading.plain_file.Goals as goal

pub returns-clause-gives : goal.returns-clause-gives
returns-clause-gives c =
    rw c.plain_of.ensures
    (plain_gives c.args.shards c.args.bytes.items c.read_blocks.result c.requires c.read_blocks.ensures.gives)

pub returns-clause-found : goal.returns-clause-found
returns-clause-found c =
    rw c.plain_of.ensures
    (plain_found c.args.shards c.args.bytes.items c.read_blocks.result c.requires c.read_blocks.ensures.found)

pub returns-clause-priced : goal.returns-clause-priced
returns-clause-priced c =
    rw c.plain_of.ensures
    (plain_priced c.args.shards c.args.bytes.items c.read_blocks.result c.requires c.read_blocks.ensures.priced)

pub returns-clause-whole : goal.returns-clause-whole
returns-clause-whole c =
    rw c.plain_of.ensures (plain_whole c.args.shards c.args.bytes.items c.read_blocks.result c.requires)

pub returns-clause-only : goal.returns-clause-only
returns-clause-only c = λ f ok e.
    rw c.plain_of.ensures (plain_only c.args.shards c.args.bytes.items c.read_blocks.result c.requires f e)

pub returns-clause-only_before : goal.returns-clause-only_before
returns-clause-only_before c = λ version bs are e.
    rw c.plain_of.ensures
    (plain_before c.args.shards c.args.bytes.items c.read_blocks.result c.requires bs
    (c.read_blocks.ensures.only version bs are e))
