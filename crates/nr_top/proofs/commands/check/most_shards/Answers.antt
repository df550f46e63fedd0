-- The goals of `commands::check::most_shards` that no tactic closes.
use Rattle.std.proofs.Common.{◌+◌, cond, Option, length, sym, ap, ◌∙◌}
use Rattle.std.specs.Prelude.{nat_lt}
use Rattle.nr_course.specs.Course.{turn_by}
use Rattle.nr_reshard.specs.declared.reshard.Reshard.{Reshard}
use Rattle.nr_top.specs.Plans.{most_by}
use Rattle.nr_top.proofs.commands.check.most_shards.Goals as goal

pub returns-in-Some-clause-count : goal.returns-in-Some-clause-count
returns-in-Some-clause-count c =
    let files = c.args.files.now in
    let first = length files.genesis.layout + 1 in
    c.greater.ensures.which
    ∙ (λ i. cond (nat_lt (c.shards-first.ensures.count i) (c.shards.ensures.count i)) (c.shards.ensures.count i) (c.shards-first.ensures.count i))
    ∙ sym (ap (λ (r : Option Reshard). most_by first (turn_by files.file.blocks r)) c.in-Some.is)

pub returns-in-None-clause-count : goal.returns-in-None-clause-count
returns-in-None-clause-count c =
    let files = c.args.files.now in
    c.shards-first.ensures.count
    ∙ sym (ap (λ (r : Option Reshard). most_by (length files.genesis.layout + 1) (turn_by files.file.blocks r)) c.in-None.is)
