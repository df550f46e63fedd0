-- The goals of `drafting::merge_some` that no tactic closes.
use Rattle.std.proofs.Common.{Err, ap, length, arith}
use Rattle.nr_trieupdate.proofs.Drafts.{some_fit}
use Rattle.nr_trieupdate.proofs.drafting.merge_some.Goals as goal

pub returns-in-Ok-clause-some : goal.returns-in-Ok-clause-some
returns-in-Ok-clause-some c = some_fit (length c.args.nodes.now) c.fitting-count.result c.args.changes.now c.requires.room c.requires.some c.requires.short c.fitting-count.ensures.most

pub unreachable-requires : goal.unreachable-requires
unreachable-requires c =
    let full = c.in-Err-Full.ensures.full.only c.in-Err-Full.field-0-0 (ap Err c.in-Err-Full.field-0-is) in
    omega (arith, c.fitting-count.ensures.room)
