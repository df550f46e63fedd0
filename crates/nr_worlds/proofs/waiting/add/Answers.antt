-- The goals of `waiting::add` that no tactic closes.
use Rattle.std.proofs.Common.{◌∙◌}
use Rattle.std.specs.BTreeSet.{contains}
use Rattle.nr_columns.specs.Orders.{bytes_cmp}
use Rattle.nr_worlds.proofs.Repeated.{seen_more}
use Rattle.nr_worlds.proofs.waiting.add.Goals as goal

pub returns-clause-more : goal.returns-clause-more
returns-clause-more c = λ q. c.in_ok-insert.ensures.updates.0 q ∙ seen_more c.args.id.now.0 q (contains bytes_cmp c.args.seen.now q)
