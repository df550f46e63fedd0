-- The goals of `listing::list_key` that no tactic closes.
use Rattle.std.proofs.Common.{ap, sym, ◌∙◌}
use Rattle.std.specs.Option.{is_some}
use Rattle.nr_trienodes.proofs.Pushing.{own_none, copied_some}
use Rattle.nr_trienodes.proofs.listing.list_key.Goals as goal

pub returns-then-is_none : goal.returns-then-is_none
returns-then-is_none c = own_none c.args.nodes.now c.args.node c.args.key.now c.args.keys.now.items (ap is_some (sym c.value.ensures) ∙ copied_some c.value.result ∙ c.if-is_none.ensures)
