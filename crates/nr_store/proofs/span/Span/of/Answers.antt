-- The goals of `span::Span::of` that no tactic closes.
use Rattle.std.proofs.Common.{sym, subst}
use Rattle.nr_store.specs.Tries.{CanWalk}
use Rattle.nr_store.proofs.Orders.{behind_none}
use Rattle.nr_store.proofs.span.Span.of.Goals as goal

pub invariant_of-result : goal.invariant_of-result
invariant_of-result c = subst CanWalk (sym (behind_none c.args.entries.now)) c.requires

pub returns : goal.returns
returns c = behind_none c.args.entries.now
