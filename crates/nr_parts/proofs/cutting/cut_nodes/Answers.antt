-- The goals of `cutting::cut_nodes` that no tactic closes.
use Rattle.std.proofs.Common.{sym, ◌∙◌}
use Rattle.nr_columns.specs.Entries.{pairs_of}
use Rattle.nr_parts.proofs.Cuts.{owns_pairs, form_pairs, cut_whole}
use Rattle.nr_parts.proofs.cutting.cut_nodes.Goals as goal

pub own_entries-requires : goal.own_entries-requires
own_entries-requires c = owns_pairs (pairs_of c.args.entries.now) c.args.top c.args.nodes.now c.requires.order c.requires.top c.requires.nodes ∙ sym c.usage.ensures

pub own_texts-requires-clause-form : goal.own_texts-requires-clause-form
own_texts-requires-clause-form c = form_pairs (pairs_of c.args.entries.now) c.args.nodes.now c.requires.order c.requires.nodes

pub own_texts-requires-clause-owns : goal.own_texts-requires-clause-owns
own_texts-requires-clause-owns c = owns_pairs (pairs_of c.args.entries.now) c.args.top c.args.nodes.now c.requires.order c.requires.top c.requires.nodes ∙ sym c.usage.ensures

pub returns : goal.returns
returns c = cut_whole c.args.entries.now c.args.top c.args.nodes.now c.args.count c.args.number c.hash.result c.usage.result c.in_ok-own.own c.in_ok-texts.texts c.requires.order c.requires.top c.requires.nodes c.hash.ensures c.usage.ensures c.in_ok-own.ensures c.in_ok-texts.ensures
