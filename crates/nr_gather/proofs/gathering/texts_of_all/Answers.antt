-- The goals of `gathering::texts_of_all` that no tactic closes.
use Rattle.std.proofs.Common.{sym, ◌∙◌}
use Rattle.nr_triedef.specs.Root.{paths}
use Rattle.nr_columns.specs.Entries.{pairs_of}
use Rattle.nr_gather.proofs.Results.{none_gathered}
use Rattle.nr_gather.proofs.gathering.texts_of_all.Goals as goal

pub returns-in-None-clause-texts : goal.returns-in-None-clause-texts
returns-in-None-clause-texts c = c.no_texts.ensures ∙ none_gathered c.args.searched.now (paths (pairs_of c.args.entries.now)) c.in_ok-top.ensures.order (sym c.in-None.is ∙ c.in_ok-top.ensures.top)
