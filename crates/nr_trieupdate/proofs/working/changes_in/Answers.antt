-- The goals of `working::changes_in` that no tactic closes.
use Rattle.nr_trieupdate.proofs.Overlays.{short_changes}
use Rattle.nr_trieupdate.proofs.working.changes_in.Goals as goal

pub returns-in_err-entries-clause-short : goal.returns-in_err-entries-clause-short
returns-in_err-entries-clause-short c = short_changes c.args.waiting.now.contents c.sizes.ensures

pub returns-in_err-list-clause-short : goal.returns-in_err-list-clause-short
returns-in_err-list-clause-short c = short_changes c.args.waiting.now.contents c.sizes.ensures
