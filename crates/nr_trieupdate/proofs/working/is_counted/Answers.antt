-- The goals of `working::is_counted` that no tactic closes.
use Rattle.std.proofs.Common.{ap, sym, ◌∙◌}
use Rattle.std.specs.Option.{is_some}
use Rattle.nr_trienodes.proofs.Counts.{copied_some}
use Rattle.nr_trieupdate.proofs.Overlays.{joined_waiting, joined_there}
use Rattle.nr_trieupdate.proofs.working.is_counted.Goals as goal

pub returns-then-is_some : goal.returns-then-is_some
returns-then-is_some c = λ _.
    joined_waiting c.args.changes.now.contents c.args.base.now.contents c.args.key.now
    (ap is_some (sym c.get-waiting.ensures) ∙ copied_some c.get-waiting.result ∙ sym c.if-is_some.ensures)

pub returns : goal.returns
returns c = λ e.
    joined_there c.args.changes.now.contents c.args.base.now.contents c.args.key.now
    (ap is_some (sym c.get-found.ensures) ∙ copied_some c.get-found.result ∙ sym c.is_some-2.ensures ∙ e)
