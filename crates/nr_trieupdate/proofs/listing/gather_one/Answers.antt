-- The goals of `listing::gather_one` that no tactic closes.
use Rattle.std.proofs.Common.{ap, sym, ◌∙◌}
use Rattle.std.specs.Option.{option_copied}
use Rattle.nr_trieupdate.specs.Overlays.{over}
use Rattle.nr_trieupdate.proofs.Overlays.{gathered_none, gathered_some}
use Rattle.nr_trieupdate.proofs.listing.gather_one.Goals as goal

pub returns-in-None : goal.returns-in-None
returns-in-None c = λ keys h.
    gathered_none (over c.args.changes.now.contents c.args.base.now.contents) c.args.found.now.contents c.args.key.now keys
    (sym c.value_at.ensures ∙ ap option_copied c.in-None.is) h

pub returns-in_ok-set-in-Some : goal.returns-in_ok-set-in-Some
returns-in_ok-set-in-Some c = λ keys h.
    gathered_some (over c.args.changes.now.contents c.args.base.now.contents) c.args.found.now.contents c.set.new.self.contents c.args.key.now keys c.in-Some.value.now
    c.in_ok-set-in-Some.ensures.ok (sym c.value_at.ensures ∙ ap option_copied c.in-Some.is) h
