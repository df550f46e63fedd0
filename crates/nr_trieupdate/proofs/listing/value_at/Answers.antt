-- The goals of `listing::value_at` that no tactic closes.
use Rattle.std.proofs.Common.{ap, sym, ◌∙◌}
use Rattle.std.specs.Option.{option_copied}
use Rattle.nr_trieupdate.proofs.Stored.{found_new, found_held}
use Rattle.nr_trieupdate.proofs.listing.value_at.Goals as goal

pub returns-in-None : goal.returns-in-None
returns-in-None c =
    found_new c.args.changes.now.contents c.args.base.now.contents c.args.key.now (option_copied c.get-in-None.result)
    (sym c.get.ensures ∙ ap option_copied c.in-None.is) c.get-in-None.ensures

pub returns-in-Some : goal.returns-in-Some
returns-in-Some c =
    found_held c.args.changes.now.contents c.args.base.now.contents c.args.key.now c.in-Some.held.now (option_copied c.value_in.result)
    (sym c.get.ensures ∙ ap option_copied c.in-Some.is) c.value_in.ensures
