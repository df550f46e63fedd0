-- The goals of `merging::has_key` that no tactic closes.
use Rattle.std.proofs.Common.{ap, sym, ◌∙◌}
use Rattle.std.specs.Option.{is_some}
use Rattle.std.specs.FinMap as map
use Rattle.nr_trienodes.specs.Merging.{Changing}
use Rattle.nr_trienodes.specs.Roots.{contents}
use Rattle.nr_trienodes.proofs.Counts.{copied_some}
use Rattle.nr_trienodes.proofs.merging.has_key.Goals as goal

pub returns : goal.returns
returns c =
    c.is_some.ensures ∙ sym (copied_some c.find.result) ∙ ap is_some c.find.ensures
    ∙ ap (λ (d : Changing). is_some (map.get (contents c.args.nodes.now c.args.root) d.0)) c.change.view_is
