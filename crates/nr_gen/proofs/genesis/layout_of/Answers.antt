-- The goals of `genesis::layout_of` that no tactic closes.
use Rattle.std.proofs.Common.{◌≡◌, ap, ◌∙◌}
use Rattle.nr_layout.specs.Reading.{layout_bytes}
use Rattle.nr_gen.proofs.Layouts.{fits_layout, given}
use Rattle.nr_gen.specs.Names.{boundaries}
use Rattle.nr_gen.proofs.genesis.layout_of.Goals as goal

pub returns-in-Ok : goal.returns-in-Ok
returns-in-Ok c =
    let spelled : c.inner.result.now ≡ layout_bytes (boundaries c.args.shards) = c.inner.ensures ∙ c.in_ok-bytes.ensures.spelled ∙ ap layout_bytes c.in_ok-names.ensures in
    given _ _ (c.in-Ok.ensures.only (boundaries c.args.shards) (fits_layout c.args.shards c.requires.few) spelled)
