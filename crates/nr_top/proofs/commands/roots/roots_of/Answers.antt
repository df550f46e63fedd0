-- The goals of `commands::roots::roots_of` that no tactic closes.
use Rattle.std.proofs.Common.{ap, ◌∙◌}
use Rattle.nr_chunk.specs.Runs.{chain_in}
use Rattle.nr_top.specs.Run.{loaded}
use Rattle.nr_top.proofs.BothLegs.{can_turn}
use Rattle.nr_top.proofs.commands.roots.roots_of.Goals as goal

pub add_later-requires : goal.add_later-requires
add_later-requires c =
    can_turn (loaded c.args.files) (chain_in c.in_ok-outcome.outcome.chain) c.in_ok-begun.begun.turn
    (ap (λ run. chain_in run) c.in_ok-outcome.ensures ∙ c.in_ok-begun.ensures.first) c.in_ok-begun.ensures.turn
    c.requires.can
