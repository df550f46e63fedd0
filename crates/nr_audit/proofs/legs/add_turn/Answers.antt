-- The goals of `legs::add_turn` that no tactic closes.
use Rattle.std.proofs.Common.{◌++◌, ap, ◌∙◌}
use Rattle.std.specs.List.{flat_map}
use Rattle.nr_chunk.specs.Chain.{Chain}
use Rattle.nr_chunk.specs.Runs.{chain_in}
use Rattle.nr_course.specs.Course.{second}
use Rattle.nr_tar.specs.Archive.{file_bytes}
use Rattle.nr_audit.specs.Archive.{leg_files}
use Rattle.nr_audit.proofs.Alike.{turn_same}
use Rattle.nr_audit.proofs.legs.add_turn.Goals as goal

pub cross-requires : goal.cross-requires
cross-requires g c =
    turn_same c.args.core.phases c.in_ok-outcome.outcome.chain c.in_ok-outcome.ensures c.args.turn c.requires.can

pub returns : goal.returns
returns g c =
    c.in_ok-add_leg.ensures.archive
    ∙ ap (λ (x : Chain). c.args.archive.now ++ flat_map file_bytes (leg_files x))
    (c.in_ok-crossed.ensures.chain ∙ ap (λ p. second (chain_in p) c.args.turn) c.in_ok-outcome.ensures)
