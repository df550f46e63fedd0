-- The goals of `code::put_fillers` that no tactic closes.
use Rattle.nr_gen.specs.Code.{filler_body}
use Rattle.nr_gen.proofs.Lists.{joined_begins, joined_grows}
use Rattle.nr_gen.proofs.code.put_fillers.Goals as goal

pub loop-filler-init : goal.loop-filler-init
loop-filler-init c = joined_begins _ filler_body

pub loop-filler-preserved : goal.loop-filler-preserved
loop-filler-preserved c = joined_grows _ _ filler_body _ _ c.loop-filler.invariant c.in_ok-put_filler.ensures
