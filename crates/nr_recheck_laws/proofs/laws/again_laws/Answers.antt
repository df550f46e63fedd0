-- The goals of `laws::again_laws` that no tactic closes.
use Rattle.nr_extract.specs.Chunk.{gathered_chunk}
use Rattle.nr_recheck_laws.proofs.Serially.{gathered_for, goes_with, serial_report}
use Rattle.nr_recheck_laws.specs.Again.{state}
use Rattle.nr_recheck_laws.proofs.laws.again_laws.Goals as goal

pub returns-clause-answers : goal.returns-clause-answers
returns-clause-answers c = λ x s below is at.
    c.recheck_laws.ensures.answers x.config x.call (gathered_chunk x s below) (state x s below) at.ids
    (gathered_for x s below is at) (goes_with x s below is at)

pub returns-clause-tells : goal.returns-clause-tells
returns-clause-tells c = λ x s below report is local at ends answered.
    serial_report x s below is at report
    (c.recheck_laws.ensures.tells x.config x.call (gathered_chunk x s below) report local at.ids ends answered)
    (goes_with x s below is at)
