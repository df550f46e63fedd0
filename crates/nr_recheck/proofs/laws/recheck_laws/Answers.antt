-- The goals of `laws::recheck_laws` that no tactic closes.
use Rattle.nr_recheck.proofs.Answering.{answered}
use Rattle.nr_recheck.proofs.Telling.{told_chunk}
use Rattle.nr_recheck.proofs.laws.recheck_laws.Goals as goal

pub returns-clause-tells : goal.returns-clause-tells
returns-clause-tells c = told_chunk

pub returns-clause-answers : goal.returns-clause-answers
returns-clause-answers c = λ config call g w h gathered goes. answered config g w h gathered goes c.queue_laws.ensures.passes (c.world_laws.ensures.passes config) call
