-- The goals of `working::settle` that no tactic closes.
use Rattle.std.proofs.Common.{refl, sym, ◌∙◌}
use Rattle.nr_trieupdate.proofs.Moved.{stays, all_moved}
use Rattle.nr_trieupdate.proofs.working.settle.Goals as goal

pub returns-in_err-work_in-clause-moves : goal.returns-in_err-work_in-clause-moves
returns-in_err-work_in-clause-moves c = stays c.args.base.now c.work_in.new.base c.args.waiting.now c.args.waiting.now c.in_err-work_in.ensures.err c.in_err-work_in.ensures.less refl refl refl

pub returns-clause-moves : goal.returns-clause-moves
returns-clause-moves c =
    all_moved c.args.base.now c.work_in.new.base c.args.waiting.now c.clear.new.self c.in_ok-work_in.ensures.ok c.in_ok-work_in.ensures.unhashed c.clear.ensures.contents (c.clear.ensures.marks ∙ sym c.requires.marks) c.clear.ensures.spare
