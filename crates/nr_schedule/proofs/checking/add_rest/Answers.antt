-- The goals of `checking::add_rest` that no tactic closes.
use Rattle.nr_schedule.specs.Driving.{standing_of}
use Rattle.nr_schedule.proofs.Onward.{none_told, rest_crossed, rest_ended, some_told}
use Rattle.nr_schedule.proofs.checking.add_rest.Goals as goal

pub returns-then-is_none-clause-standing : goal.returns-then-is_none-clause-standing
returns-then-is_none-clause-standing g c =
    rest_ended (standing_of c.args.driven) (standing_of c.to_end.new.driven) c.in_ok-to_end.ensures.standing
    (none_told c.to_end.new.driven.turn c.is_none.result c.is_none.ensures c.if-is_none.true)

pub returns-clause-standing : goal.returns-clause-standing
returns-clause-standing g c =
    rest_crossed (standing_of c.args.driven) (standing_of c.to_end.new.driven) (standing_of c.in_ok-after.after) (standing_of c.to_end-2.new.driven) c.in_ok-to_end.ensures.standing
    (some_told c.to_end.new.driven.turn c.is_none.result c.is_none.ensures c.if-is_none.false)
    c.in_ok-after.ensures.standing c.in_ok-to_end-2.ensures.standing
