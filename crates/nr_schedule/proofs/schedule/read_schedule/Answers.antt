-- The goals of `schedule::read_schedule` that no tactic closes.
use Rattle.std.proofs.Common.{◌+◌, sym, ap, ◌∙◌, arith}
use Rattle.nr_schedule.specs.Schedule.{lines_from, pieces, schedule_read}
use Rattle.nr_schedule.proofs.Pieces.{behind, from_first, line_read, line_refused, read_in_part, read_whole}
use Rattle.nr_schedule.proofs.schedule.read_schedule.Goals as goal

pub loop-line-init : goal.loop-line-init
loop-line-init c = record {
  told = ap (λ t. behind t (lines_from c.args.shards 1 (pieces 10 c.args.bytes.now))) c.new-lines.ensures.items ∙ from_first c.args.shards c.args.bytes.now;
  few = omega arith;
}

pub returns-in-None : goal.returns-in-None
returns-in-None c = λ _.
    line_refused c.args.shards c.loop-line.number c.loop-line.lines.items c.loop-line.rest.now c.in-Some.line.now c.in-Some.more.now (schedule_read c.args.shards c.args.bytes.now)
    c.in-Some.ensures.pieces (sym c.line_of.ensures ∙ c.in-None.is) c.loop-line.invariant.told

pub loop-line-preserved : goal.loop-line-preserved
loop-line-preserved c = record {
  told = ap (λ t. behind t (lines_from c.args.shards (c.loop-line.number + 1) (pieces 10 c.in-Some.more.now))) c.in_ok-push-in-Some-line_of.ensures.items
      ∙ line_read c.args.shards c.loop-line.number c.loop-line.lines.items c.loop-line.rest.now c.in-Some.line.now c.in-Some.more.now c.in-Some-line_of.line (schedule_read c.args.shards c.args.bytes.now)
      c.in-Some.ensures.pieces (sym c.line_of.ensures ∙ c.in-Some-line_of.is) c.loop-line.invariant.told;
  few = omega (arith, c.loop-line.invariant.few, c.in-Some.ensures.shorter);
}

pub returns-then-is_empty : goal.returns-then-is_empty
returns-then-is_empty c =
    read_whole c.args.shards c.loop-line.number c.loop-line.lines.items c.loop-line.rest.now (schedule_read c.args.shards c.args.bytes.now) c.in_default.ensures.pieces c.if-is_empty.ensures c.loop-line.invariant.told

pub returns-else-is_empty : goal.returns-else-is_empty
returns-else-is_empty c = λ _.
    read_in_part c.args.shards c.loop-line.number c.loop-line.lines.items c.loop-line.rest.now (schedule_read c.args.shards c.args.bytes.now) c.in_default.ensures.pieces c.if-is_empty.ensures c.loop-line.invariant.told
