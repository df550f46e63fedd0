-- The goals of `hashing::push_cold` that no tactic closes.
use Rattle.std.proofs.Common.{◌≡◌, ◌+◌, length, refl, ap, ◌∙◌, arith}
use Rattle.nr_trienodes.proofs.Rows.{in_row}
use Rattle.nr_trienodes.proofs.Settled.{row_back}
use Rattle.nr_trienodes.proofs.Queues.{cold_nothing, pushed_more}
use Rattle.nr_trienodes.specs.Shape.{shape_at}
use Rattle.nr_trienodes.proofs.hashing.push_cold.Goals as goal

pub returns-then-not-is_inner : goal.returns-then-not-is_inner
returns-then-not-is_inner c = cold_nothing c.args.nodes.now (shape_at c.args.nodes.now c.args.id).below c.args.queue.now.items (c.is_inner.ensures c.if-not-is_inner.true)

pub push_child-requires : goal.push_child-requires
push_child-requires c = in_row (length c.args.nodes.now) c.row-row.result c.loop-i.i (row_back c.args.nodes.now c.args.id c.row-row.result c.count-count.ensures.sound c.requires c.row-row.ensures)

pub loop-i-preserved : goal.loop-i-preserved
loop-i-preserved c =
    let len : length c.row-row.result ≡ 16 = ap length c.row-row.ensures ∙ (c.count-count.ensures.sound c.args.id c.requires).sixteen in
    pushed_more c.args.nodes.now c.row-row.result c.loop-i.i (c.loop-i.i + 1) c.args.queue.now.items c.loop-i.queue.items c.push_child.new.queue.items c.loop-i.invariant (omega (arith, c.loop-i-test.true)) refl c.in_ok-push_child.ensures
