-- The goals of `sweeping::looked_texts` that no tactic closes.
use Rattle.std.proofs.Common.{◌-◌, ◌+◌, ap, ◌∙◌, arith}
use Rattle.nr_triedef.specs.Node.{IsNode}
use Rattle.nr_triedef.specs.Root.{paths}
use Rattle.nr_columns.specs.Entries.{pairs_of}
use Rattle.nr_gather.proofs.Turning.{passed_by, looked_at, all_behind}
use Rattle.nr_gather.proofs.sweeping.looked_texts.Goals as goal
use Rattle.nr_gather.proofs.sweeping.looked_texts.Goals.{then-passed-gt0, else-passed-gt0+in-Some+in_ok-passed-in-Some}

pub loop-node-preserved : goal.loop-node-preserved
loop-node-preserved c =
    elim c.if-passed-gt0.branch [
      | then-passed-gt0 w ↦ rw (w.texts-is, w.waiting-is, w.sought-is, w.passed-is) (record {
        same = c.loop-node.invariant.same;
        so_far =
            passed_by c.args.searched.now c.args.nodes.now c.loop-node.node-index c.node-item.result c.loop-node.texts.items _ c.loop-node.passed _ c.loop-node.waiting (paths (pairs_of c.loop-node.rest.now)) _ c.loop-node-test.true c.node-item.is
            w.if-passed-gt0.true (ap (λ n. c.loop-node.passed - 1 + n) w.count_of.ensures.value) c.behind-rest.ensures c.loop-node.invariant.so_far;
        few = omega (arith, c.loop-node.invariant.few, w.count_of.ensures.few, w.if-passed-gt0.true);
        form = all_behind IsNode c.args.nodes.now c.loop-node.node-index c.node-item.result c.loop-node-test.true c.node-item.is c.loop-node.invariant.form;
      })
      | else-passed-gt0+in-Some+in_ok-passed-in-Some w ↦ rw (w.texts-is, w.waiting-is, w.sought-is, w.passed-is) (record {
        same = w.in_ok-passed-in-Some.ensures.same ∙ c.loop-node.invariant.same;
        so_far =
            looked_at c.args.searched.now c.loop-node.sought c.args.nodes.now c.loop-node.node-index c.node-item.result c.loop-node.texts.items w.look.new.texts.items _ c.loop-node.passed w.in_ok-passed-in-Some.passed c.loop-node.waiting
            w.pop.new.self w.look.new.waiting w.in-Some.spot (paths (pairs_of c.loop-node.rest.now)) _ c.loop-node-test.true c.node-item.is (omega (arith, w.if-passed-gt0.false)) c.loop-node.invariant.same w.in-Some.ensures c.behind-rest.ensures
            w.in_ok-passed-in-Some.ensures.value c.loop-node.invariant.so_far;
        few = omega (arith, w.in_ok-passed-in-Some.ensures.few);
        form = all_behind IsNode c.args.nodes.now c.loop-node.node-index c.node-item.result c.loop-node-test.true c.node-item.is c.loop-node.invariant.form;
      })
    ]
