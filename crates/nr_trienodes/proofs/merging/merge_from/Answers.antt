-- The goals of `merging::merge_from` that no tactic closes.
use Rattle.std.proofs.Common.{ap, arith}
use Rattle.nr_trienodes.specs.Merging.{Changing}
use Rattle.nr_trienodes.proofs.Sets.{extends_trans}
use Rattle.nr_trienodes.proofs.Merged.{merging_done, merging_on}
use Rattle.nr_trienodes.proofs.merging.merge_from.Goals as goal

pub returns-in_err-count_in-clause-grows : goal.returns-in_err-count_in-clause-grows
returns-in_err-count_in-clause-grows c = extends_trans c.args.nodes.now c.loop-change.nodes c.count_in.new.nodes c.loop-change.invariant.grows c.count_in.ensures.grows

pub loop-change-preserved : goal.loop-change-preserved
loop-change-preserved c = merging_on c.args.nodes.now c.loop-change.nodes c.count_in.new.nodes c.args.root c.args.changes.now c.loop-change.change-index _ c.loop-change.last.now c.change.inside.key.now c.loop-change.way c.count_in.new.way c.args.count.now c.loop-change.count c.count_in.new.count c.loop-change-test.true c.change-item.is c.loop-change.invariant c.in_ok-count_in.ensures.alters c.in_ok-count_in.ensures.along c.in_ok-count_in.ensures.counts (ap (λ (d : Changing). d.0) c.change.view_is)

pub returns-in_err-id-clause-grows : goal.returns-in_err-id-clause-grows
returns-in_err-id-clause-grows c = extends_trans c.args.nodes.now c.loop-change.nodes c.finish.new.nodes c.loop-change.invariant.grows c.finish.ensures.grows

pub returns-clause-merges : goal.returns-clause-merges
returns-clause-merges c = merging_done c.args.nodes.now c.loop-change.nodes c.finish.new.nodes c.args.root c.in_ok-id.id c.args.changes.now c.loop-change.change-index c.loop-change.last.now c.loop-change.way c.args.count.now c.loop-change.count c.loop-change.invariant (omega arith) c.in_ok-id.ensures.there c.in_ok-id.ensures.same c.in_ok-id.ensures.few c.in_ok-id.ensures.cost

pub returns-clause-grows : goal.returns-clause-grows
returns-clause-grows c = extends_trans c.args.nodes.now c.loop-change.nodes c.finish.new.nodes c.loop-change.invariant.grows c.finish.ensures.grows
