-- The goals of `groups::are_grouped` that no tactic closes.
use Rattle.std.proofs.Common.{◌+◌, drop, ap, ◌∙◌, arith, refl}
use Rattle.std.proofs.lemmas.List.{drop_all}
use Rattle.nr_blocks.specs.Groups.{grouped}
use Rattle.nr_blocks.specs.Judging.{has_owner}
use Rattle.nr_blocks.proofs.Grouped.{none_known, known_on, grouped_on, owned_passes}
use Rattle.nr_blocks.proofs.Turns.{each_begins, each_ends, each_goes_on, front_of}
use Rattle.nr_blocks.proofs.groups.are_grouped.Goals as goal

pub loop-index-init : goal.loop-index-init
loop-index-init c =
    let es = c.args.entries.now in
    record { left = each_begins (has_owner es) es; known = none_known es; same = refl }

pub loop-index-preserved : goal.loop-index-preserved
loop-index-preserved c =
    let es = c.args.entries.now in
    let n = c.loop-index.index in
    let e = c.index-entries-index.result in
    let last = c.loop-index.known.now in
    let next = c.in-Some.next.now in
    let step = known_on es n e last next (omega arith) c.index-entries-index.is c.in-Some.ensures c.loop-index.invariant.known in
    record {
      left = each_goes_on (has_owner es) es n e (omega arith) c.index-entries-index.is (owned_passes es n e step.0) c.loop-index.invariant.left;
      known = step.1;
      same = c.loop-index.invariant.same ∙ ap (grouped last) (front_of es n (n + 1) e (omega arith) refl c.index-entries-index.is) ∙ grouped_on last next e (drop (n + 1) es) c.in-Some.ensures;
    }

pub returns-clause-owned : goal.returns-clause-owned
returns-clause-owned c _ = each_ends (has_owner c.args.entries.now) c.args.entries.now c.loop-index.index (omega arith) c.loop-index.invariant.left

pub returns-clause-grouped : goal.returns-clause-grouped
returns-clause-grouped c _ = c.loop-index.invariant.same ∙ ap (grouped c.loop-index.known.now) (drop_all c.loop-index.index c.args.entries.now (omega arith))
