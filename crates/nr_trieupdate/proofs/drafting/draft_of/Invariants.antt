-- What holds at the loops of `drafting::draft_of`.
use Rattle.std.proofs.Common.{◌≤◌, ◌-◌, length, take}
use Rattle.nr_trieupdate.proofs.Drafts.{IsDraft}
use Rattle.nr_trieupdate.proofs.drafting.draft_of.Given as goal

abbrev pub invariant-on : goal.invariant-on
invariant-on l = record {
  within : l.done ≤ length l.changes;
  draft : IsDraft l.fn.nodes l.nodes l.fn.top l.top l.draft (take l.done l.changes) l.limits;
}

abbrev pub decreases-on : goal.decreases-on
decreases-on l = length l.changes - l.done
