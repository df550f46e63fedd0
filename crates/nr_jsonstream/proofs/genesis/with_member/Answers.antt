-- The goals of `genesis::with_member` that no tactic closes.
use Rattle.serde_json.specs.View.{view}
use Rattle.nr_jsonstream.proofs.Records.{with_boundaries, with_entries, with_other}
use Rattle.nr_jsonstream.proofs.genesis.with_member.Goals as goal

pub returns-in_ok-ids-in-Boundaries-clause-ok : goal.returns-in_ok-ids-in-Boundaries-clause-ok
returns-in_ok-ids-in-Boundaries-clause-ok c =
    let read = c.in_ok-ids-in-Boundaries in
    let is = read.ensures.ok in (
      is.0,
      is.1,
      is.2,
      is.3,
      λ ms held. with_boundaries c.args.found c.args.name.now is.1 ms read.ids c.in-Boundaries.ensures is.4 held,
    )

pub returns-in_ok-all-in-Entries-clause-ok : goal.returns-in_ok-all-in-Entries-clause-ok
returns-in_ok-all-in-Entries-clause-ok c =
    let read = c.in_ok-all-in-Entries in
    let is = read.ensures.ok in (
      is.0,
      is.1,
      is.2,
      is.3,
      λ ms held. with_entries c.args.found c.args.name.now is.1 ms read.all c.in-Entries.ensures is.4 held,
    )

pub returns-in_ok-passed-in-Other-clause-ok : goal.returns-in_ok-passed-in-Other-clause-ok
returns-in_ok-passed-in-Other-clause-ok c =
    let read = c.in_ok-passed-in-Other in
    let is = read.ensures.ok in
    let d = view read.passed in
    (is.0, d, is.1, is.2, λ ms held. with_other c.args.found c.args.name.now d ms c.in-Other.ensures held)
