-- What holds at the loop of `genesis::read_members`, and what falls.
use Rattle.std.proofs.Common.{ℕ, ◌≤◌, length}
use Rattle.json.specs.Json.{value}
use Rattle.serde_json.specs.Data.{Members}
use Rattle.nr_jsonstream.specs.Stream.{Holds}
use Rattle.nr_jsonstream.proofs.Reading.{MembersLead}
use Rattle.nr_jsonstream.proofs.genesis.read_members.Given as goal

abbrev pub invariant-members : goal.invariant-members
invariant-members l =
    (n : ℕ) × (old : Members) × (length l.reader ≤ n) × MembersLead (value 126) l.initial.reader old n l.reader × Holds l.found old

abbrev pub decreases-members : goal.decreases-members
decreases-members l = length l.reader
