-- What holds at the loop of `list::read_items`, and what falls.
use Rattle.std.proofs.Common.{◌≡◌, ℕ, ◌≤◌, List, length, map, Ok}
use Rattle.json.specs.Json.{value}
use Rattle.serde_json.specs.Data.{Data}
use Rattle.nr_jsonstream.proofs.Reading.{ItemsLead}
use Rattle.nr_jsonstream.proofs.list.read_items.Given as goal

abbrev pub invariant-items : goal.invariant-items
invariant-items g l =
    (n : ℕ) × (ds : List Data) × (length l.reader ≤ n) × ItemsLead (value l.depth) l.initial.reader ds n l.reader
    × (map g.T.Form.reading ds ≡ map Ok l.found.items) × (length l.reader ≤ length l.initial.reader)

abbrev pub decreases-items : goal.decreases-items
decreases-items g l = length l.reader
