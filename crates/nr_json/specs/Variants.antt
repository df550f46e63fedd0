-- One of several forms by its name: the name alone as a text, or an object with one member of that name (RFC 8259).
-- As in NEAR's JSON.
use Rattle.std.specs.Prelude.{ℕ, List, Option, Some, None}
use Rattle.serde_json.specs.Data.{Data, null, boolean, number, string, array, object, Members, no_members, member, put}
use Rattle.nr_json.specs.Faults.{Read, member_step, within}

-- a name, and what stands under it where something does
abbrev pub Named : Type 0
Named = List ℕ × Option Data

abbrev pub only_member : Members → Option Named
only_member no_members = None
only_member (member name d no_members) = Some (name, Some d)
only_member (member name d (member other e ms)) = None

abbrev pub named : Data → Option Named
named null = None
named (boolean b) = None
named (number n) = None
named (string s) = Some (s, None)
named (array ds) = None
named (object ms) = only_member ms

abbrev pub tagged_json : List ℕ → Data → Data
tagged_json name d = object (put name d no_members)

-- what stands under the name, as a member
abbrev pub in_variant : {X : Type 0} → List ℕ → Read X → Read X
in_variant name read = within (member_step name) read
