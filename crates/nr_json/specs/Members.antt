-- The members of a JSON object (RFC 8259). This project's own.
use Rattle.std.specs.Prelude.{ℕ, List, Option, Some, None, is_some, Ok, Err, if◌then◌else◌}
use Rattle.nr_bytes.specs.Reading.{◌>>=◌}
use Rattle.serde_json.specs.Data.{Data, Members, put}
use Rattle.serde_json.specs.Find.{get, as_object}
use Rattle.nr_json.specs.Faults.{Read, fault, member_step, under, within}
use Rattle.nr_json.specs.declared.fault.Wrong.TheVariants.{Missing, NoObject}

-- what stands under a name
abbrev pub found : {X : Type 0} → List ℕ → (Data → Read X) → Option Data → Read X
found name reading None = Err (under (member_step name) (fault Missing))
found name reading (Some d) = within (member_step name) (reading d)

-- a member that must be there
abbrev pub member_of : {X : Type 0} → List ℕ → (Data → Read X) → Data → Read X
member_of name reading d = if is_some (as_object d) then found name reading (get name d) else Err (fault NoObject)

-- what stands under a name, or nothing
abbrev pub found_or_none : {X : Type 0} → List ℕ → (Data → Read X) → Option Data → Read (Option X)
found_or_none name reading None = Ok None
found_or_none name reading (Some d) = do
  x ← within (member_step name) (reading d)
  Ok (Some x)

-- a member that may be left out
abbrev pub optional_of : {X : Type 0} → List ℕ → (Data → Read X) → Data → Read (Option X)
optional_of name reading d =
    if is_some (as_object d) then found_or_none name reading (get name d) else Err (fault NoObject)

-- the members with one more, where there is something
abbrev pub with_optional : {X : Type 0} → List ℕ → (X → Data) → Option X → Members → Members
with_optional name json None ms = ms
with_optional name json (Some x) ms = put name (json x) ms
