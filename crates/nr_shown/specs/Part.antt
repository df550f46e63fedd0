-- A part of a state as a JSON value (RFC 8259), which is shown and never read. This project's own.
use Rattle.std.specs.Prelude.{codes}
use Rattle.serde_json.specs.Data.{Data, object, Members, no_members, put}
use Rattle.nr_columns.specs.declared.entry.Entry.{Entry}
use Rattle.nr_json.specs.Keys.{hash_json}
use Rattle.nr_json.specs.Lists.{list_json}
use Rattle.nr_json.specs.Plain.{bytes_json, number_json}
use Rattle.nr_parts.specs.declared.part.Part.{Part}

abbrev pub entry_members : Entry → Members
entry_members e = put (codes "value") (bytes_json e.value) (put (codes "key") (bytes_json e.key) no_members)

abbrev pub entry_json : Entry → Data
entry_json e = object (entry_members e)

abbrev pub part_members : Part → Members
part_members p =
    put (codes "texts") (list_json bytes_json p.texts)
    (put (codes "entries") (list_json entry_json p.entries)
    (put (codes "number") (number_json p.number)
    (put (codes "count") (number_json p.count)
    (put (codes "root") (hash_json p.root) no_members))))

abbrev pub part_json : Part → Data
part_json p = object (part_members p)
