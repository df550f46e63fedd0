-- A proof of an item of a chunk as a JSON value (RFC 8259), which is shown and never read. This project's own.
use Rattle.std.specs.Prelude.{codes}
use Rattle.serde_json.specs.Data.{Data, string, object, Members, no_members, put}
use Rattle.nr_json.specs.Keys.{hash_json}
use Rattle.nr_json.specs.Lists.{list_json}
use Rattle.nr_json.specs.Plain.{bytes_json, number_json}
use Rattle.nr_outproof.specs.declared.proof.Proof.{Proof}
use Rattle.nr_words.specs.Kinds.{kind_word}

abbrev pub stated_members : Proof → Members
stated_members p =
    put (codes "count") (number_json p.count)
    (put (codes "place") (number_json p.place)
    (put (codes "shard") (number_json p.shard.0)
    (put (codes "height") (number_json p.height.0)
    (put (codes "kind") (string (kind_word p.kind)) no_members))))

abbrev pub proof_members : Proof → Members
proof_members p =
    put (codes "path") (list_json hash_json p.path)
    (put (codes "item") (bytes_json p.item) (stated_members p))

abbrev pub proof_json : Proof → Data
proof_json p = object (proof_members p)
