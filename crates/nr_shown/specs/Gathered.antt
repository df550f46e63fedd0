-- A gathered chunk as a JSON value (RFC 8259), which is shown and never read. This project's own.
use Rattle.std.specs.Prelude.{codes}
use Rattle.serde_json.specs.Data.{Data, string, object, Members, no_members, put}
use Rattle.nr_gathered.specs.declared.gathered.Gathered.{Gathered}
use Rattle.nr_json.specs.Keys.{hash_json}
use Rattle.nr_json.specs.Lists.{list_json, option_json}
use Rattle.nr_json.specs.Plain.{bytes_json, number_json}
use Rattle.nr_json.specs.Transactions.{transaction_json}
use Rattle.nr_shown.specs.Receipt.{receipt_json}

-- the boundaries between the shards, the height, the time, the price, null where the block states none, and the shard
abbrev pub with_place : Gathered → Members → Members
with_place g members =
    put (codes "shard") (number_json g.shard.0)
    (put (codes "price") (option_json number_json g.price)
    (put (codes "timestamp") (number_json g.timestamp)
    (put (codes "height") (number_json g.height.0)
    (put (codes "boundaries") (list_json string g.layout) members))))

-- the transactions, the receipts that the chunk takes, and the texts
abbrev pub with_lists : Gathered → Members → Members
with_lists g members =
    put (codes "texts") (list_json bytes_json g.texts)
    (put (codes "receipts") (list_json receipt_json g.taken)
    (put (codes "transactions") (list_json transaction_json g.transactions) members))

abbrev pub gathered_members : Gathered → Members
gathered_members g = with_lists g (with_place g (put (codes "prior_root") (hash_json g.prior_root) no_members))

abbrev pub gathered_json : Gathered → Data
gathered_json g = object (gathered_members g)
