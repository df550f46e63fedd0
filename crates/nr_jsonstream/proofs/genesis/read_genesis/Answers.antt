-- The goals of `genesis::read_genesis` that no tactic closes.
use Rattle.std.proofs.Common.{◌≡◌, Some, option_map, ap, ◌∙◌, arith}
use Rattle.json.specs.Json as json
use Rattle.json.specs.Json.{parse_map, value}
use Rattle.json.proofs.Grammar.{value-begin_object}
use Rattle.serde_json.specs.Data.{object}
use Rattle.nr_jsonstream.proofs.Records.{genesis_is}
use Rattle.nr_jsonstream.proofs.genesis.read_genesis.Goals as goal

pub returns : goal.returns
returns c =
    let read = c.in_ok-found in
    let all_read = read.ensures in
    let ids = c.in_ok-ids.ids in
    let all = c.in_ok-all.all in
    let some_ids : read.found.boundaries ≡ Some ids = grind arith in
    let some_entries : read.found.entries ≡ Some all = grind arith in (
      json.object all_read.0,
      object all_read.1,
      ap (value 127) c.in_ok-open_object.ensures ∙ value-begin_object 127 c.open_object.new.reader (omega arith) ∙ ap (parse_map json.object) all_read.2,
      ap (option_map object) all_read.3,
      genesis_is read.found ids all all_read.1 some_ids some_entries all_read.4,
    )
