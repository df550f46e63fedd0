-- The goals of `list::read_list` that no tactic closes.
use Rattle.std.proofs.Common.{option_map, sym, ap, ◌∙◌, arith}
use Rattle.json.specs.Json as json
use Rattle.json.specs.Json.{parse_map, value}
use Rattle.json.proofs.Grammar.{value-begin_array}
use Rattle.serde_json.specs.Data.{array}
use Rattle.serde_json.specs.View.{items_of}
use Rattle.nr_jsonstream.proofs.Records.{good, each_is}
use Rattle.nr_jsonstream.proofs.list.read_list.Goals as goal

pub returns-clause-ok : goal.returns-clause-ok
returns-clause-ok g c =
    let found = c.in_ok-items.ensures.ok in
    let ds = found.1 in (
      json.array found.0,
      array (items_of ds),
      ap (value c.args.depth) c.in_ok-open_list.ensures ∙ value-begin_array c.args.depth c.open_list.new.reader (omega arith) ∙ ap (parse_map json.array) found.2,
      ap (option_map array) found.3,
      each_is g.T.Form.reading 0 ds c.in_ok-items.items.items found.4 ∙ ap good (sym c.of.ensures),
    )
