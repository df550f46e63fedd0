-- What holds at the loops of `listing::records_at`.
use Rattle.std.proofs.Common.{◌≡◌, take}
use Rattle.std.specs.List.{flat_map}
use Rattle.std.specs.Option.{option_and_then, option_to_list}
use Rattle.std.specs.FinMap.{get}
use Rattle.nr_records.specs.Reading.{all_of}
use Rattle.nr_columns.specs.Tables.{read_of}
use Rattle.nr_columns.proofs.listing.records_at.Given as goal

abbrev pub invariant-loop-key : goal.invariant-loop-key
invariant-loop-key g l = l.found.items ≡ flat_map (λ key. option_to_list (option_and_then (λ bytes. read_of (all_of g.T.Spelled.reading bytes)) (get (g.S.Store.contents l.store) key))) (take l.key-index l.keys)
