-- The texts of entries are those of their pairs.
use Rattle.std.proofs.Common.{◌≡◌, List}
use Rattle.std.specs.List.{flat_map}
use Rattle.std.proofs.lemmas.List.Folds.{flat_map-map}
use Rattle.nr_columns.specs.Entries.{pairs_of}
use Rattle.nr_columns.specs.declared.entry.Entry.{Entry}
use Rattle.nr_onecall.specs.Texts.{stored_text}

pub stored_texts : (entries : List Entry) → flat_map stored_text (pairs_of entries) ≡ flat_map (λ e. stored_text (e.key, e.value)) entries
stored_texts entries = flat_map-map stored_text (λ e. (e.key, e.value)) entries
