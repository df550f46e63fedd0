-- What holds at the loops of `files::put_texts`.
use Rattle.std.proofs.Common.{◌≡◌, ◌++◌, take}
use Rattle.std.specs.List.{AllByRecursion, flat_map}
use Rattle.nr_bytes.specs.Spelling.{IsCounted}
use Rattle.nr_bytes.specs.Writing.{counted_bytes}
use Rattle.nr_parts.proofs.files.put_texts.Given as goal

abbrev pub invariant-loop-text : goal.invariant-loop-text
invariant-loop-text l = record {
  value : l.writer ≡ l.initial.writer ++ flat_map counted_bytes (take l.text-index l.texts);
  small : AllByRecursion IsCounted (take l.text-index l.texts);
}
