-- The goals of `filling::entries_bytes` that no tactic closes.
use Rattle.std.proofs.Common.{◌∙◌, ◌++◌, ap, List}
use Rattle.std.specs.List.{flat_map}
use Rattle.nr_blocks.specs.GenesisFiles.{entry_bytes}
use Rattle.nr_blocks.specs.declared.genesis_entry.GenesisEntry.{GenesisEntry}
use Rattle.nr_files.proofs.Sums.{filled_by}
use Rattle.nr_files.proofs.filling.entries_bytes.Goals as goal

pub returns : goal.returns
returns c =
    c.in_ok-write_entries.ensures
    ∙ ap (λ (es : List GenesisEntry). c.args.writer.now ++ flat_map entry_bytes es) (filled_by c.args.config.now c.args.entries.now _ _ c.in_ok-usages.ensures c.in_ok-hashes.ensures)
