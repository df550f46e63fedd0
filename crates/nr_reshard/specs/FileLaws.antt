-- The third version is read as it is spelled: what is read is spelled so, and what is spelled so is read.
use Rattle.std.proofs.Common.{ℕ, List, Option, refl}
use Rattle.nr_blocks.specs.BlockLaws.{block_law}
use Rattle.nr_blocks.specs.FileLaws.{headed_law}
use Rattle.nr_blocks.specs.declared.block.Block.{Block}
use Rattle.nr_blocks.specs.declared.version.Version.TheVariants.{Two}
use Rattle.nr_bytes.proofs.Combined.{list_law}
use Rattle.nr_bytes.proofs.Fields.{nat_law}
use Rattle.nr_bytes.proofs.Values.{mapped_law, pair_law}
use Rattle.nr_bytes.specs.Spelling.{IsRead}
use Rattle.nr_layout.specs.LayoutLaw.{layout_law}
use Rattle.nr_records.specs.Fault.{record_fault}
use Rattle.nr_records.specs.OptionLaw.{option_law}
use Rattle.nr_reshard.specs.Files.{IsReshard, IsThird, file_of, reshard_at, reshard_bytes, reshard_of, third_at}
use Rattle.nr_reshard.specs.Files.{third_bytes, third_magic}
use Rattle.nr_reshard.specs.declared.chain_file.ChainFile.{ChainFile}
use Rattle.nr_reshard.specs.declared.reshard.Reshard.{Reshard}

-- ---- other boundaries from a height on
abbrev reshard_fields : Reshard → ℕ × List (List ℕ)
reshard_fields r = (r.height.0, r.layout)

pub reshard_law : IsRead reshard_at reshard_bytes IsReshard
unfolding reshard_at
reshard_law =
    mapped_law reshard_of reshard_fields (λ _. refl) (λ _. refl) _ _ _
    (pair_law _ _ _ _ _ _ (nat_law record_fault 8) layout_law)

-- ---- the file
abbrev file_fields : ChainFile → Option Reshard × List Block
file_fields f = (f.reshard, f.blocks)

pub third_law : IsRead third_at third_bytes IsThird
unfolding third_at
third_law =
    headed_law third_magic refl _ _ _
    (mapped_law file_of file_fields (λ _. refl) (λ _. refl) _ _ _
    (pair_law _ _ _ _ _ _ (option_law _ _ _ reshard_law) (list_law record_fault _ _ _ (block_law Two))))
