-- The bytes of a file of the third version, from those of one of the second.
use Rattle.std.proofs.Common.{◌≡◌, ℕ, List, ◌++◌, drop, Option, Result, Ok, Err, IfOk, ap, ◌∙◌}
use Rattle.nr_blocks.specs.BlocksFiles.{block_bytes}
use Rattle.nr_blocks.specs.Files.{blocks_bytes}
use Rattle.nr_blocks.specs.declared.block.Block.{Block}
use Rattle.nr_blocks.specs.declared.blocks_file.BlocksFile.{BlocksFile}
use Rattle.nr_blocks.specs.declared.version.Version.TheVariants.{Two}
use Rattle.nr_bytes.specs.Spelling.{list}
use Rattle.nr_records.specs.Options.{option_bytes}
use Rattle.nr_reshard.specs.Files.{reshard_bytes, third_bytes, third_magic}
use Rattle.nr_reshard.specs.declared.chain_file.ChainFile.{ChainFile}
use Rattle.nr_reshard.specs.declared.reshard.Reshard.{Reshard}

abbrev pub second_of : List Block → BlocksFile
second_of blocks = record { version = Two; blocks = blocks }

abbrev pub third_of : Option Reshard → List Block → ChainFile
third_of reshard blocks = record { reshard = reshard; blocks = blocks }

-- what stands behind the first four bytes of a file of the second version
behind_word : (blocks : List Block) (second lent rest : List ℕ) → second ≡ blocks_bytes (second_of blocks) → lent ≡ second
    → rest ≡ drop 4 lent → rest ≡ list block_bytes blocks
behind_word blocks second lent rest is same behind = behind ∙ ap (λ (l : List ℕ). drop 4 l) (same ∙ is)

pub third_is : {E : Type 0} (reshard : Option Reshard) (blocks : List Block) (second lent rest : List ℕ)
    (r : Result (List ℕ) E) → second ≡ blocks_bytes (second_of blocks) → lent ≡ second → rest ≡ drop 4 lent
    → IfOk r (λ bytes. bytes ≡ third_magic ++ (option_bytes reshard_bytes reshard ++ rest))
    → IfOk r (λ bytes. bytes ≡ third_bytes (third_of reshard blocks))
third_is reshard blocks second lent rest (Ok bytes) is same behind joined =
    joined ∙ ap (λ (l : List ℕ). third_magic ++ (option_bytes reshard_bytes reshard ++ l)) (behind_word blocks second lent rest is same behind)
third_is reshard blocks second lent rest (Err e) is same behind joined = tt
