-- What a blocks file of any version spells, by Borsh 1.0. The files are this project's own.
use Rattle.std.specs.Prelude.{ℕ, ◌==◌, List, Result, Ok, if◌then◌else◌}
use Rattle.std.specs.List.{starts_with}
use Rattle.nr_blocks.specs.Files.{blocks_at, blocks_bytes}
use Rattle.nr_bytes.specs.Reading.{◌>>=◌}
use Rattle.nr_json.specs.declared.chain_file.StatedBlocks.{StatedBlocks}
use Rattle.nr_json.specs.declared.chain_file.StatedBlocks.TheVariants.{Plain, Third}
use Rattle.nr_records.specs.Reading.{all_of}
use Rattle.nr_records.specs.declared.fault.RecordFault.{RecordFault}
use Rattle.nr_reshard.specs.Files.{third_at, third_bytes, third_magic}

abbrev pub stated_bytes : StatedBlocks → List ℕ
stated_bytes (Plain file) = blocks_bytes file
stated_bytes (Third file) = third_bytes file

abbrev pub third_read : List ℕ → Result StatedBlocks RecordFault
third_read bytes = do
  file ← all_of third_at bytes
  Ok (Third file)

abbrev pub plain_read : List ℕ → Result StatedBlocks RecordFault
plain_read bytes = do
  file ← all_of blocks_at bytes
  Ok (Plain file)

-- what all of the bytes spell, or the fault of the first field that can't be read
unfoldable pub blocks_read : List ℕ → Result StatedBlocks RecordFault
blocks_read bytes = if starts_with ◌==◌ bytes third_magic then third_read bytes else plain_read bytes
