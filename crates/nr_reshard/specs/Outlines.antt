-- Where the transactions of a file of the third version begin: what the bodies of this crate need, and no part of the
-- rules.
use Rattle.std.specs.Prelude.{List, Option}
use Rattle.nr_blocks.specs.Files.{headed}
use Rattle.nr_blocks.specs.Outlines.{outline_at}
use Rattle.nr_blocks.specs.declared.outline.Outline.{Outline}
use Rattle.nr_blocks.specs.declared.version.Version.TheVariants.{Two}
use Rattle.nr_bytes.specs.Fields.{mapped, pair}
use Rattle.nr_bytes.specs.Reading.{Input}
use Rattle.nr_records.specs.Options.{option_at}
use Rattle.nr_records.specs.Reading.{Read, list_at}
use Rattle.nr_reshard.specs.Files.{reshard_at, third_magic}
use Rattle.nr_reshard.specs.declared.reshard.Reshard.{Reshard}
use Rattle.nr_reshard.specs.declared.third.ThirdOutline.{ThirdOutline}

abbrev pub outline_of : Option Reshard × List Outline → ThirdOutline
outline_of f = record { reshard = f.0; blocks = f.1 }

-- read as the file is, with places for transactions
unfoldable pub third_outline_at : Input → Read ThirdOutline
third_outline_at = headed third_magic (mapped outline_of (pair (option_at reshard_at) (list_at (outline_at Two))))
