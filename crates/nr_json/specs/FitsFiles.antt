-- Which files a JSON value can stand for: all that can be held.
use Rattle.std.specs.Prelude.{◌^◌, ◌<◌}
use Rattle.std.specs.List.{AllByRecursion}
use Rattle.nr_bytes.specs.Numbers.{IsBytes}
use Rattle.nr_blocks.specs.BlocksFiles.{IsPrice}
use Rattle.nr_blocks.specs.declared.block.Block.{Block}
use Rattle.nr_blocks.specs.declared.blocks_file.BlocksFile.{BlocksFile}
use Rattle.nr_blocks.specs.declared.version.Version.{Version}
use Rattle.nr_blocks.specs.declared.version.Version.TheVariants.{Two}
use Rattle.nr_records.specs.Ids.{IsId}
use Rattle.nr_records.specs.Options.{IsOption}
use Rattle.nr_reshard.specs.Files.{IsReshard}
use Rattle.nr_reshard.specs.declared.chain_file.ChainFile.{ChainFile}
use Rattle.nr_json.specs.Fits.{FitsHash, FitsKey, FitsPermission, FitsTransaction}
use Rattle.nr_json.specs.declared.chain_file.StatedBlocks.{StatedBlocks}
use Rattle.nr_json.specs.declared.chain_file.StatedBlocks.TheVariants.{Plain, Third}
use Rattle.nr_json.specs.declared.genesis.StatedAccount.{StatedAccount}
use Rattle.nr_json.specs.declared.genesis.StatedEntry.{StatedEntry}
use Rattle.nr_json.specs.declared.genesis.StatedEntry.TheVariants.{Account, Code, Key, Datum}
use Rattle.nr_json.specs.declared.genesis.StatedGenesis.{StatedGenesis}

-- ---- blocks
abbrev pub FitsBlock : Version → Block → Type 0
FitsBlock version b = IsPrice version b.price × AllByRecursion (IsOption (AllByRecursion FitsTransaction)) b.chunks

abbrev pub FitsBlocks : BlocksFile → Type 0
FitsBlocks file = AllByRecursion (FitsBlock file.version) file.blocks

abbrev pub FitsThird : ChainFile → Type 0
FitsThird file = AllByRecursion (FitsBlock Two) file.blocks × IsOption IsReshard file.reshard

abbrev pub FitsStated : StatedBlocks → Type 0
FitsStated (Plain file) = FitsBlocks file
FitsStated (Third file) = FitsThird file

-- ---- the first state
abbrev pub FitsAccount : StatedAccount → Type 0
FitsAccount a = (a.amount < 2 ^ 128) × (a.locked < 2 ^ 128) × IsOption FitsHash a.code_hash

abbrev pub FitsEntry : StatedEntry → Type 0
FitsEntry (Account id a) = IsId id × FitsAccount a
FitsEntry (Code id code) = IsId id × IsBytes code
FitsEntry (Key id public_key access_key) = IsId id × FitsKey public_key × FitsPermission access_key.permission
FitsEntry (Datum id key value) = IsId id × IsBytes key × IsBytes value

pub record FitsGenesis (g : StatedGenesis) : Type 0 where
  pub boundaries : AllByRecursion IsId g.boundaries
  pub entries : AllByRecursion FitsEntry g.entries
