-- What stands for a blocks file of any version is read as the file, and boundaries are those that their ids spell.
use Rattle.std.proofs.Common.{◌≡◌, ℕ, List, Option, Some, None, Ok, Err, refl, ap, sym, ◌∙◌}
use Rattle.std.specs.List.{AllByRecursion}
use Rattle.std.specs.Prelude.{codes}
use Rattle.nr_blocks.specs.declared.block.Block.{Block}
use Rattle.nr_blocks.specs.declared.version.Version.{Version}
use Rattle.nr_blocks.specs.declared.version.Version.TheVariants.{One, Two}
use Rattle.nr_blocks.specs.Judging.{with_fault}
use Rattle.nr_bytes.proofs.Whole.{whole_again}
use Rattle.nr_layout.specs.LayoutLaw.{layout_law as spelled_law}
use Rattle.nr_layout.specs.Reading.{FitsLayout, layout_at, layout_bytes}
use Rattle.nr_records.specs.Fault.{record_fault}
use Rattle.nr_records.specs.Ids.{IsId}
use Rattle.nr_records.specs.Options.{IsOption}
use Rattle.nr_records.specs.Reading.{all_of}
use Rattle.nr_records.specs.declared.fault.RecordFault.{RecordFault}
use Rattle.nr_reshard.specs.Files.{IsReshard}
use Rattle.nr_reshard.specs.declared.chain_file.ChainFile.{ChainFile}
use Rattle.nr_reshard.specs.declared.reshard.Reshard.{Reshard}
use Rattle.serde_json.specs.Data.{string}
use Rattle.nr_json.specs.Blocks.{block_json, block_of}
use Rattle.nr_json.specs.ChainFiles.{layout_in, layout_of, plain_of, reshard_members, reshard_json, reshard_of, stated_json, stated_of, third_members, third_json, third_of}
use Rattle.nr_json.specs.Faults.{fault}
use Rattle.nr_json.specs.FitsFiles.{FitsBlock, FitsStated}
use Rattle.nr_json.specs.Keys.{id_of}
use Rattle.nr_json.specs.Lists.{list_json, list_of}
use Rattle.nr_json.specs.declared.chain_file.StatedBlocks.TheVariants.{Plain, Third}
use Rattle.nr_json.specs.declared.fault.Wrong.TheVariants.{NoBoundaries}
use Rattle.nr_json.proofs.FileLaws.{block_law, blocks_case, file_with, prices_pass}
use Rattle.nr_json.proofs.PlainLaws.{Law, id_law, list_law, member_is, optional_is}

-- ---- boundaries
pub is_layout : (ids layout : List (List ℕ)) (bytes : List ℕ) → bytes ≡ layout_bytes ids → all_of layout_at bytes ≡ Ok layout → layout_in ids ≡ Ok layout
is_layout ids layout bytes same read = ap (λ (b : List ℕ). with_fault (λ (f : RecordFault). fault NoBoundaries) (all_of layout_at b)) (sym same) ∙ rw read refl

pub no_layout : (ids : List (List ℕ)) (bytes : List ℕ) (f : RecordFault) → bytes ≡ layout_bytes ids → all_of layout_at bytes ≡ Err f → layout_in ids ≡ Err (fault NoBoundaries)
no_layout ids bytes f same read = ap (λ (b : List ℕ). with_fault (λ (f : RecordFault). fault NoBoundaries) (all_of layout_at b)) (sym same) ∙ rw read refl

layout_law : Law (list_json string) layout_of FitsLayout
unfolding layout_of
layout_law ids fits =
    let read : list_of id_of (list_json string ids) ≡ Ok ids = list_law string id_of IsId id_law ids fits.1 in
    let again : all_of layout_at (layout_bytes ids) ≡ Ok ids = whole_again record_fault layout_at layout_bytes FitsLayout spelled_law ids fits in
    rw read (is_layout ids ids (layout_bytes ids) refl again)

-- ---- other boundaries
reshard_law : Law reshard_json reshard_of IsReshard
unfolding reshard_of
reshard_law r fits = rw (member_is (codes "boundaries") layout_of (reshard_members r) (list_json string r.layout) r.layout refl (layout_law r.layout fits.1)) refl

-- ---- files
abbrev chain_with : Option Reshard → List Block → ChainFile
chain_with reshard blocks = record { reshard = reshard; blocks = blocks }

third_case : (reshard : Option Reshard) (bs : List Block) → AllByRecursion (FitsBlock Two) bs → IsOption IsReshard reshard → third_of (third_json (chain_with reshard bs)) ≡ Ok (chain_with reshard bs)
unfolding third_of
third_case None bs all fits =
    rw (member_is (codes "blocks") (list_of block_of) (third_members (chain_with None bs)) (list_json block_json bs) bs refl (list_law block_json block_of (FitsBlock Two) (block_law Two) bs all), prices_pass Two 0 bs all) refl
third_case (Some r) bs all fits =
    let other = optional_is (codes "reshard") reshard_of (third_members (chain_with (Some r) bs)) (reshard_json r) r refl (reshard_law r fits) in
    rw (member_is (codes "blocks") (list_of block_of) (third_members (chain_with (Some r) bs)) (list_json block_json bs) bs refl (list_law block_json block_of (FitsBlock Two) (block_law Two) bs all), prices_pass Two 0 bs all, other) refl

third_stated : (reshard : Option Reshard) (bs : List Block) → AllByRecursion (FitsBlock Two) bs → IsOption IsReshard reshard → stated_of (third_json (chain_with reshard bs)) ≡ Ok (Third (chain_with reshard bs))
unfolding stated_of
third_stated None bs all fits = rw (third_case None bs all fits) refl
third_stated (Some r) bs all fits = rw (third_case (Some r) bs all fits) refl

plain_stated : (version : Version) (bs : List Block) → AllByRecursion (FitsBlock version) bs → stated_of (stated_json (Plain (file_with version bs))) ≡ Ok (Plain (file_with version bs))
unfolding stated_of plain_of
plain_stated One bs all = rw (blocks_case One bs all) refl
plain_stated Two bs all = rw (blocks_case Two bs all) refl

pub stated_law : Law stated_json stated_of FitsStated
stated_law (Plain file) fits = plain_stated file.version file.blocks fits
stated_law (Third file) fits = third_stated file.reshard file.blocks fits.0 fits.1
