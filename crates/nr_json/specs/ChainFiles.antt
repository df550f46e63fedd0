-- The blocks of a chain, in a file of any version, as a JSON value: in the third one with other boundaries from a
-- height on, if there are any. This project's own.
use Rattle.std.specs.Prelude.{ℕ, ◌==◌, List, Bool, false, Option, Some, None, option_and_then, Ok, Err, if◌then◌else◌}
use Rattle.std.specs.Prelude.{codes}
use Rattle.nr_bytes.specs.Reading.{◌>>=◌}
use Rattle.nr_blocks.specs.Judging.{each, with_fault}
use Rattle.nr_blocks.specs.declared.version.Version.TheVariants.{Two}
use Rattle.nr_layout.specs.Reading.{layout_at, layout_bytes}
use Rattle.nr_records.specs.Reading.{all_of}
use Rattle.nr_reshard.specs.declared.chain_file.ChainFile.{ChainFile}
use Rattle.nr_reshard.specs.declared.reshard.Reshard.{Reshard}
use Rattle.serde_json.specs.Data.{Data, string, object, Members, no_members, put}
use Rattle.serde_json.specs.Find.{get, as_number, as_u64}
use Rattle.nr_json.specs.Blocks.{block_json, block_of, blocks_json, blocks_of, has_price}
use Rattle.nr_json.specs.Faults.{Read, fault, member_step, under}
use Rattle.nr_json.specs.Keys.{id_of}
use Rattle.nr_json.specs.Lists.{list_json, list_of}
use Rattle.nr_json.specs.Members.{member_of, optional_of, with_optional}
use Rattle.nr_json.specs.Plain.{number_json, number_of}
use Rattle.nr_json.specs.declared.chain_file.StatedBlocks.{StatedBlocks}
use Rattle.nr_json.specs.declared.chain_file.StatedBlocks.TheVariants.{Plain, Third}
use Rattle.nr_json.specs.declared.fault.Wrong.TheVariants.{NoBoundaries, NoReshard}

-- ---- boundaries: the layout that the ids spell
abbrev pub layout_in : List (List ℕ) → Read (List (List ℕ))
layout_in ids = with_fault (λ f. fault NoBoundaries) (all_of layout_at (layout_bytes ids))

unfoldable pub layout_of : Data → Read (List (List ℕ))
layout_of d = do
  ids ← list_of id_of d
  layout_in ids

-- ---- other boundaries from a height on
abbrev pub reshard_members : Reshard → Members
reshard_members r =
    put (codes "boundaries") (list_json string r.layout) (put (codes "height") (number_json r.height.0) no_members)

abbrev pub reshard_json : Reshard → Data
reshard_json r = object (reshard_members r)

unfoldable pub reshard_of : Data → Read Reshard
reshard_of d = do
  height ← member_of (codes "height") number_of d
  layout ← member_of (codes "boundaries") layout_of d
  Ok (record { height = record { 0 = height }; layout = layout })

-- ---- a file of the third version, in which each block has a price
abbrev pub third_members : ChainFile → Members
third_members f =
    with_optional (codes "reshard") reshard_json f.reshard
    (put (codes "version") (number_json 3) (put (codes "blocks") (list_json block_json f.blocks) no_members))

abbrev pub third_json : ChainFile → Data
third_json f = object (third_members f)

unfoldable pub third_of : Data → Read ChainFile
third_of d = do
  blocks ← member_of (codes "blocks") (list_of block_of) d
  priced ← each (has_price Two) blocks
  reshard ← optional_of (codes "reshard") reshard_of d
  Ok (record { reshard = reshard; blocks = blocks })

-- ---- a file of the first two versions, which has no other boundaries
abbrev pub absent : Option Data → Read (Unit {0})
absent None = Ok tt
absent (Some d) = Err (under (member_step (codes "reshard")) (fault NoReshard))

abbrev pub without_reshard : Data → Read (Unit {0})
without_reshard d = absent (get (codes "reshard") d)

unfoldable pub plain_of : Data → Read StatedBlocks
plain_of d = do
  file ← blocks_of d
  none ← without_reshard d
  Ok (Plain file)

-- ---- a file of any version: of the third one where it is stated
abbrev pub equals_three : Option ℕ → Bool
equals_three None = false
equals_three (Some n) = n == 3

abbrev pub is_three : Data → Bool
is_three d = equals_three (option_and_then as_u64 (as_number d))

abbrev pub states_three : Option Data → Bool
states_three None = false
states_three (Some d) = is_three d

abbrev pub is_third : Data → Bool
is_third d = states_three (get (codes "version") d)

abbrev pub stated_json : StatedBlocks → Data
stated_json (Plain file) = blocks_json file
stated_json (Third file) = third_json file

abbrev pub third_stated : Data → Read StatedBlocks
third_stated d = do
  file ← third_of d
  Ok (Third file)

unfoldable pub stated_of : Data → Read StatedBlocks
stated_of d = if is_third d then third_stated d else plain_of d
