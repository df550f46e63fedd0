-- Words as lent texts. This project's own.
use Rattle.std.specs.Prelude.{◌≡◌, ℕ, ◌<◌, ◌≤◌, ◌^◌, List, true, map, string_bytes}
use Rattle.std.specs.Global.{Global}
use Rattle.std.specs.declared.string.String.{String}
use Rattle.std.specs.declared.vec.Vec.{Vec}
use Rattle.std.specs.Option.{option_copied}
use Rattle.nr_words.specs.Command.{Command, Replay, Generate, Roots, Prove, Verify, Cut, CheckPart, JoinParts, Gather}
use Rattle.nr_words.specs.Command.{Recheck, Names}
use Rattle.nr_words.specs.Forms.{Form, Place, Value, file, number, digits, one_of, Text, Number, Digits, Choice}
use Rattle.nr_words.specs.Forms.{is_digest}
use Rattle.nr_words.specs.declared.forms.Form.{Form as LentForm}
use Rattle.nr_words.specs.declared.forms.Found.{Found}
use Rattle.nr_words.specs.declared.forms.Place.{Place as LentPlace}
use Rattle.nr_words.specs.declared.forms.Place.TheVariants as place
use Rattle.nr_words.specs.declared.forms.Value.{Value as LentValue}
use Rattle.nr_words.specs.declared.forms.Value.TheVariants as lent
use Rattle.nr_words.specs.declared.words.ChunkItem.{ChunkItem}
use Rattle.nr_words.specs.declared.words.ChunkPlace.{ChunkPlace}
use Rattle.nr_words.specs.declared.words.FileNames.{FileNames}
use Rattle.nr_words.specs.declared.words.StatePart.{StatePart}
use Rattle.nr_words.specs.declared.words.Words.{Words}
use Rattle.nr_words.specs.declared.words.Words.TheVariants.{ReplayFiles, GenerateInput, ChunkRoots, ProveItem}
use Rattle.nr_words.specs.declared.words.Words.TheVariants.{VerifyProof, CutPart, CheckPartFile, JoinPartFiles}
use Rattle.nr_words.specs.declared.words.Words.TheVariants.{GatherChunk, RecheckChunk}

abbrev pub texts : List (String Global) → List (List ℕ)
texts words = map (λ word. string_bytes word) words

-- ---- tables
abbrev pub place_in : LentPlace → Place
place_in (place.File name) = file name.now
place_in (place.Number name least most) = number name.now least most
place_in (place.Digits name) = digits name.now
place_in (place.OneOf name words) = one_of name.now (map (λ word. word.now) words.now)

abbrev pub places_in : List LentPlace → List Place
places_in = map place_in

abbrev pub form_in : LentForm → Form
form_in form = record { verb = form.verb.now; places = places_in form.places.now }

abbrev pub table_in : List LentForm → List Form
table_in = map form_in

-- ---- what is found
-- what lent words are at their places
abbrev pub value_in : LentValue → Value
value_in (lent.Text word) = Text word.now
value_in (lent.Number n) = Number n
value_in (lent.Digits word) = Digits word.now
value_in (lent.Choice k) = Choice k

abbrev pub values_in : Vec LentValue Global → List Value
values_in values = map value_in values.items

abbrev pub found_in : Found → List ℕ × List Value
found_in found = (found.verb.now, values_in found.values)

abbrev pub names_in : FileNames → Names
names_in n =
    record {
      config = n.config.now;
      genesis = n.genesis.now;
      blocks = n.blocks.now;
      schedule = option_copied n.schedule;
    }

-- the command that lent words are
abbrev pub command_in : Words → Command
command_in (ReplayFiles names) = Replay (names_in names)
command_in (GenerateInput start shards blocks) = Generate start shards blocks
command_in (ChunkRoots files) = Roots (names_in files)
command_in (ProveItem files item) = Prove (names_in files) item
command_in (VerifyProof root proof) = Verify root.now proof.now
command_in (CutPart files part) = Cut (names_in files) part
command_in (CheckPartFile root part) = CheckPart root.now part.now
command_in (JoinPartFiles root count prefix) = JoinParts root.now count prefix.now
command_in (GatherChunk files chunk) = Gather (names_in files) chunk
command_in (RecheckChunk config gathered) = Recheck config.now gathered.now

-- ---- what is known of the values of a command
-- numbers from which a chain can be generated: 1 to 16 shards and 1 to 256 blocks
pub record CanGenerate (shards blocks : ℕ) : Type 0 where
  pub some_shards : 1 ≤ shards
  pub few_shards : shards ≤ 16
  pub some_blocks : 1 ≤ blocks
  pub few_blocks : blocks ≤ 256

-- numbers of 64, 32 and 64 bits
pub record CanProve (item : ChunkItem) : Type 0 where
  pub height : item.height < 2 ^ 64
  pub shard : item.shard < 2 ^ 32
  pub place : item.place < 2 ^ 64

-- numbers of 64 and 32 bits, and one of 1 to 10,000 parts
pub record CanCut (part : StatePart) : Type 0 where
  pub height : part.height < 2 ^ 64
  pub shard : part.shard < 2 ^ 32
  pub few_parts : part.count ≤ 10000
  pub is_part : part.number < part.count

-- a root of 64 digits, and 1 to 10,000 parts
pub record CanJoin (root : List ℕ) (count : ℕ) : Type 0 where
  pub digest : is_digest root ≡ true
  pub some_parts : 1 ≤ count
  pub few_parts : count ≤ 10000

-- numbers of 64 and 32 bits
pub record CanGather (chunk : ChunkPlace) : Type 0 where
  pub height : chunk.height < 2 ^ 64
  pub shard : chunk.shard < 2 ^ 32

abbrev pub CanRun : Words → Type 0
CanRun (ReplayFiles names) = Unit {0}
CanRun (GenerateInput start shards blocks) = CanGenerate shards blocks
CanRun (ChunkRoots files) = Unit {0}
CanRun (ProveItem files item) = CanProve item
CanRun (VerifyProof root proof) = is_digest root.now ≡ true
CanRun (CutPart files part) = CanCut part
CanRun (CheckPartFile root part) = is_digest root.now ≡ true
CanRun (JoinPartFiles root count prefix) = CanJoin root.now count
CanRun (GatherChunk files chunk) = CanGather chunk
CanRun (RecheckChunk config gathered) = Unit {0}
