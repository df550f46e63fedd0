-- The commands of both programs. They are this project's own.
use Rattle.std.specs.Prelude.{ℕ, List, [], ◌∷◌, Bool, cond, ◌==◌, nat_lt, Option, Some, None, codes, option_and_then}
use Rattle.std.specs.Prelude.{option_map}
use Rattle.std.specs.Str.{bytes_eq}
use Rattle.nr_words.specs.Forms.{Form, Place, Value, Text, Number, Digits, Choice, file, number, digits, one_of, read}
use Rattle.nr_words.specs.Kinds.{kind_word}
use Rattle.nr_words.specs.declared.kind.ProofKind.{ProofKind}
use Rattle.nr_words.specs.declared.kind.ProofKind.TheVariants.{Outcome, Receipt}
use Rattle.nr_words.specs.declared.words.ChunkItem.{ChunkItem}
use Rattle.nr_words.specs.declared.words.ChunkPlace.{ChunkPlace}
use Rattle.nr_words.specs.declared.words.StatePart.{StatePart}
pub use Rattle.nr_words.specs.Numbers.{has_no_leading_zero, is_digit, is_numeral, number_in}

-- the files of a replay: the configuration, the genesis and the blocks, and the schedule that drives it, where there
-- is one
pub record Names : Type 0 where
  pub config : List ℕ
  pub genesis : List ℕ
  pub blocks : List ℕ
  pub schedule : Option (List ℕ)

-- What the words ask for. A replay of blocks over a genesis under a configuration, or the run of a chain that three
-- numbers generate. The roots of a chain's chunks, the proof of an item, and whether a proof leads to a root. A part
-- of a state, whether a part is one of a root's, and whether all parts of a root make it up, in files of one prefix.
-- What another run of one chunk needs, and that run from a configuration and a file.
pub data Command : Type 0 where
  Replay : Names → Command
  Generate : ℕ → ℕ → ℕ → Command
  Roots : Names → Command
  Prove : Names → ChunkItem → Command
  Verify : List ℕ → List ℕ → Command
  Cut : Names → StatePart → Command
  CheckPart : List ℕ → List ℕ → Command
  JoinParts : List ℕ → ℕ → List ℕ → Command
  Gather : Names → ChunkPlace → Command
  Recheck : List ℕ → List ℕ → Command

-- ---- tables
abbrev pub files : List Place
files = file (codes "CONFIG") ∷ file (codes "GENESIS") ∷ file (codes "BLOCKS") ∷ []

abbrev pub scheduled : List Place
scheduled = file (codes "CONFIG") ∷ file (codes "GENESIS") ∷ file (codes "BLOCKS") ∷ file (codes "SCHEDULE") ∷ []

-- a start number of 64 bits, 1 to 16 shards and 1 to 256 blocks
abbrev pub numbers : List Place
numbers =
    number (codes "NUMBER") 0 18446744073709551615 ∷ number (codes "SHARDS") 1 16 ∷ number (codes "BLOCKS") 1 256 ∷ []

-- numbers of 64 and of 32 bits
abbrev pub height_place : Place
height_place = number (codes "HEIGHT") 0 18446744073709551615

abbrev pub shard_place : Place
shard_place = number (codes "SHARD") 0 4294967295

abbrev pub count_place : Place
count_place = number (codes "COUNT") 1 10000

-- a place of 64 bits among the chunk's items of a kind
abbrev pub item_places : List Place
item_places =
    file (codes "CONFIG") ∷ file (codes "GENESIS") ∷ file (codes "BLOCKS") ∷ height_place ∷ shard_place
    ∷ one_of (codes "KIND") (kind_word Outcome ∷ kind_word Receipt ∷ [])
    ∷ number (codes "PLACE") 0 18446744073709551615 ∷ []

abbrev pub part_places : List Place
part_places =
    file (codes "CONFIG") ∷ file (codes "GENESIS") ∷ file (codes "BLOCKS") ∷ height_place ∷ shard_place ∷ count_place
    ∷ number (codes "NUMBER") 0 9999 ∷ []

abbrev pub chunk_places : List Place
chunk_places = file (codes "CONFIG") ∷ file (codes "GENESIS") ∷ file (codes "BLOCKS") ∷ height_place ∷ shard_place ∷ []

abbrev pub gathered_file : List Place
gathered_file = file (codes "CONFIG") ∷ file (codes "FILE") ∷ []

abbrev pub proof_file : List Place
proof_file = digits (codes "ROOT") ∷ file (codes "PROOF") ∷ []

abbrev pub part_file : List Place
part_file = digits (codes "ROOT") ∷ file (codes "FILE") ∷ []

abbrev pub part_files : List Place
part_files = digits (codes "ROOT") ∷ count_place ∷ file (codes "PREFIX") ∷ []

abbrev pub form : List ℕ → List Place → Form
form verb places = record { verb = verb; places = places }

abbrev pub serial_forms : List Form
serial_forms =
    form (codes "run") files ∷ form (codes "check") scheduled ∷ form (codes "gen") numbers
    ∷ form (codes "roots") files ∷ form (codes "prove") item_places ∷ form (codes "verify") proof_file
    ∷ form (codes "part") part_places ∷ form (codes "checkpart") part_file ∷ form (codes "joinparts") part_files
    ∷ form (codes "gather") chunk_places ∷ form (codes "recheck") gathered_file ∷ []

abbrev pub replay_forms : List Form
replay_forms = form (codes "replay") files ∷ form (codes "gen") numbers ∷ []

-- ---- what the words of a form are
abbrev pub names_of : List ℕ → List ℕ → List ℕ → Names
names_of config genesis blocks = record { config = config; genesis = genesis; blocks = blocks; schedule = None }

abbrev pub run_of : List Value → Option Command
run_of (Text config ∷ Text genesis ∷ Text blocks ∷ []) = Some (Replay (names_of config genesis blocks))
run_of values = None

abbrev pub check_of : List Value → Option Command
check_of (Text config ∷ Text genesis ∷ Text blocks ∷ Text schedule ∷ []) =
    Some (Replay (record { config = config; genesis = genesis; blocks = blocks; schedule = Some schedule }))
check_of values = None

abbrev pub generate_of : List Value → Option Command
generate_of (Number start ∷ Number shards ∷ Number blocks ∷ []) = Some (Generate start shards blocks)
generate_of values = None

abbrev pub roots_of : List Value → Option Command
roots_of (Text config ∷ Text genesis ∷ Text blocks ∷ []) = Some (Roots (names_of config genesis blocks))
roots_of values = None

-- the kind of this number among the words of its place
abbrev pub kind_of : ℕ → Option ProofKind
kind_of k = cond (k == 0) (Some Outcome) (cond (k == 1) (Some Receipt) None)

abbrev pub item_of : ℕ → ℕ → ℕ → ℕ → Option ChunkItem
item_of height shard k place =
    option_map (λ kind. record { height = height; shard = shard; kind = kind; place = place }) (kind_of k)

abbrev pub prove_of : List Value → Option Command
prove_of (Text config ∷ Text genesis ∷ Text blocks ∷ Number height ∷ Number shard ∷ Choice kind ∷ Number place ∷ []) =
    option_map (Prove (names_of config genesis blocks)) (item_of height shard kind place)
prove_of values = None

abbrev pub verify_of : List Value → Option Command
verify_of (Digits root ∷ Text proof ∷ []) = Some (Verify root proof)
verify_of values = None

-- a part has a number below the count of parts
abbrev pub part_of : ℕ → ℕ → ℕ → ℕ → Option StatePart
part_of height shard count k =
    cond (nat_lt k count) (Some (record { height = height; shard = shard; count = count; number = k })) None

abbrev pub cut_of : List Value → Option Command
cut_of (Text config ∷ Text genesis ∷ Text blocks ∷ Number height ∷ Number shard ∷ Number count ∷ Number k ∷ []) =
    option_map (Cut (names_of config genesis blocks)) (part_of height shard count k)
cut_of values = None

abbrev pub check_part_of : List Value → Option Command
check_part_of (Digits root ∷ Text part ∷ []) = Some (CheckPart root part)
check_part_of values = None

abbrev pub join_parts_of : List Value → Option Command
join_parts_of (Digits root ∷ Number count ∷ Text prefix ∷ []) = Some (JoinParts root count prefix)
join_parts_of values = None

abbrev pub gather_of : List Value → Option Command
gather_of (Text config ∷ Text genesis ∷ Text blocks ∷ Number height ∷ Number shard ∷ []) =
    Some (Gather (names_of config genesis blocks) (record { height = height; shard = shard }))
gather_of values = None

abbrev pub recheck_of : List Value → Option Command
recheck_of (Text config ∷ Text gathered ∷ []) = Some (Recheck config gathered)
recheck_of values = None

abbrev pub command_of : List ℕ × List Value → Option Command
command_of found =
    cond (bytes_eq found.0 (codes "run")) (run_of found.1)
    (cond (bytes_eq found.0 (codes "check")) (check_of found.1)
    (cond (bytes_eq found.0 (codes "gen")) (generate_of found.1)
    (cond (bytes_eq found.0 (codes "roots")) (roots_of found.1)
    (cond (bytes_eq found.0 (codes "prove")) (prove_of found.1)
    (cond (bytes_eq found.0 (codes "verify")) (verify_of found.1)
    (cond (bytes_eq found.0 (codes "part")) (cut_of found.1)
    (cond (bytes_eq found.0 (codes "checkpart")) (check_part_of found.1)
    (cond (bytes_eq found.0 (codes "joinparts")) (join_parts_of found.1)
    (cond (bytes_eq found.0 (codes "gather")) (gather_of found.1)
    (cond (bytes_eq found.0 (codes "recheck")) (recheck_of found.1) None))))))))))

abbrev pub replay_of : List ℕ × List Value → Option Command
replay_of found =
    cond (bytes_eq found.0 (codes "replay")) (run_of found.1)
    (cond (bytes_eq found.0 (codes "gen")) (generate_of found.1) None)

-- ---- commands
-- `run CONFIG GENESIS BLOCKS`, `check CONFIG GENESIS BLOCKS SCHEDULE`, `gen NUMBER SHARDS BLOCKS`,
-- `roots CONFIG GENESIS BLOCKS`, `prove CONFIG GENESIS BLOCKS HEIGHT SHARD KIND PLACE`, `verify ROOT PROOF`,
-- `part CONFIG GENESIS BLOCKS HEIGHT SHARD COUNT NUMBER`, `checkpart ROOT FILE`, `joinparts ROOT COUNT PREFIX`,
-- `gather CONFIG GENESIS BLOCKS HEIGHT SHARD` or `recheck CONFIG FILE`
unfoldable pub command : List (List ℕ) → Option Command
command words = option_and_then command_of (read serial_forms words)

-- `replay CONFIG GENESIS BLOCKS` or `gen NUMBER SHARDS BLOCKS`
unfoldable pub replay_command : List (List ℕ) → Option Command
replay_command words = option_and_then replay_of (read replay_forms words)

-- the built-in configuration loads no file
abbrev pub is_free : List ℕ → Bool
is_free word = bytes_eq word (codes "free")
