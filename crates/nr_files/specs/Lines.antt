-- Why a file is refused, in words: the path of the member as `jq` writes it and what is wrong, the number of a line,
-- or what is wrong with the bytes. This project's own.
use Rattle.std.specs.Prelude.{ℕ, List, [], ◌∷◌, ◌++◌, Bool, cond, codes, decimal}
use Rattle.nr_explain.specs.declared.report.ReportFault.{ReportFault}
use Rattle.nr_explain.specs.declared.report.ReportFault.TheVariants as report
use Rattle.nr_gathered.specs.declared.fault.GatheredFault.{GatheredFault}
use Rattle.nr_gathered.specs.declared.fault.GatheredFault.TheVariants as gathered
use Rattle.nr_json.specs.Words.{words}
use Rattle.nr_json.specs.declared.fault.JsonFault.{JsonFault}
use Rattle.nr_json.specs.declared.fault.JsonFault.TheVariants as json
use Rattle.nr_outproof.specs.declared.fault.ProofFault.{ProofFault}
use Rattle.nr_outproof.specs.declared.fault.ProofFault.TheVariants as proof
use Rattle.nr_parts.specs.declared.fault.PartFault.{PartFault}
use Rattle.nr_parts.specs.declared.fault.PartFault.TheVariants as part
use Rattle.nr_blocks.specs.declared.fault.GenesisFault.{GenesisFault}
use Rattle.nr_blocks.specs.declared.fault.GenesisFault.TheVariants as genesis
use Rattle.nr_files.specs.Damage.{gathered_damage, genesis_damage, or_begun, part_damage, placed, stake_line}

abbrev pub no_json : List ℕ → List ℕ
no_json text = or_begun text (codes "the text is no JSON")

abbrev pub too_long : List ℕ
too_long = codes "the file is longer than 268435456 bytes"

-- ---- a faulty JSON value
abbrev pub subject : List ℕ → List ℕ
subject [] = codes "the text"
subject (b ∷ path) = b ∷ path

abbrev pub fault_line : JsonFault → List ℕ
fault_line (json.At path wrong) = subject path ++ 32 ∷ words wrong
fault_line json.Memory = []

-- ---- a report
abbrev pub report_line : List ℕ → ReportFault → List ℕ
report_line text (report.NoLine line) = or_begun text (placed (codes "line ") line (codes " is no line of a report"))
report_line text report.Memory = []

-- ---- a proof
abbrev pub proof_line : List ℕ → ProofFault → List ℕ
proof_line text (proof.Form line) = or_begun text (placed (codes "line ") line (codes " is not what a proof has there"))
proof_line text proof.Memory = []

-- ---- a part of a state, which is read without being checked
abbrev pub no_part : List ℕ
no_part = codes "the file is no part of a state"

abbrev pub part_line : List ℕ → PartFault → List ℕ
part_line bytes (part.Spelling at) = part_damage bytes at
part_line bytes (part.Numbers count number) = no_part
part_line bytes (part.Root found) = no_part
part_line bytes (part.Missing hash) = no_part
part_line bytes (part.BadText hash) = no_part
part_line bytes (part.Entries index) = no_part
part_line bytes (part.Order number) = no_part
part_line bytes (part.Whole found) = no_part
part_line bytes part.TooMany = no_part
part_line bytes part.Memory = []

-- ---- a gathered chunk
abbrev pub gathered_line : List ℕ → GatheredFault → List ℕ
gathered_line bytes (gathered.Spelling at) = gathered_damage bytes at
gathered_line bytes (gathered.Stake at) = stake_line at
gathered_line bytes gathered.Memory = []

-- ---- entries that don't hold together
abbrev pub entry_line : ℕ → List ℕ → List ℕ
entry_line index words = codes ".entries[" ++ decimal index ++ 93 ∷ words

abbrev pub usage_words : ℕ → ℕ → List ℕ
usage_words stated counted =
    codes ".storage_usage is " ++ (decimal stated ++ (codes ", but " ++ (decimal counted ++ codes " is counted")))

-- of the fields of a genesis that was made of a JSON value only the boundaries can be unreadable
abbrev pub boundaries_line : List ℕ
boundaries_line = codes ".boundaries are more than 15, or one isn't above the one before it"

abbrev pub genesis_line : Bool → List ℕ → GenesisFault → List ℕ
genesis_line made bytes (genesis.Spelling at) = cond made boundaries_line (genesis_damage bytes at)
genesis_line made bytes (genesis.Duplicate index) = entry_line index (codes " stands twice")
genesis_line made bytes (genesis.NoOwner index) = entry_line index (codes ".account_id has no account, or is `system`")
genesis_line made bytes (genesis.Usage index stated counted) =
    entry_line index (usage_words stated counted)
genesis_line made bytes genesis.Supply = codes ".entries have more than 2^127 tokens"
genesis_line made bytes (genesis.CodeHash index) = entry_line index (codes ".code_hash isn't the SHA-256 of the code")
genesis_line made bytes genesis.Memory = []
