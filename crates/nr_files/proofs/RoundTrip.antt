-- What is shown of a file is made into its bytes.
use Rattle.std.proofs.Common.{◌≡◌, ℕ, Bool, true, false, cond, List, [], ◌∷◌, map, Result, Ok, Err, refl, sym, ap, subst, ◌∙◌}
use Rattle.std.specs.List.{starts_with}
use Rattle.std.specs.Prelude.{◌==◌}
use Rattle.nr_bytes.specs.Numbers.{IsBytes}
use Rattle.nr_bytes.specs.Reading.{◌>>=◌}
use Rattle.nr_bytes.proofs.Steps.{bind_ok}
use Rattle.nr_bytes.proofs.Whole.{whole_taken}
use Rattle.nr_config.specs.Config.{Config}
use Rattle.nr_ids.specs.declared.key.Hash32.{Hash32}
use Rattle.nr_records.specs.Fault.{record_fault}
use Rattle.nr_records.specs.Reading.{all_of}
use Rattle.nr_records.specs.declared.fault.RecordFault.{RecordFault}
use Rattle.nr_blocks.specs.FileLaws.{blocks_law, genesis_law}
use Rattle.nr_blocks.specs.Files.{blocks_at, blocks_bytes, IsBlocksFile, genesis_at, genesis_bytes, IsGenesisFile}
use Rattle.nr_blocks.specs.Genesis.{code_hash_in, usage_in}
use Rattle.nr_blocks.specs.Judging.{with_fault, founded, genesis_fault, genesis_read}
use Rattle.nr_blocks.specs.Spellings.{file_of}
use Rattle.nr_blocks.specs.declared.blocks_file.BlocksFile.{BlocksFile}
use Rattle.nr_blocks.specs.declared.fault.GenesisFault.{GenesisFault}
use Rattle.nr_blocks.specs.declared.genesis.Genesis.{Genesis}
use Rattle.nr_blocks.specs.declared.genesis_entry.GenesisEntry.{GenesisEntry}
use Rattle.nr_blocks.specs.declared.genesis_entry.GenesisEntry.TheVariants as kind
use Rattle.nr_blocks.specs.declared.genesis_file.GenesisFile.{GenesisFile}
use Rattle.nr_json.specs.ChainFiles.{stated_json, stated_of}
use Rattle.nr_json.specs.Genesis.{genesis_json, genesis_of}
use Rattle.nr_json.specs.declared.chain_file.StatedBlocks.{StatedBlocks}
use Rattle.nr_json.specs.declared.chain_file.StatedBlocks.TheVariants.{Plain, Third}
use Rattle.nr_json.proofs.ChainLaws as chains
use Rattle.nr_json.proofs.FileLaws as forms
use Rattle.nr_reshard.specs.FileLaws.{third_law}
use Rattle.nr_reshard.specs.Files.{IsThird, third_at, third_bytes, third_magic}
use Rattle.nr_reshard.specs.declared.chain_file.ChainFile.{ChainFile}
use Rattle.nr_files.specs.Due.{Output, Bytes, Json, IsWritten, laid, value_in, made_blocks, shown_blocks, made_genesis}
use Rattle.nr_files.specs.Due.{shown_genesis, of_bytes}
use Rattle.nr_files.specs.Filling.{filled, filled_entry, plain, stated, stated_entry}
use Rattle.nr_files.specs.Damage.{blocks_line}
use Rattle.nr_files.specs.Lines.{genesis_line}
use Rattle.nr_files.specs.Versions.{blocks_read, plain_read, stated_bytes, third_read}
use Rattle.nr_files.specs.declared.command.Work.TheVariants.{MakeBlocks, MakeGenesis, ShowBlocks, ShowGenesis}
use Rattle.nr_files.proofs.Depths.{genesis_depth, stated_depth}
use Rattle.nr_files.proofs.Held.{IsStated, genesis_held, stated_held}
use Rattle.nr_files.proofs.Steps.{written_read}

-- ---- blocks
abbrev third_as : ChainFile → Result StatedBlocks RecordFault
third_as file = Ok (Third file)

abbrev plain_as : BlocksFile → Result StatedBlocks RecordFault
plain_as file = Ok (Plain file)

blocks_taken : (bytes : List ℕ) (s : StatedBlocks) → IsBytes bytes → blocks_read bytes ≡ Ok s → IsStated s × (bytes ≡ stated_bytes s)
unfolding blocks_read
blocks_taken bytes s fits e = go (starts_with ◌==◌ bytes third_magic) e
  where
    go : (third : Bool) → cond third (third_read bytes) (plain_read bytes) ≡ Ok s → IsStated s × (bytes ≡ stated_bytes s)
    go true e =
        let x = bind_ok (all_of third_at bytes) third_as s e in
        let same : Third x.0 ≡ s = cc in
        subst (λ (t : StatedBlocks). IsStated t × (bytes ≡ stated_bytes t)) same (whole_taken record_fault third_at third_bytes IsThird third_law bytes x.0 fits x.1)
    go false e =
        let x = bind_ok (all_of blocks_at bytes) plain_as s e in
        let same : Plain x.0 ≡ s = cc in
        subst (λ (t : StatedBlocks). IsStated t × (bytes ≡ stated_bytes t)) same (whole_taken record_fault blocks_at blocks_bytes IsBlocksFile blocks_law bytes x.0 fits x.1)

blocks_again : (compact : Bool) (bytes text : List ℕ) (file : StatedBlocks) → IsBytes bytes → blocks_read bytes ≡ Ok file → IsWritten (laid compact (Json (stated_json file))) text → made_blocks text ≡ Ok (Bytes bytes)
unfolding made_blocks
blocks_again compact bytes text file fits is shown =
    let taken : IsStated file × (bytes ≡ stated_bytes file) = blocks_taken bytes file fits is in
    let value : value_in text ≡ Ok (stated_json file) = written_read compact (stated_json file) text (stated_depth file) shown in
    let read : stated_of (stated_json file) ≡ Ok file = chains.stated_law file (stated_held file taken.0 (subst IsBytes taken.1 fits)) in
    rw (value, read) (ap (λ (b : List ℕ). Ok (Bytes b)) (sym taken.1))

pub blocks_trip : (c : Config) (compact : Bool) (bytes text : List ℕ) (o : Output) → IsBytes bytes → of_bytes ShowBlocks c bytes ≡ Ok o → IsWritten (laid compact o) text → of_bytes MakeBlocks c text ≡ Ok (Bytes bytes)
unfolding shown_blocks
blocks_trip c compact bytes text o fits e written = go (blocks_read bytes) refl e
  where
    go : (r : Result StatedBlocks RecordFault) → blocks_read bytes ≡ r → (with_fault (blocks_line bytes) r >>= λ file. Ok (Json (stated_json file))) ≡ Ok o → made_blocks text ≡ Ok (Bytes bytes)
    go (Err f) is e = absurd cc
    go (Ok file) is e =
        let same : Json (stated_json file) ≡ o = cc in
        blocks_again compact bytes text file fits is (subst (λ x. IsWritten (laid compact x) text) (sym same) written)

-- ---- the first state
entry_again : (usage : List ℕ → ℕ) (hash : List ℕ → Hash32) (e : GenesisEntry) → filled_entry usage hash (stated_entry e) ≡ e
entry_again usage hash (kind.Account id a) = refl
entry_again usage hash (kind.Code id code) = refl
entry_again usage hash (kind.Key id key access) = refl
entry_again usage hash (kind.Datum id key value) = refl

entries_again : (usage : List ℕ → ℕ) (hash : List ℕ → Hash32) (es : List GenesisEntry) → map (filled_entry usage hash) (map stated_entry es) ≡ es
entries_again usage hash [] = refl
entries_again usage hash (e ∷ es) = rw (entry_again usage hash e, entries_again usage hash es) refl

filled_again : (c : Config) (f : GenesisFile) → filled c (stated f) ≡ f
filled_again c f =
    let all = map plain (map stated_entry f.entries) in
    ap (λ (es : List GenesisEntry). record { layout = f.layout; entries = es }) (entries_again (usage_in c all) (code_hash_in all) f.entries)

abbrev whole : GenesisFile → ℕ → Genesis
whole f tokens = record { layout = f.layout; entries = f.entries; supply = tokens }

abbrev founded_as : GenesisFile → ℕ → Result Genesis GenesisFault
founded_as f tokens = Ok (whole f tokens)

same_file : (f : GenesisFile) (g : Genesis) (r : Result ℕ GenesisFault) → (r >>= λ tokens. founded_as f tokens) ≡ Ok g → f ≡ file_of g
same_file f g (Ok tokens) e =
    let same : whole f tokens ≡ g = cc in
    ap file_of same
same_file f g (Err fault) e = absurd cc

genesis_taken : (c : Config) (bytes : List ℕ) (g : Genesis) → IsBytes bytes → genesis_read c bytes ≡ Ok g → IsGenesisFile (file_of g) × (bytes ≡ genesis_bytes (file_of g))
unfolding genesis_read
genesis_taken c bytes g fits e = go (all_of genesis_at bytes) refl e
  where
    go : (r : Result GenesisFile RecordFault) → all_of genesis_at bytes ≡ r → (with_fault genesis_fault r >>= λ file. founded c file.entries >>= λ tokens. founded_as file tokens) ≡ Ok g
        → IsGenesisFile (file_of g) × (bytes ≡ genesis_bytes (file_of g))
    go (Err f) is e = absurd cc
    go (Ok f) is e =
        let taken : IsGenesisFile f × (bytes ≡ genesis_bytes f) = whole_taken record_fault genesis_at genesis_bytes IsGenesisFile genesis_law bytes f fits is in
        let same : f ≡ file_of g = same_file f g (founded c f.entries) e in
        (subst IsGenesisFile same taken.0, taken.1 ∙ ap genesis_bytes same)

genesis_again : (c : Config) (compact : Bool) (bytes text : List ℕ) (g : Genesis) → IsBytes bytes → genesis_read c bytes ≡ Ok g → IsWritten (laid compact (Json (genesis_json (stated (file_of g))))) text → made_genesis c text ≡ Ok (Bytes bytes)
unfolding made_genesis
genesis_again c compact bytes text g fits is shown =
    let taken = genesis_taken c bytes g fits is in
    let value : value_in text ≡ Ok (genesis_json (stated (file_of g))) = written_read compact (genesis_json (stated (file_of g))) text (genesis_depth (stated (file_of g))) shown in
    let read : genesis_of (genesis_json (stated (file_of g))) ≡ Ok (stated (file_of g)) =
    forms.genesis_law (stated (file_of g)) (genesis_held (file_of g) taken.0 (subst IsBytes taken.1 fits)) in
    let bytes_again : genesis_bytes (filled c (stated (file_of g))) ≡ bytes = ap genesis_bytes (filled_again c (file_of g)) ∙ sym taken.1 in
    rw (value, read, bytes_again, is) refl

pub genesis_trip : (c : Config) (compact : Bool) (bytes text : List ℕ) (o : Output) → IsBytes bytes → of_bytes ShowGenesis c bytes ≡ Ok o → IsWritten (laid compact o) text → of_bytes MakeGenesis c text ≡ Ok (Bytes bytes)
unfolding shown_genesis
genesis_trip c compact bytes text o fits e written = go (genesis_read c bytes) refl e
  where
    go : (r : Result Genesis GenesisFault) → genesis_read c bytes ≡ r → (with_fault (genesis_line false bytes) r >>= λ g. Ok (Json (genesis_json (stated (file_of g))))) ≡ Ok o → made_genesis c text ≡ Ok (Bytes bytes)
    go (Err f) is e = absurd cc
    go (Ok g) is e =
        let same : Json (genesis_json (stated (file_of g))) ≡ o = cc in
        genesis_again c compact bytes text g fits is (subst (λ x. IsWritten (laid compact x) text) (sym same) written)
