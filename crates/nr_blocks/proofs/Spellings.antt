-- What is read of a file is spelled so, and what is spelled so is read.
use Rattle.std.proofs.Common.{◌≡◌, ℕ, ◌^◌, List, [], ◌∷◌, Option, Some, None, Result, Ok, Err, refl, sym, ap, subst, ◌∙◌, arith}
use Rattle.std.specs.List.{AllByRecursion}
use Rattle.std.specs.Prelude.{IfOk}
use Rattle.nr_bytes.specs.Numbers.{IsBytes}
use Rattle.nr_bytes.specs.Reading.{◌>>=◌}
use Rattle.nr_config.specs.Config.{Config}
use Rattle.nr_bytes.proofs.Whole.{whole_taken, whole_again}
use Rattle.nr_records.specs.Fault.{record_fault}
use Rattle.nr_records.specs.Reading.{all_of}
use Rattle.nr_bytes.specs.Spelling.{Below, FitsList}
use Rattle.nr_records.specs.Options.{IsOption}
use Rattle.nr_records.specs.declared.fault.RecordFault.{RecordFault}
use Rattle.nr_blocks.specs.BlocksFiles.{IsBlock, IsPrice, FitsPrice}
use Rattle.nr_blocks.specs.FileLaws.{genesis_law, blocks_law}
use Rattle.nr_blocks.specs.Files.{genesis_at, genesis_bytes, IsGenesisFile, blocks_at, blocks_bytes, IsBlocksFile}
use Rattle.nr_bytes.specs.Answers.{Gives}
use Rattle.nr_blocks.specs.Judging.{founded, ordered, genesis_read, blocks_read, genesis_fault, blocks_fault, with_fault}
use Rattle.nr_blocks.specs.Spellings.{file_of, genesis_spelling, IsGenesis, blocks_spelling, AreBlocks}
use Rattle.nr_blocks.specs.declared.block.Block.{Block}
use Rattle.nr_blocks.specs.declared.blocks_file.BlocksFile.{BlocksFile}
use Rattle.nr_blocks.specs.declared.fault.BlocksFault.{BlocksFault}
use Rattle.nr_blocks.specs.declared.fault.BlocksFault.TheVariants as blocks
use Rattle.nr_blocks.specs.declared.fault.GenesisFault.{GenesisFault}
use Rattle.nr_blocks.specs.declared.fault.GenesisFault.TheVariants as genesis
use Rattle.nr_blocks.specs.declared.genesis.Genesis.{Genesis}
use Rattle.nr_blocks.specs.declared.genesis_file.GenesisFile.{GenesisFile}
use Rattle.nr_blocks.specs.declared.version.Version.{Version}
use Rattle.nr_blocks.specs.declared.version.Version.TheVariants.{One, Two}

-- ---- the genesis
pub genesis_read_back : (c : Config) (g : Genesis) → IsGenesis c g → genesis_read c (genesis_spelling g) ≡ Ok g
unfolding genesis_read
genesis_read_back c g fits =
    rw (whole_again record_fault genesis_at genesis_bytes IsGenesisFile genesis_law (file_of g) fits.fits, fits.founded) refl

abbrev whole : GenesisFile → ℕ → Genesis
whole f tokens = record { layout = f.layout; entries = f.entries; supply = tokens }

abbrev made : GenesisFile → ℕ → Result Genesis GenesisFault
made f tokens = Ok (whole f tokens)

judged : (c : Config) (f : GenesisFile) (g : Genesis) (r : Result ℕ GenesisFault) → founded c f.entries ≡ r
    → (r >>= λ tokens. made f tokens) ≡ Ok g
    → (f ≡ file_of g) × (founded c g.entries ≡ Ok g.supply)
judged c f g (Ok tokens) is e =
    let same : whole f tokens ≡ g = cc in
    (ap file_of same, sym (ap (λ (x : Genesis). founded c x.entries) same) ∙ is ∙ ap (λ (x : Genesis). Ok x.supply) same)
judged c f g (Err fault) is e = absurd cc

genesis_taken : (c : Config) (bytes : List ℕ) (g : Genesis) → IsBytes bytes → genesis_read c bytes ≡ Ok g → IsGenesis c g × (bytes ≡ genesis_spelling g)
unfolding genesis_read
genesis_taken c bytes g fits e = go (all_of genesis_at bytes) refl e
  where
    go : (r : Result GenesisFile RecordFault) → all_of genesis_at bytes ≡ r
        → (with_fault genesis_fault r >>= λ file. founded c file.entries >>= λ tokens. made file tokens) ≡ Ok g
        → IsGenesis c g × (bytes ≡ genesis_spelling g)
    go (Err f) is e = absurd cc
    go (Ok f) is e =
        let taken : IsGenesisFile f × (bytes ≡ genesis_bytes f) = whole_taken record_fault genesis_at genesis_bytes IsGenesisFile genesis_law bytes f fits is in
        let j = judged c f g (founded c f.entries) refl e in
        (record { fits = subst IsGenesisFile j.0 taken.0; founded = j.1 }, taken.1 ∙ ap genesis_bytes j.0)

pub is_genesis : (c : Config) (bytes : List ℕ) (r : Result Genesis GenesisFault) → IsBytes bytes → Gives genesis.Memory r (genesis_read c bytes) → IfOk r (λ g. IsGenesis c g × (bytes ≡ genesis_spelling g))
is_genesis c bytes (Ok g) fits given = genesis_taken c bytes g fits given
is_genesis c bytes (Err f) fits given = tt

-- ---- the blocks
pub blocks_read_back : (version : Version) (shards : ℕ) (bs : List Block) → AreBlocks version shards bs → blocks_read shards (blocks_spelling version bs) ≡ Ok bs
unfolding blocks_read
blocks_read_back version shards bs fits =
    let file : BlocksFile = record { version = version; blocks = bs } in
    rw (whole_again record_fault blocks_at blocks_bytes IsBlocksFile blocks_law file fits.fits, fits.ordered) refl

abbrev kept : List Block → Result (List Block) BlocksFault
kept bs = Ok bs

judged_blocks : (shards : ℕ) (file bs : List Block) (r : Result (Unit {0}) BlocksFault) → ordered shards file ≡ r → (r >>= λ u. kept file) ≡ Ok bs → (bs ≡ file) × (ordered shards file ≡ Ok tt)
judged_blocks shards file bs (Ok u) is e = (cc, is)
judged_blocks shards file bs (Err f) is e = absurd cc

-- what the blocks of a file are, in the version that its bytes have
abbrev pub AreSpelled : ℕ → List ℕ → List Block → Type 0
AreSpelled shards bytes bs = (version : Version) × AreBlocks version shards bs × (bytes ≡ blocks_spelling version bs)

blocks_taken : (shards : ℕ) (bytes : List ℕ) (bs : List Block) → IsBytes bytes → blocks_read shards bytes ≡ Ok bs → AreSpelled shards bytes bs
unfolding blocks_read
blocks_taken shards bytes bs fits e = go (all_of blocks_at bytes) refl e
  where
    go : (r : Result BlocksFile RecordFault) → all_of blocks_at bytes ≡ r → (with_fault blocks_fault r >>= λ file. ordered shards file.blocks >>= λ u. kept file.blocks) ≡ Ok bs
        → AreSpelled shards bytes bs
    go (Err f) is e = absurd cc
    go (Ok file) is e =
        let taken : IsBlocksFile file × (bytes ≡ blocks_bytes file) = whole_taken record_fault blocks_at blocks_bytes IsBlocksFile blocks_law bytes file fits is in
        let j = judged_blocks shards file.blocks bs (ordered shards file.blocks) refl e in
        (file.version, record { fits = subst (FitsList (IsBlock file.version)) (sym j.0) taken.0; ordered = ap (ordered shards) j.0 ∙ j.1 }, taken.1 ∙ ap (blocks_spelling file.version) (sym j.0))

pub are_blocks : (shards : ℕ) (bytes : List ℕ) (r : Result (List Block) BlocksFault) → IsBytes bytes → Gives blocks.Memory r (blocks_read shards bytes) → IfOk r (AreSpelled shards bytes)
are_blocks shards bytes (Ok bs) fits given = blocks_taken shards bytes bs fits given
are_blocks shards bytes (Err f) fits given = tt

-- ---- their prices
price_fits : (version : Version) (b : Block) → IsBlock version b → FitsPrice b
price_fits version b is = go version b.price is.1.1.0
  where
    go : (version : Version) (price : Option ℕ) → IsPrice version price → IsOption (Below (2 ^ 64)) price
    go version None fits = tt
    go One (Some price) fits = absurd fits
    go Two (Some price) fits = omega arith

prices_fit : (version : Version) (bs : List Block) → AllByRecursion (IsBlock version) bs → AllByRecursion FitsPrice bs
prices_fit version [] all = tt
prices_fit version (b ∷ bs) all = (price_fits version b all.0, prices_fit version bs all.1)

pub are_priced : (shards : ℕ) (bytes : List ℕ) (r : Result (List Block) BlocksFault) → IsBytes bytes → Gives blocks.Memory r (blocks_read shards bytes) → IfOk r (AllByRecursion FitsPrice)
are_priced shards bytes (Ok bs) fits given =
    let spelled = blocks_taken shards bytes bs fits given in
    prices_fit spelled.0 bs spelled.1.fits.1
are_priced shards bytes (Err f) fits given = tt
