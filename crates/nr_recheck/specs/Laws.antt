-- What a chunk that is run again tells of every whole state that goes with its texts. Laws of this project's own.
use Rattle.std.specs.Prelude.{◌≡◌, ◌+◌, ◌^◌, ◌≤◌, true, length, Ok}
use Rattle.std.specs.FinMap.{entries}
use Rattle.std.specs.List.{AllByRecursion}
use Rattle.nr_chunk.specs.Chain.{AreBounded}
use Rattle.nr_chunk.specs.Locality.{touched}
use Rattle.nr_config.specs.Config.{Config}
use Rattle.nr_gather.specs.Gathered.{gathered}
use Rattle.nr_gathered.specs.declared.gathered.Gathered.{Gathered}
use Rattle.nr_records.specs.Ids.{IsId}
use Rattle.nr_records.specs.declared.chunk_result.ChunkResult.{ChunkResult}
use Rattle.nr_records.specs.declared.receipt.Receipt.{Receipt}
use Rattle.nr_records.specs.declared.transaction.Transaction.{Transaction}
use Rattle.nr_state.specs.Calls.{Called}
use Rattle.nr_state.specs.Flat.{flat}
use Rattle.nr_state.specs.FromEntries.{world_from}
use Rattle.nr_state.specs.Tokens.{list_tokens, world_tokens}
use Rattle.nr_state.specs.Valid.{IsValidWorld}
use Rattle.nr_state.specs.View.{ArePostponed}
use Rattle.nr_state.specs.World.{World}
use Rattle.nr_state.specs.Worlds.{IsWorld}
use Rattle.nr_state.specs.declared.calls.CallContext.{CallContext}
use Rattle.nr_stateless.specs.Accounts.{searched_of}
use Rattle.nr_stateless.specs.Changing.{HasBytes}
use Rattle.nr_triedef.specs.Root.{paths, root_of}
use Rattle.nr_walk.specs.Shown.{IsOf}
use Rattle.nr_walk.specs.Texts.{texts_of}
use Rattle.nr_recheck.specs.Rechecking.{Found, is_placed, prepared, sealed_on}

-- the signers and the receivers are account ids
pub record HasIds (g : Gathered) : Type 0 where
  pub signers : AllByRecursion (λ (tx : Transaction). IsId tx.signer) g.transactions
  pub receivers : AllByRecursion (λ (r : Receipt). IsId r.receiver) g.taken

-- the file's texts go with the whole state before the chunk
pub record GoesWith (c : Config) (g : Gathered) (w : World) : Type 0 where
  pub fits : IsWorld w
  pub valid : IsValidWorld c w
  pub agrees : IsOf (texts_of g.texts) g.prior_root (flat w)

-- a world that a state can show, with keys of bytes
pub record IsShowable (w : World) : Type 0 where
  pub fits : IsWorld w
  pub postponed : ArePostponed w
  pub bytes : HasBytes (flat w)

-- the world behind the chunk from the entries found is such a one, as each state's is
abbrev pub EndsWell : Config → (World → CallContext → Called) → Gathered → Type 0
EndsWell c call g =
    (found : Found) → prepared c g ≡ Ok found → IsShowable (sealed_on c call g (world_from found.1)).world.world

-- ---- a report is that of the chunk from every whole state that the texts go with, its root too
abbrev pub TellsChunk : Config → (World → CallContext → Called) → Gathered → ChunkResult → Type 0
TellsChunk c call g r = (w : World) → GoesWith c g w → r ≡ (sealed_on c call g w).report

-- ---- what is gathered for a chunk on a world
pub record IsGatheredFor (c : Config) (g : Gathered) (w : World) : Type 0 where
  pub placed : is_placed g ≡ true
  pub root : g.prior_root ≡ (root_of (flat w)).hash
  pub texts : g.texts ≡ gathered (searched_of (touched w g.transactions g.taken)) (paths (entries (flat w)))
  pub bounded : AreBounded c g.taken
  pub tokens : world_tokens c w + list_tokens c g.taken ≤ 2 ^ 127
  pub few : w.served + length w.delayed ≤ 2 ^ 63
