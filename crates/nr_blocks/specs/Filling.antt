-- How the first world of a shard is filled, entry by entry:
-- what the bodies of this crate need, and no part of the rules.
use Rattle.std.specs.Prelude.{List, [], ◌∷◌}
use Rattle.nr_state.specs.World.{World, with_account, with_key, with_code_bytes, with_datum}
use Rattle.nr_blocks.specs.declared.genesis_entry.GenesisEntry.{GenesisEntry}
use Rattle.nr_blocks.specs.declared.genesis_entry.GenesisEntry.TheVariants as kind

-- an entry, written as it is
unfoldable pub with_entry : World → GenesisEntry → World
with_entry w (kind.Account id account) = with_account w id account
with_entry w (kind.Code id code) = with_code_bytes w id code
with_entry w (kind.Key id key access) = with_key w id key access
with_entry w (kind.Datum id key value) = with_datum w id key value

-- one entry after the other, the last first
abbrev pub laid : (World → GenesisEntry → World) → World → List GenesisEntry → World
laid put w [] = w
laid put w (e ∷ es) = put (laid put w es) e
