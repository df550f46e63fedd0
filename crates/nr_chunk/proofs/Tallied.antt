-- What a state holds, by its listings.
use Rattle.std.proofs.Common.{◌≡◌, ℕ, ◌+◌, length, sym, ◌∙◌}
use Rattle.std.specs.FinMap.{FinMap, entries, values, len, len-entries}
use Rattle.std.specs.declared.cmp.Ordering.{Ordering}
use Rattle.std.proofs.lemmas.List.{length-map}
use Rattle.nr_chunk.specs.Tallies.{five, tally_state}
use Rattle.nr_chunk.specs.declared.tally.Tally.{Tally}
use Rattle.nr_config.specs.Config.{Config}
use Rattle.nr_state.specs.Tokens.{list_tokens}
use Rattle.nr_state.specs.World.{World, accounts_tokens}

pub len_values : {K X : Type 0} {R : K → K → Ordering} (m : FinMap R X) → length (values m) ≡ len m
len_values m = length-map (entries m) (λ e. e.1) ∙ sym (len-entries m)

abbrev pub tally_of : ℕ → ℕ → ℕ → ℕ → ℕ → Tally
tally_of accounts waits late postponed delayed =
    record { accounts = accounts; receipts = waits + late; burnt = 0; places = five 0 0 postponed delayed 0 }

pub tally_is : (c : Config) (w : World) (accounts waits late postponed delayed : ℕ) → accounts ≡ accounts_tokens w
    → waits ≡ list_tokens c (values w.postponed) → late ≡ list_tokens c w.delayed
    → postponed ≡ length (values w.postponed) → delayed ≡ length w.delayed
    → tally_of accounts waits late postponed delayed ≡ tally_state c w
tally_is c w accounts waits late postponed delayed a b d e f =
    λ i. tally_of (a i) (b i) (d i) ((e ∙ len_values w.postponed) i) (f i)
