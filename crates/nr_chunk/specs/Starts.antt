-- The start that the code's own stands for. This project's own.
use Rattle.std.specs.Prelude.{ℕ, List, map, refl}
use Rattle.std.specs.Coded.{Coded, code_by, coded×, coded_ℕ, coded_list}
use Rattle.std.specs.List.{AllByRecursion}
use Rattle.nr_blocks.specs.Genesis.{AreSoundEntries}
use Rattle.nr_chunk.specs.Start.{IsStart, Start, genesis_start}
use Rattle.nr_chunk.specs.declared.start.FirstState.{FirstState}
use Rattle.nr_chunk.specs.declared.start.FirstState.TheVariants as first
use Rattle.nr_config.specs.Config.{Config}
use Rattle.nr_records.specs.declared.receipt.Receipt.{Receipt}
use Rattle.nr_records.specs.contracts.receipt.Receipt as receipt
use Rattle.nr_state.specs.Codes.{world_code}
use Rattle.nr_state.specs.World.{World}
use Rattle.nr_state.specs.FromEntries.{AreWholeEntries, world_from}

abbrev pub start_of : FirstState → Start
start_of (first.Founded g) = genesis_start g
start_of (first.Resumed r) =
    record { boundaries = r.layout; below = r.below; worlds = map world_from r.worlds; carried = r.carried }

-- states can be made of it
abbrev pub CanFill : Config → FirstState → Type 0
CanFill c (first.Founded g) = AreSoundEntries c g.entries
CanFill c (first.Resumed r) = AllByRecursion AreWholeEntries r.worlds

pub record IsSoundStart (c : Config) (s : FirstState) : Type 0 where
  pub start : IsStart c (start_of s)
  pub fills : CanFill c s

-- ---- what contracts see of a configuration with a start
pub record GroundsView : Type 0 where
  pub config : Config
  pub start : Start

abbrev start_code : Coded Start
start_code =
    code_by (List (List ℕ) × (ℕ × (List World × List (List Receipt))))
    (coded× (coded_list (coded_list coded_ℕ))
    (coded× coded_ℕ (coded× (coded_list world_code) (coded_list (coded_list receipt.the_row.coded)))))
    (λ s. (s.boundaries, (s.below, (s.worlds, s.carried)))) (λ p. record {
      boundaries = p.0;
      below = p.1.0;
      worlds = p.1.1.0;
      carried = p.1.1.1;
    }) (λ _. refl)

abbrev pub grounds_code : Coded GroundsView
grounds_code =
    code_by (Config × Start) (coded× (coded_list coded_ℕ) start_code) (λ g. (g.config, g.start)) (λ p. record {
      config = p.0;
      start = p.1;
    }) (λ _. refl)
