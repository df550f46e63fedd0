-- How what a chunk shows is stored as a value.
use Rattle.std.specs.Prelude.{ℕ, Bool, List, refl}
use Rattle.std.specs.Coded.{Coded, code_by, coded×, coded_ℕ, coded_bool, coded_list}
use Rattle.nr_chunk.specs.Views.{Kept, Working}
use Rattle.nr_config.specs.Config.{Config}
use Rattle.nr_ids.specs.declared.number.ShardId.{ShardId}
use Rattle.nr_ids.specs.contracts.number.ShardId as shard
use Rattle.nr_records.specs.declared.chunk_result.ChunkLine.{ChunkLine}
use Rattle.nr_records.specs.contracts.chunk_result.ChunkLine as line
use Rattle.nr_records.specs.declared.receipt.Receipt.{Receipt}
use Rattle.nr_records.specs.contracts.receipt.Receipt as receipt
use Rattle.nr_state.specs.Codes.{world_code}
use Rattle.nr_state.specs.World.{World}
use Rattle.nr_state.specs.declared.place.Place.{Place}
use Rattle.nr_state.specs.contracts.place.Place as place

abbrev pub kept_code : Coded Kept
kept_code =
    code_by (Config × (World × List Receipt))
    (coded× (coded_list coded_ℕ) (coded× world_code (coded_list receipt.the_row.coded)))
    (λ k. (k.config, (k.world, k.carried))) (λ p. record {
      config = p.0;
      world = p.1.0;
      carried = p.1.1;
    }) (λ _. refl)

abbrev Where : Type 0
Where = Bool × (Config × (ShardId × (Place × World)))

abbrev Did : Type 0
Did = ℕ × (ℕ × (ℕ × (List Receipt × List ChunkLine)))

abbrev where_code : Coded Where
where_code =
    coded× coded_bool (coded× (coded_list coded_ℕ) (coded× shard.the_row.coded (coded× place.the_row.coded world_code)))

abbrev did_code : Coded Did
did_code =
    coded× coded_ℕ (coded× coded_ℕ
    (coded× coded_ℕ (coded× (coded_list receipt.the_row.coded) (coded_list line.the_row.coded))))

abbrev apart : Working → Where × Did
apart k = ((k.whole, (k.config, (k.shard, (k.place, k.world)))), (k.gas, (k.burnt, (k.local, (k.outgoing, k.lines)))))

abbrev together : Where × Did → Working
together p =
    record {
      whole = p.0.0;
      config = p.0.1.0;
      shard = p.0.1.1.0;
      place = p.0.1.1.1.0;
      world = p.0.1.1.1.1;
      gas = p.1.0;
      burnt = p.1.1.0;
      local = p.1.1.1.0;
      outgoing = p.1.1.1.1.0;
      lines = p.1.1.1.1.1;
    }

abbrev pub working_code : Coded Working
working_code = code_by (Where × Did) (coded× where_code did_code) apart together (λ _. refl)
