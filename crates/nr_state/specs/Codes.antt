-- How what a state shows is stored as a value.
use Rattle.std.specs.Prelude.{ℕ, Bool, List, refl}
use Rattle.std.specs.FinMap.{FinMap}
use Rattle.std.specs.Coded.{Coded, code_by, coded×, coded_ℕ, coded_bool, coded_list}
use Rattle.nr_config.specs.Config.{Config}
use Rattle.nr_columns.specs.Codes.{First, first, second_receipts}
use Rattle.nr_records.specs.declared.receipt.Receipt.{Receipt}
use Rattle.nr_records.specs.contracts.receipt.Receipt as receipt
use Rattle.nr_columns.specs.Orders.{pair_cmp}
use Rattle.nr_state.specs.World.{World}
use Rattle.nr_state.specs.View.{StateView}

abbrev Waiting : Type 0
Waiting = FinMap pair_cmp Receipt × (List Receipt × ℕ)

abbrev waiting : Coded Waiting
waiting = coded× second_receipts (coded× (coded_list receipt.the_row.coded) coded_ℕ)

abbrev taken_apart : World → First × Waiting
taken_apart w = ((w.accounts, (w.keys, (w.code, (w.data_of, w.received)))), (w.postponed, (w.delayed, w.served)))

abbrev put_together : First × Waiting → World
put_together p =
    record {
      accounts = p.0.0;
      keys = p.0.1.0;
      code = p.0.1.1.0;
      data_of = p.0.1.1.1.0;
      received = p.0.1.1.1.1;
      postponed = p.1.0;
      delayed = p.1.1.0;
      served = p.1.1.1;
    }

abbrev pub world_code : Coded World
world_code = code_by (First × Waiting) (coded× first waiting) taken_apart put_together (λ _. refl)

abbrev pub view_code : Coded StateView
view_code =
    code_by (World × (List World × (ℕ × (Config × Bool))))
    (coded× world_code (coded× (coded_list world_code) (coded× coded_ℕ (coded× (coded_list coded_ℕ) coded_bool))))
    (λ v. (v.world, (v.marks, (v.spare, (v.config, v.whole)))))
    (λ p. record { world = p.0; marks = p.1.0; spare = p.1.1.0; config = p.1.1.1.0; whole = p.1.1.1.1 }) (λ _. refl)
