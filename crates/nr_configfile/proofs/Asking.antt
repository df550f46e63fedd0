-- Which file the configuration of a word asks for.
use Rattle.std.proofs.Common.{ℕ, true, false, cond, List, [], ◌∷◌}
use Rattle.nr_config.specs.Config.{free}
use Rattle.nr_config.specs.Reading.{configuration}
use Rattle.nr_shell.specs.Plans.{Answer, Asks, and_then, file_plan}
use Rattle.nr_shell.proofs.Ends.{file_asks, reading_asks, then_asks}
use Rattle.nr_words.specs.Command.{is_free}
use Rattle.nr_configfile.specs.Plans.{by_config_bytes, config_files, config_plan, fault_refusal}

pub config_asks : {E : Type 0} (refusal : ℕ → ℕ → E) (word : List ℕ) → Asks (config_files word) (config_plan refusal word)
config_asks refusal word =
    elim (is_free word) as (λ b. Asks (cond b [] (word ∷ [])) (cond b (Answer free) (and_then (file_plan word 1048576 (refusal 0 0)) (by_config_bytes refusal))))
    [ true ↦ tt | false ↦ then_asks (word ∷ []) [] (file_plan word 1048576 (refusal 0 0)) (by_config_bytes refusal) (file_asks word 1048576 (refusal 0 0)) (λ bytes. reading_asks (fault_refusal refusal) (configuration bytes)) ]
