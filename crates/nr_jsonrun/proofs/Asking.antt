-- Which files the plan of a command asks for.
use Rattle.std.proofs.Common.{ℕ, List, [], ◌∷◌, Option, None, Some}
use Rattle.nr_config.specs.Config.{Config as Configuration, free}
use Rattle.nr_configfile.proofs.Asking.{config_asks}
use Rattle.nr_configfile.specs.Plans.{config_files, config_plan}
use Rattle.nr_files.proofs.Asking.{by_config_asks, plan_asks as other_asks}
use Rattle.nr_files.specs.Command.{meant}
use Rattle.nr_files.specs.Plans.{by_config}
use Rattle.nr_files.specs.declared.command.Work.{Work}
use Rattle.nr_files.specs.declared.command.Work.TheVariants.{MakeBlocks, MakeGenesis, ShowReport}
use Rattle.nr_files.specs.declared.status.Status.{Status}
use Rattle.nr_files.specs.declared.status.Status.TheVariants.{Config}
use Rattle.nr_shell.proofs.Ends.{then_asks}
use Rattle.nr_shell.proofs.WithBytes.{with_bytes_asks, map_refusal_asks}
use Rattle.nr_shell.specs.Plans.{Plan, Answer, Asks, and_then, with_bytes, map_refusal}
use Rattle.nr_top.proofs.Asking.{replay_bytes_asks}
use Rattle.nr_top.specs.Plans.{replay_bytes, schedule_files}
use Rattle.nr_jsonrun.specs.Command.{run_names}
use Rattle.nr_jsonrun.specs.Plans.{bytes_of, files_by, files_of, made, over_both, over_config, over_genesis, plan, plan_by, ran, report, request, shown, jsonrun_files, jsonrun_plan}
use Rattle.nr_jsonrun.specs.Words.{of_file, of_run}
use Rattle.nr_words.specs.Command.{Names}

made_asks : (work : Work) (c : Configuration) (file : List ℕ) → Asks (file ∷ []) (made work c file)
made_asks work c file =
    then_asks (file ∷ []) [] (map_refusal (of_file file) (by_config (request work file) c)) (λ output. Answer (bytes_of output))
    (map_refusal_asks (of_file file) (file ∷ []) (by_config (request work file) c) (by_config_asks (request work file) c)) (λ output. tt)

ran_asks : (names : Names) (c : Configuration) (genesis blocks : List ℕ) → Asks (schedule_files names.schedule) (ran names c genesis blocks)
ran_asks names c genesis blocks =
    map_refusal_asks of_run (schedule_files names.schedule) (replay_bytes names names.schedule c genesis blocks) (replay_bytes_asks names names.schedule c genesis blocks)

shown_asks : (text : List ℕ) → Asks [] (shown text)
shown_asks text =
    map_refusal_asks (of_file report) [] (with_bytes text (by_config (request ShowReport report) free))
    (with_bytes_asks text report [] (by_config (request ShowReport report) free) (by_config_asks (request ShowReport report) free))

-- what stands behind a schedule asks for no file
behind_schedule : {A B : Type 0} (schedule : Option (List ℕ)) (p : Plan A Status) (next : A → Plan B Status) → Asks (schedule_files schedule) p → ((a : A) → Asks [] (next a)) → Asks (schedule_files schedule) (and_then p next)
behind_schedule None p next asks more = then_asks [] [] p next asks more
behind_schedule (Some file) p next asks more = then_asks (file ∷ []) [] p next asks more

pub over_both_asks : (names : Names) (c : Configuration) (genesis blocks : List ℕ) → Asks (schedule_files names.schedule) (over_both names c genesis blocks)
over_both_asks names c genesis blocks = behind_schedule names.schedule (ran names c genesis blocks) shown (ran_asks names c genesis blocks) shown_asks

over_genesis_asks : (names : Names) (c : Configuration) (genesis : List ℕ) → Asks (names.blocks ∷ schedule_files names.schedule) (over_genesis names c genesis)
over_genesis_asks names c genesis =
    then_asks (names.blocks ∷ []) (schedule_files names.schedule) (made MakeBlocks free names.blocks) (over_both names c genesis)
    (made_asks MakeBlocks free names.blocks) (over_both_asks names c genesis)

over_config_asks : (names : Names) (c : Configuration) → Asks (names.genesis ∷ names.blocks ∷ schedule_files names.schedule) (over_config names c)
over_config_asks names c =
    then_asks (names.genesis ∷ []) (names.blocks ∷ schedule_files names.schedule) (made MakeGenesis c names.genesis) (over_genesis names c)
    (made_asks MakeGenesis c names.genesis) (over_genesis_asks names c)

jsonrun_asks : (names : Names) → Asks (jsonrun_files names) (jsonrun_plan names)
jsonrun_asks names =
    then_asks (config_files names.config) (names.genesis ∷ names.blocks ∷ schedule_files names.schedule) (config_plan Config names.config) (over_config names)
    (config_asks Config names.config) (over_config_asks names)

by_asks : (words : List (List ℕ)) (found : Option Names) → Asks (files_by words found) (plan_by words found)
by_asks words None = other_asks (meant words)
by_asks words (Some names) = jsonrun_asks names

pub plan_asks : (words : List (List ℕ)) → Asks (files_of words) (plan words)
plan_asks words = by_asks words (run_names words)
