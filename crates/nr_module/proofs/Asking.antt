-- Which files the plan of a command asks for.
use Rattle.std.proofs.Common.{[], ◌∷◌, Option, Some, None}
use Rattle.nr_config.specs.Config.{Config}
use Rattle.nr_configfile.specs.Plans.{config_files, config_plan}
use Rattle.nr_configfile.proofs.Asking.{config_asks}
use Rattle.nr_shell.specs.Plans.{Answer, Asks, file_plan}
use Rattle.nr_shell.proofs.Ends.{file_asks, then_asks}
use Rattle.nr_module.specs.Command.{Command, OfModule, OfCall, OfShown, OfText, Call, Names}
use Rattle.nr_module.specs.Plans.{Judge, Show, Try, by_config, code_plan, files_of, plan}
use Rattle.nr_module.specs.declared.status.Status.TheVariants.{Faulty, Config as faulty_config}

by_config_asks : (names : Names) (c : Config) → Asks (names.file ∷ []) (by_config names c)
by_config_asks names c =
    then_asks (names.file ∷ []) [] (file_plan names.file 67108864 Faulty) (λ bytes. Answer (Judge (record { config = c; task = names.task; bytes = bytes }))) (file_asks names.file 67108864 Faulty) (λ bytes. tt)

code_asks : (call : Call) (c : Config) → Asks (call.file ∷ []) (code_plan call c)
code_asks call c =
    then_asks (call.file ∷ []) [] (file_plan call.file 67108864 Faulty) (λ bytes. Answer (Try c call.request bytes)) (file_asks call.file 67108864 Faulty) (λ bytes. tt)

pub plan_asks : (asked : Option Command) → Asks (files_of asked) (plan asked)
plan_asks None = tt
plan_asks (Some (OfShown view name)) =
    then_asks (name ∷ []) [] (file_plan name 67108864 Faulty) (λ bytes. Answer (Show view bytes)) (file_asks name 67108864 Faulty) (λ bytes. tt)
plan_asks (Some (OfText text)) = tt
plan_asks (Some (OfModule names)) =
    then_asks (config_files names.config) (names.file ∷ []) (config_plan faulty_config names.config) (by_config names) (config_asks faulty_config names.config) (by_config_asks names)
plan_asks (Some (OfCall call)) =
    then_asks (config_files call.config) (call.file ∷ []) (config_plan faulty_config call.config) (code_plan call) (config_asks faulty_config call.config) (code_asks call)
