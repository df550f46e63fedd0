-- Which files the plan of a command asks for.
use Rattle.std.proofs.Common.{[], ◌∷◌}
use Rattle.nr_config.specs.Config.{Config as Configuration}
use Rattle.nr_configfile.specs.Plans.{config_files, config_plan}
use Rattle.nr_configfile.proofs.Asking.{config_asks}
use Rattle.nr_shell.specs.Plans.{Asks, file_plan}
use Rattle.nr_shell.proofs.Ends.{file_asks, reading_asks, then_asks}
use Rattle.nr_files.specs.Command.{Asked, Nothing, Unknown, File, Written, Request}
use Rattle.nr_files.specs.Due.{laid_due, of_bytes}
use Rattle.nr_files.specs.Plans.{by_bytes, by_config, files_of, plan}
use Rattle.nr_files.specs.declared.status.Status.TheVariants.{Config, TooLong, Faulty}

pub by_config_asks : (r : Request) (c : Configuration) → Asks (r.file ∷ []) (by_config r c)
by_config_asks r c =
    then_asks (r.file ∷ []) [] (file_plan r.file 268435456 TooLong) (by_bytes r c) (file_asks r.file 268435456 TooLong) (λ bytes. reading_asks Faulty (laid_due r.compact (of_bytes r.work c bytes)))

pub plan_asks : (asked : Asked) → Asks (files_of asked) (plan asked)
plan_asks Nothing = tt
plan_asks Unknown = tt
plan_asks (Written text) = tt
plan_asks (File r) = then_asks (config_files r.config) (r.file ∷ []) (config_plan Config r.config) (by_config r) (config_asks Config r.config) (by_config_asks r)
