-- What each command does, as a plan: it asks for the configuration and then for its file, or for none. This project's
-- own.
use Rattle.std.specs.Prelude.{ℕ, List, [], ◌∷◌, ◌++◌}
use Rattle.nr_config.specs.Config.{Config as Configuration}
use Rattle.nr_configfile.specs.Plans.{config_files, config_plan}
use Rattle.nr_shell.specs.Plans.{Plan, Answer, Refuse, and_then, by_reading, file_plan}
use Rattle.nr_files.specs.Command.{Asked, Nothing, Unknown, File, Written, Request}
use Rattle.nr_files.specs.Due.{Output, Bytes, laid_due, of_bytes}
use Rattle.nr_files.specs.declared.status.Status.{Status}
use Rattle.nr_files.specs.declared.status.Status.TheVariants.{Usage, Config, TooLong, Faulty, NoSentence}

abbrev pub by_bytes : Request → Configuration → List ℕ → Plan Output Status
by_bytes r c bytes = by_reading Faulty (laid_due r.compact (of_bytes r.work c bytes))

-- the file, of at most 256 MiB
abbrev pub by_config : Request → Configuration → Plan Output Status
by_config r c = and_then (file_plan r.file 268435456 TooLong) (by_bytes r c)

abbrev pub request_plan : Request → Plan Output Status
request_plan r = and_then (config_plan Config r.config) (by_config r)

-- words that are no command are refused, and so are words to be explained that have no sentence
abbrev pub plan : Asked → Plan Output Status
plan Nothing = Refuse Usage
plan Unknown = Refuse NoSentence
plan (File r) = request_plan r
plan (Written text) = Answer (Bytes text)

-- the files of a command in their order, each of which it asks for once
abbrev pub files_of : Asked → List (List ℕ)
files_of Nothing = []
files_of Unknown = []
files_of (File r) = config_files r.config ++ r.file ∷ []
files_of (Written text) = []
