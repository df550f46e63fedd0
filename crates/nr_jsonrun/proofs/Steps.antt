-- From the files of a chain to what is written of it.
use Rattle.std.proofs.Common.{◌≡◌, ℕ, true, List, Option, None, Some, refl}
use Rattle.nr_files.proofs.Last.{file_last, word_last}
use Rattle.nr_files.specs.Answers.{EndsIn, refuses}
use Rattle.nr_files.specs.declared.status.Status.{Status}
use Rattle.nr_files.specs.declared.status.Status.TheVariants.{Done, Usage, NoSentence, Config, TooLong, Faulty, ReadFault, WriteFault, NoMemory}
use Rattle.nr_shell.specs.Answers.{Breaks}
use Rattle.nr_shell.specs.Plans.{Asks, Plan}
use Rattle.nr_top.specs.Answers.{refuses as run_refuses}
use Rattle.nr_top.specs.Plans.{schedule_files}
use Rattle.nr_top.specs.declared.status.Status.{Status as RunStatus}
use Rattle.nr_jsonrun.specs.Words.{last_name, of_file, of_run}

-- ---- what is told of a refusal refuses
pub file_refuses : (file : List ℕ) (e : Status) → refuses e ≡ true → refuses (of_file file e) ≡ true
file_refuses file Done is = is
file_refuses file Usage is = is
file_refuses file NoSentence is = is
file_refuses file (Config kind entry) is = is
file_refuses file TooLong is = refl
file_refuses file (Faulty line) is = refl
file_refuses file (ReadFault name) is = is
file_refuses file WriteFault is = is
file_refuses file NoMemory is = is

pub run_is_refused : (e : RunStatus) → run_refuses e ≡ true → refuses (of_run e) ≡ true
run_is_refused e is = refl

-- ---- the schedule is asked for last
pub schedule_last : {A E : Type 0} (held : List ℕ → Option (List ℕ)) (schedule : Option (List ℕ)) (old new : List (List ℕ)) (p : Plan A E) → Asks (schedule_files schedule) p → Breaks held old new p → EndsIn new (last_name schedule)
schedule_last held None old new p asks b = word_last held true old new (last_name None) p asks b
schedule_last held (Some file) old new p asks b = file_last held old new file p asks b
