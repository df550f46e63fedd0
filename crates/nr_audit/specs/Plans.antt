-- What each command does, as a plan: it asks for the files of a chain, where it has them. This project's own.
use Rattle.std.specs.Prelude.{ℕ, List, [], Option, Some, None}
use Rattle.nr_audit.specs.Archive.{archive_text}
use Rattle.nr_audit.specs.Command.{Command, OfChain, OfText}
use Rattle.nr_audit.specs.declared.status.Status.{Status}
use Rattle.nr_audit.specs.declared.status.Status.TheVariants.{Usage, Config, Genesis, Blocks}
use Rattle.nr_chainfiles.specs.Plans.{chain_files, chain_plan}
use Rattle.nr_chainfiles.specs.declared.loading.ChainFiles.{ChainFiles}
use Rattle.nr_contract.specs.Contract.{call}
use Rattle.nr_course.specs.Course.{Course, course}
use Rattle.nr_shell.specs.Plans.{Plan, Answer, Refuse, and_then}
use Rattle.nr_words.specs.Command.{Names}

-- the run that the files give
abbrev pub course_in : ChainFiles → Course
course_in files = course files.config files.genesis files.file (call files.config)

abbrev pub gather_plan : Names → Plan (List ℕ) Status
gather_plan names = and_then (chain_plan Config Genesis Blocks names) (λ files. Answer (archive_text (course_in files)))

abbrev pub command_plan : Command → Plan (List ℕ) Status
command_plan (OfChain names) = gather_plan names
command_plan (OfText text) = Answer text

-- words that are no command are refused
abbrev pub plan : Option Command → Plan (List ℕ) Status
plan None = Refuse Usage
plan (Some c) = command_plan c

-- the files of a command in their order, each of which it asks for once
abbrev pub files_of : Option Command → List (List ℕ)
files_of None = []
files_of (Some (OfChain names)) = chain_files names
files_of (Some (OfText text)) = []
