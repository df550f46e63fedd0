-- The goals of `answer::gathered_of` that no tactic closes.
use Rattle.nr_gathered.specs.Files.{gathered_in}
use Rattle.nr_gathered.specs.declared.fault.GatheredFault.TheVariants.{Memory}
use Rattle.nr_files.specs.Lines.{gathered_line}
use Rattle.nr_files.proofs.Steps.{told_fault}
use Rattle.nr_files.proofs.answer.gathered_of.Goals as goal

pub returns-in-Err : goal.returns-in-Err
returns-in-Err c = told_fault c.gathered_words.result (gathered_line c.args.bytes.now) c.in-Err.fault Memory (gathered_in c.args.bytes.now) c.gathered_words.ensures.tells c.gathered_words.ensures.memory c.in-Err.ensures.gives
