-- The goals of `answer::part_of` that no tactic closes.
use Rattle.nr_parts.specs.Files.{part_in}
use Rattle.nr_parts.specs.declared.fault.PartFault.TheVariants.{Memory}
use Rattle.nr_files.specs.Lines.{part_line}
use Rattle.nr_files.proofs.Steps.{told_fault}
use Rattle.nr_files.proofs.answer.part_of.Goals as goal

pub returns-in-Err : goal.returns-in-Err
returns-in-Err c = told_fault c.part_words.result (part_line c.args.bytes.now) c.in-Err.fault Memory (part_in c.args.bytes.now) c.part_words.ensures.tells c.part_words.ensures.memory c.in-Err.ensures.value
