-- The goals of `answer::blocks_of` that no tactic closes.
use Rattle.nr_records.specs.declared.fault.RecordFault.TheVariants.{Memory}
use Rattle.nr_files.specs.Damage.{blocks_line}
use Rattle.nr_files.specs.Versions.{blocks_read}
use Rattle.nr_files.proofs.Steps.{told_fault}
use Rattle.nr_files.proofs.answer.blocks_of.Goals as goal

pub returns-in-Err : goal.returns-in-Err
returns-in-Err c = told_fault c.blocks_words.result (blocks_line c.args.bytes.now) c.in-Err.fault Memory (blocks_read c.args.bytes.now) c.blocks_words.ensures.tells c.blocks_words.ensures.memory c.in-Err.ensures
