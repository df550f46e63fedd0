-- The goals of `answer::genesis_in` that no tactic closes.
use Rattle.nr_blocks.specs.Judging.{genesis_read}
use Rattle.nr_blocks.specs.declared.fault.GenesisFault.TheVariants.{Memory}
use Rattle.nr_files.specs.Lines.{genesis_line}
use Rattle.nr_files.proofs.Steps.{told_fault}
use Rattle.nr_files.proofs.answer.genesis_in.Goals as goal

pub returns-in-Err : goal.returns-in-Err
returns-in-Err c =
    told_fault c.genesis_words.result (genesis_line c.args.made c.args.bytes.now) c.in-Err.fault Memory (genesis_read c.args.config.now c.args.bytes.now) c.genesis_words.ensures.tells c.genesis_words.ensures.memory c.in-Err.ensures.gives
