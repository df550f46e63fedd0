-- The goals of `answer::proof_of` that no tactic closes.
use Rattle.nr_outproof.specs.Texts.{proof_read}
use Rattle.nr_outproof.specs.declared.fault.ProofFault.TheVariants.{Memory}
use Rattle.nr_files.specs.Lines.{proof_line}
use Rattle.nr_files.proofs.Steps.{told_fault}
use Rattle.nr_files.proofs.answer.proof_of.Goals as goal

pub returns-in-Err : goal.returns-in-Err
returns-in-Err c = told_fault c.proof_words.result (proof_line c.args.bytes.now) c.in-Err.fault Memory (proof_read c.args.bytes.now) c.proof_words.ensures.tells c.proof_words.ensures.memory c.in-Err.ensures
