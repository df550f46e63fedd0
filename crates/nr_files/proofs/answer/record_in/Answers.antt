-- The goals of `answer::record_in` that no tactic closes.
use Rattle.serde_json.specs.View.{view}
use Rattle.nr_json.specs.declared.fault.JsonFault.TheVariants.{Memory}
use Rattle.nr_files.specs.Lines.{fault_line}
use Rattle.nr_files.proofs.Steps.{told_fault}
use Rattle.nr_files.proofs.answer.record_in.Goals as goal

pub returns-in-Err : goal.returns-in-Err
returns-in-Err g c = told_fault c.json_words.result fault_line c.in-Err.fault Memory (g.T.Form.reading (view c.args.value.now)) c.json_words.ensures.tells c.json_words.ensures.memory c.in-Err.ensures
