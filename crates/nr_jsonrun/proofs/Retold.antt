-- A text that is shown as a report.
use Rattle.std.proofs.Common.{◌≡◌, List, ℕ, Ok, Err, ap, sym, ◌∙◌}
use Rattle.nr_config.specs.Config.{free}
use Rattle.nr_files.specs.Answers.{output_in, refuses}
use Rattle.nr_files.specs.Due.{Output}
use Rattle.nr_files.specs.Plans.{by_bytes}
use Rattle.nr_files.specs.declared.command.Work.TheVariants.{ShowReport}
use Rattle.nr_files.specs.declared.output.Output.{Output as CodeOutput}
use Rattle.nr_files.specs.declared.status.Status.{Status}
use Rattle.nr_files.specs.declared.status.Status.TheVariants.{TooLong}
use Rattle.nr_shell.proofs.WithBytes.{with_bytes_file}
use Rattle.nr_shell.specs.Answers.{Judges, Retells}
use Rattle.nr_shell.specs.Plans.{Plan, Refuse, by_length, map_refusal}
use Rattle.nr_shell.specs.declared.stop.Stop.{Stop}
use Rattle.nr_shell.specs.declared.stop.Stop.TheVariants.{Unread, Memory, Refused}
use Rattle.nr_jsonrun.proofs.Steps.{file_refuses}
use Rattle.nr_jsonrun.specs.Plans.{report, request, shown}
use Rattle.nr_jsonrun.specs.Words.{of_file}

module _ (text : List ℕ) where
  shown_is : map_refusal (of_file report) (by_length 268435456 TooLong (by_bytes (request ShowReport report) free) text) ≡ shown text
  shown_is = ap (λ (p : Plan Output Status). map_refusal (of_file report) p) (sym (with_bytes_file text report 268435456 TooLong (by_bytes (request ShowReport report) free)))

  pub passed : (output : CodeOutput) → Judges refuses output_in (Ok output) (by_length 268435456 TooLong (by_bytes (request ShowReport report) free) text) → Judges refuses output_in (Ok output) (shown text)
  unfolding map_refusal
  passed output judged = sym shown_is ∙ ap (λ (p : Plan Output Status). map_refusal (of_file report) p) judged

  refused : (e : Status) → by_length 268435456 TooLong (by_bytes (request ShowReport report) free) text ≡ Refuse e → shown text ≡ Refuse (of_file report e)
  unfolding map_refusal
  refused e is = sym shown_is ∙ ap (λ (p : Plan Output Status). map_refusal (of_file report) p) is

  pub retold : (s t : Stop Status) → Retells (of_file report) s t → Judges refuses output_in (Err s) (by_length 268435456 TooLong (by_bytes (request ShowReport report) free) text) → Judges refuses output_in (Err t) (shown text)
  retold Unread t told judged = absurd judged
  retold Memory t told judged = rw told tt
  retold (Refused e) Unread told judged = absurd told
  retold (Refused e) Memory told judged = tt
  retold (Refused e) (Refused f) told judged = rw told (file_refuses report e judged.0, refused e judged.1)
