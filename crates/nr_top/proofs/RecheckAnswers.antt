-- What is answered of a gathered chunk that was read.
use Rattle.std.proofs.Common.{◌≡◌, ℕ, List, Result, Ok, Err, sym, ap, ◌∙◌}
use Rattle.std.specs.Prelude.{◌≢◌}
use Rattle.nr_config.specs.Config.{Config}
use Rattle.nr_contract.specs.Contract.{call}
use Rattle.nr_gathered.specs.declared.gathered.Gathered.{Gathered}
use Rattle.nr_recheck.specs.Rechecking.{rechecked}
use Rattle.nr_recheck.specs.declared.fault.RecheckFault.{RecheckFault}
use Rattle.nr_recheck.specs.declared.fault.RecheckFault.TheVariants as fault
use Rattle.nr_records.specs.declared.chunk_result.ChunkResult.{ChunkResult}
use Rattle.nr_report.specs.Lines.{chunk_text}
use Rattle.nr_shell.specs.Answers.{Judges, StopsBy}
use Rattle.nr_shell.specs.Plans.{Plan, Answer, Refuse, by_reading}
use Rattle.nr_shell.specs.declared.stop.Stop.{Stop}
use Rattle.nr_shell.specs.declared.stop.Stop.TheVariants.{Unread, Memory, Refused}
use Rattle.nr_top.specs.Answers.{refuses}
use Rattle.nr_top.specs.Rechecking.{recheck_answer, recheck_status}
use Rattle.nr_top.specs.declared.status.Status.{Status}
use Rattle.nr_top.proofs.PartAnswers.{behind_answer, behind_stop}

abbrev found : Config → Gathered → Plan ChunkResult Status
found c g = by_reading recheck_status (rechecked c (call c) g)

pub rechecked_lines : (c : Config) (g : Gathered) (report : ChunkResult) (text : List ℕ) → rechecked c (call c) g ≡ Ok report → text ≡ chunk_text report → recheck_answer c g ≡ Answer text
rechecked_lines c g report text made told =
    behind_answer {p = found c g} {a = report} (λ (r : ChunkResult). Answer (chunk_text r)) (ap (λ (r : Result ChunkResult RecheckFault). by_reading recheck_status r) made) (ap (λ (t : List ℕ). Answer t) (sym told))

told_fault : (c : Config) (g : Gathered) (f : RecheckFault) (stop : Stop Status) → StopsBy refuses fault.Memory recheck_status f stop → (f ≢ fault.Memory → rechecked c (call c) g ≡ Err f)
    → Judges refuses (λ (r : ChunkResult). r) (Err stop) (found c g)
told_fault c g f (Refused e) stops gives =
    (stops.0, ap (λ (r : Result ChunkResult RecheckFault). by_reading recheck_status r) (gives stops.1) ∙ ap (λ (s : Status). Refuse s) (sym stops.2))
told_fault c g f Unread stops gives = stops
told_fault c g f Memory stops gives = tt

pub rechecked_stop : (c : Config) (g : Gathered) (f : RecheckFault) (stop : Stop Status) → StopsBy refuses fault.Memory recheck_status f stop → (f ≢ fault.Memory → rechecked c (call c) g ≡ Err f)
    → Judges refuses (λ (text : List ℕ). text) (Err stop) (recheck_answer c g)
rechecked_stop c g f stop stops gives =
    behind_stop (λ (r : ChunkResult). r) (λ (text : List ℕ). text) stop (found c g) (λ (r : ChunkResult). Answer (chunk_text r)) (told_fault c g f stop stops gives)
