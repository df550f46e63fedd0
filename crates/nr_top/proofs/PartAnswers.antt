-- What is answered of parts that were read.
use Rattle.std.proofs.Common.{◌≡◌, ℕ, List, Result, Ok, Err, refl, sym, ap, subst, ◌∙◌}
use Rattle.std.specs.Prelude.{◌≢◌}
use Rattle.nr_columns.specs.declared.entry.Entry.{Entry}
use Rattle.nr_ids.specs.declared.key.Hash32.{Hash32}
use Rattle.nr_parts.specs.Checking.{checked}
use Rattle.nr_parts.specs.Joining.{joined_or_fault}
use Rattle.nr_parts.specs.declared.fault.PartFault.{PartFault}
use Rattle.nr_parts.specs.declared.fault.PartFault.TheVariants as fault
use Rattle.nr_shell.specs.Answers.{Judges, StopsBy}
use Rattle.nr_parts.specs.declared.part.Part.{Part}
use Rattle.nr_shell.specs.Plans.{Plan, Answer, Refuse, and_then, by_reading}
use Rattle.nr_shell.specs.declared.stop.Stop.{Stop}
use Rattle.nr_shell.specs.declared.stop.Stop.TheVariants.{Unread, Memory, Refused}
use Rattle.nr_top.specs.Answers.{refuses}
use Rattle.nr_top.specs.Roots.{root_in}
use Rattle.nr_top.specs.StateParts.{check_answer, join_answer, join_status, part_line, part_status, root_line}
use Rattle.nr_top.specs.declared.status.Status.{Status}

-- ---- what stands behind an answer, and behind a stop
pub behind_answer : {A B : Type 0} {p : Plan A Status} {a : A} {b : B} (next : A → Plan B Status) → p ≡ Answer a → next a ≡ Answer b → and_then p next ≡ Answer b
unfolding and_then
behind_answer {A} {B} {p} {a} {b} next is then = ap (λ (q : Plan A Status). and_then q next) is ∙ then

pub behind_stop : {X Y A B : Type 0} (view : X → A) (other : Y → B) (stop : Stop Status) (p : Plan A Status) (next : A → Plan B Status) → Judges refuses view (Err stop) p → Judges refuses other (Err stop) (and_then p next)
unfolding and_then
behind_stop {X} {Y} {A} {B} view other (Refused e) p next judges = (judges.0, ap (λ (q : Plan A Status). and_then q next) judges.1)
behind_stop view other Unread p next judges = judges
behind_stop view other Memory p next judges = tt

-- ---- a fault of a part
-- one that is told with a position
pub told_judges : {X A : Type 0} (view : X → A) (status : PartFault → Status) (position : ℕ) (f : PartFault) (stop : Stop Status) (answer : Result A PartFault)
    → StopsBy refuses fault.Memory (part_status position) f stop → part_status position f ≡ status f → (f ≢ fault.Memory → answer ≡ Err f) → Judges refuses view (Err stop) (by_reading status answer)
told_judges {X} {A} view status position f (Refused e) answer stops told gives =
    (stops.0, ap (λ (r : Result A PartFault). by_reading status r) (gives stops.1) ∙ ap (λ (s : Status). Refuse s) (sym told ∙ sym stops.2))
told_judges view status position f Unread answer stops told gives = stops
told_judges view status position f Memory answer stops told gives = tt

-- ---- one part
pub checked_line : (root : Hash32) (part : Part) (text : List ℕ) → checked root part ≡ Ok tt → text ≡ part_line part → check_answer root part ≡ Answer text
checked_line root part text passed told =
    behind_answer (λ accepted. Answer (part_line part)) (ap (λ (r : Result (Unit {0}) PartFault). by_reading (part_status 0) r) passed) (ap (λ (t : List ℕ). Answer t) (sym told))

pub checked_stop : (root : Hash32) (part : Part) (f : PartFault) (stop : Stop Status) → StopsBy refuses fault.Memory (part_status 0) f stop → (f ≢ fault.Memory → checked root part ≡ Err f)
    → Judges refuses (λ (text : List ℕ). text) (Err stop) (check_answer root part)
checked_stop root part f stop stops gives =
    behind_stop (λ (u : Unit {0}). u) (λ (text : List ℕ). text) stop (by_reading (part_status 0) (checked root part)) (λ accepted. Answer (part_line part)) (told_judges (λ (u : Unit {0}). u) (part_status 0) 0 f stop (checked root part) stops refl gives)

-- ---- all parts, of the root of a word
abbrev joining : Hash32 → List Part → Plan (List Entry) Status
joining root parts = by_reading (join_status root parts) (joined_or_fault root parts)

pub joined_line : (word : List ℕ) (root : Hash32) (parts : List Part) (es : List Entry) (text : List ℕ) → root ≡ root_in word → joining root parts ≡ Answer es → text ≡ root_line word es → join_answer word parts ≡ Answer text
joined_line word root parts es text spelled made told =
    behind_answer (λ (found : List Entry). Answer (root_line word found)) (subst (λ (h : Hash32). joining h parts ≡ Answer es) spelled made) (ap (λ (t : List ℕ). Answer t) (sym told))

pub joined_stop : (word : List ℕ) (root : Hash32) (parts : List Part) (stop : Stop Status) → root ≡ root_in word → Judges refuses (λ (es : List Entry). es) (Err stop) (joining root parts)
    → Judges refuses (λ (text : List ℕ). text) (Err stop) (join_answer word parts)
joined_stop word root parts stop spelled judges =
    behind_stop (λ (es : List Entry). es) (λ (text : List ℕ). text) stop (joining (root_in word) parts) (λ (found : List Entry). Answer (root_line word found)) (subst (λ (h : Hash32). Judges refuses (λ (es : List Entry). es) (Err stop) (joining h parts)) spelled judges)
