-- What the answers of a top call say, by their class: what the shelf was asked for, and what the sink then took. This
-- project's own.
use Rattle.std.specs.Prelude.{◌≡◌, ℕ, Bool, true, false, List, Option}
use Rattle.nr_bytes.specs.Outside.{Grew}
use Rattle.nr_shell.specs.Answers.{Breaks, Comes, Stops}
use Rattle.nr_shell.specs.Plans.{Plan, Answer, Refuse}
use Rattle.nr_shell.specs.Writing.{GrewInPart}

-- the text was written, or a front of it; or before the writing a file was unread, memory ran out, or the plan refuses
pub data Class : Type 0 where
  Written : Class
  CutShort : Class
  Unreadable : Class
  Exhausted : Class
  Refusal : Class

abbrev pub is_refusal : Class → Bool
is_refusal Written = false
is_refusal CutShort = false
is_refusal Unreadable = false
is_refusal Exhausted = false
is_refusal Refusal = true

-- What the shelf was asked for, and what the sink took, by the class of the answer.
abbrev pub ServesAs : {S : Type 0} → Class → S → Plan (List ℕ) S → (List ℕ → Option (List ℕ)) → List (List ℕ)
    → List (List ℕ) → Option (List ℕ) → Option (List ℕ) → Type 0
ServesAs Written status plan held asked asks took takes =
    (text : List ℕ) × Comes held asked asks plan (Answer text) × Grew took takes text
ServesAs CutShort status plan held asked asks took takes =
    (text : List ℕ) × Comes held asked asks plan (Answer text) × GrewInPart took takes text
ServesAs Unreadable status plan held asked asks took takes = Breaks held asked asks plan × (takes ≡ took)
ServesAs Exhausted status plan held asked asks took takes = Stops held asked asks plan × (takes ≡ took)
ServesAs Refusal status plan held asked asks took takes = Comes held asked asks plan (Refuse status) × (takes ≡ took)
