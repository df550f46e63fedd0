-- Which answers of a command are right for its plan, before anything is written. This project's own.
use Rattle.std.specs.Prelude.{◌≡◌, ◌≢◌, ◌≤◌, ℕ, Bool, true, List, [], ◌∷◌, ◌++◌, Option, Result, Ok, Err}
use Rattle.nr_bytes.specs.Outside.{Rose}
use Rattle.nr_bytes.specs.declared.shelf.LoadFault.{LoadFault}
use Rattle.nr_bytes.specs.declared.shelf.LoadFault.TheVariants as fault
use Rattle.nr_shell.specs.Plans.{Plan, Answer, Refuse, Ask, LeadsBy}
use Rattle.nr_shell.specs.declared.stop.Stop.{Stop}
use Rattle.nr_shell.specs.declared.stop.Stop.TheVariants.{Unread, Memory, Refused}

-- the names asked for grew by those of files that lead from one plan to another
pub record Comes {A E : Type 0} (held : List ℕ → Option (List ℕ)) (old new : List (List ℕ)) (p q : Plan A E)
    : Type 0 where
  pub names : List (List ℕ)
  pub asked : new ≡ old ++ names
  pub leads : LeadsBy held names p q

-- a plan was begun, and its rest is left
pub record Stops {A E : Type 0} (held : List ℕ → Option (List ℕ)) (old new : List (List ℕ)) (p : Plan A E)
    : Type 0 where
  pub rest : Plan A E
  pub comes : Comes held old new p rest

-- a plan came to a file, which was asked for last
pub record Breaks {A E : Type 0} (held : List ℕ → Option (List ℕ)) (old new : List (List ℕ)) (p : Plan A E)
    : Type 0 where
  pub before : List (List ℕ)
  pub name : List ℕ
  pub limit : ℕ
  pub long : E
  pub by_bytes : List ℕ → Plan A E
  pub comes : Comes held old before p (Ask name limit long by_bytes)
  pub last : new ≡ before ++ name ∷ []

-- A call answers by its plan: what the plan answers, as the view shows it; what it refuses, with a status that refuses;
-- or that it stopped, at a file or for want of memory.
abbrev pub Answers : {X A E : Type 0} → (E → Bool) → (X → A) → (List ℕ → Option (List ℕ))
    → List (List ℕ) → List (List ℕ) → Result X (Stop E) → Plan A E → Type 0
Answers refuses view held old new (Ok x) plan = Comes held old new plan (Answer (view x))
Answers refuses view held old new (Err (Refused e)) plan = (refuses e ≡ true) × Comes held old new plan (Refuse e)
Answers refuses view held old new (Err Unread) plan = Breaks held old new plan
Answers refuses view held old new (Err Memory) plan = Stops held old new plan

-- A call follows its plan: it answers so, and the shelf goes on holding what it held; a file is unread only where the
-- count of faults rose, and that never falls.
pub record Follows {X A E : Type 0} (refuses : E → Bool) (view : X → A) (held kept : List ℕ → Option (List ℕ))
    (old new : List (List ℕ)) (before after : ℕ) (result : Result X (Stop E)) (plan : Plan A E) : Type 0 where
  pub answers : Answers refuses view held old new result plan
  pub keeps : (name : List ℕ) → kept name ≡ held name
  pub failed : result ≡ Err Unread → Rose before after
  pub rises : before ≤ after

-- the same of a call that asks for no file
abbrev pub Judges : {X A E : Type 0} → (E → Bool) → (X → A) → Result X (Stop E) → Plan A E → Type 0
Judges refuses view (Ok x) plan = plan ≡ Answer (view x)
Judges refuses view (Err (Refused e)) plan = (refuses e ≡ true) × (plan ≡ Refuse e)
Judges refuses view (Err Unread) plan = ⊥
Judges refuses view (Err Memory) plan = Unit {0}

-- why a load stops that gave a fault, where this refuses a longer file
abbrev pub load_stop : {E : Type 0} → LoadFault → E → Stop E
load_stop fault.Failed long = Unread
load_stop fault.TooLong long = Refused long
load_stop fault.Memory long = Memory

-- a call made this, unless memory ran out
abbrev pub Makes : {A E : Type 0} → Result A (Stop E) → A → Type 0
Makes (Ok x) due = x ≡ due
Makes (Err (Refused e)) due = ⊥
Makes (Err Unread) due = ⊥
Makes (Err Memory) due = Unit {0}

-- why a reading stops that gave a fault: memory ran out, or the fault's status refuses
abbrev pub StopsBy : {E F : Type 0} → (E → Bool) → F → (F → E) → F → Stop E → Type 0
StopsBy refuses memory status fault (Refused e) = (refuses e ≡ true) × (fault ≢ memory) × (e ≡ status fault)
StopsBy refuses memory status fault Unread = ⊥
StopsBy refuses memory status fault Memory = fault ≡ memory

-- why a command stops, where each refusal is told by another, or there is no memory to tell it
abbrev pub Retells : {E F : Type 0} → (E → F) → Stop E → Stop F → Type 0
Retells other Unread s = s ≡ Unread
Retells other Memory s = s ≡ Memory
Retells other (Refused e) Unread = ⊥
Retells other (Refused e) Memory = Unit {0}
Retells other (Refused e) (Refused f) = f ≡ other e
