-- The file that was asked for last, and the status of a command that stopped.
use Rattle.std.proofs.Common.{◌≡◌, ℕ, Bool, true, false, cond, List, [], ◌∷◌, ◌++◌, length, Option, Some, None, Result}
use Rattle.std.proofs.Common.{Err, refl, sym, subst, ap, ◌∙◌, inl, inr, append_assoc}
use Rattle.std.specs.Prelude.{nat_lt}
use Rattle.nr_shell.specs.Answers.{Answers, Breaks, Comes, Stops}
use Rattle.nr_shell.specs.Plans.{Plan, Answer, Refuse, Ask, Allows, Asks, LeadsBy, by_length}
use Rattle.nr_shell.specs.declared.stop.Stop.{Stop}
use Rattle.nr_shell.specs.declared.stop.Stop.TheVariants.{Unread, Memory, Refused}
use Rattle.nr_files.specs.Answers.{EndsIn, IsStatusOf, Serves, output_in, refuses}
use Rattle.nr_files.specs.Due.{Output}
use Rattle.nr_files.specs.declared.status.Status.{Status}
use Rattle.nr_files.specs.declared.status.Status.TheVariants.{Done, Usage, NoSentence, Config, TooLong, Faulty}
use Rattle.nr_files.specs.declared.status.Status.TheVariants.{ReadFault, WriteFault, NoMemory}

none_more : {A E : Type 0} (limit : ℕ) (long : E) (by_bytes : List ℕ → Plan A E) (bytes : List ℕ) → Asks [] (by_bytes bytes) → Asks [] (by_length limit long by_bytes bytes)
none_more {A} {E} limit long by_bytes bytes asks = elim (nat_lt limit (length bytes)) as (λ t. Asks {A = A} [] (cond t (Refuse long) (by_bytes bytes))) [ true ↦ tt | false ↦ asks ]

allowed : (told : Option (List ℕ)) → (bytes : List ℕ) × Allows told bytes
allowed None = ([], tt)
allowed (Some told) = (told, refl)

module _ {A E : Type 0} (held : List ℕ → Option (List ℕ)) where
  -- a plan that asks for no file comes to none
  none_due : (names : List (List ℕ)) (p : Plan A E) (name : List ℕ) (limit : ℕ) (long : E) (by_bytes : List ℕ → Plan A E) → Asks [] p → LeadsBy held names p (Ask name limit long by_bytes) → ⊥
  none_due [] p name limit long by_bytes asks leads = subst (λ (q : Plan A E). Asks [] q) leads asks
  none_due (n ∷ ns) (Answer a) name limit long by_bytes asks leads = leads.1
  none_due (n ∷ ns) (Refuse e) name limit long by_bytes asks leads = leads.1
  none_due (n ∷ ns) (Ask asked most other next) name limit long by_bytes asks leads = asks

  -- a plan that asks for one file comes to this one
  one_due : (file : List ℕ) (names : List (List ℕ)) (p : Plan A E) (name : List ℕ) (limit : ℕ) (long : E) (by_bytes : List ℕ → Plan A E) → Asks (file ∷ []) p → LeadsBy held names p (Ask name limit long by_bytes) → name ≡ file
  one_due file [] p name limit long by_bytes asks leads = (subst (λ (q : Plan A E). Asks (file ∷ []) q) leads asks).0
  one_due file (n ∷ ns) (Answer a) name limit long by_bytes asks leads = absurd leads.1
  one_due file (n ∷ ns) (Refuse e) name limit long by_bytes asks leads = absurd leads.1
  one_due file (n ∷ ns) (Ask asked most other next) name limit long by_bytes asks leads =
      let none : Asks [] leads.0 = subst (λ (q : Plan A E). Asks [] q) leads.1.3 (none_more most other next leads.1.0 (asks.1 leads.1.0)) in
      absurd (none_due ns leads.0 name limit long by_bytes none leads.2)

  pub file_last : (old new : List (List ℕ)) (file : List ℕ) (p : Plan A E) → Asks (file ∷ []) p → Breaks held old new p → EndsIn new file
  file_last old new file p asks b =
      (b.before, subst (λ (n : List ℕ). new ≡ b.before ++ n ∷ []) (one_due file b.comes.names p b.name b.limit b.long b.by_bytes asks b.comes.leads) b.last)

  -- the one file, or none
  pub word_last : (free : Bool) (old new : List (List ℕ)) (file : List ℕ) (p : Plan A E) → Asks (cond free [] (file ∷ [])) p → Breaks held old new p → EndsIn new file
  word_last true old new file p asks b = absurd (none_due b.comes.names p b.name b.limit b.long b.by_bytes asks b.comes.leads)
  word_last false old new file p asks b = file_last old new file p asks b

  leads_on : (names more : List (List ℕ)) (p q r : Plan A E) → LeadsBy held names p q → LeadsBy held more q r → LeadsBy held (names ++ more) p r
  leads_on [] more p q r one two = subst (λ (x : Plan A E). LeadsBy held more x r) (sym one) two
  leads_on (n ∷ ns) more p q r one two = (one.0, one.1, leads_on ns more one.0 q r one.2 two)

  -- a plan that came to a file was begun
  pub break_stops : (old new : List (List ℕ)) (p : Plan A E) → Breaks held old new p → Stops held old new p
  break_stops old new p b =
      let bytes = allowed (held b.name) in
      let rest : Plan A E = by_length b.limit b.long b.by_bytes bytes.0 in
      let asks : Plan A E = Ask b.name b.limit b.long b.by_bytes in
      record {
        rest = rest;
        comes = record {
          names = b.comes.names ++ b.name ∷ [];
          asked = b.last ∙ ap (λ (l : List (List ℕ)). l ++ b.name ∷ []) b.comes.asked ∙ append_assoc old b.comes.names (b.name ∷ []);
          leads = leads_on b.comes.names (b.name ∷ []) p asks rest b.comes.leads (rest, (bytes.0, refl, bytes.1, refl), refl);
        };
      }

-- an answer that a file is unread, told by the plan
pub unread : {X A E : Type 0} (known : E → Bool) (view : X → A) (held : List ℕ → Option (List ℕ)) (old new : List (List ℕ)) (p : Plan A E) (r : Result X (Stop E)) → Answers known view held old new r p → r ≡ Err Unread → Breaks held old new p
unread {X} {A} {E} known view held old new p r h e = subst (λ (t : Result X (Stop E)). Answers known view held old new t p) e h

-- ---- statuses
refused_serves : (status : Status) (plan : Plan Output Status) (held : List ℕ → Option (List ℕ)) (asked asks : List (List ℕ)) (took : Option (List ℕ)) → refuses status ≡ true → Comes held asked asks plan (Refuse status) → Serves status plan held asked asks took took
refused_serves Done plan held asked asks took known comes = absurd cc
refused_serves Usage plan held asked asks took known comes = (comes, refl)
refused_serves NoSentence plan held asked asks took known comes = (comes, refl)
refused_serves (Config kind entry) plan held asked asks took known comes = (comes, refl)
refused_serves TooLong plan held asked asks took known comes = (comes, refl)
refused_serves (Faulty line) plan held asked asks took known comes = (comes, refl)
refused_serves (ReadFault name) plan held asked asks took known comes = absurd cc
refused_serves WriteFault plan held asked asks took known comes = absurd cc
refused_serves NoMemory plan held asked asks took known comes = absurd cc

abbrev Stopped : Stop Status → Plan Output Status → (List ℕ → Option (List ℕ)) → List (List ℕ) → List (List ℕ) → Type 0
Stopped stop plan held asked asks = Answers refuses output_in held asked asks (Err stop) plan

pub stop_serves : (stop : Stop Status) (file : List ℕ) (status : Status) (plan : Plan Output Status) (held : List ℕ → Option (List ℕ)) (asked asks : List (List ℕ)) (took : Option (List ℕ))
    → IsStatusOf stop file status → Stopped stop plan held asked asks → (stop ≡ Unread → EndsIn asks file) → Serves status plan held asked asks took took
stop_serves Unread file status plan held asked asks took is h last =
    elim is [
      | inl e ↦ subst (λ (s : Status). Serves s plan held asked asks took took) (sym e) (h, last refl, refl)
      | inr e ↦ subst (λ (s : Status). Serves s plan held asked asks took took) (sym e) (break_stops held asked asks plan h, refl)
    ]
stop_serves Memory file status plan held asked asks took is h last = subst (λ (s : Status). Serves s plan held asked asks took took) (sym is) (h, refl)
stop_serves (Refused refusal) file status plan held asked asks took is h last =
    subst (λ (s : Status). Serves s plan held asked asks took took) (sym is) (refused_serves refusal plan held asked asks took h.0 h.1)

pub read_fault : (stop : Stop Status) (file name : List ℕ) (status : Status) (plan : Plan Output Status) (held : List ℕ → Option (List ℕ)) (asked asks : List (List ℕ)) → IsStatusOf stop file status → Stopped stop plan held asked asks → status ≡ ReadFault name → stop ≡ Unread
read_fault Unread file name status plan held asked asks is h e = refl
read_fault Memory file name status plan held asked asks is h e = absurd cc
read_fault (Refused refusal) file name status plan held asked asks is h e =
    let known : refuses (ReadFault name) ≡ true = subst (λ (s : Status). refuses s ≡ true) (sym is ∙ e) h.0 in
    absurd cc

pub no_write_fault : (stop : Stop Status) (file : List ℕ) (status : Status) (plan : Plan Output Status) (held : List ℕ → Option (List ℕ)) (asked asks : List (List ℕ)) → IsStatusOf stop file status → Stopped stop plan held asked asks → status ≡ WriteFault → ⊥
no_write_fault Unread file status plan held asked asks is h e = elim is [ inl f ↦ cc | inr f ↦ cc ]
no_write_fault Memory file status plan held asked asks is h e = cc
no_write_fault (Refused refusal) file status plan held asked asks is h e =
    let known : refuses WriteFault ≡ true = subst (λ (s : Status). refuses s ≡ true) (sym is ∙ e) h.0 in
    cc
