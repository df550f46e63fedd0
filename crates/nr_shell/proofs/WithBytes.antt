-- Plans with the bytes of a file in its place, and plans whose refusals are told otherwise.
use Rattle.std.proofs.Common.{◌≡◌, ℕ, Bool, true, false, cond, List, [], ◌∷◌, length, Option, Some, Result, Ok, Err, refl, sym, ap, subst, ◌∙◌}
use Rattle.std.specs.Prelude.{nat_lt}
use Rattle.nr_shell.specs.Answers.{Answers, Breaks, Comes, Follows, Judges, Retells, Stops}
use Rattle.nr_shell.specs.Plans.{Plan, Answer, Refuse, Ask, Allows, Asks, LeadsBy, Turns, and_then, by_length, file_plan, with_bytes, map_refusal}
use Rattle.nr_shell.specs.declared.stop.Stop.{Stop}
use Rattle.nr_shell.specs.declared.stop.Stop.TheVariants.{Unread, Memory, Refused}
use Rattle.nr_shell.proofs.Ends.{length_asks}
use Rattle.nr_shell.proofs.Leading.{length_behind}

-- ---- one step behind another
pub then_then : {A B C E : Type 0} (p : Plan A E) (next : A → Plan B E) (last : B → Plan C E) → and_then (and_then p next) last ≡ and_then p (λ a. and_then (next a) last)
unfolding and_then
then_then (Answer a) next last = refl
then_then (Refuse e) next last = refl
then_then (Ask name limit long by_bytes) next last = λ i. Ask name limit long (λ bytes. then_then (by_bytes bytes) next last i)

-- ---- a file whose bytes are there
turn_with_bytes : {A E : Type 0} (held : List ℕ → Option (List ℕ)) (name bytes : List ℕ) (p r : Plan A E) → held name ≡ Some bytes → Turns held name p r → r ≡ with_bytes bytes p
turn_with_bytes held name bytes (Answer a) r told turns = absurd turns
turn_with_bytes held name bytes (Refuse e) r told turns = absurd turns
turn_with_bytes {A} {E} held name bytes (Ask asked limit long by_bytes) r told turns =
    let same : bytes ≡ turns.0 = subst (λ (o : Option (List ℕ)). Allows o turns.0) told turns.2 in
    sym turns.3 ∙ ap (λ (b : List ℕ). by_length limit long by_bytes b) (sym same)

pub leads_with_bytes : {A E : Type 0} (held : List ℕ → Option (List ℕ)) (name bytes : List ℕ) (p q : Plan A E) → held name ≡ Some bytes → LeadsBy held (name ∷ []) p q → q ≡ with_bytes bytes p
leads_with_bytes held name bytes p q told leads = sym leads.2 ∙ turn_with_bytes held name bytes p leads.0 told leads.1

pub with_bytes_file : {A E : Type 0} (bytes name : List ℕ) (limit : ℕ) (long : E) (next : List ℕ → Plan A E) → with_bytes bytes (and_then (file_plan name limit long) next) ≡ by_length limit long next bytes
unfolding and_then
with_bytes_file bytes name limit long next = refl

pub with_bytes_then : {A B E : Type 0} (bytes name : List ℕ) (limit : ℕ) (long : E) (by_bytes : List ℕ → Plan A E) (next : A → Plan B E) → with_bytes bytes (and_then (and_then (file_plan name limit long) by_bytes) next) ≡ and_then (by_length limit long by_bytes bytes) next
unfolding and_then
with_bytes_then bytes name limit long by_bytes next = length_behind limit long by_bytes next bytes

pub with_bytes_behind : {A B E : Type 0} (bytes file : List ℕ) (files : List (List ℕ)) (p : Plan A E) (next : A → Plan B E) → Asks (file ∷ files) p → with_bytes bytes (and_then p next) ≡ and_then (with_bytes bytes p) next
unfolding and_then
with_bytes_behind bytes file files (Answer a) next asks = absurd asks
with_bytes_behind bytes file files (Refuse e) next asks = refl
with_bytes_behind bytes file files (Ask name limit long by_bytes) next asks = length_behind limit long by_bytes next bytes

pub with_bytes_asks : {A E : Type 0} (bytes file : List ℕ) (files : List (List ℕ)) (p : Plan A E) → Asks (file ∷ files) p → Asks files (with_bytes bytes p)
with_bytes_asks bytes file [] (Answer a) asks = absurd asks
with_bytes_asks bytes file (f ∷ files) (Answer a) asks = absurd asks
with_bytes_asks bytes file [] (Refuse e) asks = tt
with_bytes_asks bytes file (f ∷ files) (Refuse e) asks = tt
with_bytes_asks bytes file files (Ask name limit long by_bytes) asks = length_asks files limit long by_bytes bytes (asks.1 bytes)

-- the two files that a plan asks for first
pub with_bytes_both : {A B E : Type 0} (one two first second : List ℕ) (files : List (List ℕ)) (p : Plan A E) (next : A → Plan B E) → Asks (first ∷ second ∷ files) p → with_bytes two (with_bytes one (and_then p next)) ≡ and_then (with_bytes two (with_bytes one p)) next
with_bytes_both {A} {B} {E} one two first second files p next asks =
    ap (λ (q : Plan B E). with_bytes two q) (with_bytes_behind one first (second ∷ files) p next asks)
    ∙ with_bytes_behind two second files (with_bytes one p) next (with_bytes_asks one first (second ∷ files) p asks)

pub both_asks : {A E : Type 0} (one two first second : List ℕ) (files : List (List ℕ)) (p : Plan A E) → Asks (first ∷ second ∷ files) p → Asks files (with_bytes two (with_bytes one p))
both_asks one two first second files p asks = with_bytes_asks two second files (with_bytes one p) (with_bytes_asks one first (second ∷ files) p asks)

-- ---- calls that ask for no file
module _ {X A E : Type 0} (refuses : E → Bool) (view : X → A) (r : Result X (Stop E)) where
  pub judges_same : {p q : Plan A E} → p ≡ q → Judges refuses view r p → Judges refuses view r q
  judges_same {p} {q} e judges = subst (λ (plan : Plan A E). Judges refuses view r plan) e judges

  -- where lent bytes are those
  pub judges_bytes : (p : Plan A E) {first second one two : List ℕ} → first ≡ one → second ≡ two → Judges refuses view r (with_bytes second (with_bytes first p)) → Judges refuses view r (with_bytes two (with_bytes one p))
  judges_bytes p {first} {second} {one} {two} e f judges =
      let same : with_bytes second (with_bytes first p) ≡ with_bytes two (with_bytes one p) = ap (λ (bytes : List ℕ). with_bytes second (with_bytes bytes p)) e ∙ ap (λ (bytes : List ℕ). with_bytes bytes (with_bytes one p)) f in
      judges_same same judges

pub judges_then : {X A B E : Type 0} (refuses : E → Bool) (view : X → B) (r : Result X (Stop E)) (p : Plan A E) (a : A) (next : A → Plan B E) → p ≡ Answer a → Judges refuses view r (next a) → Judges refuses view r (and_then p next)
unfolding and_then
judges_then {X} {A} {B} {E} refuses view r p a next is judges = subst (λ (q : Plan A E). Judges refuses view r (and_then q next)) (sym is) judges

pub judges_stop : {X Y A B E : Type 0} (refuses : E → Bool) (view : X → A) (other : Y → B) (s : Stop E) (p : Plan A E) (next : A → Plan B E) → Judges refuses view (Err s) p → Judges refuses other (Err s) (and_then p next)
unfolding and_then
judges_stop {X} {Y} {A} {B} {E} refuses view other (Refused e) p next h = (h.0, ap (λ (q : Plan A E). and_then q next) h.1)
judges_stop refuses view other Unread p next h = h
judges_stop refuses view other Memory p next h = tt

-- ---- refusals that are told otherwise
length_map_refusal : {A E F : Type 0} (other : E → F) (limit : ℕ) (long : E) (by_bytes : List ℕ → Plan A E) (bytes : List ℕ) → by_length limit (other long) (λ b. map_refusal other (by_bytes b)) bytes ≡ map_refusal other (by_length limit long by_bytes bytes)
unfolding map_refusal
length_map_refusal {A} {E} {F} other limit long by_bytes bytes =
    elim (nat_lt limit (length bytes)) as (λ t. ◌≡◌ {A = Plan A F} (cond t (Refuse (other long)) (map_refusal other (by_bytes bytes))) (map_refusal other (cond t (Refuse long) (by_bytes bytes)))) [ true ↦ refl | false ↦ refl ]

pub map_refusal_asks : {A E F : Type 0} (other : E → F) (files : List (List ℕ)) (p : Plan A E) → Asks files p → Asks files (map_refusal other p)
unfolding map_refusal
map_refusal_asks other [] (Answer a) asks = tt
map_refusal_asks other (f ∷ files) (Answer a) asks = absurd asks
map_refusal_asks other [] (Refuse e) asks = tt
map_refusal_asks other (f ∷ files) (Refuse e) asks = tt
map_refusal_asks other [] (Ask name limit long by_bytes) asks = absurd asks
map_refusal_asks other (f ∷ files) (Ask name limit long by_bytes) asks = (asks.0, λ bytes. map_refusal_asks other files (by_bytes bytes) (asks.1 bytes))

turns_map_refusal : {A E F : Type 0} (other : E → F) (held : List ℕ → Option (List ℕ)) (name : List ℕ) (p q : Plan A E) → Turns held name p q → Turns held name (map_refusal other p) (map_refusal other q)
unfolding map_refusal
turns_map_refusal other held name (Answer a) q turns = absurd turns
turns_map_refusal other held name (Refuse e) q turns = absurd turns
turns_map_refusal {A} {E} {F} other held name (Ask asked limit long by_bytes) q turns =
    (turns.0, turns.1, turns.2, length_map_refusal other limit long by_bytes turns.0 ∙ ap (λ (x : Plan A E). map_refusal other x) turns.3)

leads_map_refusal : {A E F : Type 0} (other : E → F) (held : List ℕ → Option (List ℕ)) (names : List (List ℕ)) (p q : Plan A E) → LeadsBy held names p q → LeadsBy held names (map_refusal other p) (map_refusal other q)
leads_map_refusal {A} {E} {F} other held [] p q leads = ap (λ (x : Plan A E). map_refusal other x) leads
leads_map_refusal other held (n ∷ ns) p q leads = (map_refusal other leads.0, turns_map_refusal other held n p leads.0 leads.1, leads_map_refusal other held ns leads.0 q leads.2)

module _ {A E F : Type 0} (other : E → F) (held : List ℕ → Option (List ℕ)) (old new : List (List ℕ)) (p : Plan A E) where
  comes_map_refusal : (q : Plan A E) → Comes held old new p q → Comes held old new (map_refusal other p) (map_refusal other q)
  comes_map_refusal q comes = record { names = comes.names; asked = comes.asked; leads = leads_map_refusal other held comes.names p q comes.leads }

  answer_map_refusal : (a : A) → Comes held old new p (Answer a) → Comes held old new (map_refusal other p) (Answer a)
  unfolding map_refusal
  answer_map_refusal a comes = comes_map_refusal (Answer a) comes

  refuse_map_refusal : (e : E) → Comes held old new p (Refuse e) → Comes held old new (map_refusal other p) (Refuse (other e))
  unfolding map_refusal
  refuse_map_refusal e comes = comes_map_refusal (Refuse e) comes

  stops_map_refusal : Stops held old new p → Stops held old new (map_refusal other p)
  stops_map_refusal h = record { rest = map_refusal other h.rest; comes = comes_map_refusal h.rest h.comes }

ask_map_refusal : {A E F : Type 0} (other : E → F) (held : List ℕ → Option (List ℕ)) (old new : List (List ℕ)) (p : Plan A E) (name : List ℕ) (limit : ℕ) (long : E) (by_bytes : List ℕ → Plan A E)
    → Comes held old new p (Ask name limit long by_bytes) → Comes held old new (map_refusal other p) (Ask name limit (other long) (λ bytes. map_refusal other (by_bytes bytes)))
unfolding map_refusal
ask_map_refusal other held old new p name limit long by_bytes comes = comes_map_refusal other held old new p (Ask name limit long by_bytes) comes

breaks_map_refusal : {A E F : Type 0} (other : E → F) (held : List ℕ → Option (List ℕ)) (old new : List (List ℕ)) (p : Plan A E) → Breaks held old new p → Breaks held old new (map_refusal other p)
breaks_map_refusal other held old new p b = record {
  before = b.before;
  name = b.name;
  limit = b.limit;
  long = other b.long;
  by_bytes = λ bytes. map_refusal other (b.by_bytes bytes);
  comes = ask_map_refusal other held old b.before p b.name b.limit b.long b.by_bytes b.comes;
  last = b.last;
}

-- a refusal that there is no memory to tell
refuse_stops : {A E F : Type 0} (other : E → F) (held : List ℕ → Option (List ℕ)) (old new : List (List ℕ)) (p : Plan A E) (e : E) → Comes held old new p (Refuse e) → Stops held old new (map_refusal other p)
refuse_stops other held old new p e comes = record { rest = Refuse (other e); comes = refuse_map_refusal other held old new p e comes }

stop_map_refusal : {X A E F : Type 0} (known : E → Bool) (refuses : F → Bool) (view : X → A) (other : E → F) (held : List ℕ → Option (List ℕ)) (old new : List (List ℕ)) (p : Plan A E) (s : Stop E) (t : Stop F)
    → ((e : E) → known e ≡ true → refuses (other e) ≡ true) → Retells other s t → Answers known view held old new (Err s) p → Answers refuses view held old new (Err t) (map_refusal other p)
stop_map_refusal {X} {A} {E} {F} known refuses view other held old new p Unread t goes_on told h =
    subst (λ (u : Stop F). Answers refuses view held old new (Err u) (map_refusal other p)) (sym told) (breaks_map_refusal other held old new p h)
stop_map_refusal {X} {A} {E} {F} known refuses view other held old new p Memory t goes_on told h =
    subst (λ (u : Stop F). Answers refuses view held old new (Err u) (map_refusal other p)) (sym told) (stops_map_refusal other held old new p h)
stop_map_refusal known refuses view other held old new p (Refused e) Unread goes_on told h = absurd told
stop_map_refusal known refuses view other held old new p (Refused e) Memory goes_on told h = refuse_stops other held old new p e h.1
stop_map_refusal {X} {A} {E} {F} known refuses view other held old new p (Refused e) (Refused f) goes_on told h =
    subst (λ (x : F). Answers refuses view held old new (Err (Refused x)) (map_refusal other p)) (sym told) (goes_on e h.0, refuse_map_refusal other held old new p e h.1)

-- what is unread was so before
pub unread_before : {E F : Type 0} (other : E → F) (s : Stop E) (t : Stop F) → Retells other s t → t ≡ Unread → s ≡ Unread
unread_before other Unread t told e = refl
unread_before other Memory t told e = let wrong : ⊥ = cc in absurd wrong
unread_before other (Refused e) Unread told is = absurd told
unread_before other (Refused e) Memory told is = let wrong : ⊥ = cc in absurd wrong
unread_before other (Refused e) (Refused f) told is = let wrong : ⊥ = cc in absurd wrong

pub pass_follows : {X A E F : Type 0} {known : E → Bool} {refuses : F → Bool} {view : X → A} {held kept : List ℕ → Option (List ℕ)} {old new : List (List ℕ)} {before after : ℕ} {x : X} {p : Plan A E} (other : E → F)
    → Follows known view held kept old new before after (Ok x) p → Follows refuses view held kept old new before after (Ok x) (map_refusal other p)
pass_follows {X} {A} {E} {F} {known} {refuses} {view} {held} {kept} {old} {new} {before} {after} {x} {p} other one = record {
  answers = answer_map_refusal other held old new p (view x) one.answers;
  keeps = one.keeps;
  failed = λ e. let wrong : ⊥ = cc in absurd wrong;
  rises = one.rises;
}

pub retold_follows : {X A E F : Type 0} {known : E → Bool} {refuses : F → Bool} {view : X → A} {held kept : List ℕ → Option (List ℕ)} {old new : List (List ℕ)} {before after : ℕ} {s : Stop E} {t : Stop F} {p : Plan A E} (other : E → F)
    → ((e : E) → known e ≡ true → refuses (other e) ≡ true) → Retells other s t → Follows known view held kept old new before after (Err s) p → Follows refuses view held kept old new before after (Err t) (map_refusal other p)
retold_follows {X} {A} {E} {F} {known} {refuses} {view} {held} {kept} {old} {new} {before} {after} {s} {t} {p} other goes_on told one = record {
  answers = stop_map_refusal known refuses view other held old new p s t goes_on told one.answers;
  keeps = one.keeps;
  failed = λ e. let is : t ≡ Unread = cc in one.failed (ap (λ (u : Stop E). Err u) (unread_before other s t told is));
  rises = one.rises;
}
