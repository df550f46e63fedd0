-- Steps of a plan, one behind another.
use Rattle.std.proofs.Common.{◌≡◌, ℕ, ◌≤◌, Bool, true, false, cond, List, [], ◌∷◌, ◌++◌, length, Option, Result, Ok, Err, refl, sym, ap, subst, ◌∙◌, inl, inr, arith, append_assoc}
use Rattle.std.specs.Prelude.{nat_lt}
use Rattle.std.proofs.lemmas.List.{append-nil}
use Rattle.std.specs.Global.{Vec}
use Rattle.nr_bytes.specs.Outside.{Rose}
use Rattle.nr_shell.specs.Answers.{Answers, Breaks, Comes, Follows, Judges, Makes, Stops}
use Rattle.nr_shell.specs.Plans.{Plan, Answer, Refuse, Ask, Allows, LeadsBy, Turns, and_then, by_length}
use Rattle.nr_shell.specs.declared.stop.Stop.{Stop}
use Rattle.nr_shell.specs.declared.stop.Stop.TheVariants.{Unread, Memory, Refused}

-- ---- ways
leads_twice : {A E : Type 0} (held : List ℕ → Option (List ℕ)) (names more : List (List ℕ)) (p q r : Plan A E) → LeadsBy held names p q → LeadsBy held more q r → LeadsBy held (names ++ more) p r
leads_twice {A} {E} held [] more p q r one two = subst (λ (x : Plan A E). LeadsBy held more x r) (sym one) two
leads_twice held (n ∷ ns) more p q r one two = (one.0, one.1, leads_twice held ns more one.0 q r one.2 two)

turns_same : {A E : Type 0} (other held : List ℕ → Option (List ℕ)) (name : List ℕ) (p q : Plan A E) → ((n : List ℕ) → other n ≡ held n) → Turns other name p q → Turns held name p q
turns_same other held name (Answer a) q same turns = turns
turns_same other held name (Refuse e) q same turns = turns
turns_same other held name (Ask asked limit long by_bytes) q same turns = (turns.0, turns.1, subst (λ (o : Option (List ℕ)). Allows o turns.0) (same name) turns.2, turns.3)

leads_same : {A E : Type 0} (other held : List ℕ → Option (List ℕ)) (names : List (List ℕ)) (p q : Plan A E) → ((n : List ℕ) → other n ≡ held n) → LeadsBy other names p q → LeadsBy held names p q
leads_same other held [] p q same leads = leads
leads_same other held (n ∷ ns) p q same leads = (leads.0, turns_same other held n p leads.0 same leads.1, leads_same other held ns leads.0 q same leads.2)

-- ---- what stands behind a step
pub length_behind : {A B E : Type 0} (limit : ℕ) (long : E) (by_bytes : List ℕ → Plan A E) (next : A → Plan B E) (bytes : List ℕ) → by_length limit long (λ b. and_then (by_bytes b) next) bytes ≡ and_then (by_length limit long by_bytes bytes) next
unfolding and_then
length_behind {A} {B} {E} limit long by_bytes next bytes =
    elim (nat_lt limit (length bytes)) as (λ t. ◌≡◌ {A = Plan B E} (cond t (Refuse long) (and_then (by_bytes bytes) next)) (and_then (cond t (Refuse long) (by_bytes bytes)) next)) [ true ↦ refl | false ↦ refl ]

turns_behind : {A B E : Type 0} (held : List ℕ → Option (List ℕ)) (name : List ℕ) (p q : Plan A E) (next : A → Plan B E) → Turns held name p q → Turns held name (and_then p next) (and_then q next)
unfolding and_then
turns_behind held name (Answer a) q next turns = absurd turns
turns_behind held name (Refuse e) q next turns = absurd turns
turns_behind {A} {B} {E} held name (Ask asked limit long by_bytes) q next turns =
    (turns.0, turns.1, turns.2, length_behind limit long by_bytes next turns.0 ∙ ap (λ (x : Plan A E). and_then x next) turns.3)

leads_behind : {A B E : Type 0} (held : List ℕ → Option (List ℕ)) (names : List (List ℕ)) (p q : Plan A E) (next : A → Plan B E) → LeadsBy held names p q → LeadsBy held names (and_then p next) (and_then q next)
unfolding and_then
leads_behind {A} {B} {E} held [] p q next leads = ap (λ (x : Plan A E). and_then x next) leads
leads_behind held (n ∷ ns) p q next leads = (and_then leads.0 next, turns_behind held n p leads.0 next leads.1, leads_behind held ns leads.0 q next leads.2)

comes_behind : {A B E : Type 0} (held : List ℕ → Option (List ℕ)) (old new : List (List ℕ)) (p q : Plan A E) (next : A → Plan B E) → Comes held old new p q → Comes held old new (and_then p next) (and_then q next)
comes_behind held old new p q next comes = record { names = comes.names; asked = comes.asked; leads = leads_behind held comes.names p q next comes.leads }

comes_then : {A B E : Type 0} (held then_held : List ℕ → Option (List ℕ)) (old mid new : List (List ℕ)) (p : Plan A E) (a : A) (next : A → Plan B E) (q : Plan B E) → ((n : List ℕ) → then_held n ≡ held n)
    → Comes held old mid p (Answer a) → Comes then_held mid new (next a) q → Comes held old new (and_then p next) q
unfolding and_then
comes_then held then_held old mid new p a next q same one two = record {
  names = one.names ++ two.names;
  asked = two.asked ∙ ap (λ (l : List (List ℕ)). l ++ two.names) one.asked ∙ append_assoc old one.names two.names;
  leads = leads_twice held one.names two.names (and_then p next) (next a) q (leads_behind held one.names p (Answer a) next one.leads) (leads_same then_held held two.names (next a) q same two.leads);
}

breaks_behind : {A B E : Type 0} (held : List ℕ → Option (List ℕ)) (old new : List (List ℕ)) (p : Plan A E) (next : A → Plan B E) → Breaks held old new p → Breaks held old new (and_then p next)
unfolding and_then
breaks_behind held old new p next b = record {
  before = b.before;
  name = b.name;
  limit = b.limit;
  long = b.long;
  by_bytes = λ bytes. and_then (b.by_bytes bytes) next;
  comes = comes_behind held old b.before p (Ask b.name b.limit b.long b.by_bytes) next b.comes;
  last = b.last;
}

breaks_then : {A B E : Type 0} (held then_held : List ℕ → Option (List ℕ)) (old mid new : List (List ℕ)) (p : Plan A E) (a : A) (next : A → Plan B E) → ((n : List ℕ) → then_held n ≡ held n)
    → Comes held old mid p (Answer a) → Breaks then_held mid new (next a) → Breaks held old new (and_then p next)
breaks_then held then_held old mid new p a next same one two = record {
  before = two.before;
  name = two.name;
  limit = two.limit;
  long = two.long;
  by_bytes = two.by_bytes;
  comes = comes_then held then_held old mid two.before p a next (Ask two.name two.limit two.long two.by_bytes) same one two.comes;
  last = two.last;
}

-- ---- answers
-- nothing was asked for
pub stays : {A E : Type 0} (held : List ℕ → Option (List ℕ)) (names : List (List ℕ)) (p : Plan A E) → Comes held names names p p
stays held names p = record { names = []; asked = sym (append-nil names); leads = refl }

pub begun : {A E : Type 0} (held : List ℕ → Option (List ℕ)) (names : List (List ℕ)) (p : Plan A E) → Stops held names names p
begun held names p = record { rest = p; comes = stays held names p }

-- a step that gave its value, and the one behind it
then_answers : {X A B E : Type 0} (refuses : E → Bool) (view : X → B) (held then_held : List ℕ → Option (List ℕ)) (old mid new : List (List ℕ)) (p : Plan A E) (a : A) (next : A → Plan B E) (r : Result X (Stop E))
    → ((n : List ℕ) → then_held n ≡ held n) → Comes held old mid p (Answer a) → Answers refuses view then_held mid new r (next a) → Answers refuses view held old new r (and_then p next)
then_answers refuses view held then_held old mid new p a next (Ok x) same one two = comes_then held then_held old mid new p a next (Answer (view x)) same one two
then_answers refuses view held then_held old mid new p a next (Err (Refused e)) same one two = (two.0, comes_then held then_held old mid new p a next (Refuse e) same one two.1)
then_answers refuses view held then_held old mid new p a next (Err Unread) same one two = breaks_then held then_held old mid new p a next same one two
then_answers refuses view held then_held old mid new p a next (Err Memory) same one two = record { rest = two.rest; comes = comes_then held then_held old mid new p a next two.rest same one two.comes }

-- a step that stopped, whatever comes behind it
stop_answers : {X Y A B E : Type 0} (refuses : E → Bool) (view : X → A) (other : Y → B) (held : List ℕ → Option (List ℕ)) (old new : List (List ℕ)) (p : Plan A E) (next : A → Plan B E) (s : Stop E)
    → Answers refuses view held old new (Err s) p → Answers refuses other held old new (Err s) (and_then p next)
unfolding and_then
stop_answers refuses view other held old new p next (Refused e) h = (h.0, comes_behind held old new p (Refuse e) next h.1)
stop_answers refuses view other held old new p next Unread h = breaks_behind held old new p next h
stop_answers refuses view other held old new p next Memory h = record { rest = and_then h.rest next; comes = comes_behind held old new p h.rest next h.comes }

-- ---- calls that ask for no file
judged : {X A E : Type 0} (refuses : E → Bool) (view : X → A) (held : List ℕ → Option (List ℕ)) (names : List (List ℕ)) (r : Result X (Stop E)) (p : Plan A E) → Judges refuses view r p → Answers refuses view held names names r p
judged {X} {A} {E} refuses view held names (Ok x) p h = subst (λ (q : Plan A E). Comes held names names q (Answer (view x))) (sym h) (stays held names (Answer (view x)))
judged {X} {A} {E} refuses view held names (Err (Refused e)) p h = (h.0, subst (λ (q : Plan A E). Comes held names names q (Refuse e)) (sym h.1) (stays held names (Refuse e)))
judged refuses view held names (Err Unread) p h = absurd h
judged refuses view held names (Err Memory) p h = begun held names p

pub make_judges : {A E : Type 0} (refuses : E → Bool) (r : Result A (Stop E)) (due : A) → Makes r due → Judges refuses (λ x. x) r (Answer due)
make_judges {A} {E} refuses (Ok x) due made = let answered : A → Plan A E = λ a. Answer a in ap answered (sym made)
make_judges refuses (Err (Refused e)) due made = absurd made
make_judges refuses (Err Unread) due made = made
make_judges refuses (Err Memory) due made = made

-- ---- calls that follow their plans
rose_since : (a b c : ℕ) → a ≤ b → Rose b c → Rose a c
rose_since a b c le rose = elim rose [ inl lt ↦ inl (omega (arith, le, lt)) | inr e ↦ inr e ]

pub then_follows : {X Y A B E : Type 0} {refuses : E → Bool} {view : X → A} {other : Y → B} {held then_held kept : List ℕ → Option (List ℕ)} {old mid new : List (List ℕ)} {before between after : ℕ} {x : X} {r : Result Y (Stop E)} {p : Plan A E} (next : A → Plan B E)
    → Follows refuses view held then_held old mid before between (Ok x) p → Follows refuses other then_held kept mid new between after r (next (view x)) → Follows refuses other held kept old new before after r (and_then p next)
then_follows {X} {Y} {A} {B} {E} {refuses} {view} {other} {held} {then_held} {kept} {old} {mid} {new} {before} {between} {after} {x} {r} {p} next one two = record {
  answers = then_answers refuses other held then_held old mid new p (view x) next r one.keeps one.answers two.answers;
  keeps = λ n. two.keeps n ∙ one.keeps n;
  failed = λ e. rose_since before between after one.rises (two.failed e);
  rises = omega (arith, one.rises, two.rises);
}

pub stop_follows : {X Y A B E : Type 0} {refuses : E → Bool} {view : X → A} {other : Y → B} {held kept : List ℕ → Option (List ℕ)} {old new : List (List ℕ)} {before after : ℕ} {s : Stop E} {p : Plan A E} (next : A → Plan B E)
    → Follows refuses view held kept old new before after (Err s) p → Follows refuses other held kept old new before after (Err s) (and_then p next)
stop_follows {X} {Y} {A} {B} {E} {refuses} {view} {other} {held} {kept} {old} {new} {before} {after} {s} {p} next one = record {
  answers = stop_answers refuses view other held old new p next s one.answers;
  keeps = one.keeps;
  failed = λ e. let same : s ≡ Unread = cc in one.failed (ap (λ (t : Stop E). Err t) same);
  rises = one.rises;
}

pub judge_follows : {X A E : Type 0} {refuses : E → Bool} {view : X → A} {held : List ℕ → Option (List ℕ)} {names : List (List ℕ)} {faults : ℕ} {r : Result X (Stop E)} {p : Plan A E} → Judges refuses view r p → Follows refuses view held held names names faults faults r p
judge_follows {X} {A} {E} {refuses} {view} {held} {names} {faults} {r} {p} h = record {
  answers = judged refuses view held names r p h;
  keeps = λ n. refl;
  failed = λ e. absurd (subst (λ (t : Result X (Stop E)). Judges refuses view t p) e h);
  rises = omega arith;
}

-- behind a file, what its bytes lead to
pub read_follows : {Y A E : Type 0} {refuses : E → Bool} {other : Y → A} {held kept : List ℕ → Option (List ℕ)} {old new : List (List ℕ)} {before after : ℕ} {read : Vec ℕ} {r : Result Y (Stop E)} {p : Plan (List ℕ) E} (next : List ℕ → Plan A E) {bytes : List ℕ}
    → Follows refuses (λ (v : Vec ℕ). v.items) held kept old new before after (Ok read) p → bytes ≡ read.items → Judges refuses other r (next bytes) → Follows refuses other held kept old new before after r (and_then p next)
read_follows {Y} {A} {E} {refuses} {other} {held} {kept} {old} {new} {before} {after} {read} {r} {p} next {bytes} one same judges =
    then_follows next one (judge_follows (subst (λ (b : List ℕ). Judges refuses other r (next b)) same judges))

-- behind a step, what is made of its value
pub make_follows : {A E : Type 0} {refuses : E → Bool} {held : List ℕ → Option (List ℕ)} {names : List (List ℕ)} {faults : ℕ} {r : Result A (Stop E)} {due : A} → Makes r due → Follows refuses (λ (a : A). a) held held names names faults faults r (Answer due)
make_follows {A} {E} {refuses} {held} {names} {faults} {r} {due} made = judge_follows (make_judges refuses r due made)
