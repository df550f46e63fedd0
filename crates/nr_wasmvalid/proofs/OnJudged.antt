-- What a sequence leaves, by its first instruction.
use Rattle.std.proofs.Common.{◌≡◌, ◌≢◌, ℕ, ◌+◌, ◌<◌, List, [], ◌∷◌, length, drop, get_or, None, Ok, Err, Result, sym, ap, subst, ◌∙◌}
use Rattle.std.proofs.lemmas.List.{drop_more}
use Rattle.nr_wasmtypes.specs.declared.instr.ValType.{ValType}
use Rattle.nr_wasmtypes.specs.declared.module.Module.{Module}
use Rattle.nr_wasmtypes.specs.declared.instr.Instr.{Instr}
use Rattle.nr_wasmtypes.proofs.Counts.{put_count}
use Rattle.nr_wasmvalid.specs.Frames.{context}
use Rattle.nr_wasmtypes.specs.declared.instr.ValType.TheVariants.{I32}
use Rattle.nr_wasmtypes.specs.declared.instr.Plain.{Plain}
use Rattle.nr_wasmtypes.specs.Code.{Code, End, Then, Block, Loop, Choice, code_of, put, count_of}
use Rattle.nr_wasmvalid.specs.Faults.{fault_at}
use Rattle.nr_wasmvalid.specs.declared.refusal.Refusal.{Refusal}
use Rattle.nr_wasmvalid.specs.declared.refusal.Refusal.TheVariants as refusal
use Rattle.nr_wasmvalid.specs.declared.refusal.BodyFault.{BodyFault}
use Rattle.nr_wasmvalid.specs.declared.refusal.BodyFault.TheVariants as fault
use Rattle.nr_wasmvalid.specs.Rules.{Types?, types, Context, within, rule, ending}
use Rattle.nr_wasmvalid.specs.Shapes.{Shape, fresh, judged, ended, asked_all, placed, give_all, take_all, ◌>>=◌}

pub not_memory : (n : ℕ) (kind : Refusal) → fault_at n kind ≢ fault.Memory → kind ≢ refusal.Memory
not_memory n kind h e = h (ap (fault_at n) e)

pub plain_stops : (c : Context) (n : ℕ) (p : Plain) (rest : Code) (s : Shape) (kind : Refusal) → asked_all (rule c p) s ≡ Err kind → judged c n (Then p rest) s ≡ Err (fault_at n kind)
unfolding judged
plain_stops c n p rest s kind e = ap (λ r. placed n r >>= judged c (n + 1) rest) e

pub plain_goes_on : (c : Context) (n i : ℕ) (p : Plain) (rest : Code) (s t : Shape) → i ≡ n + 1 → asked_all (rule c p) s ≡ Ok t → judged c n (Then p rest) s ≡ judged c i rest t
unfolding judged
plain_goes_on c n i p rest s t next e = ap (λ r. placed n r >>= judged c (n + 1) rest) e ∙ ap (λ k. judged c k rest t) (sym next)

-- ---- the end of a body
pub ended_stops : (n : ℕ) (ts : Types?) (r : Result Shape BodyFault) (e : BodyFault) → r ≡ Err e → ended n ts r ≡ Err e
unfolding ended
ended_stops n ts r e is = ap (λ r. r >>= λ inner. placed n (asked_all (ending ts) inner)) is

pub ended_refused : (n : ℕ) (ts : Types?) (r : Result Shape BodyFault) (inner : Shape) (kind : Refusal) → r ≡ Ok inner → asked_all (ending ts) inner ≡ Err kind → ended n ts r ≡ Err (fault_at n kind)
unfolding ended
ended_refused n ts r inner kind is e = ap (λ r. r >>= λ inner. placed n (asked_all (ending ts) inner)) is ∙ ap (placed n) e

pub ended_passes : (n : ℕ) (ts : Types?) (r : Result Shape BodyFault) (inner s : Shape) → r ≡ Ok inner → asked_all (ending ts) inner ≡ Ok s → ended n ts r ≡ Ok s
unfolding ended
ended_passes n ts r inner s is e = ap (λ r. r >>= λ inner. placed n (asked_all (ending ts) inner)) is ∙ ap (placed n) e

-- ---- a block
pub block_stops : (c : Context) (n i : ℕ) (ts : Types?) (body rest : Code) (s : Shape) (e : BodyFault) → i ≡ n + 1 → ended (i + count_of body) ts (judged (within ts c) i body fresh) ≡ Err e → judged c n (Block ts body rest) s ≡ Err e
unfolding judged
block_stops c n i ts body rest s e next is =
    ap (λ r. r >>= λ end. judged c (n + 1 + count_of body) rest (give_all (types ts) s)) (ap (λ k. ended (k + count_of body) ts (judged (within ts c) k body fresh)) (sym next) ∙ is)

pub block_goes_on : (c : Context) (n i m : ℕ) (ts : Types?) (body rest : Code) (s x t : Shape) → i ≡ n + 1 → ended (i + count_of body) ts (judged (within ts c) i body fresh) ≡ Ok x → m ≡ i + count_of body → t ≡ give_all (types ts) s
    → judged c n (Block ts body rest) s ≡ judged c m rest t
unfolding judged
block_goes_on c n i m ts body rest s x t next is at given =
    ap (λ r. r >>= λ end. judged c (n + 1 + count_of body) rest (give_all (types ts) s)) (ap (λ k. ended (k + count_of body) ts (judged (within ts c) k body fresh)) (sym next) ∙ is)
    ∙ ap (λ k. judged c (k + count_of body) rest (give_all (types ts) s)) (sym next)
    ∙ ap (λ k. judged c k rest (give_all (types ts) s)) (sym at) ∙ ap (judged c m rest) (sym given)

pub loop_stops : (c : Context) (n i : ℕ) (ts : Types?) (body rest : Code) (s : Shape) (e : BodyFault) → i ≡ n + 1 → ended (i + count_of body) ts (judged (within None c) i body fresh) ≡ Err e → judged c n (Loop ts body rest) s ≡ Err e
unfolding judged
loop_stops c n i ts body rest s e next is =
    ap (λ r. r >>= λ end. judged c (n + 1 + count_of body) rest (give_all (types ts) s)) (ap (λ k. ended (k + count_of body) ts (judged (within None c) k body fresh)) (sym next) ∙ is)

pub loop_goes_on : (c : Context) (n i m : ℕ) (ts : Types?) (body rest : Code) (s x t : Shape) → i ≡ n + 1 → ended (i + count_of body) ts (judged (within None c) i body fresh) ≡ Ok x → m ≡ i + count_of body → t ≡ give_all (types ts) s
    → judged c n (Loop ts body rest) s ≡ judged c m rest t
unfolding judged
loop_goes_on c n i m ts body rest s x t next is at given =
    ap (λ r. r >>= λ end. judged c (n + 1 + count_of body) rest (give_all (types ts) s)) (ap (λ k. ended (k + count_of body) ts (judged (within None c) k body fresh)) (sym next) ∙ is)
    ∙ ap (λ k. judged c (k + count_of body) rest (give_all (types ts) s)) (sym next)
    ∙ ap (λ k. judged c k rest (give_all (types ts) s)) (sym at) ∙ ap (judged c m rest) (sym given)

-- ---- a choice
abbrev pub behind_condition : Context → ℕ → Types? → Code → Code → Code → Result Shape BodyFault → Result Shape BodyFault
behind_condition c n ts one other rest r = do
  below ← r
  first ← ended (n + 1 + count_of one) ts (judged (within ts c) (n + 1) one fresh)
  second ← ended (n + 1 + count_of one + count_of other) ts (judged (within ts c) (n + 1 + count_of one) other fresh)
  judged c (n + 1 + count_of one + count_of other) rest (give_all (types ts) below)

pub condition_stops : (c : Context) (n : ℕ) (ts : Types?) (one other rest : Code) (s : Shape) (kind : Refusal) → take_all (I32 ∷ []) s ≡ Err kind → judged c n (Choice ts one other rest) s ≡ Err (fault_at n kind)
unfolding judged
condition_stops c n ts one other rest s kind is = ap (λ r. behind_condition c n ts one other rest (placed n r)) is

pub one_stops : (c : Context) (n i : ℕ) (ts : Types?) (one other rest : Code) (s below : Shape) (e : BodyFault) → i ≡ n + 1 → take_all (I32 ∷ []) s ≡ Ok below → ended (i + count_of one) ts (judged (within ts c) i one fresh) ≡ Err e
    → judged c n (Choice ts one other rest) s ≡ Err e
unfolding judged
one_stops c n i ts one other rest s below e next is first =
    ap (λ r. behind_condition c n ts one other rest (placed n r)) is
    ∙ ap (λ r. r >>= λ x. ended (n + 1 + count_of one + count_of other) ts (judged (within ts c) (n + 1 + count_of one) other fresh) >>= λ y. judged c (n + 1 + count_of one + count_of other) rest (give_all (types ts) below)) (ap (λ k. ended (k + count_of one) ts (judged (within ts c) k one fresh)) (sym next) ∙ first)

pub other_stops : (c : Context) (n i m : ℕ) (ts : Types?) (one other rest : Code) (s below x : Shape) (e : BodyFault) → i ≡ n + 1 → take_all (I32 ∷ []) s ≡ Ok below → ended (i + count_of one) ts (judged (within ts c) i one fresh) ≡ Ok x
    → m ≡ i + count_of one → ended (m + count_of other) ts (judged (within ts c) m other fresh) ≡ Err e → judged c n (Choice ts one other rest) s ≡ Err e
unfolding judged
other_stops c n i m ts one other rest s below x e next is first sides second =
    let at : m ≡ n + 1 + count_of one = sides ∙ ap (λ k. k + count_of one) next in
    ap (λ r. behind_condition c n ts one other rest (placed n r)) is
    ∙ ap (λ r. r >>= λ x. ended (n + 1 + count_of one + count_of other) ts (judged (within ts c) (n + 1 + count_of one) other fresh) >>= λ y. judged c (n + 1 + count_of one + count_of other) rest (give_all (types ts) below)) (ap (λ k. ended (k + count_of one) ts (judged (within ts c) k one fresh)) (sym next) ∙ first)
    ∙ ap (λ r. r >>= λ y. judged c (n + 1 + count_of one + count_of other) rest (give_all (types ts) below)) (ap (λ k. ended (k + count_of other) ts (judged (within ts c) k other fresh)) (sym at) ∙ second)

pub choice_goes_on : (c : Context) (n i m k : ℕ) (ts : Types?) (one other rest : Code) (s below x y t : Shape) → i ≡ n + 1 → take_all (I32 ∷ []) s ≡ Ok below → ended (i + count_of one) ts (judged (within ts c) i one fresh) ≡ Ok x
    → m ≡ i + count_of one → ended (m + count_of other) ts (judged (within ts c) m other fresh) ≡ Ok y → k ≡ m + count_of other → t ≡ give_all (types ts) below → judged c n (Choice ts one other rest) s ≡ judged c k rest t
unfolding judged
choice_goes_on c n i m k ts one other rest s below x y t next is first sides second end given =
    let at : m ≡ n + 1 + count_of one = sides ∙ ap (λ k. k + count_of one) next in
    ap (λ r. behind_condition c n ts one other rest (placed n r)) is
    ∙ ap (λ r. r >>= λ x. ended (n + 1 + count_of one + count_of other) ts (judged (within ts c) (n + 1 + count_of one) other fresh) >>= λ y. judged c (n + 1 + count_of one + count_of other) rest (give_all (types ts) below)) (ap (λ k. ended (k + count_of one) ts (judged (within ts c) k one fresh)) (sym next) ∙ first)
    ∙ ap (λ r. r >>= λ y. judged c (n + 1 + count_of one + count_of other) rest (give_all (types ts) below)) (ap (λ k. ended (k + count_of other) ts (judged (within ts c) k other fresh)) (sym at) ∙ second)
    ∙ ap (λ j. judged c j rest (give_all (types ts) below)) (ap (λ j. j + count_of other) (sym at) ∙ sym end) ∙ ap (judged c k rest) (sym given)

-- ---- a list of instructions, up to the one that a loop stands at
next_is : (is : List Instr) (i : ℕ) (x : Instr) → i < length is → x ≡ get_or is i x → code_of (drop i is) ≡ put x (code_of (drop (i + 1) is))
next_is is i x h e = ap code_of (drop_more is i x h ∙ ap (λ (y : Instr). y ∷ drop (i + 1) is) (sym e))

pub step_counted : (is : List Instr) (i : ℕ) (x : Instr) → i < length is → x ≡ get_or is i x → count_of (code_of (drop i is)) ≡ count_of (put x End) + count_of (code_of (drop (i + 1) is))
step_counted is i x h e = ap count_of (next_is is i x h e) ∙ put_count x (code_of (drop (i + 1) is))

pub goes_on : (w : Module) (funcs : List ℕ) (locals : List ValType) (result : Types?) (labels outer : List Types?) (n m : ℕ) (is : List Instr) (i : ℕ) (x : Instr) (s t : Shape) (all : Result Shape BodyFault) → labels ≡ outer → i < length is → x ≡ get_or is i x
    → ((rest : Code) → judged (context w funcs locals result labels) n (put x rest) s ≡ judged (context w funcs locals result labels) m rest t)
    → judged (context w funcs locals result outer) n (code_of (drop i is)) s ≡ all → judged (context w funcs locals result outer) m (code_of (drop (i + 1) is)) t ≡ all
goes_on w funcs locals result labels outer n m is i x s t all e h at step so_far =
    let rest = code_of (drop (i + 1) is) in
    let here = subst (λ (ls : List Types?). judged (context w funcs locals result ls) n (put x rest) s ≡ judged (context w funcs locals result ls) m rest t) e (step rest) in
    sym here ∙ (sym (ap (λ (k : Code). judged (context w funcs locals result outer) n k s) (next_is is i x h at)) ∙ so_far)

pub stops : (w : Module) (funcs : List ℕ) (locals : List ValType) (result : Types?) (labels outer : List Types?) (n : ℕ) (is : List Instr) (i : ℕ) (x : Instr) (s : Shape) (fault : BodyFault) (all : Result Shape BodyFault) → labels ≡ outer → i < length is → x ≡ get_or is i x
    → ((rest : Code) → judged (context w funcs locals result labels) n (put x rest) s ≡ Err fault)
    → judged (context w funcs locals result outer) n (code_of (drop i is)) s ≡ all → all ≡ Err fault
stops w funcs locals result labels outer n is i x s fault all e h at step so_far =
    let rest = code_of (drop (i + 1) is) in
    let here = subst (λ (ls : List Types?). judged (context w funcs locals result ls) n (put x rest) s ≡ Err fault) e (step rest) in
    sym so_far ∙ (ap (λ (k : Code). judged (context w funcs locals result outer) n k s) (next_is is i x h at) ∙ here)

pub at_end : (c : Context) (n : ℕ) (s : Shape) (is : List Instr) → is ≡ [] → judged c n (code_of is) s ≡ Ok s
unfolding judged
at_end c n s is e = ap (λ (js : List Instr). judged c n (code_of js) s) e
