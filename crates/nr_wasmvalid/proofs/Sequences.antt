-- What a sequence leaves is what its typing leaves, and it stops where no typing goes on.
use Rattle.std.proofs.Common.{◌≡◌, ℕ, ◌+◌, List, [], ◌∷◌, ◌++◌, None, Ok, Err, Result, refl, sym, ap, subst, ◌∙◌, ◌⊎◌, inl, inr}
use Rattle.std.proofs.lemmas.List.{append-nil}
use Rattle.nr_wasmtypes.specs.declared.instr.ValType.{ValType}
use Rattle.nr_wasmtypes.specs.declared.instr.ValType.TheVariants.{I32}
use Rattle.nr_wasmtypes.specs.declared.instr.Plain.{Plain}
use Rattle.nr_wasmtypes.specs.Code.{Code, End, Then, Block, Loop, Choice, count_of}
use Rattle.nr_wasmvalid.specs.Faults.{fault_at}
use Rattle.nr_wasmvalid.specs.declared.refusal.Refusal.{Refusal}
use Rattle.nr_wasmvalid.specs.declared.refusal.Refusal.TheVariants as refusal
use Rattle.nr_wasmvalid.specs.declared.refusal.BodyFault.{BodyFault}
use Rattle.nr_wasmvalid.specs.Rules.{Types?, types, Context, within, Take, Obeys, rule, ending}
use Rattle.nr_wasmvalid.specs.Typing.{Obey, Typed, Some', Left, Behind, Inside, When, StopsAtEnd, Stops}
use Rattle.nr_wasmvalid.specs.Shapes.{Shape, fresh, take_all, give_all, asked_all, placed, ended, judged, ◌>>=◌}
use Rattle.nr_wasmvalid.proofs.Meaning.{Means, Same, some_fill, Exact, ExactAll, ask_exact, asks_exact, gives_exact}

-- ---- what the answer says
abbrev pub Answered : (List ValType → Type 0) → (ℕ → Refusal → Type 0) → Result Shape BodyFault → Type 0
Answered T Stop (Ok t) = Same T t
Answered T Stop (Err fault) = (place : ℕ) × (kind : Refusal) × (fault ≡ fault_at place kind) × Stop place kind

abbrev pub ExactCode : Context → ℕ → Code → (List ValType → Type 0) → Result Shape BodyFault → Type 0
ExactCode c n code S r = Answered (Left c code S) (Stops c n code S) r

-- a body with its end
abbrev pub StopsInBody : Context → ℕ → Code → Types? → (List ValType → Type 0) → ℕ → Refusal → Type 0
StopsInBody c n body ts S place kind = Stops c n body S place kind ⊎ StopsAtEnd c n body ts S place kind

abbrev pub ExactBody : Context → ℕ → Code → Types? → (List ValType → Type 0) → Result Shape BodyFault → Type 0
ExactBody c n body ts S (Ok t) = Typed c body [] (types ts)
ExactBody c n body ts S (Err fault) = (place : ℕ) × (kind : Refusal) × (fault ≡ fault_at place kind) × StopsInBody c n body ts S place kind

reached : (S : List ValType → Type 0) (s : Shape) → Same S s → Some' S
reached S s same = let x = some_fill s.known s.any_below in (x.0, (same x.0).1 x.1)

-- a body begins with nothing
begun : (S : List ValType → Type 0) → Some' S → Same (Inside S) fresh
begun S some ts = ((λ h. h.1), (λ e. (some, e)))

-- ---- the end of a body
-- what passes the end is the result alone
ending_only : (ts : Types?) (before after : List ValType) → Obey (ending ts) before after → before ≡ types ts
ending_only ts before after o = o.1 ∙ ap (λ (m : List ValType). types ts ++ m) o.2.1.0 ∙ append-nil (types ts)

typed_from : (c : Context) (body : Code) (a b d : List ValType) → Typed c body a b → a ≡ [] → b ≡ d → Typed c body [] d
typed_from c body a b d t e f = subst (λ (x : List ValType). Typed c body [] x) f (subst (λ (x : List ValType). Typed c body x b) e t)

pub body_exact : (c : Context) (n : ℕ) (body : Code) (ts : Types?) (S : List ValType → Type 0) (r : Result Shape BodyFault) → ((us : List ValType) → S us → us ≡ []) → ExactCode c n body S r → ExactBody c n body ts S (ended (n + count_of body) ts r)
unfolding ended
body_exact c n body ts S (Err fault) none e = (e.0, e.1, e.2, inl e.3)
body_exact c n body ts S (Ok t) none e = at_end (asked_all (ending ts) t) (asks_exact (ending ts) (Left c body S) t e)
  where
    at_end : (r : Result Shape Refusal) → ExactAll (ending ts) (Left c body S) r → ExactBody c n body ts S (placed (n + count_of body) r)
    at_end (Err kind) d = (n + count_of body, kind, refl, inr (refl, d))
    at_end (Ok u) d =
        let x = some_fill u.known u.any_below in
        let h = (d x.0).1 x.1 in
        typed_from c body h.1.0 h.0 (types ts) h.1.2 (none h.1.0 h.1.1) (ending_only ts h.0 x.0 h.2)

-- ---- an instruction that holds no others
abbrev Rest : Context → ℕ → Code → (List ValType → Type 0) → Type 0
Rest c n rest S = (t : Shape) → Same S t → ExactCode c n rest S (judged c n rest t)

then_exact : (c : Context) (n : ℕ) (p : Plain) (rest : Code) (S : List ValType → Type 0) (r : Result Shape Refusal) → ExactAll (rule c p) S r → Rest c (n + 1) rest (Left c (Then p End) S) → ExactCode c n (Then p rest) S (placed n r >>= judged c (n + 1) rest)
then_exact c n p rest S (Err kind) e others = (n, kind, refl, inl (refl, e))
then_exact c n p rest S (Ok t) e others = second (judged c (n + 1) rest t) (others t (λ ts. ((λ h. (e ts).0 (h.0, h.1, subst (Obey (rule c p) h.0) (sym h.2.2) h.2.1)), (λ m. let x = (e ts).1 m in (x.0, x.1, (ts, x.2, refl))))))
  where
    second : (r : Result Shape BodyFault) → ExactCode c (n + 1) rest (Left c (Then p End) S) r → ExactCode c n (Then p rest) S r
    second (Err fault) d = (d.0, d.1, d.2, inr d.3)
    second (Ok u) d = λ ts. (
      (λ h. (d ts).0 (h.2.0, (h.0, h.1, (h.2.0, h.2.1, refl)), h.2.2)),
      (λ m. let x = (d ts).1 m in (x.1.0, x.1.1, (x.1.2.0, x.1.2.1, subst (λ (k : List ValType). Typed c rest k ts) x.1.2.2 x.2))),
    )

-- ---- a block or a loop
abbrev NestLeft : Context → Context → Types? → Code → Code → (List ValType → Type 0) → List ValType → Type 0
NestLeft c inner ts body rest S after = (before : List ValType) × S before × (Typed inner body [] (types ts) × Typed c rest (types ts ++ before) after)

abbrev NestStops : Context → Context → ℕ → Types? → Code → Code → (List ValType → Type 0) → ℕ → Refusal → Type 0
NestStops c inner n ts body rest S place kind =
    Stops inner (n + 1) body (Inside S) place kind ⊎ (StopsAtEnd inner (n + 1) body ts (Inside S) place kind ⊎ Stops c (n + 1 + count_of body) rest (NestLeft c inner ts body End S) place kind)

nest_exact : (c inner : Context) (n : ℕ) (ts : Types?) (body rest : Code) (S : List ValType → Type 0) (s : Shape) → Same S s → (r : Result Shape BodyFault) → ExactBody inner (n + 1) body ts (Inside S) r → Rest c (n + 1 + count_of body) rest (NestLeft c inner ts body End S)
    → Answered (NestLeft c inner ts body rest S) (NestStops c inner n ts body rest S) (r >>= λ end. judged c (n + 1 + count_of body) rest (give_all (types ts) s))
nest_exact c inner n ts body rest S s same (Err fault) (place, kind, is, inl h) others = (place, kind, is, inl h)
nest_exact c inner n ts body rest S s same (Err fault) (place, kind, is, inr h) others = (place, kind, is, inr (inl h))
nest_exact c inner n ts body rest S s same (Ok t) typed others = second (judged c (n + 1 + count_of body) rest (give_all (types ts) s)) (others (give_all (types ts) s) given)
  where
    given : Same (NestLeft c inner ts body End S) (give_all (types ts) s)
    given us = (
      (λ h. (gives_exact (types ts) s us).0 (h.0, (same h.0).0 h.1, h.2.1)),
      (λ m. let x = (gives_exact (types ts) s us).1 m in (x.0, (same x.0).1 x.1, (typed, x.2))),
    )

    second : (r : Result Shape BodyFault) → ExactCode c (n + 1 + count_of body) rest (NestLeft c inner ts body End S) r → Answered (NestLeft c inner ts body rest S) (NestStops c inner n ts body rest S) r
    second (Err fault) d = (d.0, d.1, d.2, inr (inr d.3))
    second (Ok u) d = λ us. (
      (λ h. (d us).0 (types ts ++ h.0, (h.0, h.1, (h.2.0, refl)), h.2.1)),
      (λ m. let x = (d us).1 m in (x.1.0, x.1.1, (x.1.2.0, subst (λ (k : List ValType). Typed c rest k us) x.1.2.1 x.2))),
    )

-- ---- a choice
abbrev Condition : (List ValType → Type 0) → List ValType → Type 0
Condition S = Behind (Take (I32 ∷ [])) S

abbrev First : Context → Types? → Code → (List ValType → Type 0) → List ValType → Type 0
First c ts one S = When (Typed (within ts c) one [] (types ts)) (Condition S)

abbrev Given : Context → Types? → Code → Code → (List ValType → Type 0) → List ValType → Type 0
Given c ts one other S = Left c (Choice ts one other End) S

choice_given : (c : Context) (ts : Types?) (one other : Code) (S : List ValType → Type 0) (below : Shape) → Same (Condition S) below → Typed (within ts c) one [] (types ts) → Typed (within ts c) other [] (types ts)
    → Same (Given c ts one other S) (give_all (types ts) below)
choice_given c ts one other S below same first second us = (
  (λ h. (gives_exact (types ts) below us).0 (h.2.0, (same h.2.0).0 (h.0, h.1, h.2.1), h.2.4)),
  (λ m. let x = (gives_exact (types ts) below us).1 m in let y = (same x.0).1 x.1 in (y.0, y.1, (x.0, y.2, first, second, x.2))),
)

choice_rest : (c : Context) (n : ℕ) (ts : Types?) (one other rest : Code) (S : List ValType → Type 0) (r : Result Shape BodyFault) → ExactCode c (n + 1 + count_of one + count_of other) rest (Given c ts one other S) r → ExactCode c n (Choice ts one other rest) S r
choice_rest c n ts one other rest S (Err fault) d = (d.0, d.1, d.2, inr (inr (inr (inr (inr d.3)))))
choice_rest c n ts one other rest S (Ok u) d = λ us. (
  (λ h. (d us).0 (types ts ++ h.2.0, (h.0, h.1, (h.2.0, h.2.1, h.2.2, h.2.3, refl)), h.2.4)),
  (λ m. let x = (d us).1 m in (x.1.0, x.1.1, (x.1.2.0, x.1.2.1, x.1.2.2, x.1.2.3, subst (λ (k : List ValType). Typed c rest k us) x.1.2.4 x.2))),
)

-- the second side and the rest, once the first side is typed
choice_second : (c : Context) (n : ℕ) (ts : Types?) (one other rest : Code) (S : List ValType → Type 0) (below : Shape) → Same (Condition S) below → Typed (within ts c) one [] (types ts)
    → (r : Result Shape BodyFault) → ExactBody (within ts c) (n + 1 + count_of one) other ts (Inside (First c ts one S)) r → Rest c (n + 1 + count_of one + count_of other) rest (Given c ts one other S)
    → ExactCode c n (Choice ts one other rest) S (r >>= λ second. judged c (n + 1 + count_of one + count_of other) rest (give_all (types ts) below))
choice_second c n ts one other rest S below same first (Err fault) (place, kind, is, inl h) others = (place, kind, is, inr (inr (inr (inl h))))
choice_second c n ts one other rest S below same first (Err fault) (place, kind, is, inr h) others = (place, kind, is, inr (inr (inr (inr (inl h)))))
choice_second c n ts one other rest S below same first (Ok t) typed others =
    choice_rest c n ts one other rest S (judged c (n + 1 + count_of one + count_of other) rest (give_all (types ts) below)) (others (give_all (types ts) below) (choice_given c ts one other S below same first typed))

choice_first : (c : Context) (n : ℕ) (ts : Types?) (one other rest : Code) (S : List ValType → Type 0) (below : Shape) → Same (Condition S) below → (r : Result Shape BodyFault) → ExactBody (within ts c) (n + 1) one ts (Inside (Condition S)) r
    → (Some' (First c ts one S) → ExactBody (within ts c) (n + 1 + count_of one) other ts (Inside (First c ts one S)) (ended (n + 1 + count_of one + count_of other) ts (judged (within ts c) (n + 1 + count_of one) other fresh)))
    → Rest c (n + 1 + count_of one + count_of other) rest (Given c ts one other S)
    → ExactCode c n (Choice ts one other rest) S (r >>= λ first. ended (n + 1 + count_of one + count_of other) ts (judged (within ts c) (n + 1 + count_of one) other fresh) >>= λ second. judged c (n + 1 + count_of one + count_of other) rest (give_all (types ts) below))
choice_first c n ts one other rest S below same (Err fault) (place, kind, is, inl h) next others = (place, kind, is, inr (inl h))
choice_first c n ts one other rest S below same (Err fault) (place, kind, is, inr h) next others = (place, kind, is, inr (inr (inl h)))
choice_first c n ts one other rest S below same (Ok t) typed next others =
    let some = reached (Condition S) below same in
    choice_second c n ts one other rest S below same typed (ended (n + 1 + count_of one + count_of other) ts (judged (within ts c) (n + 1 + count_of one) other fresh)) (next (some.0, (typed, some.1))) others

choice_exact : (c : Context) (n : ℕ) (ts : Types?) (one other rest : Code) (S : List ValType → Type 0) (s : Shape) → Same S s → (r : Result Shape Refusal) → Exact (Obeys (Take (I32 ∷ []))) refusal.Types (Means s) r
    → (Some' (Condition S) → ExactBody (within ts c) (n + 1) one ts (Inside (Condition S)) (ended (n + 1 + count_of one) ts (judged (within ts c) (n + 1) one fresh)))
    → (Some' (First c ts one S) → ExactBody (within ts c) (n + 1 + count_of one) other ts (Inside (First c ts one S)) (ended (n + 1 + count_of one + count_of other) ts (judged (within ts c) (n + 1 + count_of one) other fresh)))
    → Rest c (n + 1 + count_of one + count_of other) rest (Given c ts one other S)
    → ExactCode c n (Choice ts one other rest) S
    (placed n r >>= λ below. ended (n + 1 + count_of one) ts (judged (within ts c) (n + 1) one fresh) >>= λ first.
    ended (n + 1 + count_of one + count_of other) ts (judged (within ts c) (n + 1 + count_of one) other fresh) >>=
    λ second. judged c (n + 1 + count_of one + count_of other) rest (give_all (types ts) below))
choice_exact c n ts one other rest S s same (Err kind) e first second others =
    (n, kind, refl, inl (refl, inl ((reached S s same, λ b a h o. e.1 b a ((same b).0 h) o), e.0)))
choice_exact c n ts one other rest S s same (Ok below) e first second others =
    choice_first c n ts one other rest S below like (ended (n + 1 + count_of one) ts (judged (within ts c) (n + 1) one fresh)) (first (reached (Condition S) below like)) second others
  where
    like : Same (Condition S) below
    like us = ((λ h. (e us).0 (h.0, (same h.0).0 h.1, h.2)), (λ m. let x = (e us).1 m in (x.0, (same x.0).1 x.1, x.2)))

-- ---- every sequence
pub code_exact : (c : Context) (n : ℕ) (code : Code) (S : List ValType → Type 0) (s : Shape) → Same S s → ExactCode c n code S (judged c n code s)
unfolding judged
code_exact c n End S s same = λ ts. ((λ h. subst (Means s) (sym h.2) ((same h.0).0 h.1)), (λ m. (ts, (same ts).1 m, refl)))
code_exact c n (Then p rest) S s same =
    then_exact c n p rest S (asked_all (rule c p) s) (asks_exact (rule c p) S s same) (λ t like. code_exact c (n + 1) rest (Left c (Then p End) S) t like)
code_exact c n (Block ts body rest) S s same =
    nest_exact c (within ts c) n ts body rest S s same (ended (n + 1 + count_of body) ts (judged (within ts c) (n + 1) body fresh))
    (body_exact (within ts c) (n + 1) body ts (Inside S) (judged (within ts c) (n + 1) body fresh) (λ us h. h.1) (code_exact (within ts c) (n + 1) body (Inside S) fresh (begun S (reached S s same))))
    (λ t like. code_exact c (n + 1 + count_of body) rest (Left c (Block ts body End) S) t like)
code_exact c n (Loop ts body rest) S s same =
    nest_exact c (within None c) n ts body rest S s same (ended (n + 1 + count_of body) ts (judged (within None c) (n + 1) body fresh))
    (body_exact (within None c) (n + 1) body ts (Inside S) (judged (within None c) (n + 1) body fresh) (λ us h. h.1) (code_exact (within None c) (n + 1) body (Inside S) fresh (begun S (reached S s same))))
    (λ t like. code_exact c (n + 1 + count_of body) rest (Left c (Loop ts body End) S) t like)
code_exact c n (Choice ts one other rest) S s same =
    choice_exact c n ts one other rest S s same (take_all (I32 ∷ []) s) (ask_exact (Take (I32 ∷ [])) s)
    (λ some. body_exact (within ts c) (n + 1) one ts (Inside (Condition S)) (judged (within ts c) (n + 1) one fresh) (λ us h. h.1) (code_exact (within ts c) (n + 1) one (Inside (Condition S)) fresh (begun (Condition S) some)))
    (λ some. body_exact (within ts c) (n + 1 + count_of one) other ts (Inside (First c ts one S)) (judged (within ts c) (n + 1 + count_of one) other fresh) (λ us h. h.1) (code_exact (within ts c) (n + 1 + count_of one) other (Inside (First c ts one S)) fresh (begun (First c ts one S) some)))
    (λ t like. code_exact c (n + 1 + count_of one + count_of other) rest (Left c (Choice ts one other End) S) t like)
