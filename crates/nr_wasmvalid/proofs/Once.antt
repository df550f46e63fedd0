-- There is one first breach at most, and none where a sequence is typed.
use Rattle.std.proofs.Common.{◌≡◌, ℕ, ◌+◌, List, [], ◌∷◌, ◌++◌, None, Ok, Err, Result, refl, sym, ap, subst, ◌∙◌, inl, inr, arith}
use Rattle.std.proofs.lemmas.List.{append-nil}
use Rattle.nr_wasmtypes.specs.declared.instr.ValType.{ValType}
use Rattle.nr_wasmtypes.specs.declared.instr.ValType.TheVariants.{I32}
use Rattle.nr_wasmtypes.specs.declared.instr.Plain.{Plain}
use Rattle.nr_wasmtypes.specs.Code.{Code, End, Then, Block, Loop, Choice, count_of}
use Rattle.nr_wasmvalid.specs.Faults.{fault_at}
use Rattle.nr_wasmvalid.specs.declared.refusal.Refusal.{Refusal}
use Rattle.nr_wasmvalid.specs.declared.refusal.Refusal.TheVariants as refusal
use Rattle.nr_wasmvalid.specs.declared.refusal.BodyFault.{BodyFault}
use Rattle.nr_wasmvalid.specs.Rules.{Types?, types, Context, within, Ask, Take, Obeys, rule, ending}
use Rattle.nr_wasmvalid.specs.Typing.{Obey, Typed, Some', Left, Behind, Inside, When, StopsIn, Stops, None', in_body, IsTyped, IsBreach}
use Rattle.nr_wasmvalid.specs.Shapes.{Shape, fresh, take_all, give_all, asked_all, ended, judged, body_judged}
use Rattle.nr_wasmvalid.proofs.Meaning.{Means, Same, some_fill, Exact, ExactAll, Through, ask_exact, asks_exact, gives_exact, stops_reached, stops_never, stops_once}
use Rattle.nr_wasmvalid.proofs.Sequences.{ExactCode, StopsInBody, ExactBody, body_exact, code_exact}
use Rattle.nr_wasmvalid.proofs.OnJudged.{plain_stops, plain_goes_on, ended_stops, ended_refused, ended_passes, block_stops, block_goes_on, loop_stops, loop_goes_on, condition_stops, one_stops, other_stops, choice_goes_on}

-- ---- where it stops it was reached
pub code_reached : (c : Context) (n : ℕ) (code : Code) (S : List ValType → Type 0) (place : ℕ) (kind : Refusal) → Stops c n code S place kind → Some' S
code_reached c n End S place kind h = absurd h
code_reached c n (Then p rest) S place kind (inl h) = stops_reached (rule c p) S kind h.1
code_reached c n (Then p rest) S place kind (inr h) = let x = code_reached c (n + 1) rest (Left c (Then p End) S) place kind h in (x.1.0, x.1.1)
code_reached c n (Block ts body rest) S place kind (inl h) = (code_reached (within ts c) (n + 1) body (Inside S) place kind h).1.0
code_reached c n (Block ts body rest) S place kind (inr (inl h)) = (stops_reached (ending ts) (Left (within ts c) body (Inside S)) kind h.1).1.1.0
code_reached c n (Block ts body rest) S place kind (inr (inr h)) = let x = code_reached c (n + 1 + count_of body) rest (Left c (Block ts body End) S) place kind h in (x.1.0, x.1.1)
code_reached c n (Loop ts body rest) S place kind (inl h) = (code_reached (within None c) (n + 1) body (Inside S) place kind h).1.0
code_reached c n (Loop ts body rest) S place kind (inr (inl h)) = (stops_reached (ending ts) (Left (within None c) body (Inside S)) kind h.1).1.1.0
code_reached c n (Loop ts body rest) S place kind (inr (inr h)) = let x = code_reached c (n + 1 + count_of body) rest (Left c (Loop ts body End) S) place kind h in (x.1.0, x.1.1)
code_reached c n (Choice ts one other rest) S place kind (inl h) = stops_reached (Take (I32 ∷ []) ∷ []) S kind h.1
code_reached c n (Choice ts one other rest) S place kind (inr (inl h)) = let x = (code_reached (within ts c) (n + 1) one (Inside (Behind (Take (I32 ∷ [])) S)) place kind h).1.0 in (x.1.0, x.1.1)
code_reached c n (Choice ts one other rest) S place kind (inr (inr (inl h))) = let x = (stops_reached (ending ts) (Left (within ts c) one (Inside (Behind (Take (I32 ∷ [])) S))) kind h.1).1.1.0 in (x.1.0, x.1.1)
code_reached c n (Choice ts one other rest) S place kind (inr (inr (inr (inl h)))) =
    let x = (code_reached (within ts c) (n + 1 + count_of one) other (Inside (When (Typed (within ts c) one [] (types ts)) (Behind (Take (I32 ∷ [])) S))) place kind h).1.0 in (x.1.1.0, x.1.1.1)
code_reached c n (Choice ts one other rest) S place kind (inr (inr (inr (inr (inl h))))) =
    let x = (stops_reached (ending ts) (Left (within ts c) other (Inside (When (Typed (within ts c) one [] (types ts)) (Behind (Take (I32 ∷ [])) S)))) kind h.1).1.1.0 in (x.1.1.0, x.1.1.1)
code_reached c n (Choice ts one other rest) S place kind (inr (inr (inr (inr (inr h))))) =
    let x = code_reached c (n + 1 + count_of one + count_of other) rest (Left c (Choice ts one other End) S) place kind h in (x.1.0, x.1.1)

-- ---- where it is typed it stops nowhere
passes_end : (ts : Types?) → Obey (ending ts) (types ts) []
passes_end ts = ([], sym (append-nil (types ts)), ([], (refl, refl), refl))

end_never : (c : Context) (body : Code) (ts : Types?) (S : List ValType → Type 0) (kind : Refusal) → StopsIn (ending ts) (Left c body S) kind → S [] → Typed c body [] (types ts) → ⊥
end_never c body ts S kind h m typed = stops_never (ending ts) (Left c body S) kind (types ts) [] h ([], m, typed) (passes_end ts)

pub code_never : (c : Context) (n : ℕ) (code : Code) (S : List ValType → Type 0) (place : ℕ) (kind : Refusal) (before after : List ValType) → Stops c n code S place kind → S before → Typed c code before after → ⊥
code_never c n End S place kind before after h m t = h
code_never c n (Then p rest) S place kind before after (inl h) m t = stops_never (rule c p) S kind before t.0 h.1 m t.1
code_never c n (Then p rest) S place kind before after (inr h) m t = code_never c (n + 1) rest (Left c (Then p End) S) place kind t.0 after h (before, m, (t.0, t.1, refl)) t.2
code_never c n (Block ts body rest) S place kind before after (inl h) m t = code_never (within ts c) (n + 1) body (Inside S) place kind [] (types ts) h ((before, m), refl) t.0
code_never c n (Block ts body rest) S place kind before after (inr (inl h)) m t = end_never (within ts c) body ts (Inside S) kind h.1 ((before, m), refl) t.0
code_never c n (Block ts body rest) S place kind before after (inr (inr h)) m t = code_never c (n + 1 + count_of body) rest (Left c (Block ts body End) S) place kind (types ts ++ before) after h (before, m, (t.0, refl)) t.1
code_never c n (Loop ts body rest) S place kind before after (inl h) m t = code_never (within None c) (n + 1) body (Inside S) place kind [] (types ts) h ((before, m), refl) t.0
code_never c n (Loop ts body rest) S place kind before after (inr (inl h)) m t = end_never (within None c) body ts (Inside S) kind h.1 ((before, m), refl) t.0
code_never c n (Loop ts body rest) S place kind before after (inr (inr h)) m t = code_never c (n + 1 + count_of body) rest (Left c (Loop ts body End) S) place kind (types ts ++ before) after h (before, m, (t.0, refl)) t.1
code_never c n (Choice ts one other rest) S place kind before after (inl h) m t = stops_never (Take (I32 ∷ []) ∷ []) S kind before t.0 h.1 m (t.0, t.1, refl)
code_never c n (Choice ts one other rest) S place kind before after (inr (inl h)) m t =
    code_never (within ts c) (n + 1) one (Inside (Behind (Take (I32 ∷ [])) S)) place kind [] (types ts) h ((t.0, (before, m, t.1)), refl) t.2
code_never c n (Choice ts one other rest) S place kind before after (inr (inr (inl h))) m t =
    end_never (within ts c) one ts (Inside (Behind (Take (I32 ∷ [])) S)) kind h.1 ((t.0, (before, m, t.1)), refl) t.2
code_never c n (Choice ts one other rest) S place kind before after (inr (inr (inr (inl h)))) m t =
    code_never (within ts c) (n + 1 + count_of one) other (Inside (When (Typed (within ts c) one [] (types ts)) (Behind (Take (I32 ∷ [])) S))) place kind [] (types ts) h ((t.0, (t.2, (before, m, t.1))), refl) t.3
code_never c n (Choice ts one other rest) S place kind before after (inr (inr (inr (inr (inl h))))) m t =
    end_never (within ts c) other ts (Inside (When (Typed (within ts c) one [] (types ts)) (Behind (Take (I32 ∷ [])) S))) kind h.1 ((t.0, (t.2, (before, m, t.1))), refl) t.3
code_never c n (Choice ts one other rest) S place kind before after (inr (inr (inr (inr (inr h))))) m t =
    code_never c (n + 1 + count_of one + count_of other) rest (Left c (Choice ts one other End) S) place kind (types ts ++ t.0) after h (before, m, (t.0, t.1, t.2, t.3, refl)) t.4

-- ---- a stop is what judging answers
asks_ok_in : (asks : List Ask) (S : List ValType → Type 0) (r : Result Shape Refusal) → ExactAll asks S r → (before after : List ValType) → S before → Obey asks before after → (t : Shape) × (r ≡ Ok t) × Same (Through asks S) t
asks_ok_in asks S (Ok t) e before after m o = (t, refl, e)
asks_ok_in asks S (Err kind) e before after m o = absurd (stops_never asks S kind before after e m o)

asks_err_in : (asks : List Ask) (S : List ValType → Type 0) (r : Result Shape Refusal) → ExactAll asks S r → (kind : Refusal) → StopsIn asks S kind → r ≡ Err kind
asks_err_in asks S (Ok t) e kind h = let x = some_fill t.known t.any_below in let m = (e x.0).1 x.1 in absurd (stops_never asks S kind m.0 x.0 h m.1 m.2)
asks_err_in asks S (Err other) e kind h = ap err (stops_once asks S other kind e h)
  where
    err : Refusal → Result Shape Refusal
    err k = Err k

asks_ok : (asks : List Ask) (S : List ValType → Type 0) (s : Shape) → Same S s → (before after : List ValType) → S before → Obey asks before after → (t : Shape) × (asked_all asks s ≡ Ok t) × Same (Through asks S) t
asks_ok asks S s same = asks_ok_in asks S (asked_all asks s) (asks_exact asks S s same)

asks_err : (asks : List Ask) (S : List ValType → Type 0) (s : Shape) → Same S s → (kind : Refusal) → StopsIn asks S kind → asked_all asks s ≡ Err kind
asks_err asks S s same = asks_err_in asks S (asked_all asks s) (asks_exact asks S s same)

code_ok_in : (c : Context) (n : ℕ) (code : Code) (S : List ValType → Type 0) (r : Result Shape BodyFault) → ExactCode c n code S r → (before after : List ValType) → S before → Typed c code before after → (t : Shape) × (r ≡ Ok t) × Same (Left c code S) t
code_ok_in c n code S (Ok t) e before after m typed = (t, refl, e)
code_ok_in c n code S (Err fault) e before after m typed = absurd (code_never c n code S e.0 e.1 before after e.3 m typed)

code_ok : (c : Context) (n : ℕ) (code : Code) (S : List ValType → Type 0) (s : Shape) → Same S s → (before after : List ValType) → S before → Typed c code before after → (t : Shape) × (judged c n code s ≡ Ok t) × Same (Left c code S) t
code_ok c n code S s same = code_ok_in c n code S (judged c n code s) (code_exact c n code S s same)

pub body_ok : (c : Context) (n : ℕ) (body : Code) (ts : Types?) (S : List ValType → Type 0) → Same S fresh → S [] → Typed c body [] (types ts) → (u : Shape) × (ended (n + count_of body) ts (judged c n body fresh) ≡ Ok u)
body_ok c n body ts S same m typed =
    let t = code_ok c n body S fresh same [] (types ts) m typed in
    let u = asks_ok (ending ts) (Left c body S) t.0 t.2 (types ts) [] ([], m, typed) (passes_end ts) in
    (u.0, ended_passes (n + count_of body) ts (judged c n body fresh) t.0 u.0 t.1 u.1)

-- a body that stops
pub body_err : (c : Context) (n : ℕ) (body : Code) (ts : Types?) (S : List ValType → Type 0) → Same S fresh → ((us : List ValType) → S us → us ≡ []) → (place : ℕ) (kind : Refusal)
    → (Stops c n body S place kind → judged c n body fresh ≡ Err (fault_at place kind)) → StopsInBody c n body ts S place kind → ended (n + count_of body) ts (judged c n body fresh) ≡ Err (fault_at place kind)
body_err c n body ts S same none place kind inside (inl h) = ended_stops (n + count_of body) ts (judged c n body fresh) (fault_at place kind) (inside h)
body_err c n body ts S same none place kind inside (inr h) =
    let x = stops_reached (ending ts) (Left c body S) kind h.1 in
    let t = code_ok c n body S fresh same x.1.0 x.0 x.1.1 x.1.2 in
    ended_refused (n + count_of body) ts (judged c n body fresh) t.0 kind t.1 (asks_err (ending ts) (Left c body S) t.0 t.2 kind h.1)
    ∙ ap (λ m. err (fault_at m kind)) (sym h.0)
  where
    err : BodyFault → Result Shape BodyFault
    err k = Err k

begun : (S : List ValType → Type 0) → Some' S → Same (Inside S) fresh
begun S some ts = ((λ h. h.1), (λ e. (some, e)))

reached : (S : List ValType → Type 0) (s : Shape) → Same S s → Some' S
reached S s same = let x = some_fill s.known s.any_below in (x.0, (same x.0).1 x.1)

given : (c inner : Context) (ts : Types?) (S T : List ValType → Type 0) (s : Shape) → Same S s → ((us : List ValType) → (T us → (before : List ValType) × S before × (us ≡ types ts ++ before)) × ((before : List ValType) × S before × (us ≡ types ts ++ before) → T us)) → Same T (give_all (types ts) s)
given c inner ts S T s same is us = (
  (λ h. let x = (is us).0 h in (gives_exact (types ts) s us).0 (x.0, (same x.0).0 x.1, x.2)),
  (λ m. let x = (gives_exact (types ts) s us).1 m in (is us).1 (x.0, (same x.0).1 x.1, x.2)),
)

left_then : (c : Context) (p : Plain) (S : List ValType → Type 0) (t : Shape) → Same (Through (rule c p) S) t → Same (Left c (Then p End) S) t
left_then c p S t e ts = ((λ h. (e ts).0 (h.0, h.1, subst (Obey (rule c p) h.0) (sym h.2.2) h.2.1)), (λ m. let x = (e ts).1 m in (x.0, x.1, (ts, x.2, refl))))

-- ---- a choice's condition
abbrev Condition : (List ValType → Type 0) → List ValType → Type 0
Condition S = Behind (Take (I32 ∷ [])) S

condition_ok_in : (S : List ValType → Type 0) (s : Shape) → Same S s → (r : Result Shape Refusal) → Exact (Obeys (Take (I32 ∷ []))) refusal.Types (Means s) r → Some' (Condition S) → (b : Shape) × (r ≡ Ok b) × Same (Condition S) b
condition_ok_in S s same (Ok b) e some = (b, refl, λ us. ((λ h. (e us).0 (h.0, (same h.0).0 h.1, h.2)), (λ m. let x = (e us).1 m in (x.0, (same x.0).1 x.1, x.2))))
condition_ok_in S s same (Err kind) e some = absurd (e.1 some.1.0 some.0 ((same some.1.0).0 some.1.1) some.1.2)

condition_ok : (S : List ValType → Type 0) (s : Shape) → Same S s → Some' (Condition S) → (b : Shape) × (take_all (I32 ∷ []) s ≡ Ok b) × Same (Condition S) b
condition_ok S s same = condition_ok_in S s same (take_all (I32 ∷ []) s) (ask_exact (Take (I32 ∷ [])) s)

condition_err_in : (S : List ValType → Type 0) (s : Shape) → Same S s → (r : Result Shape Refusal) → Exact (Obeys (Take (I32 ∷ []))) refusal.Types (Means s) r → (kind : Refusal) → StopsIn (Take (I32 ∷ []) ∷ []) S kind → r ≡ Err kind
condition_err_in S s same (Ok b) e kind (inl h) = let x = some_fill b.known b.any_below in let y = (e x.0).1 x.1 in absurd (h.0.1 y.0 x.0 ((same y.0).1 y.1) y.2)
condition_err_in S s same (Err other) e kind (inl h) = ap err (e.0 ∙ sym h.1)
  where
    err : Refusal → Result Shape Refusal
    err k = Err k
condition_err_in S s same r e kind (inr h) = absurd h

pub code_stops : (c : Context) (n : ℕ) (code : Code) (S : List ValType → Type 0) (s : Shape) → Same S s → (place : ℕ) (kind : Refusal) → Stops c n code S place kind → judged c n code s ≡ Err (fault_at place kind)
code_stops c n End S s same place kind h = absurd h
code_stops c n (Then p rest) S s same place kind (inl h) = plain_stops c n p rest s kind (asks_err (rule c p) S s same kind h.1) ∙ ap (λ m. err (fault_at m kind)) (sym h.0)
  where
    err : BodyFault → Result Shape BodyFault
    err k = Err k
code_stops c n (Then p rest) S s same place kind (inr h) =
    let x = code_reached c (n + 1) rest (Left c (Then p End) S) place kind h in
    let t = asks_ok (rule c p) S s same x.1.0 x.1.2.0 x.1.1 x.1.2.1 in
    plain_goes_on c n (n + 1) p rest s t.0 refl t.1 ∙ code_stops c (n + 1) rest (Left c (Then p End) S) t.0 (left_then c p S t.0 t.2) place kind h
code_stops c n (Block ts body rest) S s same place kind (inl h) =
    block_stops c n (n + 1) ts body rest s (fault_at place kind) refl (body_err (within ts c) (n + 1) body ts (Inside S) (begun S (reached S s same)) (λ us h. h.1) place kind
    (λ _. code_stops (within ts c) (n + 1) body (Inside S) fresh (begun S (reached S s same)) place kind h) (inl h))
code_stops c n (Block ts body rest) S s same place kind (inr (inl h)) =
    block_stops c n (n + 1) ts body rest s (fault_at place kind) refl (body_err (within ts c) (n + 1) body ts (Inside S) (begun S (reached S s same)) (λ us h. h.1) place kind
    (λ k. code_stops (within ts c) (n + 1) body (Inside S) fresh (begun S (reached S s same)) place kind k) (inr h))
code_stops c n (Block ts body rest) S s same place kind (inr (inr h)) =
    let x = code_reached c (n + 1 + count_of body) rest (Left c (Block ts body End) S) place kind h in
    let u = body_ok (within ts c) (n + 1) body ts (Inside S) (begun S (reached S s same)) (reached S s same, refl) x.1.2.0 in
    block_goes_on c n (n + 1) (n + 1 + count_of body) ts body rest s u.0 (give_all (types ts) s) refl u.1 refl refl
    ∙ code_stops c (n + 1 + count_of body) rest (Left c (Block ts body End) S) (give_all (types ts) s)
    (given c (within ts c) ts S (Left c (Block ts body End) S) s same (λ us. ((λ k. (k.0, k.1, k.2.1)), (λ k. (k.0, k.1, (x.1.2.0, k.2)))))) place kind h
code_stops c n (Loop ts body rest) S s same place kind (inl h) =
    loop_stops c n (n + 1) ts body rest s (fault_at place kind) refl (body_err (within None c) (n + 1) body ts (Inside S) (begun S (reached S s same)) (λ us h. h.1) place kind
    (λ _. code_stops (within None c) (n + 1) body (Inside S) fresh (begun S (reached S s same)) place kind h) (inl h))
code_stops c n (Loop ts body rest) S s same place kind (inr (inl h)) =
    loop_stops c n (n + 1) ts body rest s (fault_at place kind) refl (body_err (within None c) (n + 1) body ts (Inside S) (begun S (reached S s same)) (λ us h. h.1) place kind
    (λ k. code_stops (within None c) (n + 1) body (Inside S) fresh (begun S (reached S s same)) place kind k) (inr h))
code_stops c n (Loop ts body rest) S s same place kind (inr (inr h)) =
    let x = code_reached c (n + 1 + count_of body) rest (Left c (Loop ts body End) S) place kind h in
    let u = body_ok (within None c) (n + 1) body ts (Inside S) (begun S (reached S s same)) (reached S s same, refl) x.1.2.0 in
    loop_goes_on c n (n + 1) (n + 1 + count_of body) ts body rest s u.0 (give_all (types ts) s) refl u.1 refl refl
    ∙ code_stops c (n + 1 + count_of body) rest (Left c (Loop ts body End) S) (give_all (types ts) s)
    (given c (within None c) ts S (Left c (Loop ts body End) S) s same (λ us. ((λ k. (k.0, k.1, k.2.1)), (λ k. (k.0, k.1, (x.1.2.0, k.2)))))) place kind h
code_stops c n (Choice ts one other rest) S s same place kind (inl h) =
    condition_stops c n ts one other rest s kind (condition_err_in S s same (take_all (I32 ∷ []) s) (ask_exact (Take (I32 ∷ [])) s) kind h.1) ∙ ap (λ m. err (fault_at m kind)) (sym h.0)
  where
    err : BodyFault → Result Shape BodyFault
    err k = Err k
code_stops c n (Choice ts one other rest) S s same place kind (inr (inl h)) =
    let some = (code_reached (within ts c) (n + 1) one (Inside (Condition S)) place kind h).1.0 in
    let b = condition_ok S s same some in
    let like : Same (Inside (Condition S)) fresh = begun (Condition S) some in
    one_stops c n (n + 1) ts one other rest s b.0 (fault_at place kind) refl b.1 (body_err (within ts c) (n + 1) one ts (Inside (Condition S)) like (λ us k. k.1) place kind
    (λ k. code_stops (within ts c) (n + 1) one (Inside (Condition S)) fresh like place kind k) (inl h))
code_stops c n (Choice ts one other rest) S s same place kind (inr (inr (inl h))) =
    let some = (stops_reached (ending ts) (Left (within ts c) one (Inside (Condition S))) kind h.1).1.1.0 in
    let b = condition_ok S s same some in
    let like : Same (Inside (Condition S)) fresh = begun (Condition S) some in
    one_stops c n (n + 1) ts one other rest s b.0 (fault_at place kind) refl b.1 (body_err (within ts c) (n + 1) one ts (Inside (Condition S)) like (λ us k. k.1) place kind
    (λ k. code_stops (within ts c) (n + 1) one (Inside (Condition S)) fresh like place kind k) (inr h))
code_stops c n (Choice ts one other rest) S s same place kind (inr (inr (inr (inl h)))) =
    let First : List ValType → Type 0 = When (Typed (within ts c) one [] (types ts)) (Condition S) in
    let some = (code_reached (within ts c) (n + 1 + count_of one) other (Inside First) place kind h).1.0 in
    let b = condition_ok S s same (some.0, some.1.1) in
    let like : Same (Inside First) fresh = begun First some in
    let x = body_ok (within ts c) (n + 1) one ts (Inside (Condition S)) (begun (Condition S) (some.0, some.1.1)) ((some.0, some.1.1), refl) some.1.0 in
    other_stops c n (n + 1) (n + 1 + count_of one) ts one other rest s b.0 x.0 (fault_at place kind) refl b.1 x.1 refl (body_err (within ts c) (n + 1 + count_of one) other ts (Inside First) like (λ us k. k.1) place kind
    (λ k. code_stops (within ts c) (n + 1 + count_of one) other (Inside First) fresh like place kind k) (inl h))
code_stops c n (Choice ts one other rest) S s same place kind (inr (inr (inr (inr (inl h))))) =
    let First : List ValType → Type 0 = When (Typed (within ts c) one [] (types ts)) (Condition S) in
    let some = (stops_reached (ending ts) (Left (within ts c) other (Inside First)) kind h.1).1.1.0 in
    let b = condition_ok S s same (some.0, some.1.1) in
    let like : Same (Inside First) fresh = begun First some in
    let x = body_ok (within ts c) (n + 1) one ts (Inside (Condition S)) (begun (Condition S) (some.0, some.1.1)) ((some.0, some.1.1), refl) some.1.0 in
    other_stops c n (n + 1) (n + 1 + count_of one) ts one other rest s b.0 x.0 (fault_at place kind) refl b.1 x.1 refl (body_err (within ts c) (n + 1 + count_of one) other ts (Inside First) like (λ us k. k.1) place kind
    (λ k. code_stops (within ts c) (n + 1 + count_of one) other (Inside First) fresh like place kind k) (inr h))
code_stops c n (Choice ts one other rest) S s same place kind (inr (inr (inr (inr (inr h))))) =
    let First : List ValType → Type 0 = When (Typed (within ts c) one [] (types ts)) (Condition S) in
    let T : List ValType → Type 0 = Left c (Choice ts one other End) S in
    let r = code_reached c (n + 1 + count_of one + count_of other) rest T place kind h in
    let some : Some' (Condition S) = (r.1.2.0, (r.1.0, r.1.1, r.1.2.1)) in
    let b = condition_ok S s same some in
    let x = body_ok (within ts c) (n + 1) one ts (Inside (Condition S)) (begun (Condition S) some) (some, refl) r.1.2.2 in
    let first : Some' First = (some.0, (r.1.2.2, some.1)) in
    let y = body_ok (within ts c) (n + 1 + count_of one) other ts (Inside First) (begun First first) (first, refl) r.1.2.3 in
    choice_goes_on c n (n + 1) (n + 1 + count_of one) (n + 1 + count_of one + count_of other) ts one other rest s b.0 x.0 y.0 (give_all (types ts) b.0) refl b.1 x.1 refl y.1 refl refl
    ∙ code_stops c (n + 1 + count_of one + count_of other) rest T (give_all (types ts) b.0)
    (given c (within ts c) ts (Condition S) T b.0 b.2 (λ us. ((λ k. (k.2.0, (k.0, k.1, k.2.1), k.2.4)), (λ k. (k.1.0, k.1.1, (k.0, k.1.2, r.1.2.2, r.1.2.3, k.2)))))) place kind h

-- ---- a function's body
nothing : Same None' fresh
nothing ts = ((λ e. e), (λ e. e))

-- judging a body says that it is typed, or its first breach
abbrev pub TellsTyping : Context → Code → Result Shape BodyFault → Type 0
TellsTyping c code (Ok t) = IsTyped c code
TellsTyping c code (Err fault) = (place : ℕ) × (kind : Refusal) × (fault ≡ fault_at place kind) × IsBreach c code place kind

body_tells : (c : Context) (code : Code) (r : Result Shape BodyFault) → ExactBody (in_body c) 0 code c.result None' r → TellsTyping c code r
body_tells c code (Ok t) e = e
body_tells c code (Err fault) e = e

pub judged_tells : (c : Context) (code : Code) → TellsTyping c code (body_judged c code)
unfolding body_judged
judged_tells c code =
    let e = body_exact (in_body c) 0 code c.result None' (judged (in_body c) 0 code fresh) (λ us h. h) (code_exact (in_body c) 0 code None' fresh nothing) in
    body_tells c code (ended (count_of code) c.result (judged (in_body c) 0 code fresh)) (subst (λ n. ExactBody (in_body c) 0 code c.result None' (ended n c.result (judged (in_body c) 0 code fresh))) (omega arith) e)

pub breach_judged : (c : Context) (code : Code) (place : ℕ) (kind : Refusal) → IsBreach c code place kind → body_judged c code ≡ Err (fault_at place kind)
unfolding body_judged
breach_judged c code place kind h =
    let e = body_err (in_body c) 0 code c.result None' nothing (λ us k. k) place kind (λ k. code_stops (in_body c) 0 code None' fresh nothing place kind k) h in
    let n : count_of code ≡ 0 + count_of code = omega arith in
    ap (λ n. ended n c.result (judged (in_body c) 0 code fresh)) n ∙ e

pub typed_judged : (c : Context) (code : Code) → IsTyped c code → (t : Shape) × (body_judged c code ≡ Ok t)
unfolding body_judged
typed_judged c code typed =
    let e = body_ok (in_body c) 0 code c.result None' nothing refl typed in
    let n : count_of code ≡ 0 + count_of code = omega arith in
    (e.0, ap (λ n. ended n c.result (judged (in_body c) 0 code fresh)) n ∙ e.1)
