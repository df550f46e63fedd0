-- The operands that may stand at a place, and the shape that stands for them.
use Rattle.std.proofs.Common.{◌≡◌, List, [], ◌∷◌, ◌++◌, Some, None, Bool, true, false, Ok, Err, Result, refl, sym, ap, subst, ◌∙◌, inl, inr}
use Rattle.nr_wasmtypes.specs.declared.instr.ValType.{ValType}
use Rattle.nr_wasmtypes.specs.declared.instr.ValType.TheVariants.{I32, I64}
use Rattle.nr_wasmvalid.specs.declared.refusal.Refusal.{Refusal}
use Rattle.nr_wasmvalid.specs.declared.refusal.Refusal.TheVariants as refusal
use Rattle.nr_wasmvalid.specs.Rules.{Ask, Take, Give, TakeAny, Alike, Empty, Leave, Must, Obeys, kind_of}
use Rattle.nr_wasmvalid.specs.Typing.{Obey, Some', Behind, StopsIn}
use Rattle.nr_wasmvalid.specs.Shapes.{Operand, Shape, take_one, take_all, give_all, alike, no_more, asked, asked_all, ◌>>=◌}

-- a type that the operand can have
abbrev pub Is : Operand → ValType → Type 0
Is None t = Unit {0}
Is (Some u) t = u ≡ t

abbrev pub Fills : List Operand → Bool → List ValType → Type 0
Fills [] true ts = Unit {0}
Fills [] false ts = ts ≡ []
Fills (k ∷ ks) any_below [] = ⊥
Fills (k ∷ ks) any_below (t ∷ ts) = Is k t × Fills ks any_below ts

-- operands of these types fit the shape
abbrev pub Means : Shape → List ValType → Type 0
Means s ts = Fills s.known s.any_below ts

abbrev pub Same : (List ValType → Type 0) → Shape → Type 0
Same S s = (ts : List ValType) → (S ts → Means s ts) × (Means s ts → S ts)

pub some_fill : (ks : List Operand) (any_below : Bool) → (ts : List ValType) × Fills ks any_below ts
some_fill [] true = ([], tt)
some_fill [] false = ([], refl)
some_fill (None ∷ ks) b = let r = some_fill ks b in (I32 ∷ r.0, (tt, r.1))
some_fill (Some u ∷ ks) b = let r = some_fill ks b in (u ∷ r.0, (refl, r.1))

-- ---- what a step leaves, or that no operands pass it
abbrev pub Step : Type 1
Step = List ValType → List ValType → Type 0

abbrev pub Exact : Step → Refusal → (List ValType → Type 0) → Result Shape Refusal → Type 0
Exact R kind S (Ok t) = Same (λ after. (before : List ValType) × S before × R before after) t
Exact R kind S (Err k) = (k ≡ kind) × ((before after : List ValType) → S before → R before after → ⊥)

abbrev pub Both : Step → Step → Step
Both R Q before after = (mid : List ValType) × R before mid × Q mid after

pub along : (R Q : Step) (kind : Refusal) (S : List ValType → Type 0) (r : Result Shape Refusal) → ((b a : List ValType) → (R b a → Q b a) × (Q b a → R b a)) → Exact R kind S r → Exact Q kind S r
along R Q kind S (Ok t) same e = λ ts. ((λ h. (e ts).0 (h.0, h.1, (same h.0 ts).1 h.2)), (λ m. let h = (e ts).1 m in (h.0, h.1, (same h.0 ts).0 h.2)))
along R Q kind S (Err k) same e = (e.0, λ b a s q. e.1 b a s ((same b a).1 q))

pub in_turn : (R Q : Step) (kind : Refusal) (S : List ValType → Type 0) (r : Result Shape Refusal) (f : Shape → Result Shape Refusal) → Exact R kind S r → ((t : Shape) → Exact Q kind (Means t) (f t)) → Exact (Both R Q) kind S (r >>= f)
in_turn R Q kind S (Err k) f e g = (e.0, λ b a s h. e.1 b h.0 s h.1)
in_turn R Q kind S (Ok t) f e g = second (f t) (g t)
  where
    second : (r : Result Shape Refusal) → Exact Q kind (Means t) r → Exact (Both R Q) kind S r
    second (Ok u) d = λ ts. ((λ h. (d ts).0 (h.2.0, (e h.2.0).0 (h.0, h.1, h.2.1), h.2.2)), (λ m. let x = (d ts).1 m in let y = (e x.0).1 x.1 in (y.0, y.1, (x.0, y.2, x.2))))
    second (Err k) d = (d.0, λ b a s h. d.1 h.0 a ((e h.0).0 (b, s, h.1)) h.2)

-- ---- one operand
abbrev pub Takes : ValType → Step
Takes t before after = before ≡ t ∷ after

abbrev Cons : Operand → List Operand → Bool → List ValType → Type 0
Cons k ks b ts = Fills (k ∷ ks) b ts

took : (t : ValType) (k : Operand) (ks : List Operand) (b : Bool) → Is k t → ((u : ValType) → Is k u → Unit {0}) → Exact (Takes t) refusal.Types (Cons k ks b) (Ok (record { known = ks; any_below = b }))
took t k ks b is _ = λ ts. ((λ h. (subst (Cons k ks b) h.2 h.1).1), (λ m. (t ∷ ts, (is, m), refl)))

refused : (t u : ValType) (ks : List Operand) (b : Bool) → (u ≡ t → ⊥) → Exact (Takes t) refusal.Types (Cons (Some u) ks b) (Err refusal.Types)
refused t u ks b ne = (refl, λ before after m e. ne (subst (Cons (Some u) ks b) e m).0)

pub one_exact : (t : ValType) (ks : List Operand) (b : Bool) → Exact (Takes t) refusal.Types (Fills ks b) (take_one t (record { known = ks; any_below = b }))
unfolding take_one
one_exact t [] true = λ ts. ((λ h. tt), (λ m. (t ∷ ts, tt, refl)))
one_exact t [] false = (refl, λ before after m e. absurd (let x : t ∷ after ≡ [] = sym e ∙ m in cc))
one_exact t (None ∷ ks) b = took t None ks b tt (λ u is. tt)
one_exact I32 (Some I32 ∷ ks) b = took I32 (Some I32) ks b refl (λ u is. tt)
one_exact I64 (Some I64 ∷ ks) b = took I64 (Some I64) ks b refl (λ u is. tt)
one_exact I32 (Some I64 ∷ ks) b = refused I32 I64 ks b (λ e. cc)
one_exact I64 (Some I32 ∷ ks) b = refused I64 I32 ks b (λ e. cc)

-- ---- several
abbrev pub TakesAll : List ValType → Step
TakesAll ts before after = before ≡ ts ++ after

pub all_exact : (ts : List ValType) (s : Shape) → Exact (TakesAll ts) refusal.Types (Means s) (take_all ts s)
unfolding take_all
all_exact [] s = λ us. ((λ h. subst (Means s) h.2 h.1), (λ m. (us, m, refl)))
all_exact (t ∷ ts) s =
    along (Both (Takes t) (TakesAll ts)) (TakesAll (t ∷ ts)) refusal.Types (Means s) (take_one t s >>= take_all ts)
    (λ b a. ((λ h. h.1 ∙ ap (λ (us : List ValType). t ∷ us) h.2), (λ e. (ts ++ a, e, refl))))
    (in_turn (Takes t) (TakesAll ts) refusal.Types (Means s) (take_one t s) (take_all ts) (one_exact t s.known s.any_below) (all_exact ts))

-- ---- the others
abbrev pub Gives : List ValType → Step
Gives ts before after = after ≡ ts ++ before

pub gives_exact : (ts : List ValType) (s : Shape) → Same (λ after. (before : List ValType) × Means s before × Gives ts before after) (give_all ts s)
unfolding give_all
gives_exact [] s us = ((λ h. subst (Means s) (sym h.2) h.1), (λ m. (us, m, refl)))
gives_exact (t ∷ ts) s [] = ((λ h. absurd (let x : [] ≡ t ∷ (ts ++ h.0) = h.2 in cc)), (λ m. absurd m))
gives_exact (t ∷ ts) s (u ∷ us) = (
  (λ h. let x : u ≡ t = cc (h.2) in let y : us ≡ ts ++ h.0 = cc (h.2) in (sym x, (gives_exact ts s us).0 (h.0, h.1, y))),
  (λ m. let h = (gives_exact ts s us).1 m.1 in (h.0, h.1, ap (λ (v : ValType). v ∷ us) (sym m.0) ∙ ap (λ (vs : List ValType). t ∷ vs) h.2)),
)

pub any_exact : (ks : List Operand) (b : Bool) → Exact (Obeys TakeAny) refusal.Types (Fills ks b) (asked TakeAny (record { known = ks; any_below = b }))
any_exact [] true = λ ts. ((λ h. tt), (λ m. (I32 ∷ ts, tt, (I32, refl))))
any_exact [] false = (refl, λ before after m e. absurd (let x : e.0 ∷ after ≡ [] = sym e.1 ∙ m in cc))
any_exact (None ∷ ks) b = λ ts. ((λ h. (subst (Cons None ks b) h.2.1 h.1).1), (λ m. (I32 ∷ ts, (tt, m), (I32, refl))))
any_exact (Some u ∷ ks) b = λ ts. ((λ h. (subst (Cons (Some u) ks b) h.2.1 h.1).1), (λ m. (u ∷ ts, (refl, m), (u, refl))))

pub empty_exact : (ks : List Operand) (b : Bool) → Exact (Obeys Empty) refusal.Types (Fills ks b) (no_more ks)
empty_exact [] true = λ ts. ((λ h. h.2.1), (λ m. ([], tt, (refl, m))))
empty_exact [] false = λ ts. ((λ h. h.2.1), (λ m. ([], refl, (refl, m))))
empty_exact (k ∷ ks) b = (refl, λ before after m e. subst (Cons k ks b) e.0 m)

pub leave_exact : (s : Shape) → Same (λ after. (before : List ValType) × Means s before × Unit {0}) (record { known = []; any_below = true })
leave_exact s ts = let x = some_fill s.known s.any_below in ((λ h. tt), (λ m. (x.0, x.1, tt)))

pub must_exact : (kind : Refusal) (holds : Bool) (s : Shape) → Exact (Obeys (Must kind holds)) kind (Means s) (asked (Must kind holds) s)
must_exact kind true s = λ ts. ((λ h. subst (Means s) (sym h.2.1) h.1), (λ m. (ts, m, (refl, refl))))
must_exact kind false s = (refl, λ before after m e. absurd (let x : false ≡ true = e.0 in cc))

-- ---- two operands of one type
abbrev pub Pairs : Step
Pairs = Obeys Alike

abbrev Two : Operand → Operand → List Operand → Bool → List ValType → Type 0
Two k l ks b ts = Fills (k ∷ l ∷ ks) b ts

pair_ok : (k l m : Operand) (ks : List Operand) (b : Bool) → ((t : ValType) → Is k t → Is l t → Is m t) → ((t : ValType) → Is m t → Is k t × Is l t) → Exact Pairs refusal.Types (Two k l ks b) (Ok (record { known = m ∷ ks; any_below = b }))
pair_ok k l m ks b there back [] = ((λ h. absurd (let x : [] ≡ h.2.0 ∷ h.2.1 = h.2.3 in cc)), (λ f. absurd f))
pair_ok k l m ks b there back (u ∷ us) = (
  (λ h. let f = subst (Two k l ks b) h.2.2 h.1 in subst (Cons m ks b) (sym h.2.3) (there h.2.0 f.0 f.1.0, f.1.1)),
  (λ f. let x = back u f.0 in (u ∷ u ∷ us, (x.0, (x.1, f.1)), (u, us, refl, refl))),
)

pair_bottom : (k : Operand) → Exact Pairs refusal.Types (Fills (k ∷ []) true) (Ok (record { known = k ∷ []; any_below = true }))
pair_bottom k [] = ((λ h. absurd (let x : [] ≡ h.2.0 ∷ h.2.1 = h.2.3 in cc)), (λ f. absurd f))
pair_bottom k (u ∷ us) = (
  (λ h. let f = subst (Cons k [] true) h.2.2 h.1 in subst (Cons k [] true) (sym h.2.3) (f.0, tt)),
  (λ f. (u ∷ u ∷ us, (f.0, tt), (u, us, refl, refl))),
)

pair_none : Exact Pairs refusal.Types (Fills [] true) (Ok (record { known = None ∷ []; any_below = true }))
pair_none [] = ((λ h. absurd (let x : [] ≡ h.2.0 ∷ h.2.1 = h.2.3 in cc)), (λ f. absurd f))
pair_none (u ∷ us) = ((λ h. (tt, tt)), (λ f. (u ∷ u ∷ us, tt, (u, us, refl, refl))))

pair_differ : (t u : ValType) (ks : List Operand) (b : Bool) → (t ≡ u → ⊥) → Exact Pairs refusal.Types (Two (Some t) (Some u) ks b) (Err refusal.Types)
pair_differ t u ks b ne = (refl, λ before after m e. let f = subst (Two (Some t) (Some u) ks b) e.2 m in ne (f.0 ∙ sym f.1.0))

pair_alone : (k : Operand) → Exact Pairs refusal.Types (Fills (k ∷ []) false) (Err refusal.Types)
pair_alone k = (refl, λ before after m e. let f = subst (Cons k [] false) e.2 m in absurd (let x : e.0 ∷ e.1 ≡ [] = f.1 in cc))

pub alike_exact : (ks : List Operand) (b : Bool) → Exact Pairs refusal.Types (Fills ks b) (alike (record { known = ks; any_below = b }))
unfolding alike
alike_exact [] true = pair_none
alike_exact [] false = (refl, λ before after m e. absurd (let x : e.0 ∷ e.0 ∷ e.1 ≡ [] = sym e.2 ∙ m in cc))
alike_exact (None ∷ []) true = pair_bottom None
alike_exact (Some t ∷ []) true = pair_bottom (Some t)
alike_exact (k ∷ []) false = pair_alone k
alike_exact (None ∷ l ∷ ks) b = pair_ok None l l ks b (λ t x y. y) (λ t x. (tt, x))
alike_exact (Some t ∷ None ∷ ks) b = pair_ok (Some t) None (Some t) ks b (λ u x y. x) (λ u x. (x, tt))
alike_exact (Some I32 ∷ Some I32 ∷ ks) b = pair_ok (Some I32) (Some I32) (Some I32) ks b (λ u x y. x) (λ u x. (x, x))
alike_exact (Some I64 ∷ Some I64 ∷ ks) b = pair_ok (Some I64) (Some I64) (Some I64) ks b (λ u x y. x) (λ u x. (x, x))
alike_exact (Some I32 ∷ Some I64 ∷ ks) b = pair_differ I32 I64 ks b (λ e. cc)
alike_exact (Some I64 ∷ Some I32 ∷ ks) b = pair_differ I64 I32 ks b (λ e. cc)

-- ---- every ask
pub ask_exact : (a : Ask) (s : Shape) → Exact (Obeys a) (kind_of a) (Means s) (asked a s)
ask_exact (Take ts) s = all_exact ts s
ask_exact (Give ts) s = gives_exact ts s
ask_exact TakeAny s = any_exact s.known s.any_below
ask_exact Alike s = alike_exact s.known s.any_below
ask_exact Empty s = empty_exact s.known s.any_below
ask_exact Leave s = leave_exact s
ask_exact (Must kind holds) s = must_exact kind holds s

-- ---- asks in turn
abbrev pub Through : List Ask → (List ValType → Type 0) → List ValType → Type 0
Through asks S after = (before : List ValType) × S before × Obey asks before after

abbrev pub ExactAll : List Ask → (List ValType → Type 0) → Result Shape Refusal → Type 0
ExactAll asks S (Ok t) = Same (Through asks S) t
ExactAll asks S (Err kind) = StopsIn asks S kind

pub asks_exact : (asks : List Ask) (S : List ValType → Type 0) (s : Shape) → Same S s → ExactAll asks S (asked_all asks s)
unfolding asked_all
asks_exact [] S s same = λ ts. ((λ h. subst (Means s) (sym h.2) ((same h.0).0 h.1)), (λ m. (ts, (same ts).1 m, refl)))
asks_exact (ask ∷ asks) S s same = first (λ t like. asks_exact asks (Behind ask S) t like) (asked ask s) (ask_exact ask s)
  where
    second : (r : Result Shape Refusal) → ExactAll asks (Behind ask S) r → ExactAll (ask ∷ asks) S r
    second (Ok u) d = λ ts. ((λ h. (d ts).0 (h.2.0, (h.0, h.1, h.2.1), h.2.2)), (λ m. let x = (d ts).1 m in (x.1.0, x.1.1, (x.0, x.1.2, x.2))))
    second (Err kind) d = inr d

    first : ((t : Shape) → Same (Behind ask S) t → ExactAll asks (Behind ask S) (asked_all asks t)) → (r : Result Shape Refusal) → Exact (Obeys ask) (kind_of ask) (Means s) r → ExactAll (ask ∷ asks) S (r >>= asked_all asks)
    first others (Ok t) e = second (asked_all asks t) (others t (λ ts. ((λ h. (e ts).0 (h.0, (same h.0).0 h.1, h.2)), (λ m. let x = (e ts).1 m in (x.0, (same x.0).1 x.1, x.2)))))
    first others (Err kind) e = inl (((let x = some_fill s.known s.any_below in (x.0, (same x.0).1 x.1)), λ b a h o. e.1 b a ((same b).0 h) o), e.0)

-- ---- one of these at most
pub stops_reached : (asks : List Ask) (S : List ValType → Type 0) (kind : Refusal) → StopsIn asks S kind → Some' S
stops_reached [] S kind h = absurd h
stops_reached (ask ∷ asks) S kind (inl h) = h.0.0
stops_reached (ask ∷ asks) S kind (inr h) = let x = stops_reached asks (Behind ask S) kind h in (x.1.0, x.1.1)

pub stops_never : (asks : List Ask) (S : List ValType → Type 0) (kind : Refusal) (before after : List ValType) → StopsIn asks S kind → S before → Obey asks before after → ⊥
stops_never [] S kind before after h m o = h
stops_never (ask ∷ asks) S kind before after (inl h) m o = h.0.1 before o.0 m o.1
stops_never (ask ∷ asks) S kind before after (inr h) m o = stops_never asks (Behind ask S) kind o.0 after h (before, m, o.1) o.2

pub stops_once : (asks : List Ask) (S : List ValType → Type 0) (kind other : Refusal) → StopsIn asks S kind → StopsIn asks S other → kind ≡ other
stops_once [] S kind other h k = absurd h
stops_once (ask ∷ asks) S kind other (inl h) (inl k) = h.1 ∙ sym k.1
stops_once (ask ∷ asks) S kind other (inl h) (inr k) = let x = stops_reached asks (Behind ask S) other k in absurd (h.0.1 x.1.0 x.0 x.1.1 x.1.2)
stops_once (ask ∷ asks) S kind other (inr h) (inl k) = let x = stops_reached asks (Behind ask S) kind h in absurd (k.0.1 x.1.0 x.0 x.1.1 x.1.2)
stops_once (ask ∷ asks) S kind other (inr h) (inr k) = stops_once asks (Behind ask S) kind other h k
