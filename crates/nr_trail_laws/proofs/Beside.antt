-- The levels of a trail beside what stands round a place, and what a step does to both.
use Rattle.std.proofs.Common.{◌≡◌, ℕ, zero, suc, ◌+◌, ◌-◌, Bool, true, false, cond, List, [], ◌∷◌, ◌++◌, length, take, drop, reverse, Option, Some, None, nat_lt, refl, sym, ap, ◌∙◌, subst, arith, ◌⊎◌, append_assoc}
use Rattle.std.specs.Prelude.{option_and_then, slice_get, sum_by}
use Rattle.std.proofs.lemmas.List.{append-nil, length-reverse, reverse-append}
use mathlib.Core.Logic.{inl, inr}
use Rattle.nr_wasmtypes.specs.Code.{Code, End, Then, Block, Loop, Choice, after, count_of}
use Rattle.nr_wasmexec.specs.Place.{Context, InLabel, InFrame, Place, onward, branched, returned}
use Rattle.nr_trace.specs.Trail.{Trail, behind, back_to, caller_of, cut, cut_off, noted}
use Rattle.nr_wasmexec.specs.declared.program.Program.{Program}
use Rattle.nr_trace.specs.declared.trail.Level.{Level}
use Rattle.nr_trace.specs.declared.trail.Level.TheVariants as level
use Rattle.nr_trace.specs.declared.trail.Way.{Way}
use Rattle.nr_wasmexec.proofs.Branches.{some_is}
use Rattle.nr_trail_laws.specs.Placed.{IsAt, StandsAt}
use Rattle.nr_trail_laws.proofs.Fits.{IsCode}
use Rattle.nr_trail_laws.proofs.Parts.{Own, Part, holds, own_at, part_after, side}

-- from the inside out: a block that is open is the instruction that was left, and a call leads back behind its own
abbrev pub Beside : Program → ℕ → ℕ → Code → List Context → List Level → Type 0
Beside p f base whole [] R = ⊥
Beside p f base whole (InLabel values n target code ∷ around) [] = ⊥
Beside p f base whole (InLabel values n target code ∷ around) (level.Call g b ∷ R) = ⊥
Beside p f base whole (InLabel values n target code ∷ around) (level.Block c second ∷ R) =
    (whole ≡ side second c) × (holds c ≡ true) × ((target ≡ c) ⊎ (target ≡ after c)) × (code ≡ after c)
    × ((outer : Code) × Part outer c × Beside p f base outer around R)
Beside p f base whole (InFrame values n own code ∷ around) [] =
    IsCode p f whole × (base ≡ 0) × (around ≡ []) × (code ≡ End)
Beside p f base whole (InFrame values n own code ∷ around) (level.Block c second ∷ R) = ⊥
Beside p f base whole (InFrame values n own code ∷ around) (level.Call g b ∷ R) =
    IsCode p f whole × (base ≡ length R + 1)
    × ((c : Code) × (code ≡ after c) × ((outer : Code) × Part outer c × Beside p g b outer around R))

-- inside the method's frame
pub record Inside (p : Program) (q : Place) (t : Trail) : Type 0 where
  pub whole : Code
  pub part : Part whole q.code
  pub inner : List Level
  pub is : t.levels ≡ reverse inner
  pub beside : Beside p t.func t.base whole q.contexts inner

-- or behind it
pub record Gone (p : Program) (q : Place) (t : Trail) : Type 0 where
  pub contexts : q.contexts ≡ []
  pub code : q.code ≡ End
  pub levels : t.levels ≡ []
  pub whole : Code
  pub has : IsCode p t.func whole

abbrev pub Along : Program → Place → Trail → Type 0
Along p q t = Inside p q t ⊎ Gone p q t

-- ---- lists
pub first_last : {X : Type 0} (R : List X) (l : X) → reverse (l ∷ R) ≡ reverse R ++ l ∷ []
first_last R l = reverse-append (l ∷ []) R

front_back : {X : Type 0} (R acc : List X) (l : X) → reverse (l ∷ R) ++ acc ≡ reverse R ++ l ∷ acc
front_back {X} R acc l = ap (λ (xs : List X). xs ++ acc) (first_last R l) ∙ append_assoc (reverse R) (l ∷ []) acc

drop_front : {X : Type 0} (xs ys : List X) → drop (length xs) (xs ++ ys) ≡ ys
drop_front [] ys = refl
drop_front (x ∷ xs) ys = drop_front xs ys

take_front : {X : Type 0} (xs ys : List X) → take (length xs) (xs ++ ys) ≡ xs
take_front [] ys = refl
take_front {X} (x ∷ xs) ys = ap (λ (zs : List X). x ∷ zs) (take_front xs ys)

get_front : {X : Type 0} (xs ys : List X) (l : X) → slice_get (xs ++ l ∷ ys) (length xs) ≡ Some l
get_front [] ys l = refl
get_front (x ∷ xs) ys l = get_front xs ys l

-- ---- the place of the noted instruction
end_at : (c : Code) → IsAt c (count_of c) End
end_at End = (refl, refl)
end_at (Then o rest) = inr (count_of rest, refl, end_at rest)
end_at (Block ty body rest) = inr (inr (count_of rest, refl, end_at rest))
end_at (Loop ty body rest) = inr (inr (count_of rest, refl, end_at rest))
end_at (Choice ty one other rest) = inr (inr (inr (count_of rest, refl, end_at rest)))

own_of : (p : Program) (f base : ℕ) (whole : Code) (cs : List Context) (R acc : List Level) (at : Code) → Beside p f base whole cs R → Own whole acc at
    → (code : Code) × IsCode p f code × Own code (drop base (reverse R ++ acc)) at
own_of p f base whole [] R acc at b own = absurd b
own_of p f base whole (InLabel values n target code ∷ around) [] acc at b own = absurd b
own_of p f base whole (InLabel values n target code ∷ around) (level.Call g h ∷ R) acc at b own = absurd b
own_of p f base whole (InLabel values n target code ∷ around) (level.Block c second ∷ R) acc at (is, hold, goes, back, (outer, part, b)) own =
    let inner : Own outer (level.Block c second ∷ acc) at = (part, hold, subst (λ (w : Code). Own w acc at) is own) in
    let r = own_of p f base outer around R (level.Block c second ∷ acc) at b inner in
    (r.0, r.1, subst (λ (ls : List Level). Own r.0 (drop base ls) at) (sym (front_back R acc (level.Block c second))) r.2)
own_of p f base whole (InFrame values n locals code ∷ around) [] acc at (has, none, out, end) own =
    (whole, has, subst (λ (k : ℕ). Own whole (drop k acc) at) (sym none) own)
own_of p f base whole (InFrame values n locals code ∷ around) (level.Block c second ∷ R) acc at b own = absurd b
own_of p f base whole (InFrame values n locals code ∷ around) (level.Call g h ∷ R) acc at (has, many, rest) own =
    let long : base ≡ length (reverse (level.Call g h ∷ R)) = omega (arith, many, length-reverse (level.Call g h ∷ R)) in
    let is : drop base (reverse (level.Call g h ∷ R) ++ acc) ≡ acc = ap (λ (k : ℕ). drop k (reverse (level.Call g h ∷ R) ++ acc)) long ∙ drop_front (reverse (level.Call g h ∷ R)) acc in
    (whole, has, subst (λ (ls : List Level). Own whole ls at) (sym is) own)

same_number : (n l whole : ℕ) → n + l ≡ whole → n ≡ whole - l
same_number n l whole e = omega (arith, e)

stands_inside : (p : Program) (q : Place) (t : Trail) (w : Way) → Inside p q t → StandsAt p (noted q.code w t)
stands_inside p q t w i =
    let r = own_of p t.func t.base i.whole q.contexts i.inner [] q.code i.beside i.part in
    let levels : drop t.base (reverse i.inner ++ []) ≡ drop t.base t.levels = ap (drop t.base) (append-nil (reverse i.inner) ∙ sym i.is) in
    let own : Own r.0 (drop t.base t.levels) q.code = subst (λ (ls : List Level). Own r.0 ls q.code) levels r.2 in
    let a = own_at r.0 (drop t.base t.levels) q.code own in
    let number : a.0 ≡ count_of r.0 - (count_of q.code + sum_by behind (drop t.base t.levels)) = same_number a.0 _ _ a.1 in
    record {
      sig = r.1.0;
      body = r.1.1;
      has = r.1.2;
      stands = subst (λ (c : Code). IsAt c (count_of c - (count_of q.code + sum_by behind (drop t.base t.levels))) q.code) r.1.3
          (subst (λ (k : ℕ). IsAt r.0 k q.code) number a.2);
    }

stands_gone : (p : Program) (q : Place) (t : Trail) (w : Way) → Gone p q t → StandsAt p (noted q.code w t)
stands_gone p q t w g =
    let body = g.has.1 in
    let none : drop t.base t.levels ≡ [] = drop_none t.base t.levels g.levels in
    let no_code : count_of q.code ≡ 0 = ap count_of g.code in
    let none_left : sum_by behind (drop t.base t.levels) ≡ 0 = ap (sum_by behind) none in
    let number : count_of body.code ≡ count_of body.code - (count_of q.code + sum_by behind (drop t.base t.levels)) = omega (arith, no_code, none_left) in
    record {
      sig = g.has.0;
      body = body;
      has = g.has.2;
      stands = subst (λ (k : ℕ). IsAt body.code k q.code) number (subst (IsAt body.code (count_of body.code)) (sym g.code) (end_at body.code));
    }
  where
    drop_none : (n : ℕ) (ls : List Level) → ls ≡ [] → drop n ls ≡ []
    drop_none zero ls e = e
    drop_none (suc n) ls e = ap (drop (suc n)) e

pub stands_along : (p : Program) (q : Place) (t : Trail) (w : Way) → Along p q t → StandsAt p (noted q.code w t)
stands_along p q t w (inl i) = stands_inside p q t w i
stands_along p q t w (inr g) = stands_gone p q t w g

-- ---- out of what stands round
abbrev AreBlocks : List Level → Type 0
AreBlocks [] = Unit {0}
AreBlocks (level.Block c second ∷ ls) = AreBlocks ls
AreBlocks (level.Call g b ∷ ls) = ⊥

-- where code goes on that leaves this
abbrev Next : Context → Code → Type 0
Next (InLabel values n target code) q = (q ≡ target) ⊎ (q ≡ code)
Next (InFrame values n locals code) q = q ≡ code

abbrev no_levels : List Level
no_levels = []

cut_there : (t : Trail) (xs ys : List Level) (l : Level) (n : ℕ) → t.levels ≡ xs ++ l ∷ ys → n ≡ length xs → cut n t ≡ back_to (option_and_then caller_of (Some l)) (cut_off n t)
cut_there t xs ys l n e f =
    ap (λ (o : Option Level). back_to (option_and_then caller_of o) (cut_off n t)) (ap (λ (ls : List Level). slice_get ls n) e ∙ ap (slice_get (xs ++ l ∷ ys)) f ∙ get_front xs ys l)

taken : (t : Trail) (xs ys : List Level) (l : Level) (n : ℕ) → t.levels ≡ xs ++ l ∷ ys → n ≡ length xs → take n t.levels ≡ xs
taken t xs ys l n e f = ap (take n) e ∙ ap (λ (k : ℕ). take k (xs ++ l ∷ ys)) f ∙ take_front xs (l ∷ ys)

part_goes : (outer c target q : Code) → Part outer c → (target ≡ c) ⊎ (target ≡ after c) → q ≡ target → Part outer q
part_goes outer c target q part (inl e) f = subst (Part outer) (sym (f ∙ e)) part
part_goes outer c target q part (inr e) f = subst (Part outer) (sym (f ∙ e)) (part_after outer c part)

part_next : (outer c code q : Code) → Part outer c → code ≡ after c → q ≡ code → Part outer q
part_next outer c code q part e f = subst (Part outer) (sym (f ∙ e)) (part_after outer c part)

pub lands : (p : Program) (whole : Code) (context : Context) (around : List Context) (R ys : List Level) (t : Trail) (q : Place) (n : ℕ) → Beside p t.func t.base whole (context ∷ around) R → t.levels ≡ reverse R ++ ys → AreBlocks ys
    → q.contexts ≡ around → Next context q.code → n ≡ length R - 1 → Along p q (cut n t)
lands p whole (InLabel values m target code) around [] ys t q n b e blocks same next is = absurd b
lands p whole (InLabel values m target code) around (level.Call g h ∷ R) ys t q n b e blocks same next is = absurd b
lands p whole (InLabel values m target code) around (level.Block c second ∷ R) ys t q n (w, hold, goes, back, (outer, part, b)) e blocks same next is =
    let l = level.Block c second in
    let there : t.levels ≡ reverse R ++ l ∷ ys = e ∙ front_back R ys l in
    let short : n ≡ length (reverse R) = omega (arith, is, length-reverse R) in
    subst (Along p q) (sym (cut_there t (reverse R) ys l n there short))
    (inl (record {
      whole = outer;
      part = by next;
      inner = R;
      is = taken t (reverse R) ys l n there short;
      beside = subst (λ (cs : List Context). Beside p t.func t.base outer cs R) (sym same) b;
    }))
  where
    by : Next (InLabel values m target code) q.code → Part outer q.code
    by (inl f) = part_goes outer c target q.code part goes f
    by (inr f) = part_next outer c code q.code part back f
lands p whole (InFrame values m locals code) around [] ys t q n (has, none, out, end) e blocks same next is =
    let zero_is : n ≡ 0 = omega (arith, is) in
    inr (gone ys e blocks zero_is)
  where
    gone : (ys : List Level) → t.levels ≡ ys → AreBlocks ys → n ≡ 0 → Gone p q (cut n t)
    gone [] e blocks z =
        let stays : cut n t ≡ cut_off n t =
        ap (λ (o : Option Level). back_to (option_and_then caller_of o) (cut_off n t)) (ap (λ (ls : List Level). slice_get ls n) e ∙ ap (slice_get no_levels) z) in
        let none : take n t.levels ≡ [] = ap (λ (k : ℕ). take k t.levels) z in
        subst (Gone p q) (sym stays) (record { contexts = same ∙ out; code = next ∙ end; levels = none; whole = whole; has = has })
    gone (level.Block c second ∷ ls) e blocks z =
        subst (Gone p q) (sym (cut_there t [] ls (level.Block c second) n e z))
        (record { contexts = same ∙ out; code = next ∙ end; levels = taken t [] ls (level.Block c second) n e z; whole = whole; has = has })
    gone (level.Call g b ∷ ls) e blocks z = absurd blocks
lands p whole (InFrame values m locals code) around (level.Block c second ∷ R) ys t q n b e blocks same next is = absurd b
lands p whole (InFrame values m locals code) around (level.Call g h ∷ R) ys t q n (has, many, (c, back, (outer, part, b))) e blocks same next is =
    let l = level.Call g h in
    let there : t.levels ≡ reverse R ++ l ∷ ys = e ∙ front_back R ys l in
    let short : n ≡ length (reverse R) = omega (arith, is, length-reverse R) in
    subst (Along p q) (sym (cut_there t (reverse R) ys l n there short))
    (inl (record {
      whole = outer;
      part = part_next outer c code q.code part back next;
      inner = R;
      is = taken t (reverse R) ys l n there short;
      beside = subst (λ (cs : List Context). Beside p g h outer cs R) (sym same) b;
    }))

-- ---- branches and returns
on_is : (b : Bool) (x q : Place) → cond b None (Some x) ≡ Some q → x ≡ q
on_is true x q e = cc
on_is false x q e = some_is x q e

onward_is : (n : ℕ) (inner values locals : List ℕ) (code : Code) (around : List Context) (q : Place) → onward n inner values locals code around ≡ Some q → (q.code ≡ code) × (q.contexts ≡ around)
onward_is n inner values locals code around q e =
    let is = on_is (nat_lt (length inner) n) (record { values = take n inner ++ values; code = code; locals = locals; contexts = around }) q e in
    (ap (λ (x : Place). x.code) (sym is), ap (λ (x : Place). x.contexts) (sym is))

pub branch_lands : (p : Program) (depth : ℕ) (whole : Code) (cs : List Context) (R ys : List Level) (inner locals : List ℕ) (t : Trail) (q : Place) (n : ℕ) → Beside p t.func t.base whole cs R → t.levels ≡ reverse R ++ ys → AreBlocks ys
    → branched depth inner locals cs ≡ Some q → n ≡ length R - depth - 1 → Along p q (cut n t)
branch_lands p depth whole [] R ys inner locals t q n b e blocks goes is = absurd b
branch_lands p zero whole (InLabel values m again code ∷ around) R ys inner locals t q n b e blocks goes is =
    let o = onward_is m inner values locals again around q goes in
    lands p whole (InLabel values m again code) around R ys t q n b e blocks o.1 (inl o.0) (omega (arith, is))
branch_lands p zero whole (InFrame values m outer code ∷ around) R ys inner locals t q n b e blocks goes is =
    let o = onward_is m inner values outer code around q goes in
    lands p whole (InFrame values m outer code) around R ys t q n b e blocks o.1 o.0 (omega (arith, is))
branch_lands p (suc depth) whole (InLabel values m again code ∷ around) [] ys inner locals t q n b e blocks goes is = absurd b
branch_lands p (suc depth) whole (InLabel values m again code ∷ around) (level.Call g h ∷ R) ys inner locals t q n b e blocks goes is = absurd b
branch_lands p (suc depth) whole (InLabel values m again code ∷ around) (level.Block c second ∷ R) ys inner locals t q n (w, hold, on, back, (outer, part, b)) e blocks goes is =
    branch_lands p depth outer around R (level.Block c second ∷ ys) inner locals t q n b (e ∙ front_back R ys (level.Block c second)) blocks goes (omega (arith, is))
branch_lands p (suc depth) whole (InFrame values m outer code ∷ around) R ys inner locals t q n b e blocks goes is = absurd cc

pub return_lands : (p : Program) (whole : Code) (cs : List Context) (R ys : List Level) (inner locals : List ℕ) (t : Trail) (q : Place) → Beside p t.func t.base whole cs R → t.levels ≡ reverse R ++ ys → AreBlocks ys
    → returned inner locals cs ≡ Some q → Along p q (cut (t.base - 1) t)
return_lands p whole [] R ys inner locals t q b e blocks goes = absurd b
return_lands p whole (InLabel values m again code ∷ around) [] ys inner locals t q b e blocks goes = absurd b
return_lands p whole (InLabel values m again code ∷ around) (level.Call g h ∷ R) ys inner locals t q b e blocks goes = absurd b
return_lands p whole (InLabel values m again code ∷ around) (level.Block c second ∷ R) ys inner locals t q (w, hold, on, back, (outer, part, b)) e blocks goes =
    return_lands p outer around R (level.Block c second ∷ ys) inner locals t q b (e ∙ front_back R ys (level.Block c second)) blocks goes
return_lands p whole (InFrame values m outer code ∷ around) [] ys inner locals t q b e blocks goes =
    let o = onward_is m inner values outer code around q goes in
    lands p whole (InFrame values m outer code) around [] ys t q (t.base - 1) b e blocks o.1 o.0 (omega (arith, b.1))
return_lands p whole (InFrame values m outer code ∷ around) (level.Block c second ∷ R) ys inner locals t q b e blocks goes = absurd b
return_lands p whole (InFrame values m outer code ∷ around) (level.Call g h ∷ R) ys inner locals t q b e blocks goes =
    let o = onward_is m inner values outer code around q goes in
    lands p whole (InFrame values m outer code) around (level.Call g h ∷ R) ys t q (t.base - 1) b e blocks o.1 o.0 (omega (arith, b.1))
