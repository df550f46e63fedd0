-- What the log takes back, and what the checkpoints saw.
use Rattle.std.proofs.Common.{◌≡◌, ℕ, zero, suc, cond, ◌+◌, ◌-◌, ◌<◌, ◌≤◌, List, [], ◌∷◌, ◌++◌, Option, length, drop, get_or, set, sym, refl, ap, ◌∙◌, arith, add-one, subst, length-append}
use Rattle.std.proofs.Math.ListN.{drop_of_length-le}
use Rattle.std.proofs.lemmas.List.{drop-append-le, get_or-set_other, get_or-set_same}
use Rattle.std.specs.FinMap.{get, same_map}
use Rattle.std.specs.Ordering.{is_eq}
use Rattle.std.specs.declared.cmp.Ordering.TheVariants.{Less, Equal, Greater}
use Rattle.std.specs.Cmp.Lexicographic.{nat_list_cmp_total}
use Rattle.std.proofs.lemmas.Map.Lookups.{exact_bytes}
use Rattle.nr_triedef.specs.Root.{Contents}
use Rattle.std.specs.List.{AllByRecursion}
use Rattle.std.specs.Prelude.{IsNone}
use Rattle.nr_bytes.proofs.Basics.{all_push}
use Rattle.nr_store.specs.Plain.{Text, value_before, put_back, rewound, HasSlot, NeedsSlot, HaveSlots, IsApart, AreApart, seen, InOrder}
use Rattle.nr_store.specs.declared.slots.Undo.{Undo}
use Rattle.nr_store.proofs.Held.{R, get-put_back}

-- the value before, put back
pub put_back-put_back : (m : Contents) (k : List ℕ) (w : Option (List ℕ)) → put_back (put_back m k w) k (get m k) ≡ m
put_back-put_back m k w = same_map nat_list_cmp_total exact_bytes _ _ (λ q.
    get-put_back (put_back m k w) k (get m k) q ∙
    elim (R q k) as (λ r. R q k ≡ r → cond (is_eq r) (get m k) (get (put_back m k w) q) ≡ get m q) [
      | Less ↦ λ s. get-put_back m k w q ∙ ap (λ r. cond (is_eq r) w (get m q)) s
      | Equal ↦ λ s. ap (get m) (sym (exact_bytes q k s))
      | Greater ↦ λ s. get-put_back m k w q ∙ ap (λ r. cond (is_eq r) w (get m q)) s
    ] refl)

pub rewound-push : (m : Contents) (us : List Undo) (u : Undo) → rewound m (us ++ u ∷ []) ≡ rewound (put_back m u.key.items (value_before u)) us
rewound-push m [] u = refl
rewound-push m (v ∷ us) u = ap (λ n. put_back n v.key.items (value_before v)) (rewound-push m us u)

pub rewound-drop_push : (m : Contents) (us : List Undo) (u : Undo) (n : ℕ) → n ≤ length us → rewound m (drop n (us ++ u ∷ [])) ≡ rewound (put_back m u.key.items (value_before u)) (drop n us)
rewound-drop_push m us u n h = ap (rewound m) (drop-append-le n us (u ∷ []) h) ∙ rewound-push m (drop n us) u

pub HaveSlots-kept : (es fs : List (Text × Option Text)) → ((q : List ℕ) → HasSlot es q → HasSlot fs q) → (us : List Undo) → HaveSlots es us → HaveSlots fs us
HaveSlots-kept es fs h [] p = tt
HaveSlots-kept es fs h (u ∷ us) p = (λ s. h u.key.items (p.0 s), HaveSlots-kept es fs h us p.1)

pub HaveSlots-push : (es : List (Text × Option Text)) (us : List Undo) (u : Undo) → HaveSlots es us → NeedsSlot es u → HaveSlots es (us ++ u ∷ [])
HaveSlots-push es [] u p q = (q, tt)
HaveSlots-push es (v ∷ us) u p q = (p.0, HaveSlots-push es us u p.1 q)

pub HaveSlots-last : (es : List (Text × Option Text)) (us : List Undo) (u : Undo) → HaveSlots es (us ++ u ∷ []) → HaveSlots es us × NeedsSlot es u
HaveSlots-last es [] u p = (tt, p.0)
HaveSlots-last es (v ∷ us) u p = let r = HaveSlots-last es us u p.1 in ((p.0, r.0), r.1)

all_last : {A : Type 0} (P : A → Type 0) (us : List A) (u : A) → AllByRecursion P (us ++ u ∷ []) → AllByRecursion P us × P u
all_last P [] u h = (tt, h.0)
all_last P (v ∷ us) u h = let r = all_last P us u h.1 in ((h.0, r.0), r.1)

AreApart-push : (us : List Undo) (u : Undo) → AreApart us → AllByRecursion (IsApart u) us → AreApart (us ++ u ∷ [])
AreApart-push [] u p q = (tt, tt)
AreApart-push (v ∷ us) u p q = (all_push (λ w. IsApart w v) us u p.0 q.0, AreApart-push us u p.1 q.1)

pub AreApart-last : (us : List Undo) (u : Undo) → AreApart (us ++ u ∷ []) → AreApart us × AllByRecursion (IsApart u) us
AreApart-last [] u p = (tt, tt)
AreApart-last (v ∷ us) u p =
    let r = AreApart-last us u p.1 in
    let s = all_last (λ w. IsApart w v) us u p.0 in
    ((s.0, r.0), (s.1, r.1))

-- a change that made a slot is apart from those that have theirs
apart_from_all : (es : List (Text × Option Text)) (us : List Undo) (u : Undo) → (IsNone u.before → HasSlot es u.key.items → ⊥) → HaveSlots es us → AllByRecursion (IsApart u) us
apart_from_all es [] u h p = tt
apart_from_all es (v ∷ us) u h p = (λ n s e. h n (subst (HasSlot es) e (p.0 s)), apart_from_all es us u h p.1)

-- the slots that the earlier changes need stay when the last one is taken back
pub HaveSlots-undone : (es fs : List (Text × Option Text)) (us : List Undo) (u : Undo) → ((q : List ℕ) → HasSlot es q → (IsNone u.before → q ≡ u.key.items → ⊥) → HasSlot fs q) → HaveSlots es us → AllByRecursion (IsApart u) us → HaveSlots fs us
HaveSlots-undone es fs [] u h p a = tt
HaveSlots-undone es fs (v ∷ us) u h p a = (λ s. h v.key.items (p.0 s) (λ n e. a.0 n s e), HaveSlots-undone es fs us u h p.1 a.1)

pub seen-same : (m n : Contents) (log new : List Undo) (starts : List ℕ) (count end : ℕ) → InOrder starts count end → ((k : ℕ) → k ≤ end → rewound n (drop k new) ≡ rewound m (drop k log)) → seen n new starts count ≡ seen m log starts count
seen-same m n log new starts zero end o h = refl
seen-same m n log new starts (suc c) end o h =
    λ i. h (get_or starts c 0) o.0 i ∷ seen-same m n log new starts c (get_or starts c 0) o.1 (λ k l. h k (omega (arith, l, o.0))) i

pub InOrder-later : (starts : List ℕ) (count end later : ℕ) → end ≤ later → InOrder starts count end → InOrder starts count later
InOrder-later starts zero end later l o = tt
InOrder-later starts (suc c) end later l o = (omega (arith, o.0), o.1)

pub seen-set : (m : Contents) (log : List Undo) (starts : List ℕ) (count i x : ℕ) → count ≤ i → seen m log (set starts i x) count ≡ seen m log starts count
seen-set m log starts zero i x h = refl
seen-set m log starts (suc c) i x h =
    let ne : c ≡ i → ⊥ = λ e. omega arith in
    λ j. rewound m (drop (get_or-set_other starts i c x 0 ne j) log) ∷ seen-set m log starts c i x (omega arith) j

pub InOrder-set : (starts : List ℕ) (count end i x : ℕ) → count ≤ i → InOrder starts count end → InOrder (set starts i x) count end
InOrder-set starts zero end i x h o = tt
InOrder-set starts (suc c) end i x h o =
    let ne : c ≡ i → ⊥ = λ e. omega arith in
    rw (get_or-set_other starts i c x 0 ne) (o.0, InOrder-set starts c (get_or starts c 0) i x (omega arith) o.1)

pub length-seen : (m : Contents) (log : List Undo) (starts : List ℕ) (count : ℕ) → length (seen m log starts count) ≡ count
length-seen m log starts zero = refl
length-seen m log starts (suc c) = ap suc (length-seen m log starts c)

-- where the checkpoints saw nothing, none stands
pub none_stand : (m : Contents) (log : List Undo) (starts : List ℕ) (count : ℕ) (saw : List Contents) → seen m log starts count ≡ saw → saw ≡ [] → count ≡ 0
none_stand m log starts count saw e none = sym (length-seen m log starts count) ∙ ap length (e ∙ none)

pub seen_none : (m : Contents) (log : List Undo) (starts : List ℕ) (count : ℕ) → count ≡ 0 → seen m log starts count ≡ []
seen_none m log starts zero e = refl
seen_none m log starts (suc n) e = absurd (omega arith)

-- one more change, noted in the log
pub changed_back : (m new : Contents) (k : List ℕ) (w : Option (List ℕ)) (u : Undo) → new ≡ put_back m k w → u.key.items ≡ k → value_before u ≡ get m k → put_back new u.key.items (value_before u) ≡ m
changed_back m new k w u e f g = ap (λ n. put_back n u.key.items (value_before u)) e ∙ ap (λ j. put_back (put_back m k w) j (value_before u)) f ∙ ap (put_back (put_back m k w) k) g ∙ put_back-put_back m k w

pub seen-noted : (m n : Contents) (log old new : List Undo) (u : Undo) (starts : List ℕ) (count : ℕ) → InOrder starts count (length log) → old ≡ log → new ≡ old ++ u ∷ [] → put_back n u.key.items (value_before u) ≡ m → seen n new starts count ≡ seen m log starts count
seen-noted m n log old new u starts count o d e back =
    seen-same m n log new starts count (length log) o (λ k l. ap (λ t. rewound n (drop k t)) (e ∙ ap (λ t. t ++ u ∷ []) d) ∙ rewound-drop_push n log u k l ∙ ap (λ t. rewound t (drop k log)) back)

pub HaveSlots-noted : (es fs : List (Text × Option Text)) (log old new : List Undo) (u : Undo) → old ≡ log → new ≡ old ++ u ∷ [] → ((q : List ℕ) → HasSlot es q → HasSlot fs q) → NeedsSlot fs u → HaveSlots es log → HaveSlots fs new
HaveSlots-noted es fs log old new u d e h p ps = subst (HaveSlots fs) (sym (e ∙ ap (λ t. t ++ u ∷ []) d)) (HaveSlots-push fs log u (HaveSlots-kept es fs h log ps) p)

pub AreApart-noted : (es : List (Text × Option Text)) (log old new : List Undo) (u : Undo) → old ≡ log → new ≡ old ++ u ∷ [] → (IsNone u.before → HasSlot es u.key.items → ⊥) → HaveSlots es log → AreApart log → AreApart new
AreApart-noted es log old new u d e h ps a = subst AreApart (sym (e ∙ ap (λ t. t ++ u ∷ []) d)) (AreApart-push log u a (apart_from_all es log u h ps))

pub InOrder-noted : (starts : List ℕ) (count : ℕ) (log old new : List Undo) (u : Undo) → old ≡ log → new ≡ old ++ u ∷ [] → InOrder starts count (length log) → InOrder starts count (length new)
InOrder-noted starts count log old new u d e o = InOrder-later starts count (length log) (length new) (omega (arith, ap length d, ap length e, length-append old (u ∷ []))) o

-- a checkpoint made now
pub seen-mark : (m : Contents) (log : List Undo) (starts : List ℕ) (count x : ℕ) → x ≡ length log → count < length starts → seen m log (set starts count x) (count + 1) ≡ m ∷ seen m log starts count
seen-mark m log starts count x e h =
    ap (seen m log (set starts count x)) (add-one count)
    ∙ (λ i. ap (λ k. rewound m (drop k log)) (get_or-set_same starts count x 0 h) i ∷ seen-set m log starts count count x (omega arith) i)
    ∙ ap (λ t. rewound m t ∷ seen m log starts count) (drop_of_length-le log (omega (arith, e)))

pub InOrder-mark : (starts : List ℕ) (count x end : ℕ) → count < length starts → x ≡ end → InOrder starts count end → InOrder (set starts count x) (count + 1) end
InOrder-mark starts count x end h e o =
    let same : get_or (set starts count x) count 0 ≡ x = get_or-set_same starts count x 0 h in
    rw add-one (omega (arith, e, same), InOrder-later (set starts count x) count end (get_or (set starts count x) count 0) (omega (arith, e, same)) (InOrder-set starts count end count x (omega arith) o))

-- the newest checkpoint taken back
pub seen-back : (m n : Contents) (log new : List Undo) (starts : List ℕ) (count end : ℕ) → 0 < count
    → InOrder starts count end → n ≡ rewound m (drop (get_or starts (count - 1) 0) log)
    → ((k : ℕ) → k ≤ get_or starts (count - 1) 0 → rewound n (drop k new) ≡ rewound m (drop k log))
    → seen m log starts count ≡ n ∷ seen n new starts (count - 1)
seen-back m n log new starts zero end h o e older = absurd (omega arith)
seen-back m n log new starts (suc c) end h o e older =
    let is : suc c - 1 ≡ c = omega arith in
    let first : n ≡ rewound m (drop (get_or starts c 0) log) = e ∙ ap (λ i. rewound m (drop (get_or starts i 0) log)) is in
    let rest : seen n new starts c ≡ seen m log starts c = seen-same m n log new starts c (get_or starts c 0) o.1 (λ k l. older k (subst (λ i. k ≤ get_or starts i 0) (sym is) l)) in
    (λ i. sym first i ∷ sym rest i) ∙ ap (λ i. n ∷ seen n new starts i) (sym is)

-- one checkpoint fewer
pub InOrder-none : (starts : List ℕ) (count end : ℕ) → count ≡ 0 → InOrder starts count end
InOrder-none starts zero end e = tt
InOrder-none starts (suc n) end e = absurd (omega arith)

pub InOrder-older : (starts : List ℕ) (count end : ℕ) → InOrder starts count end → InOrder starts (count - 1) end
InOrder-older starts zero end o = tt
InOrder-older starts (suc n) end o = let is : n ≡ suc n - 1 = omega arith in subst (λ k. InOrder starts k end) is (InOrder-later starts n (get_or starts n 0) end o.0 o.1)

pub InOrder-back : (starts : List ℕ) (count end k : ℕ) → 0 < count → k ≡ get_or starts (count - 1) 0 → InOrder starts count end → InOrder starts (count - 1) k
InOrder-back starts zero end k some e o = absurd (omega arith)
InOrder-back starts (suc n) end k some e o =
    let is : n ≡ suc n - 1 = omega arith in
    let at : get_or starts n 0 ≡ k = ap (λ m. get_or starts m 0) is ∙ sym e in
    subst (λ m. InOrder starts m k) is (subst (InOrder starts n) at o.1)

pub newest_within : (starts : List ℕ) (count end : ℕ) → 0 < count → InOrder starts count end → get_or starts (count - 1) 0 ≤ end
newest_within starts zero end some o = absurd (omega arith)
newest_within starts (suc n) end some o = let is : n ≡ suc n - 1 = omega arith in subst (λ m. get_or starts m 0 ≤ end) is o.0
