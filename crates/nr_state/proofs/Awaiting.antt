-- Which postponed receipt waits for a datum.
use Rattle.std.proofs.Common.{◌≡◌, ℕ, Bool, true, false, cond, ◌&&◌, ◌||◌, T, List, [], ◌∷◌, ◌++◌, map, Option, Some, None, Ordering, refl, sym, ap, subst, ◌∙◌, inl, inr, ◌⊎◌}
use Rattle.std.specs.Prelude.{bytes_eq}
use Rattle.std.specs.List.{flat_map, list_any}
use Rattle.std.specs.Ordering.{eq_by_cmp, is_eq, is_lt, ordering_then}
use Rattle.std.specs.declared.cmp.Ordering.TheVariants.{Less, Equal, Greater}
use Rattle.std.specs.FinMap.{find, get, entries, entries_sorted, is_sorted, get-entries, get-from_entries, IsAntisymmetric}
use Rattle.std.specs.FinMap.Entries.{below_all}
use Rattle.std.specs.Cmp.{IsTotalOrder, eq_by_cmp_equiv, tied_itself, Equal-is}
use Rattle.std.specs.Cmp.Lexicographic.{nat_list_cmp_total}
use Rattle.std.proofs.lemmas.Bool.{false≢true, or_cases}
use Rattle.std.proofs.lemmas.Cmp.{then_total, on_total}
use Rattle.std.proofs.lemmas.Map.Lookups.{exact_bytes, exact_pairs}
use Rattle.std.proofs.lemmas.Map.Text.{is_eq-slice_cmp}
use Rattle.std.proofs.lemmas.Slice.Eq.{bytes_eq-Decides}
use Rattle.nr_ids.specs.declared.key.Hash32.{Hash32}
use Rattle.nr_records.specs.declared.receipt.Receipt.{Receipt}
use Rattle.nr_columns.specs.Orders.{bytes_cmp, pair_cmp}
use Rattle.nr_state.specs.World.{World}
use Rattle.nr_state.specs.Flat.{inputs_of, awaits, awaited_in}
use Rattle.nr_state.specs.Queues.{awaited_by, WaitsFor}
use Rattle.nr_state.specs.View.{has_input, ArePostponed}

abbrev pub Key : Type 0
Key = List ℕ × List ℕ

-- ---- tests of keys
pub pair_total : IsTotalOrder pair_cmp
pair_total = then_total (on_total (λ (p : Key). p.0) nat_list_cmp_total) (on_total (λ (p : Key). p.1) nat_list_cmp_total)

pub pair_exact : IsAntisymmetric pair_cmp
pair_exact = exact_pairs bytes_cmp bytes_cmp exact_bytes exact_bytes

abbrev pub same_key : Key → Key → Bool
same_key = eq_by_cmp pair_cmp

pub key_is : (x y : Key) → same_key x y ≡ true → x ≡ y
key_is x y h = pair_exact x y ((Equal-is (pair_cmp x y)).0 h)

pub key_itself : (x : Key) → same_key x x ≡ true
key_itself x = (eq_by_cmp_equiv pair_total).refl x

pub key_turned : (x y : Key) → same_key x y ≡ same_key y x
key_turned x y = (eq_by_cmp_equiv pair_total).symm x y

pub same_parts : (x : Key) (b : List ℕ) → same_key x (x.0, b) ≡ bytes_eq x.1 b
same_parts x b = ap (λ o. is_eq (ordering_then o (bytes_cmp x.1 b))) (tied_itself nat_list_cmp_total x.0) ∙ is_eq-slice_cmp x.1 b

-- ---- a receipt waits for a datum
abbrev pub is_one : Key → List ℕ → List Hash32 → Bool
is_one x receiver ids = list_any (λ id. same_key x (receiver, id.0)) ids

abbrev pub waits : Key → Receipt → Bool
waits x r = is_one x r.receiver (inputs_of r.body)

pub find-ids : (x : Key) (receiver : List ℕ) (by : Hash32) (ids : List Hash32) → find pair_cmp x (map (λ input. ((receiver, input.0), by)) ids) ≡ cond (is_one x receiver ids) (Some by) None
find-ids x receiver by [] = refl
find-ids x receiver by (id ∷ ids) =
    elim (same_key x (receiver, id.0)) as (λ b. cond b (Some by) (find pair_cmp x (map (λ input. ((receiver, input.0), by)) ids)) ≡ cond (b || is_one x receiver ids) (Some by) None) [ true ↦ refl | false ↦ find-ids x receiver by ids ]

pub find-awaits : (x : Key) (r : Receipt) → find pair_cmp x (awaits r) ≡ cond (waits x r) (Some r.receipt_id) None
find-awaits x r = find-ids x r.receiver r.receipt_id (inputs_of r.body)

-- the parts of the key
one_has : (x : Key) (receiver : List ℕ) (ids : List Hash32) → is_one x receiver ids ≡ true → (receiver ≡ x.0) × (list_any (λ input. bytes_eq input.0 x.1) ids ≡ true)
one_has x receiver [] h = absurd (false≢true h)
one_has x receiver (id ∷ ids) h =
    elim (or_cases _ _ h) [
      | inl e ↦
          let k : ◌≡◌ {A = Key} x (receiver, id.0) = key_is x (receiver, id.0) e in
          (sym (ap (λ p. p.0) k), ap (λ b. b || list_any (λ input. bytes_eq input.0 x.1) ids) ((bytes_eq-Decides id.0 x.1).1 (sym (ap (λ p. p.1) k))))
      | inr e ↦
          let rest = one_has x receiver ids e in
          (rest.0, elim (bytes_eq id.0 x.1) as (λ b. (b || list_any (λ input. bytes_eq input.0 x.1) ids) ≡ true) [ true ↦ refl | false ↦ rest.1 ])
    ]

pub waits_has : (x : Key) (r : Receipt) → waits x r ≡ true → (r.receiver ≡ x.0) × (has_input r (record { 0 = x.1 }) ≡ true)
waits_has x r h = one_has x r.receiver (inputs_of r.body) h

pub has_waits : (receiver : List ℕ) (id : Hash32) (r : Receipt) → r.receiver ≡ receiver → has_input r id ≡ true → waits (receiver, id.0) r ≡ true
has_waits receiver id r same h = subst (λ (b : List ℕ). is_one (b, id.0) r.receiver (inputs_of r.body) ≡ true) same (each (inputs_of r.body) h)
  where
    each : (ids : List Hash32) → list_any (λ input. bytes_eq input.0 id.0) ids ≡ true → is_one (r.receiver, id.0) r.receiver ids ≡ true
    each [] h = absurd (false≢true h)
    each (j ∷ ids) h =
        elim (or_cases _ _ h) [
          | inl e ↦ ap (λ b. b || is_one (r.receiver, id.0) r.receiver ids) (ap (λ (c : List ℕ). same_key (r.receiver, id.0) (r.receiver, c)) ((bytes_eq-Decides j.0 id.0).0 e) ∙ key_itself (r.receiver, id.0))
          | inr e ↦ elim (same_key (r.receiver, id.0) (r.receiver, j.0)) as (λ b. (b || is_one (r.receiver, id.0) r.receiver ids) ≡ true) [ true ↦ refl | false ↦ each ids e ]
        ]

-- ---- among the postponed receipts
abbrev pub either : {A : Type 0} → Option A → Option A → Option A
either None o = o
either (Some a) o = Some a

pub find-both : {X : Type 0} (x : Key) (es fs : List (Key × X)) → find pair_cmp x (es ++ fs) ≡ either (find pair_cmp x es) (find pair_cmp x fs)
find-both x [] fs = refl
find-both x (e ∷ es) fs =
    elim (same_key x e.0) as (λ b. cond b (Some e.1) (find pair_cmp x (es ++ fs)) ≡ either (cond b (Some e.1) (find pair_cmp x es)) (find pair_cmp x fs)) [ true ↦ refl | false ↦ find-both x es fs ]

abbrev pub Held : Type 0
Held = List (Key × Receipt)

abbrev pub all_awaits : Held → List (Key × Hash32)
all_awaits es = flat_map awaits (map (λ e. e.1) es)

abbrev pub IsIn : Key × Receipt → Held → Type 0
IsIn e [] = ⊥
IsIn e (f ∷ fs) = (e ≡ f) ⊎ IsIn e fs

less_differs : (x y : Key) → T (is_lt (pair_cmp x y)) → same_key y x ≡ false
less_differs x y h = key_turned y x ∙ by (pair_cmp x y) h
  where
    by : (r : Ordering) → T (is_lt r) → is_eq r ≡ false
    by Less h = refl
    by Equal h = absurd h
    by Greater h = refl

parts_of : (a b : Bool) → T (a && b) → T a × T b
parts_of true b h = (tt, h)
parts_of false b h = absurd h

below : (k : Key) (e : Key × Receipt) (es : Held) → T (below_all pair_cmp k es) → IsIn e es → T (is_lt (pair_cmp k e.0))
below k e [] h is = absurd is
below k e (f ∷ fs) h is =
    let hs = parts_of _ _ h in
    elim is [ inl same ↦ subst (λ (g : Key × Receipt). T (is_lt (pair_cmp k g.0))) (sym same) hs.0 | inr there ↦ below k e fs hs.1 there ]

pub found : (es : Held) → T (is_sorted pair_cmp es) → (e : Key × Receipt) → IsIn e es → find pair_cmp e.0 es ≡ Some e.1
found [] h e is = absurd is
found (f ∷ fs) h e is =
    let hs = parts_of _ _ h in
    elim is [
      | inl same ↦ ap (λ b. cond b (Some f.1) (find pair_cmp e.0 fs)) (ap (λ (g : Key × Receipt). same_key e.0 g.0) (sym same) ∙ key_itself e.0) ∙ ap (λ (g : Key × Receipt). Some g.1) (sym same)
      | inr there ↦ ap (λ b. cond b (Some f.1) (find pair_cmp e.0 fs)) (less_differs f.0 e.0 (below f.0 e fs hs.0 there)) ∙ found fs hs.1 e there
    ]

who : (es : Held) (x : Key) (by : Hash32) → find pair_cmp x (all_awaits es) ≡ Some by → (e : Key × Receipt) × (IsIn e es × (find pair_cmp x (awaits e.1) ≡ Some by))
who [] x by h = absurd cc
who (e ∷ es) x by h = split (who es x by) (find pair_cmp x (awaits e.1)) refl (sym (find-both x (awaits e.1) (all_awaits es)) ∙ h)
  where
    split : (find pair_cmp x (all_awaits es) ≡ Some by → (d : Key × Receipt) × (IsIn d es × (find pair_cmp x (awaits d.1) ≡ Some by)))
        → (o : Option Hash32) → find pair_cmp x (awaits e.1) ≡ o → either o (find pair_cmp x (all_awaits es)) ≡ Some by → (d : Key × Receipt) × (IsIn d (e ∷ es) × (find pair_cmp x (awaits d.1) ≡ Some by))
    split later None is h = let rest = later h in (rest.0, (inr rest.1.0, rest.1.1))
    split later (Some a) is h = (e, (inl refl, is ∙ h))

nobody : (es : Held) (x : Key) → find pair_cmp x (all_awaits es) ≡ None → (q : Key) (r : Receipt) → find pair_cmp q es ≡ Some r → find pair_cmp x (awaits r) ≡ None
nobody [] x h q r is = absurd cc
nobody (e ∷ es) x h q r is = split (λ rest at. nobody es x rest q r at) (find pair_cmp x (awaits e.1)) refl (sym (find-both x (awaits e.1) (all_awaits es)) ∙ h)
  where
    here : (find pair_cmp x (all_awaits es) ≡ None → find pair_cmp q es ≡ Some r → find pair_cmp x (awaits r) ≡ None)
        → (b : Bool) → cond b (Some e.1) (find pair_cmp q es) ≡ Some r → find pair_cmp x (awaits e.1) ≡ None → find pair_cmp x (all_awaits es) ≡ None → find pair_cmp x (awaits r) ≡ None
    here later true is none rest = ap (λ (s : Receipt). find pair_cmp x (awaits s)) (let t : r ≡ e.1 = cc in t) ∙ none
    here later false is none rest = later rest is

    split : (find pair_cmp x (all_awaits es) ≡ None → find pair_cmp q es ≡ Some r → find pair_cmp x (awaits r) ≡ None)
        → (o : Option Hash32) → find pair_cmp x (awaits e.1) ≡ o → either o (find pair_cmp x (all_awaits es)) ≡ None → find pair_cmp x (awaits r) ≡ None
    split later None none rest = here later (same_key q e.0) is none rest
    split later (Some a) none rest = absurd cc

pub awaited_at : (w : World) (x : Key) → get (awaited_in w) x ≡ find pair_cmp x (all_awaits (entries w.postponed))
awaited_at w x = get-from_entries pair_total (all_awaits (entries w.postponed)) x

waits_of : (x : Key) (r : Receipt) (b : Bool) (by : Hash32) → waits x r ≡ b → cond b (Some r.receipt_id) None ≡ Some by → (b ≡ true) × (r.receipt_id ≡ by)
waits_of x r true by e h = (refl, cc)
waits_of x r false by e h = absurd cc

-- the receipt that waits for a datum
pub record Waiter (w : World) (x : Key) (by : Hash32) : Type 0 where
  pub receipt : Receipt
  pub there : get w.postponed (x.0, by.0) ≡ Some receipt
  pub waits_for : waits x receipt ≡ true

pub waiter : (w : World) → ArePostponed w → (x : Key) (by : Hash32) → get (awaited_in w) x ≡ Some by → Waiter w x by
waiter w are x by h =
    let one = who (entries w.postponed) x by (sym (awaited_at w x) ∙ h) in
    let there : get w.postponed one.0.0 ≡ Some one.0.1 = get-entries w.postponed one.0.0 ∙ found (entries w.postponed) (entries_sorted w.postponed) one.0 one.1.0 in
    let is = waits_of x one.0.1 (waits x one.0.1) by refl (sym (find-awaits x one.0.1) ∙ one.1.1) in
    let keyed : one.0.0 ≡ (one.0.1.receiver, one.0.1.receipt_id.0) = (are.each one.0.0 one.0.1 there).keyed in
    let key : ◌≡◌ {A = Key} one.0.0 (x.0, by.0) = keyed ∙ (λ i. ((waits_has x one.0.1 is.0).0 i, (is.1 i).0)) in
    record { receipt = one.0.1; there = subst (λ (k : Key). get w.postponed k ≡ Some one.0.1) key there; waits_for = is.0 }

pub no_waiter : (w : World) (x : Key) → get (awaited_in w) x ≡ None → (q : Key) (r : Receipt) → get w.postponed q ≡ Some r → waits x r ≡ false
no_waiter w x h q r is = by (waits x r) (sym (find-awaits x r) ∙ nobody (entries w.postponed) x (sym (awaited_at w x) ∙ h) q r (sym (get-entries w.postponed q) ∙ is))
  where
    by : (b : Bool) → cond b (Some r.receipt_id) None ≡ None → b ≡ false
    by true h = absurd cc
    by false h = refl

-- no two wait for one datum
pub one_waiter : (w : World) → ArePostponed w → (x j k : Key) (q r : Receipt) → get w.postponed j ≡ Some q → get w.postponed k ≡ Some r → waits x q ≡ true → waits x r ≡ true → j ≡ k
one_waiter w are x j k q r e f g h =
    let a = waits_has x q g in
    let b = waits_has x r h in
    are.apart j k q r (record { 0 = x.1 }) e f (a.0 ∙ sym b.0) a.1 b.1

-- what is answered of a datum
pub waits_for : (w : World) → ArePostponed w → (receiver : List ℕ) (id : Hash32) (found : Option Hash32) → awaited_by w receiver id ≡ found → WaitsFor w receiver id found
waits_for w are receiver id None h = λ k r is same. lacks r (has_input r id) refl (no_waiter w (receiver, id.0) h k r is) same
  where
    lacks : (r : Receipt) (b : Bool) → has_input r id ≡ b → waits (receiver, id.0) r ≡ false → r.receiver ≡ receiver → b ≡ false
    lacks r true has none same = absurd (false≢true (sym none ∙ has_waits receiver id r same has))
    lacks r false has none same = refl
waits_for w are receiver id (Some by) h =
    let one = waiter w are (receiver, id.0) by h in
    (one.receipt, (one.there, (waits_has (receiver, id.0) one.receipt one.waits_for).1))
