-- A postponed receipt comes or goes, and the columns follow.
use Rattle.std.proofs.Common.{◌≡◌, ℕ, Bool, true, false, cond, ◌||◌, List, [], ◌∷◌, map, Option, Some, None, refl, sym, ap, subst, ◌∙◌, inl, inr, ◌⊎◌}
use Rattle.std.specs.Prelude.{is_some}
use Rattle.std.specs.List.{list_any}
use Rattle.std.specs.Option.{option_map}
use Rattle.std.specs.declared.cmp.Ordering.TheVariants.{Less, Equal, Greater}
use Rattle.std.specs.Ordering.{is_eq}
use Rattle.std.specs.FinMap.{FinMap, find, put, get, insert, remove, entries, get-entries, entries-insert, get-insert, get-remove, same_map}
use Rattle.std.specs.FinMap.Entries.{by_order}
use Rattle.std.proofs.lemmas.Bool.{false≢true, or_cases, or_parts}
use Rattle.nr_ids.specs.declared.key.Hash32.{Hash32}
use Rattle.nr_records.specs.declared.receipt.Receipt.{Receipt}
use Rattle.nr_columns.specs.Columns.{Columns}
use Rattle.nr_columns.specs.Orders.{pair_cmp}
use Rattle.nr_state.specs.World.{World}
use Rattle.nr_state.specs.Changes.{with_postponed, without_postponed}
use Rattle.nr_state.specs.Flat.{inputs_of, awaits, missing_inputs, missing_in, awaited_in, columns_of}
use Rattle.nr_state.specs.Queues.{all_awaited, none_awaited, more_postponed, less_postponed, with_postponed_at, without_postponed_at}
use Rattle.nr_state.specs.Repeats.{has_repeat}
use Rattle.nr_state.specs.View.{has_input, IsPostponed, ArePostponed}
use Rattle.nr_state.proofs.Awaiting.{Key, Held, pair_total, pair_exact, same_key, key_is, key_itself, has_waits, is_one, waits, find-awaits, either, find-both, all_awaits, awaited_at, waiter, no_waiter, one_waiter}
use Rattle.nr_state.proofs.Missing.{missing_at}
use Rattle.nr_state.proofs.WorldChanges.{Follows}
use Rattle.nr_state.proofs.Received.{absent, put_back, not_there}

-- ---- the columns of awaited data
in_columns : (k : Columns) (receiver : List ℕ) (by : Hash32) (ids : List Hash32) → all_awaited k receiver by ids ≡ record k { awaited = (all_awaited k receiver by ids).awaited }
in_columns k receiver by [] = refl
in_columns k receiver by (id ∷ ids) = in_columns (record k { awaited = insert k.awaited (receiver, id.0) by }) receiver by ids

get-all : (k : Columns) (receiver : List ℕ) (by : Hash32) (ids : List Hash32) (x : Key) → get (all_awaited k receiver by ids).awaited x ≡ cond (is_one x receiver ids) (Some by) (get k.awaited x)
get-all k receiver by [] x = refl
get-all k receiver by (id ∷ ids) x =
    get-all (record k { awaited = insert k.awaited (receiver, id.0) by }) receiver by ids x
    ∙ ap (cond (is_one x receiver ids) (Some by)) (get-insert pair_total k.awaited (receiver, id.0) by x)
    ∙ joined (same_key x (receiver, id.0)) (is_one x receiver ids)
  where
    joined : (a b : Bool) → cond b (Some by) (cond a (Some by) (get k.awaited x)) ≡ cond (a || b) (Some by) (get k.awaited x)
    joined true true = refl
    joined true false = refl
    joined false b = refl

out_of_columns : (k : Columns) (receiver : List ℕ) (ids : List Hash32) → none_awaited k receiver ids ≡ record k { awaited = (none_awaited k receiver ids).awaited }
out_of_columns k receiver [] = refl
out_of_columns k receiver (id ∷ ids) = out_of_columns (record k { awaited = remove k.awaited (receiver, id.0) }) receiver ids

get-none : (k : Columns) (receiver : List ℕ) (ids : List Hash32) (x : Key) → get (none_awaited k receiver ids).awaited x ≡ cond (is_one x receiver ids) None (get k.awaited x)
get-none k receiver [] x = refl
get-none k receiver (id ∷ ids) x =
    get-none (record k { awaited = remove k.awaited (receiver, id.0) }) receiver ids x
    ∙ ap (cond (is_one x receiver ids) None) (get-remove pair_total k.awaited (receiver, id.0) x)
    ∙ joined (same_key x (receiver, id.0)) (is_one x receiver ids)
  where
    joined : (a b : Bool) → cond b None (cond a None (get k.awaited x)) ≡ cond (a || b) None (get k.awaited x)
    joined true true = refl
    joined true false = refl
    joined false b = refl

-- ---- one more among the postponed receipts
swapped : {A : Type 0} (r a e : Option A) → (r ≡ None) ⊎ (either a e ≡ None) → either a (either r e) ≡ either r (either a e)
swapped None a e h = refl
swapped (Some r) None e h = refl
swapped (Some r) (Some a) e h = elim h [ inl p ↦ absurd cc | inr p ↦ absurd cc ]

later : {A : Type 0} (r a e : Option A) → (r ≡ None) ⊎ (either a e ≡ None) → (r ≡ None) ⊎ (e ≡ None)
later r None e h = h
later r (Some a) e h = elim h [ inl p ↦ inl p | inr p ↦ absurd cc ]

put_awaits : (x k : Key) (r : Receipt) (es : Held) → find pair_cmp k es ≡ None → (find pair_cmp x (awaits r) ≡ None) ⊎ (find pair_cmp x (all_awaits es) ≡ None)
    → find pair_cmp x (all_awaits (put pair_cmp k r es)) ≡ either (find pair_cmp x (awaits r)) (find pair_cmp x (all_awaits es))
put_awaits x k r [] new h = find-both x (awaits r) []
put_awaits x k r (e ∷ es) new h =
    elim (pair_cmp k e.0) as (λ o. cond (is_eq o) (Some e.1) (find pair_cmp k es) ≡ None → find pair_cmp x (all_awaits (by_order o ((k, r) ∷ e ∷ es) ((e.0, r) ∷ es) (e ∷ put pair_cmp k r es))) ≡ either (find pair_cmp x (awaits r)) (find pair_cmp x (all_awaits (e ∷ es)))) [
      | Less ↦ λ _. find-both x (awaits r) (all_awaits (e ∷ es))
      | Equal ↦ λ n. absurd cc
      | Greater ↦ λ n.
          let split = find-both x (awaits e.1) (all_awaits es) in
          let apart : (find pair_cmp x (awaits r) ≡ None) ⊎ (either (find pair_cmp x (awaits e.1)) (find pair_cmp x (all_awaits es)) ≡ None) = subst (λ o. (find pair_cmp x (awaits r) ≡ None) ⊎ (o ≡ None)) split h in
          find-both x (awaits e.1) (all_awaits (put pair_cmp k r es))
          ∙ ap (either (find pair_cmp x (awaits e.1))) (put_awaits x k r es n (later _ _ _ apart))
          ∙ swapped _ _ _ apart
          ∙ ap (either (find pair_cmp x (awaits r))) (sym split)
    ] new

-- nobody waits for what the receipt waits for
abbrev pub IsFree : World → Receipt → Type 0
IsFree w r = (x : Key) → waits x r ≡ true → get (awaited_in w) x ≡ None

abbrev key_of : Receipt → Key
key_of r = (r.receiver, r.receipt_id.0)

awaited_more : (w : World) (r : Receipt) → get w.postponed (key_of r) ≡ None → IsFree w r → (x : Key) → get (awaited_in (with_postponed w r)) x ≡ cond (waits x r) (Some r.receipt_id) (get (awaited_in w) x)
awaited_more w r new free x =
    awaited_at (with_postponed w r) x
    ∙ ap (λ es. find pair_cmp x (all_awaits es)) (entries-insert pair_total w.postponed (key_of r) r)
    ∙ put_awaits x (key_of r) r (entries w.postponed) (sym (get-entries w.postponed (key_of r)) ∙ new) (apart (waits x r) refl)
    ∙ (λ i. either (find-awaits x r i) (sym (awaited_at w x) i))
    ∙ joined (waits x r)
  where
    apart : (b : Bool) → waits x r ≡ b → (find pair_cmp x (awaits r) ≡ None) ⊎ (find pair_cmp x (all_awaits (entries w.postponed)) ≡ None)
    apart true is = inr (sym (awaited_at w x) ∙ free x is)
    apart false is = inl (find-awaits x r ∙ ap (λ b. cond b (Some r.receipt_id) None) is)

    joined : (b : Bool) → either (cond b (Some r.receipt_id) None) (get (awaited_in w) x) ≡ cond b (Some r.receipt_id) (get (awaited_in w) x)
    joined true = refl
    joined false = refl

missing_more : (w : World) (r : Receipt) → missing_in (with_postponed w r) ≡ insert (missing_in w) (key_of r) (missing_inputs w r)
missing_more w r = same_map pair_total pair_exact _ _ (λ q.
    missing_at (with_postponed w r) q ∙ ap (option_map (missing_inputs w)) (get-insert pair_total w.postponed (key_of r) r q)
    ∙ pushed (same_key q (key_of r)) (get w.postponed q)
    ∙ ap (cond (same_key q (key_of r)) (Some (missing_inputs w r))) (sym (missing_at w q))
    ∙ sym (get-insert pair_total (missing_in w) (key_of r) (missing_inputs w r) q))
  where
    pushed : (b : Bool) (o : Option Receipt) → option_map (missing_inputs w) (cond b (Some r) o) ≡ cond b (Some (missing_inputs w r)) (option_map (missing_inputs w) o)
    pushed true o = refl
    pushed false o = refl

more_columns : (w : World) (r : Receipt) → get w.postponed (key_of r) ≡ None → IsFree w r → columns_of (with_postponed w r) ≡ more_postponed (columns_of w) r
more_columns w r new free =
    (λ i. record (columns_of (with_postponed w r)) {
      awaited = same_map pair_total pair_exact (awaited_in (with_postponed w r)) (all_awaited (columns_of w) r.receiver r.receipt_id (inputs_of r.body)).awaited
          (λ x. awaited_more w r new free x ∙ sym (get-all (columns_of w) r.receiver r.receipt_id (inputs_of r.body) x)) i;
      missing = missing_more w r i;
    })
    ∙ ap (λ k. with_postponed_at k (key_of r) (missing_inputs w r) r) (sym (in_columns (columns_of w) r.receiver r.receipt_id (inputs_of r.body)))

-- ---- what holds of the postponed receipts
new_or_old : (m : FinMap pair_cmp Receipt) (k : Key) (r : Receipt) (q : Key) (s : Receipt) → get (insert m k r) q ≡ Some s → ((q ≡ k) × (s ≡ r)) ⊎ (get m q ≡ Some s)
new_or_old m k r q s h = by (same_key q k) refl (sym (get-insert pair_total m k r q) ∙ h)
  where
    by : (b : Bool) → same_key q k ≡ b → cond b (Some r) (get m q) ≡ Some s → ((q ≡ k) × (s ≡ r)) ⊎ (get m q ≡ Some s)
    by true e h = inl (key_is q k e, cc)
    by false e h = inr h

more_postponed_are : (w : World) (r : Receipt) → ArePostponed w → IsFree w r → has_repeat (map (λ input. input.0) (inputs_of r.body)) ≡ false → ArePostponed (with_postponed w r)
more_postponed_are w r are free distinct = record {
  each = λ q s h. elim (new_or_old w.postponed (key_of r) r q s h) [
    | inl new ↦ subst (λ (t : Receipt). IsPostponed q t) (sym new.1) (record { keyed = new.0; distinct = distinct })
    | inr is ↦ are.each q s is
  ];
  apart = λ j k q s id e f same g h. elim (new_or_old w.postponed (key_of r) r j q e) [
    | inl a ↦ elim (new_or_old w.postponed (key_of r) r k s f) [
      | inl b ↦ a.0 ∙ sym b.0
      | inr b ↦ absurd (alone k s id b (sym same ∙ ap (λ (t : Receipt). t.receiver) a.1) h (subst (λ (t : Receipt). has_input t id ≡ true) a.1 g))
    ]
    | inr a ↦ elim (new_or_old w.postponed (key_of r) r k s f) [
      | inl b ↦ absurd (alone j q id a (same ∙ ap (λ (t : Receipt). t.receiver) b.1) g (subst (λ (t : Receipt). has_input t id ≡ true) b.1 h))
      | inr b ↦ are.apart j k q s id a b same g h
    ]
  ];
}
  where
    alone : (k : Key) (s : Receipt) (id : Hash32) → get w.postponed k ≡ Some s → s.receiver ≡ r.receiver → has_input s id ≡ true → has_input r id ≡ true → ⊥
    alone k s id is same h g =
        false≢true (sym (no_waiter w (r.receiver, id.0) (free (r.receiver, id.0) (has_waits r.receiver id r refl g)) k s is) ∙ has_waits r.receiver id s same h)

pub free_of : (w : World) (r : Receipt) → list_any (λ input. is_some (get (awaited_in w) (r.receiver, input.0))) (inputs_of r.body) ≡ false → IsFree w r
free_of w r h x is = each (inputs_of r.body) h is
  where
    none_of : (o : Option Hash32) → is_some o ≡ false → o ≡ None
    none_of None h = refl
    none_of (Some a) h = absurd (false≢true (sym h))

    each : (ids : List Hash32) → list_any (λ input. is_some (get (awaited_in w) (r.receiver, input.0))) ids ≡ false → is_one x r.receiver ids ≡ true → get (awaited_in w) x ≡ None
    each [] h is = absurd (false≢true is)
    each (id ∷ ids) h is =
        elim (or_cases _ _ is) [
          | inl e ↦ ap (get (awaited_in w)) (key_is x (r.receiver, id.0) e) ∙ none_of _ (or_parts _ _ h).0
          | inr e ↦ each ids (or_parts _ _ h).1 e
        ]

pub postponed_more : (w : World) (r : Receipt) → ArePostponed w → has_repeat (map (λ input. input.0) (inputs_of r.body)) ≡ false → get w.postponed (r.receiver, r.receipt_id.0) ≡ None
    → list_any (λ input. is_some (get (awaited_in w) (r.receiver, input.0))) (inputs_of r.body) ≡ false → Follows (with_postponed w r) (more_postponed (columns_of w) r)
postponed_more w r are distinct new free = record { columns = more_columns w r new (free_of w r free); postponed = more_postponed_are w r are (free_of w r free) distinct }

-- ---- one less
still_there : (m : FinMap pair_cmp Receipt) (k : Key) (q : Key) (s : Receipt) → get (remove m k) q ≡ Some s → (get m q ≡ Some s) × (same_key q k ≡ false)
still_there m k q s h = by (same_key q k) refl (sym (get-remove pair_total m k q) ∙ h)
  where
    by : (b : Bool) → same_key q k ≡ b → cond b None (get m q) ≡ Some s → (get m q ≡ Some s) × (same_key q k ≡ false)
    by true e h = absurd cc
    by false e h = (h, e)

less_postponed_are : (w : World) (receiver : List ℕ) (id : Hash32) → ArePostponed w → ArePostponed (without_postponed w receiver id)
less_postponed_are w receiver id are = record {
  each = λ q s h. are.each q s (still_there w.postponed (receiver, id.0) q s h).0;
  apart = λ j k q s input e f. are.apart j k q s input (still_there w.postponed (receiver, id.0) j q e).0 (still_there w.postponed (receiver, id.0) k s f).0;
}

module _ (w : World) (receiver : List ℕ) (id : Hash32) (are : ArePostponed w) (r : Receipt) (is : get w.postponed (receiver, id.0) ≡ Some r) where
  keyed : ◌≡◌ {A = Key} (receiver, id.0) (key_of r)
  keyed = (are.each (receiver, id.0) r is).keyed

  less_free : IsFree (without_postponed w receiver id) r
  less_free x waiting = by (get (awaited_in (without_postponed w receiver id)) x) refl
    where
      by : (o : Option Hash32) → get (awaited_in (without_postponed w receiver id)) x ≡ o → o ≡ None
      by None h = refl
      by (Some who) h =
          let one = waiter (without_postponed w receiver id) (less_postponed_are w receiver id are) x who h in
          let there = still_there w.postponed (receiver, id.0) (x.0, who.0) one.receipt one.there in
          let same : ◌≡◌ {A = Key} (x.0, who.0) (receiver, id.0) = one_waiter w are x (x.0, who.0) (receiver, id.0) one.receipt r there.0 is one.waits_for waiting in
          absurd (false≢true (sym there.1 ∙ ap (λ (k : Key). same_key k (receiver, id.0)) same ∙ key_itself (receiver, id.0)))

  with_it : with_postponed (without_postponed w receiver id) r ≡ w
  with_it = λ i. record w { postponed = (ap (λ (k : Key). insert (remove w.postponed (receiver, id.0)) k r) (sym keyed) ∙ put_back w.postponed (receiver, id.0) r is) i }

  awaited_less : (x : Key) → get (awaited_in (without_postponed w receiver id)) x ≡ cond (is_one x receiver (inputs_of r.body)) None (get (awaited_in w) x)
  awaited_less x =
      by (waits x r) refl
      ∙ ap (cond (waits x r) None) (sym (awaited_more (without_postponed w receiver id) r (ap (get (remove w.postponed (receiver, id.0))) (sym keyed) ∙ absent w.postponed (receiver, id.0)) less_free x) ∙ ap (λ v. get (awaited_in v) x) with_it)
      ∙ ap (λ (k : Key). cond (is_one x k.0 (inputs_of r.body)) None (get (awaited_in w) x)) (sym keyed)
    where
      by : (b : Bool) → waits x r ≡ b → get (awaited_in (without_postponed w receiver id)) x ≡ cond b None (cond b (Some r.receipt_id) (get (awaited_in (without_postponed w receiver id)) x))
      by true waiting = less_free x waiting
      by false waiting = refl

  missing_less : missing_in (without_postponed w receiver id) ≡ remove (missing_in w) (receiver, id.0)
  missing_less = same_map pair_total pair_exact _ _ (λ q.
      missing_at (without_postponed w receiver id) q ∙ ap (option_map (missing_inputs w)) (get-remove pair_total w.postponed (receiver, id.0) q)
      ∙ pushed (same_key q (receiver, id.0)) (get w.postponed q)
      ∙ ap (cond (same_key q (receiver, id.0)) None) (sym (missing_at w q))
      ∙ sym (get-remove pair_total (missing_in w) (receiver, id.0) q))
    where
      pushed : (b : Bool) (o : Option Receipt) → option_map (missing_inputs w) (cond b None o) ≡ cond b None (option_map (missing_inputs w) o)
      pushed true o = refl
      pushed false o = refl

  less_columns : columns_of (without_postponed w receiver id) ≡ less_postponed (columns_of w) receiver id (Some r)
  less_columns =
      (λ i. record (columns_of (without_postponed w receiver id)) {
        awaited = same_map pair_total pair_exact (awaited_in (without_postponed w receiver id)) (none_awaited (columns_of w) receiver (inputs_of r.body)).awaited
            (λ x. awaited_less x ∙ sym (get-none (columns_of w) receiver (inputs_of r.body) x)) i;
        missing = missing_less i;
      })
      ∙ ap (λ k. without_postponed_at k (receiver, id.0)) (sym (out_of_columns (columns_of w) receiver (inputs_of r.body)))

pub postponed_less : (w : World) (receiver : List ℕ) (id : Hash32) → ArePostponed w
    → Follows (without_postponed w receiver id) (less_postponed (columns_of w) receiver id (get w.postponed (receiver, id.0)))
postponed_less w receiver id are = record { columns = split (get w.postponed (receiver, id.0)) refl; postponed = less_postponed_are w receiver id are }
  where
    split : (o : Option Receipt) → get w.postponed (receiver, id.0) ≡ o → columns_of (without_postponed w receiver id) ≡ less_postponed (columns_of w) receiver id o
    split None is = ap (λ m. columns_of (record w { postponed = m })) (not_there w.postponed (receiver, id.0) is)
    split (Some r) is = less_columns w receiver id are r is
