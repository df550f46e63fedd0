-- A datum comes or goes, and the columns follow.
use Rattle.std.proofs.Common.{◌≡◌, ℕ, ◌+◌, ◌-◌, Bool, true, false, cond, List, Option, Some, None, refl, sym, ap, ◌∙◌, arith}
use Rattle.std.specs.FinMap.{FinMap, get, insert, remove, get-insert, get-remove, same_map}
use Rattle.nr_ids.specs.declared.key.Hash32.{Hash32}
use Rattle.nr_columns.specs.Orders.{pair_cmp}
use Rattle.nr_state.specs.World.{World}
use Rattle.nr_state.specs.Changes.{with_received, without_received}
use Rattle.nr_state.specs.Flat.{missing_inputs, columns_of}
use Rattle.nr_state.specs.Queues.{more_received, less_received}
use Rattle.nr_state.specs.View.{ArePostponed}
use Rattle.nr_state.proofs.Awaiting.{Key, pair_total, pair_exact, same_key, key_is, key_itself, waits}
use Rattle.nr_state.proofs.Missing.{one_if, lacks_one_less, with_data, counts_follow}
use Rattle.nr_state.proofs.WorldChanges.{Follows}

one_less : (b : Bool) (before after : ℕ) → before ≡ after + one_if b → after ≡ cond b (before - 1) before
one_less true before after h = omega arith
one_less false before after h = omega arith

one_more : (b : Bool) (before after : ℕ) → after ≡ before + one_if b → after ≡ cond b (before + 1) before
one_more true before after h = omega arith
one_more false before after h = omega arith

still : (w : World) (m : FinMap pair_cmp (Option (List ℕ))) → ArePostponed w → ArePostponed (with_data w m)
still w m are = record { each = are.each; apart = are.apart }

pub received_more : (w : World) (receiver : List ℕ) (id : Hash32) (bytes : Option (List ℕ)) → ArePostponed w → get w.received (receiver, id.0) ≡ None
    → Follows (with_received w receiver id bytes) (more_received (columns_of w) receiver id bytes)
received_more w receiver id bytes are new = record {
  columns = counts_follow w are (insert w.received (receiver, id.0) bytes) (receiver, id.0) (λ n. n - 1) (λ q r is.
      one_less (waits (receiver, id.0) r) _ _ (lacks_one_less w.received (receiver, id.0) bytes new r (are.each q r is).distinct));
  postponed = still w (insert w.received (receiver, id.0) bytes) are;
}

module _ {X : Type 0} (m : FinMap pair_cmp X) (x : Key) where
  pub absent : get (remove m x) x ≡ None
  absent = get-remove pair_total m x x ∙ ap (λ b. cond b None (get m x)) (key_itself x)

  pub put_back : (v : X) → get m x ≡ Some v → insert (remove m x) x v ≡ m
  put_back v is = same_map pair_total pair_exact _ _ (λ q. get-insert pair_total (remove m x) x v q ∙ ap (cond (same_key q x) (Some v)) (get-remove pair_total m x q) ∙ by q (same_key q x) refl)
    where
      by : (q : Key) (b : Bool) → same_key q x ≡ b → cond b (Some v) (cond b None (get m q)) ≡ get m q
      by q true e = sym (ap (get m) (key_is q x e) ∙ is)
      by q false e = refl

  pub not_there : get m x ≡ None → remove m x ≡ m
  not_there is = same_map pair_total pair_exact _ _ (λ q. get-remove pair_total m x q ∙ by q (same_key q x) refl)
    where
      by : (q : Key) (b : Bool) → same_key q x ≡ b → cond b None (get m q) ≡ get m q
      by q true e = sym (ap (get m) (key_is q x e) ∙ is)
      by q false e = refl

pub received_less : (w : World) (receiver : List ℕ) (id : Hash32) → ArePostponed w
    → Follows (without_received w receiver id) (less_received (columns_of w) receiver id (get w.received (receiver, id.0)))
received_less w receiver id are = record { columns = split (get w.received (receiver, id.0)) refl; postponed = still w (remove w.received (receiver, id.0)) are }
  where
    split : (o : Option (Option (List ℕ))) → get w.received (receiver, id.0) ≡ o → columns_of (without_received w receiver id) ≡ less_received (columns_of w) receiver id o
    split None is =
        let same = not_there w.received (receiver, id.0) is in
        ap (λ m. columns_of (with_data w m)) same ∙ (λ i. record (columns_of w) { received = sym same i })
    split (Some v) is =
        let back : insert (remove w.received (receiver, id.0)) (receiver, id.0) v ≡ w.received = put_back w.received (receiver, id.0) v is in
        counts_follow w are (remove w.received (receiver, id.0)) (receiver, id.0) (λ n. n + 1) (λ q r at.
        one_more (waits (receiver, id.0) r) _ _
        (lacks_one_less (remove w.received (receiver, id.0)) (receiver, id.0) v (absent w.received (receiver, id.0)) r (are.each q r at).distinct
        ∙ ap (λ m. missing_inputs (with_data w m) r + one_if (waits (receiver, id.0) r)) back))
