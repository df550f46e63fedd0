-- Calls in a world that is put together from two.
use Rattle.std.proofs.Common.{◌≡◌, ℕ, Bool, true, false, cond, List, refl, sym, ap, ◌∙◌}
use Rattle.std.specs.Str.{bytes_eq}
use Rattle.std.specs.Cmp.Lexicographic.{nat_list_cmp_total}
use Rattle.std.proofs.lemmas.Map.Lookups.{exact_bytes}
use Rattle.nr_state.specs.Calls.{Called, Ended, Stopped}
use Rattle.nr_state.specs.World.{World}
use Rattle.nr_state.specs.declared.calls.CallContext.{CallContext}
use Rattle.nr_state.specs.Local.{IsLocal}
use Rattle.nr_state.specs.Scopes.{Scope, over, one_account, all_of, part_of, over_called}
use Rattle.nr_state.proofs.OverMaps.{over-same, over-retained, over-turned}
use Rattle.nr_state.proofs.ValidOwned.{key_total, pair_total, exact_keys, exact_data, same_id}

same : {A : Type 0} (b : Bool) (x : A) → cond b x x ≡ x
same true x = refl
same false x = refl

-- ---- a world over itself, and over its own part
pub over_itself : (p : Scope) (w : World) → over p w w ≡ w
over_itself p w = λ i. record w {
  accounts = over-same nat_list_cmp_total exact_bytes p.own w.accounts i;
  keys = over-same key_total exact_keys (λ k. p.keys k.0) w.keys i;
  code = over-same nat_list_cmp_total exact_bytes p.own w.code i;
  data_of = over-same pair_total exact_data (λ k. p.own k.0) w.data_of i;
  received = over-same pair_total exact_data (λ k. p.waiting k.0) w.received i;
  postponed = over-same pair_total exact_data (λ k. p.waiting k.0) w.postponed i;
  delayed = same p.queue w.delayed i;
  served = same p.queue w.served i;
}

pub over_part : (x : List ℕ → Bool) (w v : World) → over (all_of x) (part_of x w) v ≡ over (all_of x) w v
over_part x w v = λ i. record (over (all_of x) w v) {
  accounts = over-retained nat_list_cmp_total exact_bytes x w.accounts v.accounts i;
  keys = over-retained key_total exact_keys (λ k. x k.0) w.keys v.keys i;
  code = over-retained nat_list_cmp_total exact_bytes x w.code v.code i;
  data_of = over-retained pair_total exact_data (λ k. x k.0) w.data_of v.data_of i;
  received = over-retained pair_total exact_data (λ k. x k.0) w.received v.received i;
  postponed = over-retained pair_total exact_data (λ k. x k.0) w.postponed v.postponed i;
}

-- ---- one account of a scope
module _ (p : Scope) (id : List ℕ) (own : p.own id ≡ true) where
  within : (q : List ℕ) → bytes_eq id q ≡ true → p.own q ≡ true
  within q e = ap p.own (sym (same_id id q e)) ∙ own

  none : (b : Bool) → false ≡ true → b ≡ true
  none b e = absurd cc

  pub turned : (u w v : World) → over (one_account id) u (over p w v) ≡ over p (over (one_account id) u w) v
  turned u w v = λ i. record (over p w v) {
    accounts = over-turned nat_list_cmp_total exact_bytes (bytes_eq id) p.own u.accounts w.accounts v.accounts within i;
    keys = over-turned key_total exact_keys (λ k. false) (λ k. p.keys k.0) u.keys w.keys v.keys (λ q. none _) i;
    code = over-turned nat_list_cmp_total exact_bytes (bytes_eq id) p.own u.code w.code v.code within i;
    data_of =
        over-turned pair_total exact_data (λ k. bytes_eq id k.0) (λ k. p.own k.0) u.data_of w.data_of v.data_of
        (λ q. within q.0) i;
    received =
        over-turned pair_total exact_data (λ k. false) (λ k. p.waiting k.0) u.received w.received v.received
        (λ q. none _) i;
    postponed =
        over-turned pair_total exact_data (λ k. false) (λ k. p.waiting k.0) u.postponed w.postponed v.postponed
        (λ q. none _) i;
  }

  ended_over : (w v : World) (came : Called) → came ≡ over_called (one_account id) w came
      → over_called (one_account id) (over p w v) came ≡ over_called p v came
  ended_over w v (Ended end u) e =
      let is : u ≡ over (one_account id) u w = cc in
      ap (Ended end) (turned u w v ∙ ap (λ t. over p t v) (sym is))
  ended_over w v (Stopped kind part burnt) e = refl

-- a call comes to the same whatever is outside of a scope that has its account
pub called_over : (call : World → CallContext → Called) → IsLocal call → (p : Scope) (w v : World) (x : CallContext)
    → p.own x.current ≡ true → call (over p w v) x ≡ over_called p v (call w x)
called_over call local p w v x own =
    let s : Scope = one_account x.current in
    let here : over s w w ≡ w = over_itself s w in
    ap (λ t. call t x) (ap (λ t. over p t v) (sym here) ∙ sym (turned p x.current own w w v))
    ∙ local.alone w (over p w v) x
    ∙ ended_over p x.current own w v (call w x) (ap (λ t. call t x) (sym here) ∙ local.alone w w x)
