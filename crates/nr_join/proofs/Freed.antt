-- A datum comes to a valid world: which receipts still wait.
use Rattle.std.proofs.Common.{◌≡◌, ℕ, ◌+◌, ◌≤◌, Bool, true, false, cond, List, Option, Some, None, refl, sym, ap, subst, ◌∙◌, arith}
use Rattle.std.specs.Prelude.{nat_lt}
use Rattle.std.specs.FinMap.{FinMap, get, remove, get-remove}
use Rattle.std.proofs.lemmas.Bool.{false≢true}
use Rattle.std.proofs.lemmas.Bool.Decides.{nat_tests}
use Rattle.nr_config.specs.Config.{Config}
use Rattle.nr_ids.specs.declared.key.Hash32.{Hash32}
use Rattle.nr_join.specs.Offering.{lacks_input}
use Rattle.nr_records.specs.declared.receipt.Receipt.{Receipt}
use Rattle.nr_state.specs.Changes.{with_received, without_postponed}
use Rattle.nr_state.specs.Flat.{missing_inputs}
use Rattle.nr_state.specs.Queues.{awaited_by}
use Rattle.nr_state.specs.Valid.{IsValidWorld}
use Rattle.nr_state.specs.World.{World, pair_cmp}
use Rattle.nr_state.proofs.Awaiting.{Key, same_key, key_itself, pair_total, waits, waiter, one_waiter}
use Rattle.nr_state.proofs.Missing.{one_if, lacks_one_less}
use Rattle.nr_state.proofs.OwnInputs.{still_waits, waits_lacking}
use Rattle.nr_state.proofs.ValidQueues.{received_kept, released_kept}

-- a receipt that is left stands under another key
left_over : (m : FinMap pair_cmp Receipt) (at k : Key) (x : Receipt) → get (remove m at) k ≡ Some x → (same_key k at ≡ false) × (get m k ≡ Some x)
left_over m at k x h = by (same_key k at) refl (sym (get-remove pair_total m at k) ∙ h)
  where
    by : (b : Bool) → same_key k at ≡ b → cond b None (get m k) ≡ Some x → (b ≡ false) × (get m k ≡ Some x)
    by true e h = absurd cc
    by false e h = (refl, h)

module _ (c : Config) (w : World) (v : IsValidWorld c w) (receiver : List ℕ) (id : Hash32) (bytes : Option (List ℕ)) (new : get w.received (receiver, id.0) ≡ None) where
  abbrev after : World
  after = with_received w receiver id bytes

  -- ---- the datum is stored
  stored : ((by : Hash32) (r : Receipt) → awaited_by w receiver id ≡ Some by → get w.postponed (receiver, by.0) ≡ Some r → 2 ≤ missing_inputs w r) → IsValidWorld c after
  stored two = received_kept c w v receiver id bytes (still_waits w receiver id bytes v.waiting.postponed new v.waiting.waits two)

  -- nobody waits for it
  pub unawaited : awaited_by w receiver id ≡ None → IsValidWorld c after
  unawaited none = stored (λ by r e is. absurd (let f : Some by ≡ None = sym e ∙ none in cc))

  module _ (by : Hash32) (awaited : awaited_by w receiver id ≡ Some by) where
    same_by : (other : Hash32) → awaited_by w receiver id ≡ Some other → by ≡ other
    same_by other e = let f : Some by ≡ Some other = sym awaited ∙ e in cc

    pub nowhere : get w.postponed (receiver, by.0) ≡ None → IsValidWorld c after
    nowhere none = stored (λ other r e is. absurd (let f : None ≡ Some r = sym none ∙ ap (λ (h : Hash32). get w.postponed (receiver, h.0)) (same_by other e) ∙ is in cc))

    module _ (q : Receipt) (there : get w.postponed (receiver, by.0) ≡ Some q) where
      same_waiter : (r : Receipt) → get w.postponed (receiver, by.0) ≡ Some r → q ≡ r
      same_waiter r e = let f : Some q ≡ Some r = sym there ∙ e in cc

      has_it : waits (receiver, id.0) q ≡ true
      has_it =
          let one = waiter w v.waiting.postponed (receiver, id.0) by awaited in
          subst (λ (r : Receipt). waits (receiver, id.0) r ≡ true) (sym (same_waiter one.receipt one.there)) one.waits_for

      -- the one who waits lacks another
      lacks_two : lacks_input after q ≡ true → 2 ≤ missing_inputs w q
      lacks_two lacks =
          let less : missing_inputs w q ≡ missing_inputs after q + one_if (waits (receiver, id.0) q) =
          lacks_one_less w.received (receiver, id.0) bytes new q (v.waiting.postponed.each (receiver, by.0) q there).distinct in
          let some : nat_lt 0 (missing_inputs after q) ≡ true = waits_lacking after q ∙ lacks in
          let one : one_if (waits (receiver, id.0) q) ≡ 1 = ap one_if has_it in
          grind (arith, nat_tests)

      pub waits_on : lacks_input after q ≡ true → IsValidWorld c after
      waits_on lacks = stored (λ other r e is.
          subst (λ (s : Receipt). 2 ≤ missing_inputs w s) (same_waiter r (ap (λ (h : Hash32). get w.postponed (receiver, h.0)) (same_by other e) ∙ is)) (lacks_two lacks))

      -- ---- the one who waits is taken out: then nobody waits for it
      abbrev less : World
      less = without_postponed w receiver by

      gone : (other : Hash32) (r : Receipt) → awaited_by less receiver id ≡ Some other → 2 ≤ missing_inputs less r
      gone other r e =
          let one = waiter less (released_kept c w v receiver by).waiting.postponed (receiver, id.0) other e in
          let rest = left_over w.postponed (receiver, by.0) (receiver, other.0) one.receipt one.there in
          let same : ◌≡◌ {A = Key} (receiver, other.0) (receiver, by.0) =
          one_waiter w v.waiting.postponed (receiver, id.0) (receiver, other.0) (receiver, by.0) one.receipt q rest.1 there one.waits_for has_it in
          absurd (false≢true (sym rest.0 ∙ ap (λ (k : Key). same_key k (receiver, by.0)) same ∙ key_itself (receiver, by.0)))

      pub taken_out : IsValidWorld c (with_received less receiver id bytes)
      taken_out =
          let u : IsValidWorld c less = released_kept c w v receiver by in
          received_kept c less u receiver id bytes (still_waits less receiver id bytes u.waiting.postponed new u.waiting.waits (λ other r e is. gone other r e))
