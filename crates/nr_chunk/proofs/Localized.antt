-- A chunk comes to the same on the touched part of a world.
use Rattle.std.proofs.Common.{◌≡◌, ℕ, Bool, true, false, cond, List, [], ◌∷◌, ◌++◌, map, Some, None, refl, sym}
use Rattle.std.proofs.Common.{ap, ◌∙◌}
use Rattle.std.specs.Prelude.{fold, ◌||◌}
use Rattle.std.specs.Str.{bytes_eq}
use Rattle.std.specs.FinMap.{get, get-retain_keys}
use Rattle.std.specs.List.{AllByRecursion, flat_map}
use Rattle.std.proofs.lemmas.Bool.{or_right}
use Rattle.nr_chunk.specs.Chunk.{begun, open_chunk, take_list, seal_chunk}
use Rattle.nr_chunk.specs.Views.{Working}
use Rattle.nr_config.specs.Config.{Config}
use Rattle.nr_records.specs.declared.receipt.Receipt.{Receipt}
use Rattle.nr_records.specs.declared.transaction.Transaction.{Transaction}
use Rattle.nr_state.specs.Calls.{Called}
use Rattle.nr_state.specs.Valid.{IsValidWorld}
use Rattle.nr_state.specs.World.{World}
use Rattle.nr_state.specs.declared.calls.CallContext.{CallContext}
use Rattle.nr_state.specs.Keyed.{IsKeyed}
use Rattle.nr_state.specs.Local.{IsLocal}
use Rattle.nr_chunk.specs.Locality.{touched, is_in, HasAll, worked, IsSameWork, IsSameSeal, IsLocalChunk}
use Rattle.nr_state.proofs.OverCalls.{over_itself, over_part}
use Rattle.nr_chunk.proofs.OverChunk.{IsFor, Stays, taken_over, taken_stays, opened_over, opened_stays}
use Rattle.nr_state.specs.Scopes.{all_of, over, part_of}
use Rattle.nr_state.proofs.ValidOwned.{exact_data, itself}

-- ---- the parts of what is touched
front : {A : Type 0} (P : A → Type 0) (xs ys : List A) → AllByRecursion P (xs ++ ys) → AllByRecursion P xs
front P [] ys all = tt
front P (x ∷ xs) ys all = (all.0, front P xs ys all.1)

back : {A : Type 0} (P : A → Type 0) (xs ys : List A) → AllByRecursion P (xs ++ ys) → AllByRecursion P ys
back P [] ys all = all
back P (x ∷ xs) ys all = back P xs ys all.1

of_map : {A B : Type 0} (P : B → Type 0) (f : A → B) (xs : List A) → AllByRecursion P (map f xs)
    → AllByRecursion (λ x. P (f x)) xs
of_map P f [] all = tt
of_map P f (x ∷ xs) all = (all.0, of_map P f xs all.1)

of_lists : {A : Type 0} (P : A → Type 0) (lists : List (List A)) → AllByRecursion P (flat_map (λ list. list) lists)
    → AllByRecursion (AllByRecursion P) lists
of_lists P [] all = tt
of_lists P (list ∷ lists) all = (
  front P list (flat_map (λ list. list) lists) all,
  of_lists P lists
      (back P list (flat_map (λ list. list) lists) all),
)

-- ---- receipts under their receivers
pub valid_keyed : (c : Config) (w : World) → IsValidWorld c w → IsKeyed w
valid_keyed c w valid k r is = sym (ap (λ (key : List ℕ × List ℕ). key.0) (valid.waiting.postponed.each k r is).keyed)

part_keyed : (x : List ℕ → Bool) (w : World) → IsKeyed w → IsKeyed (part_of x w)
part_keyed x w h k r is =
    by (x k.0) (sym (get-retain_keys w.postponed (λ q. x q.0) k
    (λ q e. ap (λ (key : List ℕ × List ℕ). x key.0) (sym (exact_data k q e)))) ∙ is)
  where
    by : (b : Bool) → cond b (get w.postponed k) None ≡ Some r → r.receiver ≡ k.0
    by true e = h k r e
    by false e = absurd cc

module _ (c : Config) (call : World → CallContext → Called) (local : IsLocal call) (x : List ℕ → Bool) where
  abbrev beyond : World → Working → Working
  beyond v k = record k { world = over (all_of x) k.world v }

  lists_over : (v : World) (kept : IsKeyed v) (lists : List (List Receipt)) (k : Working) → Stays x k.world
      → AllByRecursion (AllByRecursion (IsFor x)) lists
      → fold (take_list c call) (beyond v k) lists ≡ beyond v (fold (take_list c call) k lists)
  lists_over v kept [] k h all = refl
  lists_over v kept (list ∷ lists) k h all =
      ap (λ l. fold (take_list c call) l lists) (taken_over x v kept c call local list k h all.0)
      ∙ lists_over v kept lists (take_list c call k list) (taken_stays x v kept c call local list k h all.0) all.1

  pub worked_over : (v : World) (kept : IsKeyed v) (k : Working) (txs : List Transaction) (lists : List (List Receipt))
      → Stays x k.world → AllByRecursion (λ (tx : Transaction). x tx.signer ≡ true) txs
      → AllByRecursion (AllByRecursion (IsFor x)) lists
      → worked c call (beyond v k) txs lists ≡ beyond v (worked c call k txs lists)
  worked_over v kept k txs lists h signers taken =
      ap (λ l. fold (take_list c call) l lists) (opened_over x v kept c call local k txs h signers)
      ∙ lists_over v kept lists (open_chunk c call k txs) (opened_stays x v kept c call local k txs h signers) taken

  pub work_is_local : (k : Working) (txs : List Transaction) (lists : List (List Receipt)) → IsKeyed k.world
      → HasAll x (touched k.world txs (flat_map (λ list. list) lists))
      → IsSameWork x k.world (worked c call k txs lists) (worked c call (record k { world = part_of x k.world }) txs
      lists)
  work_is_local k txs lists keyed all =
      let w : World = k.world in
      let received : List (List ℕ) = map (λ (r : Receipt). r.receiver) (flat_map (λ list. list) lists) in
      let queued : List (List ℕ) = map (λ (r : Receipt). r.receiver) w.delayed in
      let signed : List (List ℕ) = map (λ (tx : Transaction). tx.signer) txs in
      let P : List ℕ → Type 0 = λ id. x id ≡ true in
      let signers = of_map P (λ (tx : Transaction). tx.signer) txs (front P signed (queued ++ received) all) in
      let rest = back P signed (queued ++ received) all in
      let delayed = of_map P (λ (r : Receipt). r.receiver) w.delayed (front P queued received rest) in
      let taken = of_lists (IsFor x) lists
      (of_map P (λ (r : Receipt). r.receiver) (flat_map (λ list. list) lists) (back P queued received rest)) in
      let part : Working = record k { world = part_of x w } in
      ap (λ u. worked c call (record k { world = u }) txs lists) (sym (over_itself (all_of x) w)
      ∙ sym (over_part x w w))
      ∙ worked_over w keyed part txs lists (record { keyed = part_keyed x w keyed; queued = delayed }) signers taken

  pub seal_is_local : (boundaries : List (List ℕ)) (shards : ℕ) (w : World) (whole part : Working)
      → IsSameWork x w whole part
      → IsSameSeal x w (seal_chunk boundaries shards whole) (seal_chunk boundaries shards part)
  seal_is_local boundaries shards w whole part is = record {
    lists = ap (λ k. (seal_chunk boundaries shards k).lists) is;
    report = λ i. record (seal_chunk boundaries shards (is i)).report
        { root = (seal_chunk boundaries shards whole).report.root };
    world = ap (λ k. (seal_chunk boundaries shards k).world) is;
  }

pub chunk_is_local : (c : Config) (call : World → CallContext → Called) → IsLocal call → IsLocalChunk c call
chunk_is_local c call local = record {
  worked = λ x k txs lists keyed all. work_is_local c call local x k txs lists keyed all;
  sealed = λ x boundaries shards w shard place txs lists keyed all.
      seal_is_local c call local x boundaries shards w.world
      (worked c call (begun w shard place) txs (w.carried ∷ lists))
      (worked c call (begun (record w { world = part_of x w.world }) shard place) txs (w.carried ∷ lists))
      (work_is_local c call local x (begun w shard place) txs (w.carried ∷ lists) keyed all);
}

-- ---- the accounts of a list hold the list
held : (ids all : List (List ℕ)) → ((id : List ℕ) → is_in ids id ≡ true → is_in all id ≡ true) → HasAll (is_in all) ids
held [] all h = tt
held (id ∷ ids) all h = (
  h id (ap (λ b. b || is_in ids id) (itself id)),
  held ids all (λ other there. h other (or_right (bytes_eq other id) (is_in ids other) there)),
)

pub all_in : (ids : List (List ℕ)) → HasAll (is_in ids) ids
all_in ids = held ids ids (λ id there. there)
