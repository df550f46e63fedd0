-- The chunk on the part of a world: its new world has nothing outside of the part.
use Rattle.std.proofs.Common.{◌≡◌, ℕ, Bool, true, false, cond, List, [], ◌++◌, Option, None, Ordering, refl, sym, ap, subst, ◌∙◌}
use Rattle.std.proofs.lemmas.List.{append-nil}
use Rattle.std.specs.FinMap.{FinMap, IsAntisymmetric, get, get-retain_keys, retain_keys, same_map}
use Rattle.std.specs.Cmp.{IsTotalOrder}
use Rattle.std.specs.Cmp.Lexicographic.{nat_list_cmp_total}
use Rattle.std.proofs.lemmas.Map.Lookups.{exact_bytes}
use Rattle.nr_chunk.specs.Locality.{HasAll, IsSameSeal, is_in, touched}
use Rattle.nr_chunk.proofs.Localized.{all_in, chunk_is_local}
use Rattle.nr_chunk.specs.Views.{Kept}
use Rattle.nr_config.specs.Config.{Config}
use Rattle.nr_gathered.specs.declared.gathered.Gathered.{Gathered}
use Rattle.nr_records.specs.declared.receipt.Receipt.{Receipt}
use Rattle.nr_state.specs.Calls.{Called}
use Rattle.nr_state.specs.Keyed.{IsKeyed}
use Rattle.nr_state.specs.Local.{IsLocal}
use Rattle.nr_state.specs.Scopes.{all_of, over, part_of}
use Rattle.nr_state.specs.World.{World}
use Rattle.nr_state.specs.declared.calls.CallContext.{CallContext}
use Rattle.nr_state.proofs.ValidOwned.{key_total, pair_total, exact_keys, exact_data}
use Rattle.nr_recheck.specs.Rechecking.{before, place_of, sealed_on, shards_in}

-- ---- a part of a part
kept_twice : {K X : Type 0} {R : K → K → Ordering} (o : IsTotalOrder R) (exact : IsAntisymmetric R) (m : FinMap R X) (test : K → Bool) → retain_keys (retain_keys m test) test ≡ retain_keys m test
kept_twice {K} {X} {R = R} o exact m test = same_map o exact _ _ (λ q.
    kept (retain_keys m test) q ∙ ap (λ t. cond (test q) t None) (kept m q) ∙ again (test q) (get m q) ∙ sym (kept m q))
  where
    kept : (n : FinMap R X) (q : K) → get (retain_keys n test) q ≡ cond (test q) (get n q) None
    kept n q = get-retain_keys n test q (λ x e. ap test (sym (exact q x e)))

    again : (b : Bool) (t : Option X) → cond b (cond b t None) None ≡ cond b t None
    again true t = refl
    again false t = refl

part_twice : (x : List ℕ → Bool) (w : World) → part_of x (part_of x w) ≡ part_of x w
part_twice x w = λ i. record (part_of x w) {
  accounts = kept_twice nat_list_cmp_total exact_bytes w.accounts x i;
  keys = kept_twice key_total exact_keys w.keys (λ k. x k.0) i;
  code = kept_twice nat_list_cmp_total exact_bytes w.code x i;
  data_of = kept_twice pair_total exact_data w.data_of (λ k. x k.0) i;
  received = kept_twice pair_total exact_data w.received (λ k. x k.0) i;
  postponed = kept_twice pair_total exact_data w.postponed (λ k. x k.0) i;
}

-- ---- the chunk
module _ (c : Config) (call : World → CallContext → Called) (local : IsLocal call) (g : Gathered) (w : World) (keyed : IsKeyed w) where
  abbrev ids : List (List ℕ)
  ids = touched w g.transactions g.taken

  abbrev x : List ℕ → Bool
  x = is_in ids

  abbrev part : World
  part = part_of x w

  has_all : (ts : List Receipt) → ts ≡ g.taken → HasAll x (touched w g.transactions ts)
  has_all ts e = subst (λ (rs : List Receipt). HasAll x (touched w g.transactions rs)) (sym e) (all_in ids)

  pub same_seal : IsSameSeal x w (sealed_on c call g w) (sealed_on c call g part)
  same_seal =
      (chunk_is_local c call local).sealed x g.layout (shards_in g) (before c g w) g.shard (place_of c g) g.transactions [] keyed
      (has_all (g.taken ++ []) (append-nil g.taken))

  pub part_closed : IsKeyed part → (sealed_on c call g part).world.world ≡ over (all_of x) (sealed_on c call g part).world.world part
  part_closed kept =
      let u : World = (sealed_on c call g part).world.world in
      let seal : IsSameSeal x part (sealed_on c call g part) (sealed_on c call g (part_of x part)) =
      (chunk_is_local c call local).sealed x g.layout (shards_in g) (before c g part) g.shard (place_of c g) g.transactions [] kept
      (has_all (g.taken ++ []) (append-nil g.taken)) in
      ap (λ (k : Kept). k.world) seal.world ∙ ap (λ (v : World). over (all_of x) (sealed_on c call g v).world.world part) (part_twice x w)
