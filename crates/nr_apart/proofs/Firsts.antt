-- The starts of a genesis and of a cut have in each shard what lives there.
use Rattle.std.proofs.Common.{◌≡◌, ℕ, zero, suc, ◌+◌, Bool, true, false, cond, List, [], ◌∷◌, length, Option, Some}
use Rattle.std.proofs.Common.{None, Ordering, refl, sym, ap, subst, ◌∙◌, arith}
use Rattle.std.specs.Prelude.{replicate, slice_get}
use Rattle.std.specs.Cmp.{IsTotalOrder}
use Rattle.std.specs.Cmp.Lexicographic.{nat_list_cmp_total}
use Rattle.std.specs.FinMap.{FinMap, IsAntisymmetric, empty, from_entries, get, get-empty, get-from_entries}
use Rattle.std.specs.FinMap.{retain_keys, same_map}
use Rattle.std.specs.FinMap.Entries.{find}
use Rattle.std.specs.List.{AllByRecursion, cons_option, filter_map, flat_map}
use Rattle.std.specs.Ordering.{eq_by_cmp}
use Rattle.std.proofs.lemmas.Map.Lookups.{exact_bytes}
use Rattle.nr_apart.proofs.Chunks.{mapped_at, out_to_is}
use Rattle.nr_apart.specs.Apart.{AreTo, LivesIn, StartsApart}
use Rattle.nr_blocks.specs.Genesis.{account_in, code_in, datum_in, entries_of, genesis_world, key_in, owner}
use Rattle.nr_blocks.specs.Genesis.{lives_in as entry_lives_in}
use Rattle.nr_blocks.specs.declared.genesis.Genesis.{Genesis}
use Rattle.nr_blocks.specs.declared.genesis_entry.GenesisEntry.{GenesisEntry}
use Rattle.nr_blocks.specs.declared.genesis_entry.GenesisEntry.TheVariants as kind
use Rattle.nr_chunk.specs.Start.{Start, genesis_start}
use Rattle.nr_cut.proofs.Maps.{get-part, retained_twice}
use Rattle.nr_cut.specs.Cut.{HasOnly, all_beside, carried, cut_world, cut_worlds, lives_in}
use Rattle.nr_ids.specs.declared.key.PublicKey.{PublicKey}
use Rattle.nr_layout.specs.Layout.{out_to}
use Rattle.nr_records.specs.declared.access_key.AccessKey.{AccessKey}
use Rattle.nr_records.specs.declared.account.Account.{Account}
use Rattle.nr_records.specs.declared.receipt.Receipt.{Receipt}
use Rattle.nr_state.proofs.ValidSums.{equal}
use Rattle.nr_state.proofs.ValidOwned.{exact_data, exact_keys, key_total, pair_total}
use Rattle.nr_state.specs.World.{World}

-- ---- the cut
only_cut : (new : List (List ℕ)) (ws : List World) (s : ℕ) → HasOnly (lives_in new s) (cut_world new ws s)
unfolding cut_world
only_cut new ws s =
    let w : World = all_beside ws in
    let test : List ℕ → Bool = lives_in new s in λ i. record (cut_world new ws s) {
      accounts = retained_twice nat_list_cmp_total exact_bytes w.accounts test i;
      keys = retained_twice key_total exact_keys w.keys (λ k. test k.0) i;
      code = retained_twice nat_list_cmp_total exact_bytes w.code test i;
      data_of = retained_twice pair_total exact_data w.data_of (λ k. test k.0) i;
      received = retained_twice pair_total exact_data w.received (λ k. test k.0) i;
      postponed = retained_twice pair_total exact_data w.postponed (λ k. test k.0) i;
    }

lives_cut : (new : List (List ℕ)) (ws : List World) (s : ℕ) → LivesIn new s (cut_world new ws s)
unfolding cut_world
lives_cut new ws s = record {
  only = only_cut new ws s;
  delayed = out_to_is new s (flat_map (λ w. w.delayed) ws);
}

abbrev cut_of : List (List ℕ) → ℕ → List World → List (List Receipt) → Start
cut_of new below ws lists =
    record { boundaries = new; below = below; worlds = cut_worlds new ws; carried = carried new lists }

pub cut_starts : (new : List (List ℕ)) (below : ℕ) (ws : List World) (lists : List (List Receipt))
    → StartsApart (cut_of new below ws lists)
cut_starts new below ws lists = record {
  worlds = λ s w e. subst (LivesIn new s)
      (sym (mapped_at (cut_world new ws) (length new + 1) 0 s w e ∙ ap (cut_world new ws) (zero_on s)))
      (lives_cut new ws s);
  carried = λ s list e.
      subst (AreTo new s)
      (sym (mapped_at (λ shard. out_to new shard (flat_map (λ l. l) lists)) (length new + 1) 0 s list e
      ∙ ap (λ shard. out_to new shard (flat_map (λ l. l) lists)) (zero_on s)))
      (out_to_is new s (flat_map (λ l. l) lists));
}
  where
    zero_on : (s : ℕ) → 0 + s ≡ s
    zero_on s = omega arith

-- ---- a map of entries that pass a test
module _ {K X : Type 0} {R : K → K → Ordering} (o : IsTotalOrder R) (exact : IsAntisymmetric R) (test : K → Bool) where
  abbrev AllPass : List (K × X) → Type 0
  AllPass es = AllByRecursion (λ (e : K × X). test e.0 ≡ true) es

  not_found : (q : K) → test q ≡ false → (es : List (K × X)) → AllPass es → find R q es ≡ None
  not_found q away [] all = refl
  not_found q away (e ∷ es) all = by (eq_by_cmp R q e.0) refl (not_found q away es all.1)
    where
      by : (b : Bool) → eq_by_cmp R q e.0 ≡ b → find R q es ≡ None → cond b (Some e.1) (find R q es) ≡ None
      by true same others =
          let here : test q ≡ true = ap test (exact q e.0 (equal _ same)) ∙ all.0 in
          absurd (let no : false ≡ true = sym away ∙ here in cc)
      by false other others = others

  only_of : (m : FinMap R X) → ((q : K) → test q ≡ false → get m q ≡ None) → retain_keys m test ≡ m
  only_of m none = same_map o exact _ _ (λ q. at q (test q) refl)
    where
      at : (q : K) (b : Bool) → test q ≡ b → get (retain_keys m test) q ≡ get m q
      at q true e = get-part o exact m test q ∙ ap (λ b. cond b (get m q) None) e
      at q false e = get-part o exact m test q ∙ ap (λ b. cond b (get m q) None) e ∙ sym (none q e)

  only_entries : (es : List (K × X)) → AllPass es → retain_keys (from_entries {R = R} es) test ≡ from_entries es
  only_entries es all = only_of (from_entries es) (λ q e. get-from_entries o es q ∙ not_found q e es all)

  only_none : retain_keys (empty {X = X} {R = R}) test ≡ empty
  only_none = same_map o exact _ _ (λ q.
      get-part o exact empty test q ∙ ap (λ a. cond (test q) a None) (get-empty R q) ∙ by (test q)
      ∙ sym (get-empty R q))
    where
      by : (b : Bool) → ◌≡◌ {A = Option X} (cond b None None) None
      by true = refl
      by false = refl

-- ---- a genesis
module _ (bs : List (List ℕ)) (s : ℕ) where
  abbrev test : List ℕ → Bool
  test = lives_in bs s

  abbrev Owned : GenesisEntry → Type 0
  Owned e = test (owner e) ≡ true

  kept : (es : List GenesisEntry) → AllByRecursion Owned (entries_of bs s es)
  kept [] = tt
  kept (e ∷ es) = by (entry_lives_in bs s e) refl (kept es)
    where
      by : (b : Bool) → entry_lives_in bs s e ≡ b → AllByRecursion Owned (entries_of bs s es)
          → AllByRecursion Owned (cond b (e ∷ entries_of bs s es) (entries_of bs s es))
      by true is others = (is, others)
      by false is others = others

  -- what is taken of the entries has their owners
  module _ {K X : Type 0} (owner_of : K → List ℕ) (take : GenesisEntry → Option (K × X))
      (same : (e : GenesisEntry) (p : K × X)
      → take e ≡ Some p → owner_of p.0 ≡ owner e) where
    all_pass : (es : List GenesisEntry) → AllByRecursion Owned es
        → AllByRecursion (λ (p : K × X). test (owner_of p.0) ≡ true) (filter_map take es)
    all_pass [] all = tt
    all_pass (e ∷ es) all = by (take e) refl (all_pass es all.1)
      where
        by : (p : Option (K × X)) → take e ≡ p
            → AllByRecursion (λ (p : K × X). test (owner_of p.0) ≡ true) (filter_map take es)
            → AllByRecursion (λ (p : K × X). test (owner_of p.0) ≡ true) (cons_option p (filter_map take es))
        by None is others = others
        by (Some p) is others = (ap test (same e p is) ∙ all.0, others)

account_owner : (e : GenesisEntry) (p : List ℕ × Account) → account_in e ≡ Some p → p.0 ≡ owner e
account_owner (kind.Account id account) p is = cc
account_owner (kind.Code id code) p is = absurd cc
account_owner (kind.Key id key access) p is = absurd cc
account_owner (kind.Datum id key value) p is = absurd cc

code_owner : (e : GenesisEntry) (p : List ℕ × List ℕ) → code_in e ≡ Some p → p.0 ≡ owner e
code_owner (kind.Account id account) p is = absurd cc
code_owner (kind.Code id code) p is = cc
code_owner (kind.Key id key access) p is = absurd cc
code_owner (kind.Datum id key value) p is = absurd cc

key_owner : (e : GenesisEntry) (p : (List ℕ × PublicKey) × AccessKey) → key_in e ≡ Some p → p.0.0 ≡ owner e
key_owner (kind.Account id account) p is = absurd cc
key_owner (kind.Code id code) p is = absurd cc
key_owner (kind.Key id key access) p is =
    let same : p ≡ ((id, key), access) = cc in
    ap (λ (q : (List ℕ × PublicKey) × AccessKey). q.0.0) same
key_owner (kind.Datum id key value) p is = absurd cc

datum_owner : (e : GenesisEntry) (p : (List ℕ × List ℕ) × List ℕ) → datum_in e ≡ Some p → p.0.0 ≡ owner e
datum_owner (kind.Account id account) p is = absurd cc
datum_owner (kind.Code id code) p is = absurd cc
datum_owner (kind.Key id key access) p is = absurd cc
datum_owner (kind.Datum id key value) p is =
    let same : p ≡ ((id, key), value) = cc in
    ap (λ (q : (List ℕ × List ℕ) × List ℕ). q.0.0) same

lives_first : (bs : List (List ℕ)) (s : ℕ) (es : List GenesisEntry) → AllByRecursion (Owned bs s) es
    → LivesIn bs s (genesis_world es)
unfolding genesis_world
lives_first bs s es all =
    let test : List ℕ → Bool = lives_in bs s in
    record {
      only = λ i. record (genesis_world es) {
        accounts = only_entries nat_list_cmp_total exact_bytes test (filter_map account_in es)
            (all_pass bs s (λ k. k) account_in account_owner es all) i;
        keys = only_entries key_total exact_keys (λ k. test k.0) (filter_map key_in es)
            (all_pass bs s (λ k. k.0) key_in key_owner es all) i;
        code = only_entries nat_list_cmp_total exact_bytes test (filter_map code_in es)
            (all_pass bs s (λ k. k) code_in code_owner es all) i;
        data_of = only_entries pair_total exact_data (λ k. test k.0) (filter_map datum_in es)
            (all_pass bs s (λ k. k.0) datum_in datum_owner es all) i;
        received = only_none pair_total exact_data (λ k. test k.0) i;
        postponed = only_none pair_total exact_data (λ k. test k.0) i;
      };
      delayed = tt;
    }

none_at : (n s : ℕ) (list : List Receipt) → slice_get (replicate n []) s ≡ Some list → [] ≡ list
none_at zero s list e = absurd cc
none_at (suc n) zero list e = cc
none_at (suc n) (suc s) list e = none_at n s list e

pub genesis_starts : (g : Genesis) → StartsApart (genesis_start g)
genesis_starts g =
    let bs : List (List ℕ) = g.layout in
    record {
      worlds = λ s w e.
          subst (LivesIn bs s)
          (sym (mapped_at (λ shard. genesis_world (entries_of bs shard g.entries)) (length bs + 1) 0 s w e
          ∙ ap (λ shard. genesis_world (entries_of bs shard g.entries)) (zero_on s)))
          (lives_first bs s (entries_of bs s g.entries) (kept bs s g.entries));
      carried = λ s list e. subst (AreTo bs s) (none_at (length bs + 1) s list e) tt;
    }
  where
    zero_on : (s : ℕ) → 0 + s ≡ s
    zero_on s = omega arith
