-- The trie entries of a world that is put together from two.
use Rattle.std.proofs.Common.{◌≡◌, ℕ, Bool, true, false, cond, List, ◌∷◌, ◌++◌, map, Option, Some, None, refl, sym}
use Rattle.std.proofs.Common.{ap, subst, ◌∙◌}
use Rattle.std.specs.Prelude.{is_none, count_by}
use Rattle.std.specs.FinMap.{empty, from_entries, get, get-empty, retain_keys, same_map}
use Rattle.std.specs.List.{flat_map}
use Rattle.std.specs.Option.{option_map, option_and_then}
use Rattle.std.specs.Cmp.Lexicographic.{nat_list_cmp_total}
use Rattle.std.proofs.lemmas.Map.Lookups.{exact_bytes}
use Rattle.nr_ids.specs.declared.key.Hash32.{Hash32}
use Rattle.nr_ids.specs.declared.key.PublicKey.{PublicKey}
use Rattle.nr_ids.specs.Keys.{key_bytes}
use Rattle.nr_records.specs.declared.receipt.Receipt.{Receipt}
use Rattle.nr_triedef.specs.Root.{Contents}
use Rattle.nr_columns.specs.Columns.{Columns, no_columns, laid_columns}
use Rattle.nr_columns.specs.Keys.{queue_key}
use Rattle.nr_columns.specs.Orders.{pair_cmp}
use Rattle.nr_columns.specs.Tables.{Table, part, key_of}
use Rattle.nr_columns.specs.View.{columns_in, IsLaid, at_first, with_key, spelled_key, queue_of}
use Rattle.nr_columns.specs.View.{keys_table, data_table, received_table, awaited_table, missing_table}
use Rattle.nr_columns.specs.View.{postponed_table, delayed_table}
use Rattle.nr_columns.proofs.Empty.{entries_empty, no_columns_in, is_laid_empty}
use Rattle.nr_columns.proofs.Laid.{canon, canon_of, laid_by, accounts_law, code_law, data_law, received_law}
use Rattle.nr_columns.proofs.Laid.{awaited_law, missing_law, postponed_law, keys_law, delayed_law}
use Rattle.nr_columns.proofs.Tables.{IsTable, same_by, get_part_valid, get_part_none, there, unchecked}
use Rattle.nr_state.specs.Flat.{columns_of, flat, awaited_in, missing_in, missing_inputs, inputs_of, awaits}
use Rattle.nr_state.specs.World.{World, no_world}
use Rattle.nr_state.proofs.Awaiting.{Key}
use Rattle.nr_state.specs.Entries.{has_owner, is_of, IsReadBack}
use Rattle.nr_state.specs.Keyed.{IsKeyed}
use Rattle.nr_state.proofs.Missing.{missing_at}
use Rattle.nr_state.proofs.OverAwaiting.{awaited_seen, awaited_elsewhere}
use Rattle.nr_state.proofs.OverMaps.{get-over, over-empty, over-all}
use Rattle.nr_state.specs.Scopes.{over_map, all_of, over, part_of}
use Rattle.nr_state.proofs.ValidOwned.{key_total, pair_total, exact_keys, exact_data}

-- ---- columns that are put together from two
abbrev pub over_columns : (List ℕ → Bool) → Columns → Columns → Columns
over_columns x j k =
    record {
      accounts = over_map x j.accounts k.accounts;
      keys = over_map (λ (q : List ℕ × PublicKey). x q.0) j.keys k.keys;
      code = over_map x j.code k.code;
      data_of = over_map (λ (q : Key). x q.0) j.data_of k.data_of;
      received = over_map (λ (q : Key). x q.0) j.received k.received;
      awaited = over_map (λ (q : Key). x q.0) j.awaited k.awaited;
      missing = over_map (λ (q : Key). x q.0) j.missing k.missing;
      postponed = over_map (λ (q : Key). x q.0) j.postponed k.postponed;
      queue = j.queue;
      delayed = j.delayed;
    }

module _ (x : List ℕ → Bool) (u w : World) (h : IsKeyed u) (k : IsKeyed w) where
  abbrev both : World
  both = over (all_of x) u w

  awaited_both : awaited_in both ≡ over_map (λ (q : Key). x q.0) (awaited_in u) (awaited_in w)
  awaited_both = same_map pair_total exact_data _ _ (λ q.
      by q (x q.0) refl ∙ sym (get-over pair_total exact_data (λ (q : Key). x q.0) (awaited_in u) (awaited_in w) q))
    where
      by : (q : Key) (b : Bool) → x q.0 ≡ b
          → get (awaited_in both) q ≡ cond (x q.0) (get (awaited_in u) q) (get (awaited_in w) q)
      by q true e =
          awaited_seen (all_of x) u w h k q.0 (record { 0 = q.1 }) e
          ∙ sym (ap (λ b. cond b (get (awaited_in u) q) (get (awaited_in w) q)) e)
      by q false e =
          awaited_elsewhere (all_of x) u w h k q.0 (record { 0 = q.1 }) e
          ∙ sym (ap (λ b. cond b (get (awaited_in u) q) (get (awaited_in w) q)) e)

  -- how many inputs a receipt lacks is told by what its receiver has received
  lacked : (r : Receipt) → missing_inputs both r ≡ cond (x r.receiver) (missing_inputs u r) (missing_inputs w r)
  lacked r =
      (λ i. count_by (λ (id : Hash32). is_none (get-over pair_total exact_data (λ (q : Key). x q.0) u.received
      w.received (r.receiver, id.0) i)) (inputs_of r.body))
      ∙ elim (x r.receiver) as (λ b.
      count_by (λ (id : Hash32). is_none
      (cond b (get u.received (r.receiver, id.0)) (get w.received (r.receiver, id.0)))) (inputs_of r.body)
      ≡ cond b (missing_inputs u r) (missing_inputs w r)) [ true ↦ refl | false ↦ refl ]

  lacked_by : (q : Key) (o : Option Receipt) → ((r : Receipt) → o ≡ Some r → r.receiver ≡ q.0)
      → option_map (missing_inputs both) o
      ≡ option_map (λ r. cond (x q.0) (missing_inputs u r) (missing_inputs w r)) o
  lacked_by q None keyed = refl
  lacked_by q (Some r) keyed =
      ap Some (lacked r ∙ ap (λ id. cond (x id) (missing_inputs u r) (missing_inputs w r)) (keyed r refl))

  missing_both : missing_in both ≡ over_map (λ (q : Key). x q.0) (missing_in u) (missing_in w)
  missing_both = same_map pair_total exact_data _ _ (λ q.
      missing_at both q
      ∙ ap (option_map (missing_inputs both)) (get-over pair_total exact_data (λ (q : Key). x q.0) u.postponed
      w.postponed q)
      ∙ by q (x q.0) refl
      ∙ (λ i. cond (x q.0) (sym (missing_at u q) i) (sym (missing_at w q) i))
      ∙ sym (get-over pair_total exact_data (λ (q : Key). x q.0) (missing_in u) (missing_in w) q))
    where
      one : (q : Key) (b : Bool) (o : Option Receipt) → x q.0 ≡ b
          → option_map (λ r. cond (x q.0) (missing_inputs u r) (missing_inputs w r)) o
          ≡ option_map (λ r. cond b (missing_inputs u r) (missing_inputs w r)) o
      one q b o e = ap (λ a. option_map (λ r. cond a (missing_inputs u r) (missing_inputs w r)) o) e

      by : (q : Key) (b : Bool) → x q.0 ≡ b
          → option_map (missing_inputs both) (cond (x q.0) (get u.postponed q) (get w.postponed q))
          ≡ cond (x q.0) (option_map (missing_inputs u) (get u.postponed q))
          (option_map (missing_inputs w) (get w.postponed q))
      by q true e =
          ap (λ b. option_map (missing_inputs both) (cond b (get u.postponed q) (get w.postponed q))) e
          ∙ lacked_by q (get u.postponed q) (h q) ∙ one q true (get u.postponed q) e
          ∙ sym (ap (λ b. cond b (option_map (missing_inputs u) (get u.postponed q))
          (option_map (missing_inputs w) (get w.postponed q))) e)
      by q false e =
          ap (λ b. option_map (missing_inputs both) (cond b (get u.postponed q) (get w.postponed q))) e
          ∙ lacked_by q (get w.postponed q) (k q) ∙ one q false (get w.postponed q) e
          ∙ sym (ap (λ b. cond b (option_map (missing_inputs u) (get u.postponed q))
          (option_map (missing_inputs w) (get w.postponed q))) e)

  pub columns_both : columns_of both ≡ over_columns x (columns_of u) (columns_of w)
  columns_both = λ i. record (columns_of both) { awaited = awaited_both i; missing = missing_both i }

-- ---- contents that are put together from two
some_same : {A : Type 0} (a b : A) → ◌≡◌ {A = Option A} (Some a) (Some b) → a ≡ b
some_same a b e = cc

part_over : {K X : Type 0} {t : Table K X} → IsTable t → (c d m : Contents) (test : List ℕ → Bool) (keep : K → Bool)
    → ((b : List ℕ) → get m b ≡ cond (test b) (get c b) (get d b))
    → ((q : K) → key_of t (t.key q) ≡ Some q → test (t.key q) ≡ keep q)
    → part t m ≡ over_map keep (part t c) (part t d)
part_over {K} {X} {t = t} is c d m test keep mixed alike = same_by is _ _
    (λ q v.
    get_part_valid is m q v
    ∙ ap (option_and_then t.read)
    (mixed (t.key q) ∙ ap (λ b. cond b (get c (t.key q)) (get d (t.key q))) (alike q (there is q v)))
    ∙ pulled (keep q) (get c (t.key q)) (get d (t.key q))
    ∙ (λ i. cond (keep q) (sym (get_part_valid is c q v) i) (sym (get_part_valid is d q v) i))
    ∙ sym (get-over is.total is.exact keep (part t c) (part t d) q))
    (λ q v.
    get_part_none is m q v ∙ nothing (keep q)
    ∙ (λ i. cond (keep q) (sym (get_part_none is c q v) i) (sym (get_part_none is d q v) i))
    ∙ sym (get-over is.total is.exact keep (part t c) (part t d) q))
  where
    pulled : (b : Bool) (o n : Option (List ℕ))
        → option_and_then t.read (cond b o n) ≡ cond b (option_and_then t.read o) (option_and_then t.read n)
    pulled true o n = refl
    pulled false o n = refl

    nothing : (b : Bool) → ◌≡◌ {A = Option X} None (cond b None None)
    nothing true = refl
    nothing false = refl

-- the owner of an access key
key_owner : (x : List ℕ → Bool) (q : List ℕ × PublicKey) (o : Option (List ℕ × List ℕ)) → option_and_then with_key o
    ≡ Some q
    → has_owner x o ≡ x q.0
key_owner x q None e = absurd cc
key_owner x q (Some p) e = by (spelled_key p.1) e
  where
    by : (s : Option PublicKey) → option_map (λ key. (p.0, key)) s ≡ Some q → x p.0 ≡ x q.0
    by None e = absurd cc
    by (Some key) e = ap (λ (r : List ℕ × PublicKey). x r.0) (some_same (p.0, key) q e)

module _ (x : List ℕ → Bool) (c d m : Contents) (mixed : (b : List ℕ) → get m b
    ≡ cond (is_of x b) (get c b) (get d b)) where
  -- the id before a comma
  at_comma : (column : ℕ) (q : Key) → at_first 44 (q.0 ++ 44 ∷ q.1) ≡ Some q
      → has_owner x (at_first 44 (q.0 ++ 44 ∷ q.1)) ≡ x q.0
  at_comma column q e = ap (has_owner x) e

  pub columns_mixed : columns_in m ≡ over_columns x (columns_in c) (columns_in d)
  columns_mixed = λ i. record {
    accounts = part_over accounts_law c d m (is_of x) x mixed (λ q e. refl) i;
    keys =
        part_over keys_law c d m (is_of x) (λ q. x q.0) mixed
        (λ q e. key_owner x q (at_first 2 (q.0 ++ 2 ∷ key_bytes q.1))
        (unchecked keys_table (keys_table.key q) (keys_table.unkey (keys_table.key q)) q e)) i;
    code = part_over code_law c d m (is_of x) x mixed (λ q e. refl) i;
    data_of = part_over data_law c d m (is_of x) (λ q. x q.0) mixed
        (λ q e. at_comma 9 q (unchecked data_table (data_table.key q) (data_table.unkey (data_table.key q)) q e)) i;
    received = part_over received_law c d m (is_of x) (λ q. x q.0) mixed
        (λ q e. at_comma 3 q (unchecked received_table (received_table.key q)
        (received_table.unkey (received_table.key q)) q e)) i;
    awaited = part_over awaited_law c d m (is_of x) (λ q. x q.0) mixed
        (λ q e. at_comma 4 q (unchecked awaited_table (awaited_table.key q)
        (awaited_table.unkey (awaited_table.key q)) q e)) i;
    missing = part_over missing_law c d m (is_of x) (λ q. x q.0) mixed
        (λ q e. at_comma 5 q (unchecked missing_table (missing_table.key q)
        (missing_table.unkey (missing_table.key q)) q e)) i;
    postponed = part_over postponed_law c d m (is_of x) (λ q. x q.0) mixed
        (λ q e. at_comma 6 q (unchecked postponed_table (postponed_table.key q)
        (postponed_table.unkey (postponed_table.key q)) q e)) i;
    queue = ap (option_and_then queue_of) (mixed queue_key) i;
    delayed =
        (part_over delayed_law c d m (is_of x) (λ q. true) mixed (λ q e. refl)
        ∙ over-all delayed_law.total delayed_law.exact (part delayed_table c) (part delayed_table d)) i;
  }

  pub laid_mixed : IsLaid c → IsLaid d → IsLaid m
  laid_mixed g h = laid_by m (λ b. subst (λ o. canon b o ≡ o) (sym (mixed b)) (by b (is_of x b)))
    where
      by : (b : List ℕ) (a : Bool) → canon b (cond a (get c b) (get d b)) ≡ cond a (get c b) (get d b)
      by b true = canon_of c g b
      by b false = canon_of d h b

-- ---- the entries of a world that is put together from two
as_laid : (w : World) → flat w ≡ laid_columns (columns_of w)
unfolding flat
as_laid w = refl

laid_world : (w : World) → IsReadBack w → IsLaid (flat w)
unfolding flat
laid_world w h = ap laid_columns h

pub entries_over : (x : List ℕ → Bool) (u w : World) → IsKeyed u → IsKeyed w → IsReadBack u → IsReadBack w
    → flat (over (all_of x) u w) ≡ over_map (is_of x) (flat u) (flat w)
entries_over x u w h k g l =
    let m : Contents = over_map (is_of x) (flat u) (flat w) in
    let mixed : (b : List ℕ) → get m b ≡ cond (is_of x b) (get (flat u) b) (get (flat w) b) =
    get-over nat_list_cmp_total exact_bytes (is_of x) (flat u) (flat w) in
    as_laid (over (all_of x) u w)
    ∙ ap laid_columns
    (columns_both x u w h k ∙ (λ i. over_columns x (sym g i) (sym l i))
    ∙ sym (columns_mixed x (flat u) (flat w) m mixed))
    ∙ laid_mixed x (flat u) (flat w) m mixed (laid_world u g) (laid_world w l)

-- ---- the entries of a part
part_is : (x : List ℕ → Bool) (w : World) → part_of x w ≡ over (all_of x) w no_world
part_is x w = λ i. record (part_of x w) {
  accounts = sym (over-empty nat_list_cmp_total exact_bytes x w.accounts) i;
  keys = sym (over-empty key_total exact_keys (λ k. x k.0) w.keys) i;
  code = sym (over-empty nat_list_cmp_total exact_bytes x w.code) i;
  data_of = sym (over-empty pair_total exact_data (λ k. x k.0) w.data_of) i;
  received = sym (over-empty pair_total exact_data (λ k. x k.0) w.received) i;
  postponed = sym (over-empty pair_total exact_data (λ k. x k.0) w.postponed) i;
}

pub no_world_columns : columns_of no_world ≡ no_columns
no_world_columns = λ i. record no_columns {
  awaited = from_entries (flat_map awaits (map (λ e. e.1) (entries_empty {X = Receipt} pair_cmp i)));
  missing = from_entries (map (λ (e : Key × Receipt). (e.0, missing_inputs no_world e.1)) (entries_empty pair_cmp i));
}

no_world_flat : flat no_world ≡ empty
no_world_flat = as_laid no_world ∙ ap laid_columns (no_world_columns ∙ sym no_columns_in) ∙ is_laid_empty

none_keyed : IsKeyed no_world
none_keyed k r is = absurd (let e : ◌≡◌ {A = Option Receipt} None (Some r) = sym (get-empty pair_cmp k) ∙ is in cc)

none_read : IsReadBack no_world
none_read = ap columns_in no_world_flat ∙ no_columns_in ∙ sym no_world_columns

pub entries_of_part : (x : List ℕ → Bool) (w : World) → IsKeyed w → IsReadBack w
    → flat (part_of x w) ≡ retain_keys (flat w) (is_of x)
entries_of_part x w keyed read =
    ap flat (part_is x w)
    ∙ entries_over x w no_world keyed none_keyed read none_read
    ∙ ap (over_map (is_of x) (flat w)) no_world_flat
    ∙ over-empty nat_list_cmp_total exact_bytes (is_of x) (flat w)

-- ---- both are read back
pub read_over : (x : List ℕ → Bool) (u w : World) → IsKeyed u → IsKeyed w → IsReadBack u → IsReadBack w
    → IsReadBack (over (all_of x) u w)
read_over x u w h k g l =
    let m : Contents = over_map (is_of x) (flat u) (flat w) in
    ap columns_in (entries_over x u w h k g l)
    ∙ columns_mixed x (flat u) (flat w) m (get-over nat_list_cmp_total exact_bytes (is_of x) (flat u) (flat w))
    ∙ (λ i. over_columns x (g i) (l i)) ∙ sym (columns_both x u w h k)

pub read_part : (x : List ℕ → Bool) (w : World) → IsKeyed w → IsReadBack w → IsReadBack (part_of x w)
read_part x w keyed read =
    subst IsReadBack (sym (part_is x w)) (read_over x w no_world keyed none_keyed read none_read)
