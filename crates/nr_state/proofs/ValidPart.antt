-- The part of a valid world is valid, and it and worlds put together are read back from their entries.
use Rattle.std.proofs.Common.{◌≡◌, ℕ, ◌+◌, ◌≤◌, Bool, true, false, cond, List, [], ◌∷◌, map, Option, Some, None}
use Rattle.std.proofs.Common.{Ordering, refl, sym, ap, subst, ◌∙◌, arith}
use Rattle.std.specs.Prelude.{is_none, IsSome, sum_by, option_map, length}
use Rattle.std.specs.FinMap.{FinMap, IsAntisymmetric, get, retain_keys, entries, values, get-retain_keys}
use Rattle.std.specs.FinMap.Entries.{where_key}
use Rattle.std.specs.List.{list_any}
use Rattle.std.specs.Str.{bytes_eq}
use Rattle.std.specs.Cmp.{IsTotalOrder}
use Rattle.std.specs.Cmp.Lexicographic.{nat_list_cmp_total}
use Rattle.std.proofs.lemmas.List.Sums.{sum_by-cons}
use Rattle.std.proofs.lemmas.Map.Lookups.{exact_bytes}
use Rattle.nr_config.specs.Config.{Config, account_bytes_entry}
use Rattle.nr_fees.specs.Fees.{receipt_tokens}
use Rattle.nr_ids.specs.declared.key.Hash32.{Hash32}
use Rattle.nr_records.specs.declared.receipt.Receipt.{Receipt}
use Rattle.nr_state.specs.Changes.{or_none, usage_of_code}
use Rattle.nr_state.specs.Flat.{inputs_of, is_missing}
use Rattle.nr_state.specs.Tokens.{world_tokens}
use Rattle.nr_state.specs.Usage.{key_usage, datum_usage}
use Rattle.nr_state.specs.Valid.{IsValidWorld, AreAccounts, AreWaiting, Waits, if_owned, owned_usage}
use Rattle.nr_state.specs.Valid.{usage_in, hash_of_code}
use Rattle.nr_state.specs.World.{World, account_tokens}
use Rattle.nr_state.specs.Worlds.{IsWorld}
use Rattle.nr_state.specs.Scopes.{part_of}
use Rattle.nr_state.proofs.ValidOwned.{key_total, pair_total, exact_keys, exact_data, same_id}
use Rattle.nr_state.proofs.ValidSums.{entries-retain_keys, sum-retain_keys}

-- ---- what is kept
here : {A : Type 0} (b : Bool) (o : Option A) → IsSome (cond b o None) → (b ≡ true) × IsSome o
here true o h = (refl, h)
here false o h = absurd cc

here_is : {A : Type 0} (b : Bool) (o : Option A) (a : A) → cond b o None ≡ Some a → (b ≡ true) × (o ≡ Some a)
here_is true o a h = (refl, h)
here_is false o a h = absurd cc

there : {A : Type 0} (b : Bool) (o : Option A) → b ≡ true → IsSome o → IsSome (cond b o None)
there b o e h = subst (λ c. IsSome (cond c o None)) (sym e) h

module _ {K X : Type 0} {R : K → K → Ordering} (o : IsTotalOrder R) (exact : IsAntisymmetric R) where
  kept : (m : FinMap R X) (p : K → Bool) (q : K) → get (retain_keys m p) q ≡ cond (p q) (get m q) None
  kept m p q = get-retain_keys m p q (λ x e. ap p (sym (exact q x e)))

  one_fewer : (f : X → ℕ) (p : K → Bool) (e : K × X) (es : List (K × X)) (b : Bool)
      → sum_by f (map (λ e. e.1) (where_key R p es)) ≤ sum_by f (map (λ e. e.1) es)
      → sum_by f (map (λ e. e.1) (cond b (e ∷ where_key R p es) (where_key R p es))) ≤ sum_by f
      (e.1 ∷ map (λ e. e.1) es)
  one_fewer f p e es true h =
      omega (arith, h, sum_by-cons f e.1 (map (λ e. e.1) (where_key R p es)), sum_by-cons f e.1 (map (λ e. e.1) es))
  one_fewer f p e es false h = omega (arith, h, sum_by-cons f e.1 (map (λ e. e.1) es))

  fewer : (f : X → ℕ) (p : K → Bool) (es : List (K × X))
      → sum_by f (map (λ e. e.1) (where_key R p es)) ≤ sum_by f (map (λ e. e.1) es)
  fewer f p [] = omega arith
  fewer f p (e ∷ es) = one_fewer f p e es (p e.0) (fewer f p es)

  fewer_values : (f : X → ℕ) (m : FinMap R X) (p : K → Bool) → sum_by f (values (retain_keys m p)) ≤ sum_by f (values m)
  fewer_values f m p =
      subst (λ es. sum_by f (map (λ e. e.1) es) ≤ sum_by f (values m)) (sym (entries-retain_keys o exact m p))
      (fewer f p (entries m))

-- ---- what an owner's entries count
not_owned : {K X : Type 0} (x : List ℕ → Bool) (id : List ℕ) (count : K → X → ℕ) (e : (List ℕ × K) × X) → x id ≡ true
    → x e.0.0 ≡ false → if_owned id count e ≡ 0
not_owned x id count e mine other = by (bytes_eq id e.0.0) refl
  where
    by : (b : Bool) → bytes_eq id e.0.0 ≡ b → cond b (count e.0.1 e.1) 0 ≡ 0
    by true is = absurd (let no : true ≡ false = sym mine ∙ ap x (same_id id e.0.0 is) ∙ other in cc)
    by false is = refl

module _ (x : List ℕ → Bool) (c : Config) (w : World) where
  abbrev part : World
  part = part_of x w

  accounts_kept : (id : List ℕ) → get part.accounts id ≡ cond (x id) (get w.accounts id) None
  accounts_kept id = kept nat_list_cmp_total exact_bytes w.accounts x id

  code_kept : (id : List ℕ) → get part.code id ≡ cond (x id) (get w.code id) None
  code_kept id = kept nat_list_cmp_total exact_bytes w.code x id

  postponed_kept : (k : List ℕ × List ℕ) → get part.postponed k ≡ cond (x k.0) (get w.postponed k) None
  postponed_kept k = kept pair_total exact_data w.postponed (λ q. x q.0) k

  was : (k : List ℕ × List ℕ) (r : Receipt) → get part.postponed k ≡ Some r
      → (x k.0 ≡ true) × (get w.postponed k ≡ Some r)
  was k r is = here_is (x k.0) (get w.postponed k) r (sym (postponed_kept k) ∙ is)

  usage_kept : (id : List ℕ) → x id ≡ true → usage_in c part id ≡ usage_in c w id
  usage_kept id mine =
      let keys : owned_usage (key_usage c) part.keys id ≡ owned_usage (key_usage c) w.keys id =
      sum-retain_keys key_total exact_keys (if_owned id (key_usage c)) w.keys (λ q. x q.0)
      (λ e other. not_owned x id (key_usage c) e mine other) in
      let owned : owned_usage (datum_usage c) part.data_of id ≡ owned_usage (datum_usage c) w.data_of id =
      sum-retain_keys pair_total exact_data (if_owned id (datum_usage c)) w.data_of (λ q. x q.0)
      (λ e other. not_owned x id (datum_usage c) e mine other) in
      let code : usage_of_code part id ≡ usage_of_code w id =
      ap (λ o. or_none (option_map (λ (code : List ℕ). length code) o))
      (code_kept id ∙ ap (λ b. cond b (get w.code id) None) mine) in
      λ i. account_bytes_entry c + keys i + code i + owned i

  owner_kept : (id : List ℕ) → x id ≡ true → IsSome (get w.accounts id) → IsSome (get part.accounts id)
  owner_kept id mine stands = subst IsSome (sym (accounts_kept id)) (there (x id) (get w.accounts id) mine stands)

  accounts_valid : AreAccounts c w → AreAccounts c part
  accounts_valid are = record {
    keys = λ k has.
        let h = here (x k.0) (get w.keys k) (subst IsSome (kept key_total exact_keys w.keys (λ q. x q.0) k) has) in
        owner_kept k.0 h.0 (are.keys k h.1);
    code = λ id has.
        let h = here (x id) (get w.code id) (subst IsSome (code_kept id) has) in
        owner_kept id h.0 (are.code id h.1);
    data_of = λ k has.
        let h = here (x k.0) (get w.data_of k) (subst IsSome (kept pair_total exact_data w.data_of (λ q. x q.0) k)
        has) in
        owner_kept k.0 h.0 (are.data_of k h.1);
    no_system = λ id has.
        are.no_system id (here (x id) (get w.accounts id) (subst IsSome (accounts_kept id) has)).1;
    usage = λ id account is.
        let h = here_is (x id) (get w.accounts id) account (sym (accounts_kept id) ∙ is) in
        are.usage id account h.1 ∙ sym (usage_kept id h.0);
    code_hash = λ id account is.
        let h = here_is (x id) (get w.accounts id) account (sym (accounts_kept id) ∙ is) in
        are.code_hash id account h.1 ∙ sym (ap hash_of_code (code_kept id ∙ ap (λ b. cond b (get w.code id) None) h.0));
  }

  still_waits : (r : Receipt) → x r.receiver ≡ true → Waits w r → Waits part r
  still_waits r mine waits =
      let same : (id : Hash32) → is_missing part r.receiver id ≡ is_missing w r.receiver id =
      λ id. ap is_none (kept pair_total exact_data w.received (λ q. x q.0) (r.receiver, id.0)
      ∙ ap (λ b. cond b (get w.received (r.receiver, id.0)) None) mine) in
      (λ i. list_any (λ id. same id i) (inputs_of r.body)) ∙ waits

  waiting_valid : AreWaiting c w → AreWaiting c part
  waiting_valid are = record {
    postponed = record {
      each = λ k r is. are.postponed.each k r (was k r is).1;
      apart = λ j k q r id a b. are.postponed.apart j k q r id (was j q a).1 (was k r b).1;
    };
    actions = λ k r is. are.actions k r (was k r is).1;
    waits = λ k r is.
        let h = was k r is in
        still_waits r (ap x (sym (ap (λ (q : List ℕ × List ℕ). q.0) (are.postponed.each k r h.1).keyed))
        ∙ h.0) (are.waits k r h.1);
    bounded = λ k r is. are.bounded k r (was k r is).1;
    delayed = are.delayed;
  }

  pub tokens_of_part : world_tokens c part ≤ world_tokens c w
  tokens_of_part =
      omega (
        arith,
        fewer_values nat_list_cmp_total exact_bytes account_tokens w.accounts x,
        fewer_values pair_total exact_data (receipt_tokens c) w.postponed (λ q. x q.0),
      )

  pub part_valid : IsValidWorld c w → IsValidWorld c part
  part_valid valid = record {
    accounts = accounts_valid valid.accounts;
    waiting = waiting_valid valid.waiting;
    tokens = omega (arith, tokens_of_part, valid.tokens);
  }

-- ---- its names are ids and its records fit their fields, where those of the world do
pub part_fits : (x : List ℕ → Bool) (w : World) → IsWorld w → IsWorld (part_of x w)
part_fits x w fits = record {
  accounts = λ id a is.
      fits.accounts id a
      (here_is (x id) (get w.accounts id) a (sym (kept nat_list_cmp_total exact_bytes w.accounts x id) ∙ is)).1;
  keys = λ k a is.
      fits.keys k a
      (here_is (x k.0) (get w.keys k) a (sym (kept key_total exact_keys w.keys (λ q. x q.0) k) ∙ is)).1;
  code = λ id v is.
      fits.code id v (here_is (x id) (get w.code id) v (sym (kept nat_list_cmp_total exact_bytes w.code x id) ∙ is)).1;
  data_of = λ k v is.
      fits.data_of k v
      (here_is (x k.0) (get w.data_of k) v (sym (kept pair_total exact_data w.data_of (λ q. x q.0) k) ∙ is)).1;
  received = λ k v is.
      fits.received k v
      (here_is (x k.0) (get w.received k) v (sym (kept pair_total exact_data w.received (λ q. x q.0) k) ∙ is)).1;
  postponed = λ k r is.
      fits.postponed k r
      (here_is (x k.0) (get w.postponed k) r (sym (kept pair_total exact_data w.postponed (λ q. x q.0) k) ∙ is)).1;
  delayed = fits.delayed;
  served = fits.served;
}
