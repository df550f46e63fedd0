-- What the cut of worlds and of lists keeps.
use Rattle.std.proofs.Common.{◌≡◌, ℕ, zero, suc, ◌+◌, ◌^◌, ◌<◌, ◌≤◌, Bool, true, false, cond, List, [], ◌∷◌, ◌++◌}
use Rattle.std.proofs.Common.{map, length, Some, None, Ordering, refl, sym, ap, subst, ◌∙◌, arith}
use Rattle.std.specs.Prelude.{◌==◌, sum_by, not, slice_get}
use Rattle.std.specs.FinMap.{FinMap, IsAntisymmetric, get, entries, retain_keys}
use Rattle.std.specs.List.{AllByRecursion, flat_map, range_with_len}
use Rattle.std.specs.Cmp.{IsTotalOrder}
use Rattle.std.specs.Cmp.Lexicographic.{nat_list_cmp_total}
use Rattle.std.proofs.lemmas.List.FromFn.{length-map-range_with_len}
use Rattle.std.proofs.lemmas.List.Sums.{sum_by-cons, sum_by-append}
use Rattle.std.proofs.lemmas.Map.Lookups.{exact_bytes}
use Rattle.nr_bytes.proofs.Basics.{all_both}
use Rattle.nr_config.specs.Config.{Config}
use Rattle.nr_cut.specs.Cut.{joined, beside, all_beside, lives_in, cut_world, cut_worlds, carried, HasOnly, AreApart}
use Rattle.nr_cut.specs.Laws.{CanCut, IsFound, KeepsWorlds, KeepsLists}
use Rattle.nr_cut.proofs.Maps.{HasOwners, either, none_left, if_passes, sum_of_values, sum-filter, sum_spread}
use Rattle.nr_cut.proofs.Maps.{test_same, test_other, test_of, nothing, get-joined, get-part, sum-part, absent}
use Rattle.nr_cut.proofs.Worlds.{Owned, owned, only_part, other, each_kept, fewer_delayed, valid_beside}
use Rattle.nr_cut.proofs.Worlds.{accounts_of_both, postponed_of_both, delayed_of_both, tokens_of_both, owned_beside}
use Rattle.nr_cut.proofs.Worlds.{owned_weaker, owned_none_here}
use Rattle.nr_fees.specs.Fees.{receipt_tokens}
use Rattle.nr_layout.specs.Layout.{shard_of, out_to, parts}
use Rattle.nr_layout.proofs.Counting.{at_most}
use Rattle.nr_layout.proofs.Parts.{length_parts}
use Rattle.nr_records.specs.declared.account.Account.{Account}
use Rattle.nr_records.specs.declared.receipt.Receipt.{Receipt}
use Rattle.nr_state.specs.Tokens.{world_tokens, postponed_sum, delayed_sum}
use Rattle.nr_state.specs.Valid.{IsValidWorld, IsBounded}
use Rattle.nr_state.specs.World.{World, no_world, bytes_cmp, pair_cmp, account_tokens, accounts_tokens}
use Rattle.nr_state.specs.Scopes.{part_of}
use Rattle.nr_state.proofs.ValidOwned.{key_total, pair_total, exact_keys, exact_data}
use Rattle.nr_state.proofs.ValidPart.{part_valid}
use Rattle.nr_state.proofs.ValidQueues.{empty_valid}

-- ---- lists of numbers
sum-map : {A B : Type 0} (f : B → ℕ) (g : A → B) (xs : List A) → sum_by f (map g xs) ≡ sum_by (λ x. f (g x)) xs
sum-map f g [] = refl
sum-map f g (x ∷ xs) =
    sum_by-cons f (g x) (map g xs) ∙ ap (λ n. f (g x) + n) (sum-map f g xs) ∙ sym (sum_by-cons (λ x. f (g x)) x xs)

each_mapped : {B : Type 0} (P : B → Type 0) (g : ℕ → B) → ((n : ℕ) → P (g n)) → (ns : List ℕ)
    → AllByRecursion P (map g ns)
each_mapped P g all [] = tt
each_mapped P g all (n ∷ ns) = (all n, each_mapped P g all ns)

-- the item at a place
mapped_at : {B : Type 0} (g : ℕ → B) (n a s : ℕ) (x : B) → slice_get (map g (range_with_len a n)) s ≡ Some x
    → x ≡ g (a + s)
mapped_at g zero a s x e = absurd cc
mapped_at g (suc n) a zero x e = let is : g a ≡ x = cc in sym is ∙ ap g (omega arith)
mapped_at g (suc n) a (suc s) x e = mapped_at g n (a + 1) s x e ∙ ap g (omega arith)

-- ---- worlds that a layout keeps apart
-- each world has what lives in its shard; the numbers begin at n
abbrev AreApartFrom : List (List ℕ) → ℕ → List World → Type 0
AreApartFrom boundaries n [] = Unit {0}
AreApartFrom boundaries n (w ∷ ws) = Owned (lives_in boundaries n) w × AreApartFrom boundaries (n + 1) ws

apart_from : (boundaries : List (List ℕ)) (n : ℕ) (ws : List World)
    → ((k : ℕ) (w : World) → slice_get ws k ≡ Some w → HasOnly (lives_in boundaries (n + k)) w)
    → AreApartFrom boundaries n ws
apart_from boundaries n [] each = tt
apart_from boundaries n (w ∷ ws) each = (
  owned (lives_in boundaries n) w (subst (λ k. HasOnly (lives_in boundaries k) w) (omega arith) (each 0 w refl)),
  apart_from boundaries (n + 1) ws
      (λ k v e. subst (λ m. HasOnly (lives_in boundaries m) v) (omega arith) (each (suc k) v e)),
)

module _ (old : List (List ℕ)) where
  elsewhere : (i j : ℕ) → i < j → (id : List ℕ) → lives_in old j id ≡ true → other (lives_in old i) id ≡ true
  elsewhere i j l id h =
      let is : shard_of old id ≡ j = test_of (shard_of old id) j h in
      ap not (test_other (shard_of old id) i (λ e. omega (arith, is, e, l)))

  rest_other : (i j : ℕ) (ws : List World) → i < j → AreApartFrom old j ws
      → Owned (other (lives_in old i)) (all_beside ws)
  rest_other i j [] l apart = owned_none_here (other (lives_in old i))
  rest_other i j (w ∷ ws) l apart =
      owned_beside (other (lives_in old i)) w (all_beside ws)
      (owned_weaker (lives_in old j) (other (lives_in old i)) w (elsewhere i j l) apart.0)
      (rest_other i (j + 1) ws (omega (arith, l)) apart.1)

  rest_here : (j : ℕ) (ws : List World) → AreApartFrom old (j + 1) ws → Owned (other (lives_in old j)) (all_beside ws)
  rest_here j ws apart = rest_other j (j + 1) ws (omega arith) apart

  module _ (c : Config) where
    -- ---- an amount that two worlds side by side have together
    all_sum : (f : World → ℕ) → f no_world ≡ 0
        → ((test : List ℕ → Bool) (a b : World) → Owned test a → Owned (other test) b → f (beside a b) ≡ f a + f b)
        → (j : ℕ) (ws : List World) → AreApartFrom old j ws → f (all_beside ws) ≡ sum_by f ws
    all_sum f none both j [] apart = none
    all_sum f none both j (w ∷ ws) apart =
        both (lives_in old j) w (all_beside ws) apart.0 (rest_here j ws apart.1)
        ∙ ap (λ n. f w + n) (all_sum f none both (j + 1) ws apart.1) ∙ sym (sum_by-cons f w ws)

    none_accounts : accounts_tokens no_world ≡ 0
    none_accounts =
        ap (λ (es : List (List ℕ × Account)). sum_by account_tokens (map (λ e. e.1) es)) (nothing bytes_cmp Account)

    none_postponed : (f : Receipt → ℕ) → postponed_sum f no_world ≡ 0
    none_postponed f =
        ap (λ (es : List ((List ℕ × List ℕ) × Receipt)). sum_by f (map (λ e. e.1) es)) (nothing pair_cmp Receipt)

    all_accounts : (j : ℕ) (ws : List World) → AreApartFrom old j ws
        → accounts_tokens (all_beside ws) ≡ sum_by accounts_tokens ws
    all_accounts = all_sum accounts_tokens none_accounts (accounts_of_both c)

    all_postponed : (f : Receipt → ℕ) (j : ℕ) (ws : List World) → AreApartFrom old j ws
        → postponed_sum f (all_beside ws) ≡ sum_by (postponed_sum f) ws
    all_postponed f =
        all_sum (postponed_sum f) (none_postponed f) (λ test a b ia ib. postponed_of_both c test a b ia ib f)

    all_delayed : (f : Receipt → ℕ) (j : ℕ) (ws : List World) → AreApartFrom old j ws
        → delayed_sum f (all_beside ws) ≡ sum_by (delayed_sum f) ws
    all_delayed f = all_sum (delayed_sum f) refl (λ test a b ia ib. delayed_of_both c test a b ia ib f)

    all_tokens : (j : ℕ) (ws : List World) → AreApartFrom old j ws
        → world_tokens c (all_beside ws) ≡ sum_by (world_tokens c) ws
    all_tokens =
        all_sum (world_tokens c) (omega (arith, none_accounts, none_postponed (receipt_tokens c))) (tokens_of_both c)

    all_valid : (j : ℕ) (ws : List World) → AreApartFrom old j ws → AllByRecursion (IsValidWorld c) ws
        → sum_by (world_tokens c) ws ≤ 2 ^ 127 → IsValidWorld c (all_beside ws)
    all_valid j [] apart valid few = empty_valid c
    all_valid j (w ∷ ws) apart valid few =
        let sum : sum_by (world_tokens c) (w ∷ ws) ≡ world_tokens c w + sum_by (world_tokens c) ws =
        sum_by-cons (world_tokens c) w ws in
        let rest : IsValidWorld c (all_beside ws) =
        all_valid (j + 1) ws apart.1 valid.1 (omega (arith, sum, few)) in
        valid_beside c (lives_in old j) w (all_beside ws) apart.0 (rest_here j ws apart.1) valid.0 rest
        (omega (arith, sum, few, all_tokens (j + 1) ws apart.1))

  -- ---- what is found under a key
  module _ {K X : Type 0} {R : K → K → Ordering} (o : IsTotalOrder R) (same : IsAntisymmetric R) (owner : K → List ℕ)
      (column : World → FinMap R X) (joins : (a b : World) → column (beside a b) ≡ joined (column a) (column b))
      (has : (test : List ℕ → Bool) (w : World) → Owned test w → HasOwners owner test (column w)) where
    found_in : (j n : ℕ) (ws : List World) (w : World) (k : K) → AreApartFrom old j ws → slice_get ws n ≡ Some w
        → shard_of old (owner k) ≡ j + n → get (column (all_beside ws)) k ≡ get (column w) k
    found_in j n [] w k apart e at = absurd cc
    found_in j zero (v ∷ ws) w k apart e at =
        let rest : FinMap R X = column (all_beside ws) in
        let v_is : v ≡ w = cc in
        let here : lives_in old j (owner k) ≡ true = test_same (shard_of old (owner k)) j (omega (arith, at)) in
        let away : get rest k ≡ None =
        absent o same owner (other (lives_in old j)) rest k
        (has (other (lives_in old j)) (all_beside ws) (rest_here j ws apart.1)) (ap not here) in
        ap (λ m. get m k) (joins v (all_beside ws)) ∙ get-joined o same (column v) rest k
        ∙ ap (either (get (column v) k)) away ∙ none_left (get (column v) k) ∙ ap (λ u. get (column u) k) v_is
    found_in j (suc n) (v ∷ ws) w k apart e at =
        let rest : FinMap R X = column (all_beside ws) in
        let away : lives_in old j (owner k) ≡ false =
        test_other (shard_of old (owner k)) j (λ i. omega (arith, at, i)) in
        let gone : get (column v) k ≡ None =
        absent o same owner (lives_in old j) (column v) k (has (lives_in old j) v apart.0) away in
        ap (λ m. get m k) (joins v (all_beside ws)) ∙ get-joined o same (column v) rest k
        ∙ ap (λ x. either x (get rest k)) gone
        ∙ found_in (j + 1) n ws w k apart.1 e (omega (arith, at))

    found : (new : List (List ℕ)) (ws : List World) → AreApartFrom old 0 ws
        → ((shard : ℕ)
        → column (cut_world new ws shard) ≡ retain_keys (column (all_beside ws)) (λ k. lives_in new shard (owner k)))
        → IsFound old new ws owner column
    found new ws apart parts k w e =
        let shard : ℕ = shard_of new (owner k) in
        let all : FinMap R X = column (all_beside ws) in
        ap (λ m. get m k) (parts shard) ∙ get-part o same all (λ k. lives_in new shard (owner k)) k
        ∙ ap (λ b. cond b (get all k) None) (test_same shard shard refl)
        ∙ found_in 0 (shard_of old (owner k)) ws w k apart e (omega arith)

-- ---- the delayed receipts of all
delayed_all : (ws : List World) → (all_beside ws).delayed ≡ flat_map (λ w. w.delayed) ws
delayed_all [] = refl
delayed_all (w ∷ ws) = ap (λ l. w.delayed ++ l) (delayed_all ws)

served_all : (ws : List World) → (all_beside ws).served ≡ 0
served_all [] = refl
served_all (w ∷ ws) = refl

-- ---- the cut of one world
module _ (new : List (List ℕ)) (ws : List World) where
  part_cut : (s : ℕ)
      → record (part_of (lives_in new s) (all_beside ws)) { delayed = out_to new s (all_beside ws).delayed }
      ≡ cut_world new ws s
  unfolding cut_world
  part_cut s = λ i. record (part_of (lives_in new s) (all_beside ws)) {
    delayed = out_to new s (delayed_all ws i);
    served = served_all ws i;
  }

  cut_apart : AreApart new (cut_worlds new ws)
  cut_apart s w e =
      subst (HasOnly (lives_in new s))
      (part_cut s ∙ sym (mapped_at (cut_world new ws) (length new + 1) 0 s w e ∙ ap (cut_world new ws) (omega arith)))
      (only_part (lives_in new s) (all_beside ws) (out_to new s (all_beside ws).delayed))

  cut_valid : (c : Config) (s : ℕ) → IsValidWorld c (all_beside ws) → IsValidWorld c (cut_world new ws s)
  cut_valid c s valid =
      subst (IsValidWorld c) (part_cut s)
      (fewer_delayed c (part_of (lives_in new s) (all_beside ws)) (λ r. lives_in new s r.receiver)
      (part_valid (lives_in new s) c (all_beside ws) valid))

  spread : {A : Type 0} (f : World → ℕ) (g : A → ℕ) (to : A → List ℕ) (xs : List A)
      → ((s : ℕ) → f (cut_world new ws s) ≡ sum_by (if_passes (λ x. lives_in new s (to x)) g) xs)
      → sum_by f (cut_worlds new ws) ≡ sum_by g xs
  spread f g to xs each =
      sum-map f (cut_world new ws) (range_with_len 0 (length new + 1))
      ∙ (λ i. sum_by (λ s. each s i) (range_with_len 0 (length new + 1)))
      ∙ sum_spread g (λ x. shard_of new (to x)) (length new + 1) (λ x. omega (arith, at_most new (to x))) xs

  accounts_cut : sum_by accounts_tokens (cut_worlds new ws) ≡ accounts_tokens (all_beside ws)
  unfolding cut_world
  accounts_cut =
      spread accounts_tokens (λ e. account_tokens e.1) (λ e. e.0) (entries (all_beside ws).accounts)
      (λ s. sum_of_values account_tokens (entries (cut_world new ws s).accounts)
      ∙ sum-part nat_list_cmp_total exact_bytes (λ e. account_tokens e.1) (all_beside ws).accounts (lives_in new s))
      ∙ sym (sum_of_values account_tokens (entries (all_beside ws).accounts))

  postponed_cut : (f : Receipt → ℕ) → sum_by (postponed_sum f) (cut_worlds new ws) ≡ postponed_sum f (all_beside ws)
  unfolding cut_world
  postponed_cut f =
      spread (postponed_sum f) (λ e. f e.1) (λ e. e.0.0) (entries (all_beside ws).postponed)
      (λ s. sum_of_values f (entries (cut_world new ws s).postponed)
      ∙ sum-part pair_total exact_data (λ e. f e.1) (all_beside ws).postponed (λ k. lives_in new s k.0))
      ∙ sym (sum_of_values f (entries (all_beside ws).postponed))

  delayed_cut : (f : Receipt → ℕ) → sum_by (delayed_sum f) (cut_worlds new ws) ≡ delayed_sum f (all_beside ws)
  unfolding cut_world
  delayed_cut f =
      spread (delayed_sum f) f (λ r. r.receiver) (flat_map (λ w. w.delayed) ws)
      (λ s. sum-filter f (λ r. lives_in new s r.receiver) (flat_map (λ w. w.delayed) ws))
      ∙ ap (sum_by f) (sym (delayed_all ws))

  three : (c : Config) (vs : List World)
      → sum_by (world_tokens c) vs
      ≡ sum_by accounts_tokens vs
      + (sum_by (postponed_sum (receipt_tokens c)) vs + sum_by (delayed_sum (receipt_tokens c)) vs)
  three c [] = omega arith
  three c (v ∷ vs) =
      omega (
        arith,
        sum_by-cons (world_tokens c) v vs,
        sum_by-cons accounts_tokens v vs,
        sum_by-cons (postponed_sum (receipt_tokens c)) v vs,
        sum_by-cons (delayed_sum (receipt_tokens c)) v vs,
        three c vs,
      )

-- ---- the whole
pub keeps_worlds : (c : Config) (old new : List (List ℕ)) (ws : List World) → CanCut c old ws
    → KeepsWorlds c old new ws
unfolding cut_world
keeps_worlds c old new ws can =
    let apart : AreApartFrom old 0 ws = apart_from old 0 ws
    (λ k w e. subst (λ m. HasOnly (lives_in old m) w) (omega arith) (can.apart k w e)) in
    let valid : IsValidWorld c (all_beside ws) = all_valid old c 0 ws apart can.valid can.tokens in
    let accounts : sum_by accounts_tokens (cut_worlds new ws) ≡ sum_by accounts_tokens ws =
    accounts_cut new ws ∙ all_accounts old c 0 ws apart in
    let postponed : (f : Receipt → ℕ) → sum_by (postponed_sum f) (cut_worlds new ws) ≡ sum_by (postponed_sum f) ws =
    λ f. postponed_cut new ws f ∙ all_postponed old c f 0 ws apart in
    let delayed : (f : Receipt → ℕ) → sum_by (delayed_sum f) (cut_worlds new ws) ≡ sum_by (delayed_sum f) ws =
    λ f. delayed_cut new ws f ∙ all_delayed old c f 0 ws apart in
    record {
      count = length-map-range_with_len (cut_world new ws) 0 (length new + 1);
      valid = each_mapped (IsValidWorld c) (cut_world new ws)
          (λ s. cut_valid new ws c s valid) (range_with_len 0 (length new + 1));
      apart = cut_apart new ws;
      accounts = found old nat_list_cmp_total exact_bytes (λ id. id) (λ w. w.accounts) (λ a b. refl)
          (λ test w is. is.accounts) new ws apart (λ s. refl);
      keys = found old key_total exact_keys (λ k. k.0) (λ w. w.keys) (λ a b. refl) (λ test w is. is.keys) new ws apart
          (λ s. refl);
      code = found old nat_list_cmp_total exact_bytes (λ id. id) (λ w. w.code) (λ a b. refl) (λ test w is. is.code) new
          ws apart (λ s. refl);
      data_of = found old pair_total exact_data (λ k. k.0) (λ w. w.data_of) (λ a b. refl) (λ test w is. is.data_of) new
          ws apart (λ s. refl);
      received = found old pair_total exact_data (λ k. k.0) (λ w. w.received) (λ a b. refl) (λ test w is. is.received)
          new ws apart (λ s. refl);
      postponed = found old pair_total exact_data (λ k. k.0) (λ w. w.postponed) (λ a b. refl)
          (λ test w is. is.postponed) new ws apart (λ s. refl);
      delayed = λ s. refl;
      served = λ s. refl;
      accounts_sum = accounts;
      postponed_sum = postponed;
      delayed_sum = delayed;
      tokens_sum = three new ws c (cut_worlds new ws)
          ∙ (λ i. accounts i + (postponed (receipt_tokens c) i + delayed (receipt_tokens c) i))
          ∙ sym (three new ws c ws);
    }

-- ---- lists
each_flat : (P : Receipt → Type 0) (lists : List (List Receipt)) → AllByRecursion (AllByRecursion P) lists
    → AllByRecursion P (flat_map (λ list. list) lists)
each_flat P [] all = tt
each_flat P (list ∷ lists) all = all_both P list (flat_map (λ l. l) lists) all.0 (each_flat P lists all.1)

sum-flat : (f : Receipt → ℕ) (lists : List (List Receipt))
    → sum_by f (flat_map (λ list. list) lists) ≡ sum_by (λ list. sum_by f list) lists
sum-flat f [] = refl
sum-flat f (list ∷ lists) =
    sum_by-append f list (flat_map (λ l. l) lists) ∙ ap (λ n. sum_by f list + n) (sum-flat f lists)
    ∙ sym (sum_by-cons (λ l. sum_by f l) list lists)

module _ (new : List (List ℕ)) where
  right : (s : ℕ) (list : List Receipt)
      → AllByRecursion (λ (r : Receipt). shard_of new r.receiver ≡ s) (out_to new s list)
  right s [] = tt
  right s (r ∷ list) =
      elim (shard_of new r.receiver == s) as
      (λ b. (shard_of new r.receiver == s) ≡ b → AllByRecursion (λ (q : Receipt). shard_of new q.receiver ≡ s)
      (cond b (r ∷ out_to new s list) (out_to new s list))) [
        | true ↦ λ e. (test_of (shard_of new r.receiver) s e, right s list)
        | false ↦ λ e. right s list
      ] refl

  are_for : (n : ℕ) (all list : List Receipt) (s : ℕ)
      → slice_get (map (λ s. out_to new s all) (range_with_len 0 n)) s ≡ Some list
      → AllByRecursion (λ (r : Receipt). shard_of new r.receiver ≡ s) list
  are_for n all list s e =
      subst (AllByRecursion (λ (r : Receipt). shard_of new r.receiver ≡ s))
      (sym (mapped_at (λ s. out_to new s all) n 0 s list e ∙ ap (λ s. out_to new s all) (omega arith))) (right s all)

  -- what holds of each receipt before holds of each behind it
  pub each_carried : (P : Receipt → Type 0) (lists : List (List Receipt)) → AllByRecursion (AllByRecursion P) lists
      → AllByRecursion (AllByRecursion P) (carried new lists)
  each_carried P lists is =
      let all : List Receipt = flat_map (λ list. list) lists in
      each_mapped (AllByRecursion P) (λ s. out_to new s all)
      (λ s. each_kept P (λ r. shard_of new r.receiver == s) all (each_flat P lists is))
      (range_with_len 0 (length new + 1))

  pub keeps_lists : (lists : List (List Receipt)) → KeepsLists new lists
  keeps_lists lists =
      let all : List Receipt = flat_map (λ list. list) lists in
      record {
        count = length_parts new (length new + 1) all;
        receivers = λ s list e. are_for (length new + 1) all list s e;
        sum = λ f.
            sum-map (λ list. sum_by f list) (λ s. out_to new s all) (range_with_len 0 (length new + 1))
            ∙ (λ i. sum_by (λ s. sum-filter f (λ r. shard_of new r.receiver == s) all i)
            (range_with_len 0 (length new + 1)))
            ∙ sum_spread f (λ r. shard_of new r.receiver) (length new + 1)
            (λ r. omega (arith, at_most new r.receiver)) all
            ∙ sum-flat f lists;
        bounded = λ c is. each_carried (IsBounded c) lists is;
      }
