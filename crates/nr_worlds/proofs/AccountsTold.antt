-- Accounts are counted as what they own, and what is owned has its account, exactly where the entries pass.
use Rattle.std.proofs.Common.{◌≡◌, ℕ, ◌+◌, Bool, true, false, cond, List, [], ◌∷◌, ◌++◌, ◌&&◌, length, Option, Some, None, refl, sym, ap, subst, ◌∙◌, arith}
use Rattle.std.specs.Prelude.{◌==◌, is_some, not, sum_by}
use Rattle.std.specs.FinMap.{entries, get}
use Rattle.std.specs.List.{list_all}
use Rattle.std.specs.Option.{option_map, option_and_then}
use Rattle.std.specs.Str.{bytes_eq}
use Rattle.std.proofs.lemmas.Bool.{eq-eqb, eqb-true, and_from}
use Rattle.std.proofs.lemmas.Slice.Eq.{bytes_eq-Decides}
use Rattle.nr_bytes.proofs.Basics.{left_true, right_true, same_test}
use Rattle.nr_bytes.specs.Numbers.{IsBytes}
use Rattle.nr_config.specs.Config.{Config, account_bytes_entry, extra_record_bytes}
use Rattle.nr_ids.specs.Grammar.{is_system}
use Rattle.nr_ids.specs.Keys.{key_bytes}
use Rattle.nr_ids.specs.declared.key.Hash32.{Hash32}
use Rattle.nr_ids.specs.declared.key.PublicKey.{PublicKey}
use Rattle.nr_records.specs.declared.access_key.AccessKey.{AccessKey}
use Rattle.nr_records.specs.declared.account.Account.{Account}
use Rattle.nr_triedef.specs.Root.{Contents}
use Rattle.nr_columns.specs.Columns.{Columns}
use Rattle.nr_columns.specs.Entries.{contents_of}
use Rattle.nr_columns.specs.Tables.{Table, key_of, part}
use Rattle.nr_columns.specs.View.{accounts_table, at_first, code_table, columns_in, data_table, key_of_rest, keys_table, spelled_key, with_key}
use Rattle.nr_columns.specs.declared.entry.Entry.{Entry}
use Rattle.nr_columns.proofs.Laid.{accounts_law, code_law, data_law, keys_law}
use Rattle.nr_columns.proofs.Tables.{IsTable, back, get_part, spells, unchecked}
use Rattle.nr_entries.specs.Counting.{owned_bytes}
use Rattle.nr_entries.specs.Order.{rises}
use Rattle.nr_entries.specs.Told.{AreBytes, are_told, is_id, is_owned, is_owned_key, is_told, is_told_in}
use Rattle.nr_entries.proofs.Columns.{IsOf, account_of, datum_of, key_of_entry, tail_bytes}
use Rattle.nr_entries.proofs.Contents.{read_from}
use Rattle.nr_entries.proofs.Rising.{all_pass, found_holds, holds_found, pass_all}
use Rattle.nr_entries.proofs.UsageSums.{usage_sum}
use Rattle.nr_state.specs.Changes.{or_none}
use Rattle.nr_state.specs.Usage.{datum_usage, key_usage}
use Rattle.nr_state.specs.Valid.{AreAccounts, hash_of_code, owned_usage, usage_in}
use Rattle.nr_state.specs.View.{world_in}
use Rattle.nr_state.specs.World.{World}
use Rattle.nr_worlds.specs.Tests.{account_told, account_told_as, accounts_told, code_bytes, entry_fits, entry_fits_in, has_owner, is_owner}
use Rattle.nr_worlds.specs.Valid.{account_fits, accounts_fit}
use Rattle.nr_worlds.proofs.Tested.{each_of}

turned : (a b : List ℕ) → bytes_eq a b ≡ bytes_eq b a
turned a b = same_test (bytes_eq a b) (bytes_eq b a)
    (λ h. (bytes_eq-Decides b a).1 (sym ((bytes_eq-Decides a b).0 h)))
    (λ h. (bytes_eq-Decides a b).1 (sym ((bytes_eq-Decides b a).0 h)))

code_counts : (o : Option (List ℕ)) → code_bytes o ≡ or_none (option_map (λ (code : List ℕ). length code) o)
code_counts None = refl
code_counts (Some code) = refl

-- an entry of a table is in the map that is read
pub in_map : {K X : Type 0} {t : Table K X} → IsTable t → (c : Contents) (b v : List ℕ) (one : IsOf t b v) → get c b ≡ Some v → get (part t c) one.key ≡ Some one.value
in_map {t = t} is c b v one there =
    let key : b ≡ t.key one.key = back t b one.key one.at in
    get_part is c one.key (ap (key_of t) (sym key) ∙ one.at) ∙ ap (option_and_then t.read) (ap (get c) (sym key) ∙ there) ∙ one.read

abbrev tail : List ℕ → List ℕ
tail [] = []
tail (b ∷ bs) = bs

-- the owner before a public key
key_owner : (k : Columns) (q : List ℕ × PublicKey) (o : Option (List ℕ × List ℕ)) → option_and_then with_key o ≡ Some q → has_owner k o ≡ is_owner k q.0
key_owner k q None e = absurd (let no : ◌≡◌ {A = Option (List ℕ × PublicKey)} None (Some q) = e in cc)
key_owner k q (Some p) e = by (spelled_key p.1) e
  where
    by : (s : Option PublicKey) → option_map (λ key. (p.0, key)) s ≡ Some q → is_owner k p.0 ≡ is_owner k q.0
    by None e = absurd (let no : ◌≡◌ {A = Option (List ℕ × PublicKey)} None (Some q) = e in cc)
    by (Some key) e = ap (λ (r : List ℕ × PublicKey). is_owner k r.0) (let same : ◌≡◌ {A = List ℕ × PublicKey} (p.0, key) q = cc in same)

-- other counts that are alike
fits_alike : (c : Config) (k : Columns) (f g : List ℕ → ℕ) → ((q : List ℕ) → f q ≡ g q) → (b v : List ℕ) → entry_fits c k f b v ≡ entry_fits c k g b v
unfolding entry_fits
fits_alike c k f g same [] v = refl
fits_alike c k f g same (n ∷ rest) v =
    ap (λ m. cond (n == 0) (account_told c k m rest v) (cond (n == 1) (is_owner k rest) (cond (n == 2) (has_owner k (at_first 2 rest)) (cond (n == 9) (has_owner k (at_first 44 rest)) true)))) (same rest)

all_alike : (c : Config) (k : Columns) (f g : List ℕ → ℕ) → ((q : List ℕ) → f q ≡ g q) → (es : List Entry)
    → list_all (λ (e : Entry). entry_fits c k f e.key e.value) es ≡ list_all (λ (e : Entry). entry_fits c k g e.key e.value) es
all_alike c k f g same [] = refl
all_alike c k f g same (e ∷ es) = λ i. fits_alike c k f g same e.key e.value i && all_alike c k f g same es i

pub told_alike : (c : Config) (k : Columns) (es : List Entry) (f : List ℕ → ℕ) → ((q : List ℕ) → f q ≡ owned_bytes (extra_record_bytes c) es q)
    → list_all (λ (e : Entry). entry_fits c k f e.key e.value) es ≡ accounts_told c k es
told_alike c k es f same = all_alike c k f (owned_bytes (extra_record_bytes c) es) same es

module _ (c : Config) (es : List Entry) (bytes : AreBytes es) (order : rises es ≡ true) (told : are_told es ≡ true) where
  abbrev contents : Contents
  contents = contents_of es

  abbrev k : Columns
  k = columns_in contents

  abbrev w : World
  w = world_in k

  abbrev owned : List ℕ → ℕ
  owned id = owned_bytes (extra_record_bytes c) es id

  owned_is : (id : List ℕ) → owned id ≡ owned_usage (key_usage c) k.keys id + owned_usage (datum_usage c) k.data_of id
  owned_is id =
      usage_sum (extra_record_bytes c) id es bytes order told
      ∙ (λ i. sum_by (λ (e : (List ℕ × PublicKey) × AccessKey). cond (turned e.0.0 id i) (key_usage c e.0.1 e.1) 0) (entries k.keys)
      + sum_by (λ (e : (List ℕ × List ℕ) × List ℕ). cond (turned e.0.0 id i) (datum_usage c e.0.1 e.1) 0) (entries k.data_of))

  sums : (id : List ℕ) → account_bytes_entry c + code_bytes (get k.code id) + owned id ≡ usage_in c w id
  sums id = omega (arith, owned_is id, code_counts (get k.code id))

  -- ---- the entries pass
  module _ (h : accounts_told c k es ≡ true) where
    fits_found : (b v : List ℕ) → get contents b ≡ Some v → entry_fits c k owned b v ≡ true
    fits_found b v there = holds_found (λ b v. entry_fits c k owned b v ≡ true) es (all_pass (entry_fits c k owned) es h) b v there

    account_fits_so : (id : List ℕ) (a : Account) → get k.accounts id ≡ Some a → account_fits c w id a ≡ true
    unfolding entry_fits account_told
    account_fits_so id a is =
        let one = read_from accounts_law contents id a is in
        let t : account_told_as c k (owned id) id (Some a) ≡ true = subst (λ o. account_told_as c k (owned id) id o ≡ true) one.read (right_true _ _ (fits_found (0 ∷ id) one.value one.there)) in
        let A : Bool = not (is_system id) in
        let B : Bool = a.storage_usage == account_bytes_entry c + code_bytes (get k.code id) + owned id in
        let C : Bool = bytes_eq a.code_hash.0 (hash_of_code (get k.code id)).0 in
        and_from _ _ (and_from _ _ (left_true A B (left_true (A && B) C t)) (ap (λ n. a.storage_usage == n) (sym (sums id)) ∙ right_true A B (left_true (A && B) C t))) (right_true (A && B) C t)

    pub accounts_fit_so : accounts_fit c w ≡ true
    unfolding entry_fits
    accounts_fit_so =
        and_from _ _ (and_from _ _ (and_from _ _
        (each_of accounts_law.total accounts_law.exact w.accounts (account_fits c w) account_fits_so)
        (each_of keys_law.total keys_law.exact w.keys _ (λ q a is.
        let one = read_from keys_law contents q a is in
        let rest : List ℕ = q.0 ++ 2 ∷ key_bytes q.1 in
        right_true _ _ (sym (key_owner k q (at_first 2 rest) (unchecked keys_table (2 ∷ rest) (key_of_rest rest) q one.at)) ∙ fits_found (2 ∷ rest) one.value one.there))))
        (each_of code_law.total code_law.exact w.code _ (λ id v is.
        let one = read_from code_law contents id v is in
        right_true _ _ (fits_found (1 ∷ id) one.value one.there))))
        (each_of data_law.total data_law.exact w.data_of _ (λ q v is.
        let one = read_from data_law contents q v is in
        let rest : List ℕ = q.0 ++ 44 ∷ q.1 in
        right_true _ _ (ap (has_owner k) (sym (unchecked data_table (9 ∷ rest) (at_first 44 rest) q one.at)) ∙ fits_found (9 ∷ rest) one.value one.there)))

  -- ---- the accounts fit
  module _ (are : AreAccounts c w) where
    one_fits : (n : ℕ) (rest v : List ℕ) → IsBytes (n ∷ rest) → IsBytes v → get contents (n ∷ rest) ≡ Some v → is_told_in n rest v ≡ true → entry_fits_in c k owned n rest v ≡ true
    unfolding account_told
    one_fits n rest v key_fits fits there t = at_0 (n == 0) refl
      where
        account : get contents (0 ∷ rest) ≡ Some v → is_told_in 0 rest v ≡ true → account_told c k (owned rest) rest v ≡ true
        account there t =
            let one = account_of rest v fits t in
            let is : get k.accounts one.key ≡ Some one.value = in_map accounts_law contents (0 ∷ rest) v one there in
            let same : one.key ≡ rest = (let h : 0 ∷ rest ≡ 0 ∷ one.key = back accounts_table (0 ∷ rest) one.key one.at in sym (ap tail h)) in
            let at_id : get k.accounts rest ≡ Some one.value = subst (λ id. get k.accounts id ≡ Some one.value) same is in
            and_from _ _ (left_true _ _ t)
            (ap (account_told_as c k (owned rest) rest) one.read
            ∙ and_from _ _ (and_from _ _ (ap not (are.no_system rest (ap is_some at_id)))
            (eq-eqb _ _ (are.usage rest one.value at_id ∙ sym (sums rest))))
            ((bytes_eq-Decides _ _).1 (ap (λ (hash : Hash32). hash.0) (are.code_hash rest one.value at_id))))

        code : get contents (1 ∷ rest) ≡ Some v → is_told_in 1 rest v ≡ true → is_owner k rest ≡ true
        code there t =
            let is : get k.code rest ≡ Some v = get_part code_law contents rest (spells code_table rest refl) ∙ ap (option_and_then code_table.read) there in
            and_from _ _ t (are.code rest (ap is_some is))

        key_id : (o : Option (List ℕ × PublicKey)) (q : List ℕ × PublicKey) → o ≡ Some q → is_owned_key o ≡ true → is_id q.0 ≡ true
        key_id o q e h = left_true _ _ (subst (λ o. is_owned_key o ≡ true) e h)

        owned_id : (o : Option (List ℕ × List ℕ)) (q : List ℕ × List ℕ) → o ≡ Some q → is_owned o ≡ true → is_id q.0 ≡ true
        owned_id o q e h = subst (λ o. is_owned o ≡ true) e h

        key : get contents (2 ∷ rest) ≡ Some v → is_told_in 2 rest v ≡ true → has_owner k (at_first 2 rest) ≡ true
        key there t =
            let one = key_of_entry rest v (tail_bytes n rest key_fits) fits t in
            let is : get k.keys one.key ≡ Some one.value = in_map keys_law contents (2 ∷ rest) v one there in
            let at : key_of_rest rest ≡ Some one.key = unchecked keys_table (2 ∷ rest) (key_of_rest rest) one.key one.at in
            key_owner k one.key (at_first 2 rest) at
            ∙ and_from _ _ (key_id (key_of_rest rest) one.key at (left_true _ _ t)) (are.keys one.key (ap is_some is))

        datum : get contents (9 ∷ rest) ≡ Some v → is_told_in 9 rest v ≡ true → has_owner k (at_first 44 rest) ≡ true
        datum there t =
            let one = datum_of rest v t in
            let is : get k.data_of one.key ≡ Some one.value = in_map data_law contents (9 ∷ rest) v one there in
            let at : at_first 44 rest ≡ Some one.key = unchecked data_table (9 ∷ rest) (at_first 44 rest) one.key one.at in
            ap (has_owner k) at ∙ and_from _ _ (owned_id (at_first 44 rest) one.key at t) (are.data_of one.key (ap is_some is))

        at_9 : (b : Bool) → (n == 9) ≡ b → cond b (has_owner k (at_first 44 rest)) true ≡ true
        at_9 true e = datum (subst (λ j. get contents (j ∷ rest) ≡ Some v) (eqb-true n 9 e) there) (subst (λ j. is_told_in j rest v ≡ true) (eqb-true n 9 e) t)
        at_9 false e = refl

        at_2 : (b : Bool) → (n == 2) ≡ b → cond b (has_owner k (at_first 2 rest)) (cond (n == 9) (has_owner k (at_first 44 rest)) true) ≡ true
        at_2 true e = key (subst (λ j. get contents (j ∷ rest) ≡ Some v) (eqb-true n 2 e) there) (subst (λ j. is_told_in j rest v ≡ true) (eqb-true n 2 e) t)
        at_2 false e = at_9 (n == 9) refl

        at_1 : (b : Bool) → (n == 1) ≡ b → cond b (is_owner k rest) (cond (n == 2) (has_owner k (at_first 2 rest)) (cond (n == 9) (has_owner k (at_first 44 rest)) true)) ≡ true
        at_1 true e = code (subst (λ j. get contents (j ∷ rest) ≡ Some v) (eqb-true n 1 e) there) (subst (λ j. is_told_in j rest v ≡ true) (eqb-true n 1 e) t)
        at_1 false e = at_2 (n == 2) refl

        at_0 : (b : Bool) → (n == 0) ≡ b → cond b (account_told c k (owned rest) rest v) (cond (n == 1) (is_owner k rest) (cond (n == 2) (has_owner k (at_first 2 rest)) (cond (n == 9) (has_owner k (at_first 44 rest)) true))) ≡ true
        at_0 true e = account (subst (λ j. get contents (j ∷ rest) ≡ Some v) (eqb-true n 0 e) there) (subst (λ j. is_told_in j rest v ≡ true) (eqb-true n 0 e) t)
        at_0 false e = at_1 (n == 1) refl

    fits_one : (b v : List ℕ) → IsBytes b → IsBytes v → get contents b ≡ Some v → is_told b v ≡ true → entry_fits c k owned b v ≡ true
    unfolding is_told entry_fits
    fits_one [] v key_fits fits there t = refl
    fits_one (n ∷ rest) v key_fits fits there t = one_fits n rest v key_fits fits there t

    pub accounts_told_so : accounts_told c k es ≡ true
    accounts_told_so = pass_all (entry_fits c k owned) es (found_holds (λ b v. entry_fits c k owned b v ≡ true) es order (λ b v there.
        let are_bytes = holds_found (λ b v. IsBytes b × IsBytes v) es bytes b v there in
        fits_one b v are_bytes.0 are_bytes.1 there (holds_found (λ b v. is_told b v ≡ true) es (all_pass is_told es told) b v there)))
