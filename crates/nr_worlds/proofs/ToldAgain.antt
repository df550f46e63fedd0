-- The entries of a world are told by their columns.
use Rattle.std.proofs.Common.{◌≡◌, ℕ, Bool, true, false, cond, List, [], ◌∷◌, length, Option, Some, None, refl, sym, ap, subst, ◌∙◌}
use Rattle.std.specs.Prelude.{◌==◌, is_some}
use Rattle.std.specs.FinMap.{get}
use Rattle.std.specs.Option.{option_map}
use Rattle.std.specs.Ordering.{eq_by_cmp}
use Rattle.std.proofs.lemmas.Bool.{eq-eqb, eqb-true, and_from}
use Rattle.nr_bytes.proofs.Basics.{none≢some}
use Rattle.nr_bytes.proofs.Numbers.{length-little}
use Rattle.nr_bytes.specs.Numbers.{little, number}
use Rattle.nr_triedef.specs.Root.{Contents}
use Rattle.nr_columns.specs.Columns.{queue_bytes}
use Rattle.nr_columns.specs.Entries.{contents_of}
use Rattle.nr_columns.specs.Orders.{bytes_cmp}
use Rattle.nr_columns.specs.Tables.{Table, checked, key_of}
use Rattle.nr_columns.specs.View.{accounts_table, at_first, awaited_table, code_table, columns_in, data_table, delayed_table, key_of_rest, keys_table, missing_table, postponed_table, queue_of, received_table}
use Rattle.nr_columns.specs.declared.entry.Entry.{Entry}
use Rattle.nr_columns.specs.Keys.{queue_key}
use Rattle.nr_ids.specs.Grammar.{id_fault}
use Rattle.nr_columns.proofs.Laid.{other_head, accounts_law, canon, code_law, data_law, keys_law, postponed_law, received_law}
use Rattle.nr_columns.proofs.Tables.{back, claim, claimed, over, unchecked}
use Rattle.nr_entries.specs.Told.{is_kept, is_owned, is_owned_key, is_received, is_told, is_told_in}
use Rattle.nr_entries.proofs.Columns.{IsOf}
use Rattle.nr_entries.proofs.Names.{key_fits}
use Rattle.nr_state.specs.View.{ArePostponed, world_in}
use Rattle.nr_state.specs.Worlds.{IsWorld}
use Rattle.nr_worlds.proofs.AccountsTold.{in_map}
use Rattle.nr_worlds.proofs.Passing.{hash_so, id_so}
use Rattle.nr_worlds.proofs.Tested.{same_so}

over_none : (o : Option (List ℕ)) → over o None ≡ o
over_none None = refl
over_none (Some v) = refl

-- what a table claims is an entry of it
claimed_of : {K X : Type 0} (t : Table K X) (b v : List ℕ) → claim t b (Some v) ≡ Some v → IsOf t b v
claimed_of {K} {X} t b v h = by (key_of t b) refl h
  where
    read_by : (key : K) → key_of t b ≡ Some key → (o : Option X) → t.read v ≡ o → option_map t.spell o ≡ Some v → IsOf t b v
    read_by key e None f h = absurd (none≢some v h)
    read_by key e (Some x) f h = record { key = key; value = x; at = e; read = f; spelled = (let same : t.spell x ≡ v = cc in same) }

    by : (o : Option K) → key_of t b ≡ o → claimed t o (Some v) ≡ Some v → IsOf t b v
    by None e h = absurd (none≢some v h)
    by (Some key) e h = read_by key e (t.read v) refl h

is_there : {A : Type 0} (o : Option A) (x : A) → o ≡ Some x → is_some o ≡ true
is_there o x e = ap is_some e

-- no column claims a key that begins with another byte, or none
pub bare_none : (v : List ℕ) → canon [] (Some v) ≡ None
bare_none v = refl

pub nothing : (n : ℕ) (rest v : List ℕ) → (n == 0) ≡ false → (n == 1) ≡ false → (n == 2) ≡ false → (n == 3) ≡ false → (n == 4) ≡ false → (n == 5) ≡ false → (n == 6) ≡ false → (n == 7) ≡ false → (n == 9) ≡ false
    → canon (n ∷ rest) (Some v) ≡ None
nothing n rest v e0 e1 e2 e3 e4 e5 e6 e7 e9 = λ i.
    over (cond (other_queue i) (option_map queue_bytes (queue_of v)) None)
    (over (claimed delayed_table (checked delayed_table (n ∷ rest) (cond (e7 i) (Some (number rest)) None)) (Some v))
    (over (claimed postponed_table (checked postponed_table (n ∷ rest) (cond (e6 i) (at_first 44 rest) None)) (Some v))
    (over (claimed missing_table (checked missing_table (n ∷ rest) (cond (e5 i) (at_first 44 rest) None)) (Some v))
    (over (claimed awaited_table (checked awaited_table (n ∷ rest) (cond (e4 i) (at_first 44 rest) None)) (Some v))
    (over (claimed received_table (checked received_table (n ∷ rest) (cond (e3 i) (at_first 44 rest) None)) (Some v))
    (over (claimed data_table (checked data_table (n ∷ rest) (cond (e9 i) (at_first 44 rest) None)) (Some v))
    (over (claimed code_table (checked code_table (n ∷ rest) (cond (e1 i) (Some rest) None)) (Some v))
    (over (claimed keys_table (checked keys_table (n ∷ rest) (cond (e2 i) (key_of_rest rest) None)) (Some v))
    (over (claimed accounts_table (checked accounts_table (n ∷ rest) (cond (e0 i) (Some rest) None)) (Some v)) None)))))))))
  where
    other_queue : eq_by_cmp bytes_cmp (n ∷ rest) queue_key ≡ false
    other_queue = other_head n 7 rest [] e7

abbrev pub id_fault_none : List ℕ → Type 0
id_fault_none id = id_fault id ≡ None

module _ (es : List Entry) (fits : IsWorld (world_in (columns_in (contents_of es)))) (are : ArePostponed (world_in (columns_in (contents_of es)))) where
  abbrev contents : Contents
  contents = contents_of es

  module _ (rest v : List ℕ) where
    account_told : get contents (0 ∷ rest) ≡ Some v → canon (0 ∷ rest) (Some v) ≡ Some v → is_told_in 0 rest v ≡ true
    account_told there h =
        let one = claimed_of accounts_table (0 ∷ rest) v (sym (over_none _) ∙ h) in
        let same : one.key ≡ rest = (let e : ◌≡◌ {A = Option (List ℕ)} (Some rest) (Some one.key) = unchecked accounts_table (0 ∷ rest) (Some rest) one.key one.at in cc) in
        and_from _ _ (id_so rest (subst (λ id. id_fault_none id) same (fits.accounts one.key one.value (in_map accounts_law contents (0 ∷ rest) v one there)).0)) (is_there _ one.value one.read)

    code_told : get contents (1 ∷ rest) ≡ Some v → canon (1 ∷ rest) (Some v) ≡ Some v → is_told_in 1 rest v ≡ true
    code_told there h =
        let one = claimed_of code_table (1 ∷ rest) v (sym (over_none _) ∙ h) in
        let same : one.key ≡ rest = (let e : ◌≡◌ {A = Option (List ℕ)} (Some rest) (Some one.key) = unchecked code_table (1 ∷ rest) (Some rest) one.key one.at in cc) in
        id_so rest (subst (λ id. id_fault_none id) same (fits.code one.key one.value (in_map code_law contents (1 ∷ rest) v one there)))

    key_told : get contents (2 ∷ rest) ≡ Some v → canon (2 ∷ rest) (Some v) ≡ Some v → is_told_in 2 rest v ≡ true
    key_told there h =
        let one = claimed_of keys_table (2 ∷ rest) v (sym (over_none _) ∙ h) in
        let name = fits.keys one.key one.value (in_map keys_law contents (2 ∷ rest) v one there) in
        and_from _ _ (ap is_owned_key (unchecked keys_table (2 ∷ rest) (key_of_rest rest) one.key one.at) ∙ and_from _ _ (id_so one.key.0 name.0) (key_fits one.key.1 name.1.0)) (is_there _ one.value one.read)

    received_told : get contents (3 ∷ rest) ≡ Some v → canon (3 ∷ rest) (Some v) ≡ Some v → is_told_in 3 rest v ≡ true
    received_told there h =
        let one = claimed_of received_table (3 ∷ rest) v (sym (over_none _) ∙ h) in
        let name = fits.received one.key one.value (in_map received_law contents (3 ∷ rest) v one there) in
        and_from _ _ (ap is_received (unchecked received_table (3 ∷ rest) (at_first 44 rest) one.key one.at) ∙ hash_so one.key name.0 name.1.0) (is_there _ one.value one.read)

    awaited_told : canon (4 ∷ rest) (Some v) ≡ Some v → is_told_in 4 rest v ≡ true
    awaited_told h =
        let one = claimed_of awaited_table (4 ∷ rest) v (sym (over_none _) ∙ h) in
        and_from _ _ (is_there _ one.key (unchecked awaited_table (4 ∷ rest) (at_first 44 rest) one.key one.at)) (is_there _ one.value one.read)

    missing_told : canon (5 ∷ rest) (Some v) ≡ Some v → is_told_in 5 rest v ≡ true
    missing_told h =
        let one = claimed_of missing_table (5 ∷ rest) v (sym (over_none _) ∙ h) in
        and_from _ _ (is_there _ one.key (unchecked missing_table (5 ∷ rest) (at_first 44 rest) one.key one.at)) (is_there _ one.value one.read)

    postponed_told : get contents (6 ∷ rest) ≡ Some v → canon (6 ∷ rest) (Some v) ≡ Some v → is_told_in 6 rest v ≡ true
    postponed_told there h =
        let one = claimed_of postponed_table (6 ∷ rest) v (sym (over_none _) ∙ h) in
        let is = in_map postponed_law contents (6 ∷ rest) v one there in
        let name = fits.postponed one.key one.value is in
        let at : at_first 44 rest ≡ Some one.key = unchecked postponed_table (6 ∷ rest) (at_first 44 rest) one.key one.at in
        and_from _ _ (ap is_received at ∙ hash_so one.key name.0 name.1.0)
        ((λ i. is_kept (at i) (one.read i)) ∙ same_so one.key (one.value.receiver, one.value.receipt_id.0) (are.each one.key one.value is).keyed)

    datum_told : get contents (9 ∷ rest) ≡ Some v → canon (9 ∷ rest) (Some v) ≡ Some v → is_told_in 9 rest v ≡ true
    datum_told there h =
        let one = claimed_of data_table (9 ∷ rest) v (sym (over_none _) ∙ h) in
        ap is_owned (unchecked data_table (9 ∷ rest) (at_first 44 rest) one.key one.at) ∙ id_so one.key.0 (fits.data_of one.key one.value (in_map data_law contents (9 ∷ rest) v one there))

  -- ---- the queue
  bare_told : (v : List ℕ) → canon (7 ∷ []) (Some v) ≡ Some v → is_told_in 7 [] v ≡ true
  unfolding little
  bare_told v h = by (queue_of v) refl (sym (over_none _) ∙ h)
    where
      by : (o : Option (ℕ × ℕ)) → queue_of v ≡ o → option_map queue_bytes (queue_of v) ≡ Some v → is_some (queue_of v) ≡ true
      by None e h = absurd (none≢some v (sym (ap (option_map queue_bytes) e) ∙ h))
      by (Some q) e h = ap is_some e

  delayed_told : (b : ℕ) (bs v : List ℕ) → canon (7 ∷ b ∷ bs) (Some v) ≡ Some v → is_told_in 7 (b ∷ bs) v ≡ true
  delayed_told b bs v h =
      let one = claimed_of delayed_table (7 ∷ b ∷ bs) v (sym (over_none _) ∙ h) in
      let key : 7 ∷ b ∷ bs ≡ 7 ∷ little 8 one.key = back delayed_table (7 ∷ b ∷ bs) one.key one.at in
      let size : length (b ∷ bs) ≡ 8 = ap (λ (l : List ℕ). length (rest_of l)) key ∙ length-little 8 one.key in
      and_from _ _ (eq-eqb _ _ size) (is_there _ one.value one.read)
    where
      rest_of : List ℕ → List ℕ
      rest_of [] = []
      rest_of (b ∷ bs) = bs

  queue_told : (rest v : List ℕ) → canon (7 ∷ rest) (Some v) ≡ Some v → is_told_in 7 rest v ≡ true
  queue_told [] v h = bare_told v h
  queue_told (b ∷ bs) v h = delayed_told b bs v h

  -- ---- by the byte
  told_by_byte : (n : ℕ) (rest v : List ℕ) → get contents (n ∷ rest) ≡ Some v → canon (n ∷ rest) (Some v) ≡ Some v → is_told_in n rest v ≡ true
  told_by_byte n rest v there h =
      at_0 (n == 0) (n == 1) (n == 2) (n == 3) (n == 4) (n == 5) (n == 6) (n == 7) (n == 9) refl refl refl refl refl refl refl refl refl
    where
      Goal : Type 0
      Goal = is_told_in n rest v ≡ true

      this : (m : ℕ) → (n == m) ≡ true → (get contents (m ∷ rest) ≡ Some v → canon (m ∷ rest) (Some v) ≡ Some v → is_told_in m rest v ≡ true) → Goal
      this m e f =
          let same : n ≡ m = eqb-true n m e in
          subst (λ j. is_told_in j rest v ≡ true) (sym same)
          (f (subst (λ j. get contents (j ∷ rest) ≡ Some v) same there) (subst (λ j. canon (j ∷ rest) (Some v) ≡ Some v) same h))

      at_0 : (b0 b1 b2 b3 b4 b5 b6 b7 b9 : Bool) → (n == 0) ≡ b0 → (n == 1) ≡ b1 → (n == 2) ≡ b2 → (n == 3) ≡ b3 → (n == 4) ≡ b4 → (n == 5) ≡ b5 → (n == 6) ≡ b6 → (n == 7) ≡ b7 → (n == 9) ≡ b9 → Goal
      at_0 true b1 b2 b3 b4 b5 b6 b7 b9 e0 e1 e2 e3 e4 e5 e6 e7 e9 = this 0 e0 (account_told rest v)
      at_0 false true b2 b3 b4 b5 b6 b7 b9 e0 e1 e2 e3 e4 e5 e6 e7 e9 = this 1 e1 (code_told rest v)
      at_0 false false true b3 b4 b5 b6 b7 b9 e0 e1 e2 e3 e4 e5 e6 e7 e9 = this 2 e2 (key_told rest v)
      at_0 false false false true b4 b5 b6 b7 b9 e0 e1 e2 e3 e4 e5 e6 e7 e9 = this 3 e3 (received_told rest v)
      at_0 false false false false true b5 b6 b7 b9 e0 e1 e2 e3 e4 e5 e6 e7 e9 = this 4 e4 (λ there h. awaited_told rest v h)
      at_0 false false false false false true b6 b7 b9 e0 e1 e2 e3 e4 e5 e6 e7 e9 = this 5 e5 (λ there h. missing_told rest v h)
      at_0 false false false false false false true b7 b9 e0 e1 e2 e3 e4 e5 e6 e7 e9 = this 6 e6 (postponed_told rest v)
      at_0 false false false false false false false true b9 e0 e1 e2 e3 e4 e5 e6 e7 e9 = this 7 e7 (λ there h. queue_told rest v h)
      at_0 false false false false false false false false true e0 e1 e2 e3 e4 e5 e6 e7 e9 = this 9 e9 (datum_told rest v)
      at_0 false false false false false false false false false e0 e1 e2 e3 e4 e5 e6 e7 e9 = absurd (none≢some v (sym (nothing n rest v e0 e1 e2 e3 e4 e5 e6 e7 e9) ∙ h))

  pub told_by : (b v : List ℕ) → get contents b ≡ Some v → canon b (Some v) ≡ Some v → is_told b v ≡ true
  unfolding is_told
  told_by [] v there h = absurd (none≢some v (sym (bare_none v) ∙ h))
  told_by (n ∷ rest) v there h = told_by_byte n rest v there h
