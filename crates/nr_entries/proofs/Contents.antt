-- What entries that are told stand for.
use Rattle.std.proofs.Common.{◌≡◌, ℕ, Bool, true, false, cond, List, [], ◌∷◌, Option, Some, None, refl, sym, ap, subst, ◌∙◌}
use Rattle.std.specs.Prelude.{◌==◌}
use Rattle.std.specs.Option.{option_map, option_and_then}
use Rattle.std.specs.FinMap.{FinMap, empty, insert, get, get-empty, get-insert, get-from_entries, same_map}
use Rattle.std.specs.Ordering.{eq_by_cmp}
use Rattle.std.specs.Cmp.Lexicographic.{nat_list_cmp_total}
use Rattle.std.proofs.lemmas.Bool.{eqb-true}
use Rattle.std.proofs.lemmas.Map.Lookups.{exact_bytes}
use Rattle.nr_bytes.proofs.Basics.{left_true, right_true}
use Rattle.nr_bytes.specs.Numbers.{IsBytes}
use Rattle.nr_triedef.specs.Root.{Contents}
use Rattle.nr_columns.specs.Columns.{Columns, queue_bytes}
use Rattle.nr_columns.specs.Entries.{AreLaidEntries, contents_of, pairs_of}
use Rattle.nr_columns.specs.Orders.{bytes_cmp}
use Rattle.nr_columns.specs.Tables.{Table, key_of, part}
use Rattle.nr_columns.specs.View.{IsLaid, queue_of}
use Rattle.nr_columns.specs.declared.entry.Entry.{Entry}
use Rattle.nr_columns.proofs.Empty.{is_laid_empty}
use Rattle.nr_columns.proofs.Laid.{canon, laid_insert}
use Rattle.nr_columns.proofs.Steps.{IsColumn, accounts_column, keys_column, code_column, data_column, received_column, awaited_column, missing_column, postponed_column, delayed_column}
use Rattle.nr_columns.proofs.Tables.{IsTable, back, claimed, over, there, get_part_none, get_part_valid, valid}
use Rattle.nr_entries.specs.Order.{rises}
use Rattle.nr_entries.specs.Told.{AreBytes, are_told, is_told, is_told_in}
use Rattle.nr_entries.proofs.Columns.{IsOf, account_of, code_of, key_of_entry, received_of, awaited_of, missing_of, postponed_of, delayed_of, queue_entry, datum_of, tail_bytes}
use Rattle.nr_entries.proofs.Rising.{in_order}

pub one_more : (e : Entry) (es : List Entry) → contents_of (e ∷ es) ≡ insert (contents_of es) e.key e.value
one_more e es = same_map nat_list_cmp_total exact_bytes _ _ (λ q.
    get-from_entries nat_list_cmp_total (pairs_of (e ∷ es)) q
    ∙ sym (get-insert nat_list_cmp_total (contents_of es) e.key e.value q ∙ ap (cond (eq_by_cmp bytes_cmp q e.key) (Some e.value)) (get-from_entries nat_list_cmp_total (pairs_of es) q)))

pub no_more : contents_of [] ≡ empty
no_more = same_map nat_list_cmp_total exact_bytes _ _ (λ q. get-from_entries nat_list_cmp_total [] q ∙ sym (get-empty bytes_cmp q))

-- ---- what a column lays for an entry of its table is the entry
canon_is : {K X : Type 0} {t : Table K X} {pick : Columns → FinMap t.cmp X} {put_in : Columns → FinMap t.cmp X → Columns} → IsColumn t pick put_in
    → (b v : List ℕ) → IsOf t b v → canon b (Some v) ≡ Some v
canon_is {t = t} is b v e =
    let same : b ≡ t.key e.key = back t b e.key e.at in
    ap (λ q. canon q (Some v)) same
    ∙ is.alone e.key (Some v)
    ∙ ap (λ u. claimed t u (Some v)) (ap (key_of t) (sym same) ∙ e.at)
    ∙ ap (option_map t.spell) e.read ∙ ap (λ x. Some x) e.spelled

first_some : (o d : Option (List ℕ)) (v : List ℕ) → o ≡ Some v → over o d ≡ Some v
first_some o d v e = ap (λ o. over o d) e

queue_canon : (v : List ℕ) (q : ℕ × ℕ) → queue_of v ≡ Some q → queue_bytes q ≡ v → canon (7 ∷ []) (Some v) ≡ Some v
queue_canon v q e same = first_some _ _ v (ap (option_map queue_bytes) e ∙ ap (λ x. Some x) same)

-- any other byte is no column's
pub other_byte : (n : ℕ) (rest v : List ℕ) → (n == 0) ≡ false → (n == 1) ≡ false → (n == 2) ≡ false → (n == 3) ≡ false → (n == 4) ≡ false → (n == 5) ≡ false → (n == 6) ≡ false → (n == 7) ≡ false → (n == 9) ≡ false
    → is_told_in n rest v ≡ false
other_byte n rest v e0 e1 e2 e3 e4 e5 e6 e7 e9 = rw (e0, e1, e2, e3, e4, e5, e6, e7, e9) refl

told_canon : (n : ℕ) (rest v : List ℕ) → IsBytes (n ∷ rest) → IsBytes v → is_told_in n rest v ≡ true → canon (n ∷ rest) (Some v) ≡ Some v
told_canon n rest v bytes fits h =
    at_byte (n == 0) (n == 1) (n == 2) (n == 3) (n == 4) (n == 5) (n == 6) (n == 7) (n == 9) refl refl refl refl refl refl refl refl refl
  where
    Goal : Type 0
    Goal = canon (n ∷ rest) (Some v) ≡ Some v

    -- the byte is this one
    this : (m : ℕ) → (n == m) ≡ true → (is_told_in m rest v ≡ true → canon (m ∷ rest) (Some v) ≡ Some v) → Goal
    this m e f =
        let same : m ≡ n = sym (eqb-true n m e) in
        subst (λ k. canon (k ∷ rest) (Some v) ≡ Some v) same (f (subst (λ k. is_told_in k rest v ≡ true) (sym same) h))

    queued : (rest : List ℕ) → IsBytes rest → is_told_in 7 rest v ≡ true → canon (7 ∷ rest) (Some v) ≡ Some v
    queued [] b h = let q = queue_entry v fits h in queue_canon v q.0 q.1.0 q.1.1
    queued (b ∷ bs) bytes h = canon_is delayed_column (7 ∷ b ∷ bs) v (delayed_of b bs v bytes fits h)

    at_byte : (b0 b1 b2 b3 b4 b5 b6 b7 b9 : Bool) → (n == 0) ≡ b0 → (n == 1) ≡ b1 → (n == 2) ≡ b2 → (n == 3) ≡ b3 → (n == 4) ≡ b4 → (n == 5) ≡ b5 → (n == 6) ≡ b6 → (n == 7) ≡ b7 → (n == 9) ≡ b9 → Goal
    at_byte true b1 b2 b3 b4 b5 b6 b7 b9 e0 e1 e2 e3 e4 e5 e6 e7 e9 = this 0 e0 (λ h. canon_is accounts_column _ v (account_of rest v fits h))
    at_byte false true b2 b3 b4 b5 b6 b7 b9 e0 e1 e2 e3 e4 e5 e6 e7 e9 = this 1 e1 (λ h. canon_is code_column _ v (code_of rest v))
    at_byte false false true b3 b4 b5 b6 b7 b9 e0 e1 e2 e3 e4 e5 e6 e7 e9 = this 2 e2 (λ h. canon_is keys_column _ v (key_of_entry rest v (tail_bytes n rest bytes) fits h))
    at_byte false false false true b4 b5 b6 b7 b9 e0 e1 e2 e3 e4 e5 e6 e7 e9 = this 3 e3 (λ h. canon_is received_column _ v (received_of rest v fits h))
    at_byte false false false false true b5 b6 b7 b9 e0 e1 e2 e3 e4 e5 e6 e7 e9 = this 4 e4 (λ h. canon_is awaited_column _ v (awaited_of rest v fits h))
    at_byte false false false false false true b6 b7 b9 e0 e1 e2 e3 e4 e5 e6 e7 e9 = this 5 e5 (λ h. canon_is missing_column _ v (missing_of rest v fits h))
    at_byte false false false false false false true b7 b9 e0 e1 e2 e3 e4 e5 e6 e7 e9 = this 6 e6 (λ h. canon_is postponed_column _ v (postponed_of rest v fits h))
    at_byte false false false false false false false true b9 e0 e1 e2 e3 e4 e5 e6 e7 e9 = this 7 e7 (queued rest (tail_bytes n rest bytes))
    at_byte false false false false false false false false true e0 e1 e2 e3 e4 e5 e6 e7 e9 = this 9 e9 (λ h. canon_is data_column _ v (datum_of rest v h))
    at_byte false false false false false false false false false e0 e1 e2 e3 e4 e5 e6 e7 e9 =
        absurd (let never : false ≡ true = sym (other_byte n rest v e0 e1 e2 e3 e4 e5 e6 e7 e9) ∙ h in cc)

canon_told : (b v : List ℕ) → IsBytes b → IsBytes v → is_told b v ≡ true → canon b (Some v) ≡ Some v
unfolding is_told
canon_told [] v bytes fits h = absurd (let no : false ≡ true = h in cc)
canon_told (n ∷ rest) v bytes fits h = told_canon n rest v bytes fits h

pub laid_told : (es : List Entry) → AreBytes es → are_told es ≡ true → IsLaid (contents_of es)
laid_told [] bytes h = subst IsLaid (sym no_more) is_laid_empty
laid_told (e ∷ es) bytes h =
    subst IsLaid (sym (one_more e es))
    (laid_insert (contents_of es) e.key e.value (canon_told e.key e.value bytes.0.0 bytes.0.1 (left_true _ _ h)) (laid_told es bytes.1 (right_true _ _ h)))

pub laid_entries : (es : List Entry) → AreBytes es → rises es ≡ true → are_told es ≡ true → AreLaidEntries es
laid_entries es bytes order told = record { laid = laid_told es bytes told; order = in_order es order }

-- ---- what is read of them
-- an entry of the table's part of contents
pub record IsRead {K X : Type 0} (t : Table K X) (c : Contents) (k : K) (x : X) : Type 0 where
  pub at : key_of t (t.key k) ≡ Some k
  pub value : List ℕ
  pub there : get c (t.key k) ≡ Some value
  pub read : t.read value ≡ Some x

read_with : {K X : Type 0} (t : Table K X) (c : Contents) (k : K) (x : X) → key_of t (t.key k) ≡ Some k → (o : Option (List ℕ)) → get c (t.key k) ≡ o → option_and_then t.read o ≡ Some x → IsRead t c k x
read_with t c k x at None e h = absurd (let no : ◌≡◌ {A = Option _} None (Some x) = h in cc)
read_with t c k x at (Some v) e h = record { at = at; value = v; there = e; read = h }

pub read_from : {K X : Type 0} {t : Table K X} → IsTable t → (c : Contents) (k : K) (x : X) → get (part t c) k ≡ Some x → IsRead t c k x
read_from {t = t} is c k x h = by (valid t k) refl
  where
    by : (b : Bool) → valid t k ≡ b → IsRead t c k x
    by true e = read_with t c k x (there is k e) (get c (t.key k)) refl (sym (get_part_valid is c k e) ∙ h)
    by false e = absurd (let no : ◌≡◌ {A = Option _} None (Some x) = sym (get_part_none is c k e) ∙ h in cc)
