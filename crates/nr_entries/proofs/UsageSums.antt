-- What the access keys and the data of an owner count, in the maps that are read of the entries.
use Rattle.std.proofs.Common.{◌≡◌, ℕ, ◌+◌, Bool, true, false, cond, List, [], ◌∷◌, ◌++◌, length, Option, Some, None, refl, sym, ap, subst, ◌∙◌, inl, inr, ◌⊎◌, arith}
use Rattle.std.specs.Prelude.{◌==◌, sum_by}
use Rattle.std.specs.FinMap.{entries}
use Rattle.std.specs.List.{AllByRecursion}
use Rattle.std.specs.Option.{option_map, option_and_then}
use Rattle.std.specs.Str.{bytes_eq}
use Rattle.std.proofs.lemmas.Bool.{eqb-true}
use Rattle.std.proofs.lemmas.Bool.Decides.{nat_tests}
use Rattle.std.proofs.lemmas.List.Sums.{sum_by-cons}
use Rattle.nr_bytes.proofs.Basics.{left_true, right_true}
use Rattle.nr_bytes.specs.Numbers.{IsBytes}
use Rattle.nr_ids.specs.Keys.{IsKey, key_bytes}
use Rattle.nr_ids.specs.declared.key.PublicKey.{PublicKey}
use Rattle.nr_records.specs.AccessKeys.{access_key_bytes}
use Rattle.nr_records.specs.IdLaws.{key_law}
use Rattle.nr_records.specs.Ids.{key_at}
use Rattle.nr_records.specs.declared.access_key.AccessKey.{AccessKey}
use Rattle.nr_columns.specs.Entries.{contents_of}
use Rattle.nr_columns.specs.Tables.{part}
use Rattle.nr_columns.specs.View.{at_first, data_table, key_of_rest, keys_table, spelled_key, with_key}
use Rattle.nr_columns.specs.declared.entry.Entry.{Entry}
use Rattle.nr_columns.proofs.Laid.{data_law, keys_law, other_head}
use Rattle.nr_columns.proofs.Tables.{unchecked}
use Rattle.nr_entries.specs.Counting.{entry_bytes, owned_bytes, owned_part, part_bytes}
use Rattle.nr_entries.specs.Order.{rises}
use Rattle.nr_entries.specs.Told.{AreBytes, are_told, is_told, is_told_in}
use Rattle.nr_entries.proofs.Columns.{IsOf, behind_bytes, datum_of, joined, key_of_entry, tail_bytes, taken}
use Rattle.nr_entries.proofs.Sums.{Counts, CountsNothing, sum_told}

module _ (extra : ℕ) (owner : List ℕ) where
  -- what a record counts
  abbrev pub key_counts : (List ℕ × PublicKey) × AccessKey → ℕ
  key_counts e = cond (bytes_eq e.0.0 owner) (length (key_bytes e.0.1) + length (access_key_bytes e.1) + extra) 0

  abbrev pub datum_counts : (List ℕ × List ℕ) × List ℕ → ℕ
  datum_counts e = cond (bytes_eq e.0.0 owner) (length e.0.1 + length e.1 + extra) 0

  -- what an entry counts in one column
  abbrev in_column : ℕ → ℕ → List ℕ → List ℕ → ℕ
  in_column column mark [] v = 0
  in_column column mark (n ∷ rest) v = cond (n == column) (part_bytes extra v owner (at_first mark rest)) 0

  both_columns : (b v : List ℕ) → part_bytes extra v owner (owned_part b) ≡ in_column 2 2 b v + in_column 9 44 b v
  both_columns [] v = let none : 0 ≡ 0 + 0 = omega arith in none
  both_columns (n ∷ rest) v = by (n == 2) (n == 9) refl refl
    where
      by : (s t : Bool) → (n == 2) ≡ s → (n == 9) ≡ t → part_bytes extra v owner (cond s (at_first 2 rest) (cond t (at_first 44 rest) None))
          ≡ cond s (part_bytes extra v owner (at_first 2 rest)) 0 + cond t (part_bytes extra v owner (at_first 44 rest)) 0
      by true true e f = absurd (let no : 2 ≡ 9 = sym (eqb-true n 2 e) ∙ eqb-true n 9 f in omega (arith, no))
      by true false e f = omega arith
      by false true e f = omega arith
      by false false e f = omega arith

  split_sum : (es : List Entry) → owned_bytes extra es owner ≡ sum_by (λ e. in_column 2 2 e.key e.value) es + sum_by (λ e. in_column 9 44 e.key e.value) es
  split_sum [] = let none : 0 ≡ 0 + 0 = omega arith in none
  split_sum (e ∷ es) =
      omega (
        arith,
        split_sum es,
        both_columns e.key e.value,
        sum_by-cons (entry_bytes extra owner) e es,
        sum_by-cons (λ (e : Entry). in_column 2 2 e.key e.value) e es,
        sum_by-cons (λ (e : Entry). in_column 9 44 e.key e.value) e es,
      )

  -- ---- access keys
  key_parts : (rest : List ℕ) (k : List ℕ × PublicKey) → IsBytes rest → key_of_rest rest ≡ Some k → at_first 2 rest ≡ Some (k.0, key_bytes k.1)
  key_parts rest k fits h = by (at_first 2 rest) refl h
    where
      named : (p : List ℕ × List ℕ) → rest ≡ p.0 ++ 2 ∷ p.1 → (o : Option PublicKey) → spelled_key p.1 ≡ o → option_map (λ key. (p.0, key)) o ≡ Some k → ◌≡◌ {A = Option (List ℕ × List ℕ)} (Some p) (Some (k.0, key_bytes k.1))
      named p is None e h = absurd (let no : ◌≡◌ {A = Option (List ℕ × PublicKey)} None (Some k) = h in cc)
      named p is (Some key) e h =
          let same : ◌≡◌ {A = List ℕ × PublicKey} (p.0, key) k = cc in
          let bytes : IsBytes p.1 = tail_bytes 2 p.1 (behind_bytes p.0 (2 ∷ p.1) (subst IsBytes is fits)) in
          ap (λ (l : List ℕ). Some (p.0, l)) (sym (taken key_at key_bytes IsKey key_law p.1 key bytes e).1)
          ∙ ap (λ (q : List ℕ × PublicKey). Some (q.0, key_bytes q.1)) same

      by : (o : Option (List ℕ × List ℕ)) → at_first 2 rest ≡ o → option_and_then with_key o ≡ Some k → o ≡ Some (k.0, key_bytes k.1)
      by None e h = absurd (let no : ◌≡◌ {A = Option (List ℕ × PublicKey)} None (Some k) = h in cc)
      by (Some p) e h = named p (joined 2 rest p e) (spelled_key p.1) refl h

  turned : (a b : ℕ) → (b == a) ≡ false → (a == b) ≡ false
  turned a b differs = grind (arith, nat_tests)

  abbrev KeyCase : List ℕ → List ℕ → Type 0
  KeyCase b v = Counts keys_law key_counts (in_column 2 2) b v ⊎ CountsNothing keys_law key_counts (in_column 2 2) b v

  key_case : (b v : List ℕ) → IsBytes b → IsBytes v → is_told b v ≡ true → KeyCase b v
  unfolding is_told
  key_case [] v bytes fits h = absurd (let no : false ≡ true = h in cc)
  key_case (n ∷ rest) v bytes fits h = by (n == 2) refl
    where
      here : (rest : List ℕ) → IsBytes rest → (one : IsOf keys_table (2 ∷ rest) v) → in_column 2 2 (2 ∷ rest) v ≡ key_counts (one.key, one.value)
      here rest bytes one =
          ap (part_bytes extra v owner) (key_parts rest one.key bytes (unchecked keys_table (2 ∷ rest) (key_of_rest rest) one.key one.at))
          ∙ ap (λ (l : List ℕ). cond (bytes_eq one.key.0 owner) (length (key_bytes one.key.1) + length l + extra) 0) (sym one.spelled)

      by : (b : Bool) → (n == 2) ≡ b → KeyCase (n ∷ rest) v
      by true e =
          let same : 2 ≡ n = sym (eqb-true n 2 e) in
          let rest_bytes : IsBytes rest = tail_bytes n rest bytes in
          let one : IsOf keys_table (2 ∷ rest) v = key_of_entry rest v rest_bytes fits (subst (λ m. is_told_in m rest v ≡ true) (sym same) h) in
          subst (λ m. KeyCase (m ∷ rest) v) same (inl (record { entry = one; same = here rest rest_bytes one }))
      by false e = inr (record {
        other = λ q. other_head 2 n (q.0 ++ 2 ∷ key_bytes q.1) rest (turned 2 n e);
        nothing = ap {B = ℕ} (λ b. cond b (part_bytes extra v owner (at_first 2 rest)) 0) e;
      })

  key_cases : (es : List Entry) → AreBytes es → are_told es ≡ true → AllByRecursion (λ e. KeyCase e.key e.value) es
  key_cases [] bytes h = tt
  key_cases (e ∷ es) bytes h = (key_case e.key e.value bytes.0.0 bytes.0.1 (left_true _ _ h), key_cases es bytes.1 (right_true _ _ h))

  -- ---- data
  abbrev DatumCase : List ℕ → List ℕ → Type 0
  DatumCase b v = Counts data_law datum_counts (in_column 9 44) b v ⊎ CountsNothing data_law datum_counts (in_column 9 44) b v

  datum_case : (b v : List ℕ) → is_told b v ≡ true → DatumCase b v
  unfolding is_told
  datum_case [] v h = absurd (let no : false ≡ true = h in cc)
  datum_case (n ∷ rest) v h = by (n == 9) refl
    where
      here : (one : IsOf data_table (9 ∷ rest) v) → in_column 9 44 (9 ∷ rest) v ≡ datum_counts (one.key, one.value)
      here one =
          ap (part_bytes extra v owner) (unchecked data_table (9 ∷ rest) (at_first 44 rest) one.key one.at)
          ∙ ap (λ (l : List ℕ). cond (bytes_eq one.key.0 owner) (length one.key.1 + length l + extra) 0) (sym one.spelled)

      by : (b : Bool) → (n == 9) ≡ b → DatumCase (n ∷ rest) v
      by true e =
          let same : 9 ≡ n = sym (eqb-true n 9 e) in
          let one : IsOf data_table (9 ∷ rest) v = datum_of rest v (subst (λ m. is_told_in m rest v ≡ true) (sym same) h) in
          subst (λ m. DatumCase (m ∷ rest) v) same (inl (record { entry = one; same = here one }))
      by false e = inr (record {
        other = λ q. other_head 9 n (q.0 ++ 44 ∷ q.1) rest (turned 9 n e);
        nothing = ap {B = ℕ} (λ b. cond b (part_bytes extra v owner (at_first 44 rest)) 0) e;
      })

  datum_cases : (es : List Entry) → are_told es ≡ true → AllByRecursion (λ e. DatumCase e.key e.value) es
  datum_cases [] h = tt
  datum_cases (e ∷ es) h = (datum_case e.key e.value (left_true _ _ h), datum_cases es (right_true _ _ h))

  pub usage_sum : (es : List Entry) → AreBytes es → rises es ≡ true → are_told es ≡ true
      → owned_bytes extra es owner ≡ sum_by key_counts (entries (part keys_table (contents_of es))) + sum_by datum_counts (entries (part data_table (contents_of es)))
  usage_sum es bytes order told =
      split_sum es
      ∙ (λ i. sum_told keys_law key_counts (in_column 2 2) es order (key_cases es bytes told) i
      + sum_told data_law datum_counts (in_column 9 44) es order (datum_cases es told) i)
