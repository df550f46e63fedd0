-- The entries that are searched for accounts are those of a world's part.
use Rattle.std.proofs.Common.{◌≡◌, ◌==◌, ◌<◌, ◌⊎◌, inl, inr, ℕ, suc, zero, Bool, true, false, cond, List, [], ◌∷◌, Option, Some, None, refl, sym, ap, ◌∙◌, arith}
use Rattle.std.specs.FinMap.{entries, get, retain_keys, same_map}
use Rattle.std.specs.List.{AllByRecursion}
use Rattle.std.specs.Option.{option_map, option_and_then}
use Rattle.std.specs.Cmp.Lexicographic.{nat_list_cmp_total}
use Rattle.std.proofs.lemmas.Bool.{eqb-true}
use Rattle.std.proofs.lemmas.Map.Lookups.{exact_bytes}
use Rattle.nr_bytes.specs.Numbers.{number}
use Rattle.nr_chunk.specs.Locality.{is_in}
use Rattle.nr_columns.specs.Columns.{laid_columns, queue_bytes}
use Rattle.nr_columns.specs.Tables.{checked}
use Rattle.nr_columns.specs.View.{IsLaid, at_first, key_of_rest, queue_of}
use Rattle.nr_columns.specs.View.{accounts_table, keys_table, code_table, data_table, received_table}
use Rattle.nr_columns.specs.View.{awaited_table, missing_table, postponed_table, delayed_table}
use Rattle.nr_columns.proofs.Laid.{canon, canon_of, other_head}
use Rattle.nr_columns.proofs.Tables.{claimed, over}
use Rattle.nr_records.specs.Ids.{IsId}
use Rattle.nr_state.specs.Entries.{IsReadBack, is_of}
use Rattle.nr_state.specs.Flat.{flat}
use Rattle.nr_state.specs.Keyed.{IsKeyed}
use Rattle.nr_state.specs.Scopes.{part_of}
use Rattle.nr_state.specs.World.{World}
use Rattle.nr_state.proofs.OverEntries.{entries_of_part}
use Rattle.nr_stateless.specs.Accounts.{is_searched, found_of}
use Rattle.nr_stateless.proofs.Replacing.{filtered, get_kept}
use Rattle.nr_triedef.specs.Root.{Contents}
use Rattle.nr_recheck.proofs.Searching.{at_account, at_code, at_key, at_received, at_awaited, at_missing, at_postponed, at_queue, at_datum}

unequal : (a b : ℕ) → (a ≡ b → ⊥) → (a == b) ≡ false
unequal a b differ = by (a == b) refl
  where
    by : (t : Bool) → (a == b) ≡ t → t ≡ false
    by true e = absurd (differ (eqb-true a b e))
    by false e = refl

-- ---- keys of no column
unlaid : (c : ℕ) (rest : List ℕ) (o : Option (List ℕ)) → ((n : ℕ) → n < 8 → (c == n) ≡ false) → (c == 9) ≡ false → canon (c ∷ rest) o ≡ None
unlaid c rest o less nine = λ i.
    over (cond (other_head c 7 rest [] (less 7 (omega arith)) i) (option_map queue_bytes (option_and_then queue_of o)) None)
    (over (claimed delayed_table (checked delayed_table (c ∷ rest) (cond (less 7 (omega arith) i) (Some (number rest)) None)) o)
    (over (claimed postponed_table (checked postponed_table (c ∷ rest) (cond (less 6 (omega arith) i) (at_first 44 rest) None)) o)
    (over (claimed missing_table (checked missing_table (c ∷ rest) (cond (less 5 (omega arith) i) (at_first 44 rest) None)) o)
    (over (claimed awaited_table (checked awaited_table (c ∷ rest) (cond (less 4 (omega arith) i) (at_first 44 rest) None)) o)
    (over (claimed received_table (checked received_table (c ∷ rest) (cond (less 3 (omega arith) i) (at_first 44 rest) None)) o)
    (over (claimed data_table (checked data_table (c ∷ rest) (cond (nine i) (at_first 44 rest) None)) o)
    (over (claimed code_table (checked code_table (c ∷ rest) (cond (less 1 (omega arith) i) (Some rest) None)) o)
    (over (claimed keys_table (checked keys_table (c ∷ rest) (cond (less 2 (omega arith) i) (key_of_rest rest) None)) o)
    (over (claimed accounts_table (checked accounts_table (c ∷ rest) (cond (less 0 (omega arith) i) (Some rest) None)) o) None)))))))))

abbrev IsUnused : List ℕ → Type 0
IsUnused q = (m : Contents) → IsLaid m → get m q ≡ None

no_key : IsUnused []
no_key m laid = sym (canon_of m laid [])

no_column : (c : ℕ) (rest : List ℕ) → ((n : ℕ) → n < 8 → (c == n) ≡ false) → (c == 9) ≡ false → IsUnused (c ∷ rest)
no_column c rest less nine m laid = sym (canon_of m laid (c ∷ rest)) ∙ unlaid c rest (get m (c ∷ rest)) less nine

-- a key is searched exactly where it is of the accounts, or no column has it
abbrev IsTold : List (List ℕ) → List ℕ → Type 0
IsTold ids q = (is_searched ids q ≡ is_of (is_in ids) q) ⊎ IsUnused q

pub told : (ids : List (List ℕ)) → AllByRecursion IsId ids → (q : List ℕ) → IsTold ids q
told ids all [] = inr no_key
told ids all (zero ∷ rest) = inl (at_account ids all rest)
told ids all (suc zero ∷ rest) = inl (at_code ids all rest)
told ids all (suc (suc zero) ∷ rest) = inl (at_key ids all rest)
told ids all (suc (suc (suc zero)) ∷ rest) = inl (at_received ids all rest)
told ids all (suc (suc (suc (suc zero))) ∷ rest) = inl (at_awaited ids all rest)
told ids all (suc (suc (suc (suc (suc zero)))) ∷ rest) = inl (at_missing ids all rest)
told ids all (suc (suc (suc (suc (suc (suc zero))))) ∷ rest) = inl (at_postponed ids all rest)
told ids all (suc (suc (suc (suc (suc (suc (suc zero)))))) ∷ rest) = inl (at_queue ids all rest)
told ids all (suc (suc (suc (suc (suc (suc (suc (suc zero))))))) ∷ rest) = inr (no_column 8 rest (λ n l. unequal 8 n (λ e. omega (arith, e, l))) refl)
told ids all (suc (suc (suc (suc (suc (suc (suc (suc (suc zero)))))))) ∷ rest) = inl (at_datum ids all rest)
told ids all (suc (suc (suc (suc (suc (suc (suc (suc (suc (suc c))))))))) ∷ rest) =
    let b : ℕ = suc (suc (suc (suc (suc (suc (suc (suc (suc (suc c))))))))) in
    inr (no_column b rest (λ n l. unequal b n (λ e. omega (arith, e, l))) (unequal b 9 (λ e. omega (arith, e))))

pub both_none : {A : Type 0} (b : Bool) → ◌≡◌ {A = Option A} (cond b None None) None
both_none true = refl
both_none false = refl

-- ---- the searched entries
same_kept : (ids : List (List ℕ)) → AllByRecursion IsId ids → (m : Contents) → IsLaid m → retain_keys m (is_searched ids) ≡ retain_keys m (is_of (is_in ids))
same_kept ids all m laid = same_map nat_list_cmp_total exact_bytes _ _ (λ q. get_kept (is_searched ids) m q ∙ by q (told ids all q) ∙ sym (get_kept (is_of (is_in ids)) m q))
  where
    by : (q : List ℕ) → IsTold ids q → cond (is_searched ids q) (get m q) None ≡ cond (is_of (is_in ids) q) (get m q) None
    by q (inl e) = ap (λ b. cond b (get m q) None) e
    by q (inr none) =
        ap (λ o. cond (is_searched ids q) o None) (none m laid) ∙ both_none (is_searched ids q)
        ∙ sym (ap (λ o. cond (is_of (is_in ids) q) o None) (none m laid) ∙ both_none (is_of (is_in ids) q))

pub laid_flat : (w : World) → IsReadBack w → IsLaid (flat w)
unfolding flat
laid_flat w h = ap laid_columns h

pub found_part : (ids : List (List ℕ)) → AllByRecursion IsId ids → (w : World) → IsKeyed w → IsReadBack w → found_of ids (flat w) ≡ entries (flat (part_of (is_in ids) w))
found_part ids all w keyed read =
    filtered (is_searched ids) (flat w) ∙ ap entries (same_kept ids all (flat w) (laid_flat w read)) ∙ ap entries (sym (entries_of_part (is_in ids) w keyed read))
