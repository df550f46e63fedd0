-- Taking all entries of an owner out of a column.
use Rattle.std.proofs.Common.{◌≡◌, ℕ, Bool, true, false, cond, List, [], ◌∷◌, ◌++◌, length, drop, Option, Some, None, sym, refl, ap, ◌∙◌, subst, append_assoc}
use Rattle.std.specs.Prelude.{not}
use Rattle.std.specs.List.{fold}
use Rattle.std.specs.Option.{option_map, option_and_then}
use Rattle.std.specs.FinMap.{remove, get}
use Rattle.std.specs.Str.{bytes_eq}
use Rattle.std.proofs.Math.Bool.{true≢false}
use Rattle.std.proofs.lemmas.Bool.{eq-eqb}
use Rattle.std.proofs.lemmas.Slice.Eq.{bytes_eq-Decides}
use Rattle.nr_bytes.proofs.Basics.{same_test}
use Rattle.nr_ids.specs.declared.key.PublicKey.{PublicKey}
use Rattle.nr_ids.specs.Grammar.{id_fault, is_id_byte}
use Rattle.nr_ids.specs.Keys.{key_bytes}
use Rattle.nr_triedef.specs.Root.{Contents}
use Rattle.nr_triedef.specs.Stores.{keys_below}
use Rattle.nr_columns.specs.Keys.{access_key_key, datum_key}
use Rattle.nr_columns.specs.View.{columns_in, at_first, with_key, spelled_key, keys_table, data_table, without_owner}
use Rattle.nr_columns.proofs.KeyLists.{begins, begins_so, begins_if, get_cleared, laid_fold}
use Rattle.nr_columns.proofs.Laid.{Agree, moved, keys_law, data_law}
use Rattle.nr_columns.proofs.ReadBack.{id_there}
use Rattle.nr_columns.proofs.Steps.{Turned}
use Rattle.nr_columns.proofs.Tables.{some_same, some_none, unchecked, part_kept}

abbrev head : List ℕ → ℕ
head [] = 0
head (b ∷ bs) = b

abbrev tail : List ℕ → List ℕ
tail [] = []
tail (b ∷ bs) = bs

-- what the keys of an owner begin with
abbrev front : ℕ → ℕ → List ℕ → List ℕ
front n mark id = n ∷ (id ++ mark ∷ [])

agree : (n mark : ℕ) (id : List ℕ) (c : Contents) → Agree n c (fold remove c (keys_below (front n mark id) c))
agree n mark id c m bs e = sym (get_cleared c (front n mark id) (m ∷ bs) ∙ ap (λ t. cond t None (get c (m ∷ bs))) (differ _ refl))
  where
    differ : (a : Bool) → begins (front n mark id) (m ∷ bs) ≡ a → a ≡ false
    differ true h = absurd (true≢false (sym (eq-eqb m n (ap head (begins_so (front n mark id) (m ∷ bs) h))) ∙ e))
    differ false h = refl

not_twice : (a b : Bool) → (a ≡ true → b ≡ true) → (b ≡ true → a ≡ true) → a ≡ not (not b)
not_twice a b f g = same_test a b f g ∙ twice b
  where
    twice : (b : Bool) → b ≡ not (not b)
    twice true = refl
    twice false = refl

first_part : Option (List ℕ × List ℕ) → Option (List ℕ)
first_part o = option_map (λ (p : List ℕ × List ℕ). p.0) o

-- an owner's keys are those that begin with its id and the mark
owns : (n mark : ℕ) (id owner rest : List ℕ) → is_id_byte mark ≡ false → id_fault id ≡ None → first_part (at_first mark (owner ++ mark ∷ rest)) ≡ Some owner
    → begins (front n mark id) (n ∷ (owner ++ mark ∷ rest)) ≡ not (not (bytes_eq id owner))
unfolding first_part
owns n mark id owner rest out valid told = not_twice _ _ there back
  where
    there : begins (front n mark id) (n ∷ (owner ++ mark ∷ rest)) ≡ true → bytes_eq id owner ≡ true
    there h =
        let past = drop (length (front n mark id)) (n ∷ (owner ++ mark ∷ rest)) in
        let same : owner ++ mark ∷ rest ≡ id ++ mark ∷ past = ap tail (begins_so (front n mark id) (n ∷ (owner ++ mark ∷ rest)) h) ∙ append_assoc id (mark ∷ []) past in
        let one : Some owner ≡ Some id = sym told ∙ ap (λ l. first_part (at_first mark l)) same ∙ ap first_part (id_there mark id past out valid) in
        (bytes_eq-Decides id owner).1 (sym (some_same owner id one))

    back : bytes_eq id owner ≡ true → begins (front n mark id) (n ∷ (owner ++ mark ∷ rest)) ≡ true
    back h =
        let same : (front n mark id) ++ rest ≡ n ∷ (owner ++ mark ∷ rest) = ap (λ l. n ∷ l) (append_assoc id (mark ∷ []) rest ∙ ap (λ o. o ++ mark ∷ rest) ((bytes_eq-Decides id owner).0 h)) in
        ap (begins (front n mark id)) (sym same) ∙ begins_if (front n mark id) rest

told_key : (o : Option (List ℕ × List ℕ)) (k : List ℕ × PublicKey) → option_and_then with_key o ≡ Some k → first_part o ≡ Some k.0
unfolding first_part
told_key None k h = absurd (some_none k (sym h))
told_key (Some p) k h = by_key (spelled_key p.1) h
  where
    by_key : (s : Option PublicKey) → option_map (λ key. (p.0, key)) s ≡ Some k → ◌≡◌ {A = Option (List ℕ)} (Some p.0) (Some k.0)
    by_key None h = absurd (some_none k (sym h))
    by_key (Some key) h = ap (option_map (λ (q : List ℕ × PublicKey). q.0)) h

pub keys_cleared : (c d : Contents) (id b : List ℕ) (ks : List (List ℕ)) → d ≡ fold remove c ks → ks ≡ keys_below b c → b ≡ front 2 2 id → id_fault id ≡ None → Turned c d (λ s. record s { keys = without_owner s.keys id })
keys_cleared c d id b ks new all at valid =
    let same : d ≡ fold remove c (keys_below (front 2 2 id) c) = new ∙ ap (fold remove c) (all ∙ ap (λ f. keys_below f c) at) in
    subst (λ d. Turned c d (λ s. record s { keys = without_owner s.keys id })) (sym same)
    (record {
      laid = laid_fold (keys_below (front 2 2 id) c) c;
      columns = moved 2 c _ (agree 2 2 id c) ∙ ap (λ m. record (columns_in c) { keys = m })
          (part_kept keys_law c _ (begins (front 2 2 id)) (λ k. not (bytes_eq id k.0)) (get_cleared c (front 2 2 id))
          (λ k told. owns 2 2 id k.0 (key_bytes k.1) refl valid (told_key _ k (unchecked keys_table (access_key_key k) _ k told))));
    })

pub data_cleared : (c d : Contents) (id b : List ℕ) (ks : List (List ℕ)) → d ≡ fold remove c ks → ks ≡ keys_below b c → b ≡ front 9 44 id → id_fault id ≡ None → Turned c d (λ s. record s { data_of = without_owner s.data_of id })
unfolding first_part
data_cleared c d id b ks new all at valid =
    let same : d ≡ fold remove c (keys_below (front 9 44 id) c) = new ∙ ap (fold remove c) (all ∙ ap (λ f. keys_below f c) at) in
    subst (λ d. Turned c d (λ s. record s { data_of = without_owner s.data_of id })) (sym same)
    (record {
      laid = laid_fold (keys_below (front 9 44 id) c) c;
      columns = moved 9 c _ (agree 9 44 id c) ∙ ap (λ m. record (columns_in c) { data_of = m })
          (part_kept data_law c _ (begins (front 9 44 id)) (λ k. not (bytes_eq id k.0)) (get_cleared c (front 9 44 id))
          (λ k told. owns 9 44 id k.0 k.1 refl valid (ap first_part (unchecked data_table (datum_key k) _ k told))));
    })
