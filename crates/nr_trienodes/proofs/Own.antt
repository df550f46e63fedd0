-- Names of which only the young nodes' are held: what is read and set in them.
use Rattle.std.proofs.Common.{◌≡◌, ◌<◌, ◌≤◌, ◌+◌, ◌-◌, ℕ, zero, suc, [], ◌∷◌, ◌++◌, length, get_or, set, take, replicate, Option, Some, None, refl, ap, sym, ◌∙◌, arith, length-append}
use Rattle.std.proofs.lemmas.List.{get_or_append_left, get_or-append_right, set-append_right, set-get_or, length-replicate}
use Rattle.nr_trienodes.specs.Naming.{Names, new_name, HaveOwn, AreOldest}
use Rattle.nr_trienodes.specs.Own.{own_names}

pub own-length : (first n : ℕ) → length (own_names first n) ≡ n
own-length first zero = refl
own-length first (suc n) = ap suc (own-length (suc first) n)

own_at : (first n id : ℕ) → id < n → get_or (own_names first n) id None ≡ Some (first + id)
own_at first zero id lt = absurd (omega arith)
own_at first (suc n) zero lt = ap (λ (k : ℕ). Some k) (omega arith)
own_at first (suc n) (suc id) lt = own_at (suc first) n id (omega arith) ∙ ap (λ (k : ℕ). Some k) (omega arith)

-- the oldest nodes have their own names
pub old_name : (n id : ℕ) (young : Names) → id < n → new_name (own_names 0 n ++ young) id ≡ Some id
old_name n id young lt =
    get_or_append_left (own_names 0 n) young None id (omega (arith, own-length 0 n))
    ∙ own_at 0 n id lt
    ∙ ap (λ (k : ℕ). Some k) (omega arith)

-- the young ones have those that are held
pub young_name : (n id : ℕ) (young : Names) → n ≤ id → new_name (own_names 0 n ++ young) id ≡ get_or young (id - n) None
young_name n id young le = get_or-append_right (own_names 0 n) young n id None (own-length 0 n) le

pub young_set : (n id : ℕ) (young : Names) (o : Option ℕ) → n ≤ id
    → set (own_names 0 n ++ young) id o ≡ own_names 0 n ++ set young (id - n) o
young_set n id young o le = set-append_right (own_names 0 n) young n id o (own-length 0 n) le

pub names-length : (n : ℕ) (young : Names) → length (own_names 0 n ++ young) ≡ n + length young
names-length n young = omega (arith, length-append (own_names 0 n) young, own-length 0 n)

-- the name of an old node is its own already
pub old_set : (n id name : ℕ) (young names : Names) → id < n → own_names 0 n ++ young ≡ names
    → (HaveOwn names id → name ≡ id) → names ≡ set names id (Some name)
old_set n id name young names lt is own =
    let all : HaveOwn names id = λ c less. ap (λ (t : Names). new_name t c) (sym is) ∙ old_name n c young (omega arith) in
    let old : new_name names id ≡ Some id = ap (λ (t : Names). new_name t id) (sym is) ∙ old_name n id young lt in
    let here : new_name names id ≡ Some name = old ∙ ap (λ (k : ℕ). Some k) (sym (own all)) in
    sym (ap (λ (o : Option ℕ). set names id o) (sym here) ∙ set-get_or names id None)

-- names of so many nodes, of which the young ones have none
pub oldest_anew : (oldest count held : ℕ) (none young : Names) → oldest ≤ count → none ≡ [] → held ≡ 0
    → young ≡ take (count - oldest) none ++ replicate ((count - oldest) - held) None
    → AreOldest (own_names 0 oldest ++ young) oldest count
oldest_anew oldest count held none young le empty z is =
    let few : (count - oldest) - held ≡ count - oldest = omega arith in
    let all : young ≡ replicate (count - oldest) None =
    is
    ∙ (λ i. take (count - oldest) (empty i) ++ replicate (few i) None)
    ∙ ap (λ (t : Names). t ++ replicate (count - oldest) None) (take_none (count - oldest)) in
    let no : Option ℕ = None in
    record {
      long = omega (arith, names-length oldest young, ap length all, length-replicate (count - oldest) no);
      own = λ id lt. old_name oldest id young lt;
      others = λ id past.
          young_name oldest id young past ∙ ap (λ (t : Names). get_or t (id - oldest) None) all
          ∙ none_there (count - oldest) (id - oldest);
    }
  where
    take_none : (n : ℕ) → take {A = Option ℕ} n [] ≡ []
    take_none zero = refl
    take_none (suc n) = refl

    none_there : (n id : ℕ) → new_name (replicate n None) id ≡ None
    none_there zero id = refl
    none_there (suc n) zero = refl
    none_there (suc n) (suc id) = none_there n id

-- what stands in a list, whatever is read behind its end
pub held : (names : Names) (i : ℕ) (o : Option ℕ) → i < length names → o ≡ get_or names i o → o ≡ get_or names i None
held [] i o lt e = absurd (omega arith)
held (n ∷ names) zero o lt e = e
held (n ∷ names) (suc i) o lt e = held names i o (omega arith) e
