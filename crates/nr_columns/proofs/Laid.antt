-- Which contents are those of their columns, and what a change in one column does to them.
use Rattle.std.proofs.Common.{◌≡◌, ℕ, Bool, true, false, cond, List, [], ◌∷◌, Option, Some, None, sym, refl, ap, ◌∙◌, subst}
use Rattle.std.specs.Prelude.{◌==◌}
use mathlib.Core.Bool.{false≢true}
use Rattle.std.specs.Option.{option_map, option_and_then}
use Rattle.std.specs.FinMap.{entries, insert, remove, get, get-empty, get-insert, get-remove, same_map}
use Rattle.std.specs.Ordering.{eq_by_cmp}
use Rattle.std.specs.Cmp.Lexicographic.{nat_list_cmp_total}
use Rattle.std.proofs.lemmas.Bool.{eq-eqb}
use Rattle.std.proofs.lemmas.Cmp.{then_total, on_total, nat_cmp_total}
use Rattle.std.proofs.lemmas.Map.Lookups.{exact_bytes, exact_pairs, exact_unsigned}
use Rattle.nr_ids.proofs.Keys.{exact_key}
use Rattle.nr_ids.specs.declared.key.PublicKey.{PublicKey}
use Rattle.nr_ids.specs.Keys.{key_bytes}
use Rattle.nr_triedef.specs.Root.{Contents}
use Rattle.nr_columns.specs.Columns.{Columns, laid_columns, queue_bytes, laid_queue}
use Rattle.nr_columns.specs.Keys.{queue_key}
use Rattle.nr_columns.specs.Orders.{bytes_cmp}
use Rattle.nr_columns.specs.Tables.{Table, part, laid}
use Rattle.nr_columns.specs.View.{columns_in, IsLaid, queue_of, text_table, pair_table, accounts_table, keys_table, code_table, data_table, received_table, awaited_table, missing_table, postponed_table, delayed_table}
use Rattle.nr_columns.proofs.Tables.{IsTable, bytes_tested, over, claim, claim_none, part_same, get_laid_part}

-- ---- the tables
pub text_law : (n : ℕ) {X : Type 0} (spell : X → List ℕ) (read : List ℕ → Option X) → IsTable (text_table n spell read)
text_law n spell read = record { total = nat_list_cmp_total; exact = exact_bytes }

pub pair_law : (n : ℕ) {X : Type 0} (spell : X → List ℕ) (read : List ℕ → Option X) → IsTable (pair_table n spell read)
pair_law n spell read =
    record {
      total = then_total (on_total (λ (p : List ℕ × List ℕ). p.0) nat_list_cmp_total) (on_total (λ (p : List ℕ × List ℕ). p.1) nat_list_cmp_total);
      exact = exact_pairs bytes_cmp bytes_cmp exact_bytes exact_bytes;
    }

pub accounts_law : IsTable accounts_table
accounts_law = text_law 0 _ _

pub code_law : IsTable code_table
code_law = text_law 1 _ _

pub data_law : IsTable data_table
data_law = pair_law 9 _ _

pub received_law : IsTable received_table
received_law = pair_law 3 _ _

pub awaited_law : IsTable awaited_table
awaited_law = pair_law 4 _ _

pub missing_law : IsTable missing_table
missing_law = pair_law 5 _ _

pub postponed_law : IsTable postponed_table
postponed_law = pair_law 6 _ _

pub keys_law : IsTable keys_table
keys_law =
    record {
      total = then_total (on_total (λ (p : List ℕ × PublicKey). p.0) nat_list_cmp_total) (on_total (λ (p : List ℕ × PublicKey). key_bytes p.1) nat_list_cmp_total);
      exact = exact_pairs bytes_cmp (λ a b. bytes_cmp (key_bytes a) (key_bytes b)) exact_bytes exact_key;
    }

pub delayed_law : IsTable delayed_table
delayed_law = record { total = nat_cmp_total; exact = exact_unsigned }

-- ---- contents that are those of their columns
abbrev pub queue_claim : List ℕ → Option (List ℕ) → Option (List ℕ)
queue_claim b o = cond (eq_by_cmp bytes_cmp b queue_key) (option_map queue_bytes (option_and_then queue_of o)) None

-- what the columns of contents lay at bytes where the contents have the value
abbrev pub canon : List ℕ → Option (List ℕ) → Option (List ℕ)
canon b o =
    over (queue_claim b o)
    (over (claim delayed_table b o)
    (over (claim postponed_table b o)
    (over (claim missing_table b o)
    (over (claim awaited_table b o)
    (over (claim received_table b o)
    (over (claim data_table b o)
    (over (claim code_table b o)
    (over (claim keys_table b o)
    (over (claim accounts_table b o) None)))))))))

get_queue : (from c : Contents) (b : List ℕ) → get (laid_queue (option_and_then queue_of (get from queue_key)) c) b ≡ over (queue_claim b (get from b)) (get c b)
get_queue from c b = at_key (eq_by_cmp bytes_cmp b queue_key) refl
  where
    at_queue : (a : Bool) (q : Option (ℕ × ℕ)) → eq_by_cmp bytes_cmp b queue_key ≡ a → get (laid_queue q c) b ≡ over (cond a (option_map queue_bytes q) None) (get c b)
    at_queue true None e = refl
    at_queue false None e = refl
    at_queue true (Some q) e = get-insert nat_list_cmp_total c queue_key (queue_bytes q) b ∙ ap (λ a. cond a (Some (queue_bytes q)) (get c b)) e
    at_queue false (Some q) e = get-insert nat_list_cmp_total c queue_key (queue_bytes q) b ∙ ap (λ a. cond a (Some (queue_bytes q)) (get c b)) e

    at_key : (a : Bool) → eq_by_cmp bytes_cmp b queue_key ≡ a → get (laid_queue (option_and_then queue_of (get from queue_key)) c) b ≡ over (cond a (option_map queue_bytes (option_and_then queue_of (get from b))) None) (get c b)
    at_key true e = at_queue true _ e ∙ ap (λ x. over (option_map queue_bytes (option_and_then queue_of (get from x))) (get c b)) (sym ((bytes_tested b queue_key true e).1 refl))
    at_key false e = at_queue false _ e

step : {K X : Type 0} {t : Table K X} → IsTable t → (from c : Contents) (b : List ℕ) (rest : Option (List ℕ)) → get c b ≡ rest → get (laid t.key t.spell (entries (part t from)) c) b ≡ over (claim t b (get from b)) rest
step {t = t} law from c b rest e = get_laid_part law from c b ∙ ap (over (claim t b (get from b))) e

get_columns : (c : Contents) (b : List ℕ) → get (laid_columns (columns_in c)) b ≡ canon b (get c b)
unfolding laid_columns
get_columns c b =
    get_queue c _ b
    ∙ ap (over (queue_claim b (get c b)))
    (step delayed_law c _ b _
    (step postponed_law c _ b _
    (step missing_law c _ b _
    (step awaited_law c _ b _
    (step received_law c _ b _
    (step data_law c _ b _
    (step code_law c _ b _
    (step keys_law c _ b _
    (step accounts_law c _ b _ (get-empty bytes_cmp b))))))))))

canon_none : (b : List ℕ) → canon b None ≡ None
canon_none b = λ i.
    over (no_queue (eq_by_cmp bytes_cmp b queue_key) i)
    (over (claim_none delayed_table b i)
    (over (claim_none postponed_table b i)
    (over (claim_none missing_table b i)
    (over (claim_none awaited_table b i)
    (over (claim_none received_table b i)
    (over (claim_none data_table b i)
    (over (claim_none code_table b i)
    (over (claim_none keys_table b i)
    (over (claim_none accounts_table b i) None)))))))))
  where
    no_queue : (a : Bool) → cond a (option_map queue_bytes None) None ≡ None
    no_queue true = refl
    no_queue false = refl

pub canon_of : (c : Contents) → IsLaid c → (b : List ℕ) → canon b (get c b) ≡ get c b
canon_of c h b = sym (get_columns c b) ∙ ap (λ d. get d b) h

pub laid_by : (c : Contents) → ((b : List ℕ) → canon b (get c b) ≡ get c b) → IsLaid c
laid_by c h = same_map nat_list_cmp_total exact_bytes _ _ (λ b. get_columns c b ∙ h b)

-- a write of what its column spells
pub laid_insert : (c : Contents) (b v : List ℕ) → canon b (Some v) ≡ Some v → IsLaid c → IsLaid (insert c b v)
laid_insert c b v is h = laid_by _ (λ q. subst (λ o. canon q o ≡ o) (sym (get-insert nat_list_cmp_total c b v q)) (at_key q (eq_by_cmp bytes_cmp q b) refl))
  where
    at_key : (q : List ℕ) (a : Bool) → eq_by_cmp bytes_cmp q b ≡ a → canon q (cond a (Some v) (get c q)) ≡ cond a (Some v) (get c q)
    at_key q true e = ap (λ x. canon x (Some v)) ((bytes_tested q b true e).1 refl) ∙ is
    at_key q false e = canon_of c h q

-- what remains once some keys are taken out
pub laid_without : (c d : Contents) (test : List ℕ → Bool) → ((q : List ℕ) → get d q ≡ cond (test q) None (get c q)) → IsLaid c → IsLaid d
laid_without c d test is h = laid_by d (λ q. subst (λ o. canon q o ≡ o) (sym (is q)) (at_key q (test q)))
  where
    at_key : (q : List ℕ) (a : Bool) → canon q (cond a None (get c q)) ≡ cond a None (get c q)
    at_key q true = canon_none q
    at_key q false = canon_of c h q

pub laid_remove : (c : Contents) (b : List ℕ) → IsLaid c → IsLaid (remove c b)
laid_remove c b h = laid_without c (remove c b) (λ q. eq_by_cmp bytes_cmp q b) (λ q. get-remove nat_list_cmp_total c b q) h

-- ---- changes within one column
-- the contents answer alike outside of a column
abbrev pub Agree : ℕ → Contents → Contents → Type 0
Agree n c d = (m : ℕ) (bs : List ℕ) → (m == n) ≡ false → get c (m ∷ bs) ≡ get d (m ∷ bs)

abbrev pub picked : ℕ → Contents → Contents → Columns
picked n c d =
    record {
      accounts = cond (0 == n) (part accounts_table d) (part accounts_table c);
      keys = cond (2 == n) (part keys_table d) (part keys_table c);
      code = cond (1 == n) (part code_table d) (part code_table c);
      data_of = cond (9 == n) (part data_table d) (part data_table c);
      received = cond (3 == n) (part received_table d) (part received_table c);
      awaited = cond (4 == n) (part awaited_table d) (part awaited_table c);
      missing = cond (5 == n) (part missing_table d) (part missing_table c);
      postponed = cond (6 == n) (part postponed_table d) (part postponed_table c);
      queue = cond (7 == n) (option_and_then queue_of (get d queue_key)) (option_and_then queue_of (get c queue_key));
      delayed = cond (7 == n) (part delayed_table d) (part delayed_table c);
    }

pub moved : (n : ℕ) (c d : Contents) → Agree n c d → columns_in d ≡ picked n c d
moved n c d ag = λ i. record {
  accounts = field accounts_law 0 (λ q e. ag 0 _ e) i;
  keys = field keys_law 2 (λ q e. ag 2 _ e) i;
  code = field code_law 1 (λ q e. ag 1 _ e) i;
  data_of = field data_law 9 (λ q e. ag 9 _ e) i;
  received = field received_law 3 (λ q e. ag 3 _ e) i;
  awaited = field awaited_law 4 (λ q e. ag 4 _ e) i;
  missing = field missing_law 5 (λ q e. ag 5 _ e) i;
  postponed = field postponed_law 6 (λ q e. ag 6 _ e) i;
  queue = queue_field (7 == n) refl i;
  delayed = field delayed_law 7 (λ q e. ag 7 _ e) i;
}
  where
    field : {K X : Type 0} {t : Table K X} → IsTable t → (m : ℕ) → ((q : K) → (m == n) ≡ false → get c (t.key q) ≡ get d (t.key q)) → part t d ≡ cond (m == n) (part t d) (part t c)
    field {t = t} law m alike = elim (m == n) as (λ b. (m == n) ≡ b → part t d ≡ cond b (part t d) (part t c)) [ true ↦ λ e. refl | false ↦ λ e. sym (part_same law c d (λ q. alike q e)) ] refl

    queue_field : (b : Bool) → (7 == n) ≡ b → option_and_then queue_of (get d queue_key) ≡ cond b (option_and_then queue_of (get d queue_key)) (option_and_then queue_of (get c queue_key))
    queue_field true e = refl
    queue_field false e = ap (option_and_then queue_of) (sym (ag 7 [] e))

abbrev head : List ℕ → ℕ
head [] = 0
head (b ∷ bs) = b

pub other_head : (m n : ℕ) (q bs : List ℕ) → (m == n) ≡ false → eq_by_cmp bytes_cmp (m ∷ q) (n ∷ bs) ≡ false
other_head m n q bs e = differ _ refl
  where
    differ : (a : Bool) → eq_by_cmp bytes_cmp (m ∷ q) (n ∷ bs) ≡ a → a ≡ false
    differ true h = absurd (false≢true (sym e ∙ ap (λ x. x == n) (ap head ((bytes_tested (m ∷ q) (n ∷ bs) true h).1 refl)) ∙ eq-eqb n n refl))
    differ false h = refl
