-- What reading, writing and taking out one entry of a column is.
use Rattle.std.proofs.Common.{◌≡◌, ℕ, true, false, cond, List, [], ◌∷◌, Option, Some, None, sym, refl, ap, ◌∙◌, subst}
use Rattle.std.specs.Prelude.{is_some, map}
use Rattle.std.specs.List.{AllByRecursion}
use Rattle.std.specs.Option.{option_map, option_and_then}
use Rattle.std.specs.FinMap.{FinMap, insert, remove, get, get-insert, get-remove}
use Rattle.std.specs.Ordering.{eq_by_cmp}
use Rattle.std.specs.Cmp.Lexicographic.{nat_list_cmp_total}
use Rattle.nr_bytes.specs.Numbers.{little}
use Rattle.nr_triedef.specs.Root.{Contents}
use Rattle.nr_columns.specs.Columns.{Columns, queue_bytes}
use Rattle.nr_columns.specs.Keys.{queue_key}
use Rattle.nr_columns.specs.Orders.{bytes_cmp}
use Rattle.nr_columns.specs.Tables.{Table, part}
use Rattle.nr_columns.specs.View.{ColumnsView, AreLaid, columns_in, columns_view, with_columns, IsLaid, queue_of, same_bytes, accounts_table, keys_table, code_table, data_table, received_table, awaited_table, missing_table, postponed_table, delayed_table}
use Rattle.nr_columns.proofs.Tables.{IsTable, over, claim, claimed, claim_written, spells, part_same, get_part, part_insert, part_remove}
use Rattle.nr_columns.proofs.Laid.{canon, canon_of, laid_insert, laid_remove, moved, other_head, accounts_law, keys_law, code_law, data_law, received_law, awaited_law, missing_law, postponed_law, delayed_law}

-- contents that answer alike but at some bytes
abbrev pub ApartFrom : List ℕ → Contents → Contents → Type 0
ApartFrom b c d = (q : List ℕ) → eq_by_cmp bytes_cmp q b ≡ false → get c q ≡ get d q

-- a column, how it is picked and how it is put over another
pub record IsColumn {K X : Type 0} (t : Table K X) (pick : Columns → FinMap t.cmp X) (put_in : Columns → FinMap t.cmp X → Columns) : Type 0 where
  pub law : IsTable t
  pub picks : (c : Contents) → pick (columns_in c) ≡ part t c
  -- no other column claims its keys
  pub alone : (k : K) (o : Option (List ℕ)) → canon (t.key k) o ≡ claim t (t.key k) o
  -- a change at one of its keys leaves the other columns
  pub moves : (k : K) (c d : Contents) → ApartFrom (t.key k) c d → columns_in d ≡ put_in (columns_in c) (part t d)

-- the contents turned into others, as f turns their columns
pub record Turned (c d : Contents) (f : Columns → Columns) : Type 0 where
  pub laid : IsLaid c → IsLaid d
  pub columns : columns_in d ≡ f (columns_in c)

pub stays : {c d : Contents} {f : Columns → Columns} {ms ns : List Contents} → Turned c d f → AreLaid c ms → ns ≡ ms → AreLaid d ns
stays turned is same = record { here = turned.laid is.here; marks = subst (AllByRecursion IsLaid) (sym same) is.marks }

pub shows : {c d : Contents} {f : Columns → Columns} {ms ns : List Contents} {s t : ℕ} {v : ColumnsView} → Turned c d f → columns_view c ms s ≡ v → ns ≡ ms → t ≡ s → columns_view d ns t ≡ with_columns v (f v.columns)
shows {c} {d} {f} {ms} {ns} {s} {t} {v} turned is marks spare =
    (λ i. record { columns = turned.columns i; marks = ap (map columns_in) marks i; spare = spare i }) ∙ ap (λ v. with_columns v (f v.columns)) is

apart_insert : (c : Contents) (b v : List ℕ) → ApartFrom b c (insert c b v)
apart_insert c b v q e = sym (get-insert nat_list_cmp_total c b v q ∙ ap (λ a. cond a (Some v) (get c q)) e)

apart_remove : (c : Contents) (b : List ℕ) → ApartFrom b c (remove c b)
apart_remove c b q e = sym (get-remove nat_list_cmp_total c b q ∙ ap (λ a. cond a None (get c q)) e)

same_some : {A B : Type 0} (f : A → B) (o : Option A) → is_some (option_map f o) ≡ is_some o
same_some f None = refl
same_some f (Some x) = refl

module _ {K X : Type 0} {t : Table K X} {pick : Columns → FinMap t.cmp X} {put_in : Columns → FinMap t.cmp X → Columns} (is : IsColumn t pick put_in) where
  pub found : (c : Contents) (b : List ℕ) (k : K) → b ≡ t.key k → t.unkey (t.key k) ≡ Some k → option_and_then t.read (get c b) ≡ get (pick (columns_in c)) k
  found c b k at there = ap (λ q. option_and_then t.read (get c q)) at ∙ sym (ap (λ m. get m k) (is.picks c) ∙ get_part is.law c k (spells t k there))

  pub present : (c : Contents) (b : List ℕ) (k : K) → IsLaid c → b ≡ t.key k → t.unkey (t.key k) ≡ Some k → is_some (get c b) ≡ is_some (get (pick (columns_in c)) k)
  present c b k laid at there =
      ap (λ q. is_some (get c q)) at
      ∙ ap is_some (sym (canon_of c laid (t.key k)) ∙ is.alone k (get c (t.key k)) ∙ ap (λ u. claimed t u (get c (t.key k))) (spells t k there))
      ∙ same_some t.spell (option_and_then t.read (get c (t.key k)))
      ∙ ap is_some (found c (t.key k) k refl there)

  -- what stands at its key is read
  pub told : (c : Contents) (b : List ℕ) (k : K) (v : List ℕ) → IsLaid c → b ≡ t.key k → t.unkey (t.key k) ≡ Some k → get c b ≡ Some v → is_some (t.read v) ≡ true
  told c b k v laid at there is =
      ap (λ o. is_some (option_and_then t.read o)) (sym is)
      ∙ ap is_some (found c b k at there)
      ∙ sym (present c b k laid at there)
      ∙ ap is_some is

  pub wrote : (c d : Contents) (b : List ℕ) (k : K) (x : X) → d ≡ insert c b (t.spell x) → b ≡ t.key k → t.unkey (t.key k) ≡ Some k → t.read (t.spell x) ≡ Some x → Turned c d (λ s. put_in s (insert (pick s) k x))
  wrote c d b k x new at there back =
      let same : d ≡ insert c (t.key k) (t.spell x) = new ∙ ap (λ q. insert c q (t.spell x)) at in
      subst (λ d. Turned c d (λ s. put_in s (insert (pick s) k x))) (sym same)
      (record {
        laid = laid_insert c (t.key k) (t.spell x) (is.alone k _ ∙ claim_written t (t.key k) k x (spells t k there) back);
        columns = is.moves k c _ (apart_insert c (t.key k) (t.spell x)) ∙ ap (put_in (columns_in c)) (part_insert is.law c k x (spells t k there) back ∙ ap (λ m. insert m k x) (sym (is.picks c)));
      })

  pub took : (c d : Contents) (b : List ℕ) (k : K) → d ≡ remove c b → b ≡ t.key k → t.unkey (t.key k) ≡ Some k → Turned c d (λ s. put_in s (remove (pick s) k))
  took c d b k new at there =
      let same : d ≡ remove c (t.key k) = new ∙ ap (remove c) at in
      subst (λ d. Turned c d (λ s. put_in s (remove (pick s) k))) (sym same)
      (record {
        laid = laid_remove c (t.key k);
        columns = is.moves k c _ (apart_remove c (t.key k)) ∙ ap (put_in (columns_in c)) (part_remove is.law c k (spells t k there) ∙ ap (λ m. remove m k) (sym (is.picks c)));
      })

-- ---- the columns
just : (o : Option (List ℕ)) → over o None ≡ o
just None = refl
just (Some v) = refl

pub accounts_column : IsColumn accounts_table (λ s. s.accounts) (λ s m. record s { accounts = m })
accounts_column = record { law = accounts_law; picks = λ c. refl; alone = λ k o. just _; moves = λ k c d h. moved 0 c d (λ m bs e. h (m ∷ bs) (other_head m 0 bs k e)) }

pub keys_column : IsColumn keys_table (λ s. s.keys) (λ s m. record s { keys = m })
keys_column = record { law = keys_law; picks = λ c. refl; alone = λ k o. just _; moves = λ k c d h. moved 2 c d (λ m bs e. h (m ∷ bs) (other_head m 2 bs _ e)) }

pub code_column : IsColumn code_table (λ s. s.code) (λ s m. record s { code = m })
code_column = record { law = code_law; picks = λ c. refl; alone = λ k o. just _; moves = λ k c d h. moved 1 c d (λ m bs e. h (m ∷ bs) (other_head m 1 bs k e)) }

pub data_column : IsColumn data_table (λ s. s.data_of) (λ s m. record s { data_of = m })
data_column = record { law = data_law; picks = λ c. refl; alone = λ k o. just _; moves = λ k c d h. moved 9 c d (λ m bs e. h (m ∷ bs) (other_head m 9 bs _ e)) }

pub received_column : IsColumn received_table (λ s. s.received) (λ s m. record s { received = m })
received_column = record { law = received_law; picks = λ c. refl; alone = λ k o. just _; moves = λ k c d h. moved 3 c d (λ m bs e. h (m ∷ bs) (other_head m 3 bs _ e)) }

pub awaited_column : IsColumn awaited_table (λ s. s.awaited) (λ s m. record s { awaited = m })
awaited_column = record { law = awaited_law; picks = λ c. refl; alone = λ k o. just _; moves = λ k c d h. moved 4 c d (λ m bs e. h (m ∷ bs) (other_head m 4 bs _ e)) }

pub missing_column : IsColumn missing_table (λ s. s.missing) (λ s m. record s { missing = m })
missing_column = record { law = missing_law; picks = λ c. refl; alone = λ k o. just _; moves = λ k c d h. moved 5 c d (λ m bs e. h (m ∷ bs) (other_head m 5 bs _ e)) }

pub postponed_column : IsColumn postponed_table (λ s. s.postponed) (λ s m. record s { postponed = m })
postponed_column = record { law = postponed_law; picks = λ c. refl; alone = λ k o. just _; moves = λ k c d h. moved 6 c d (λ m bs e. h (m ∷ bs) (other_head m 6 bs _ e)) }

pub delayed_column : IsColumn delayed_table (λ s. s.delayed) (λ s m. record s { delayed = m })
unfolding little
delayed_column =
    record {
      law = delayed_law;
      picks = λ c. refl;
      alone = λ n o. just _;
      moves = λ n c d h.
          moved 7 c d (λ m bs e. h (m ∷ bs) (other_head m 7 bs _ e))
          ∙ ap (λ o. record (columns_in c) { queue = option_and_then queue_of o; delayed = part delayed_table d }) (sym (h queue_key refl));
    }

-- bytes are read as they are
pub as_read : (o : Option (List ℕ)) → o ≡ option_and_then same_bytes o
as_read None = refl
as_read (Some v) = refl

-- ---- the queue
first_some : (o d : Option (List ℕ)) (v : List ℕ) → o ≡ Some v → over o d ≡ Some v
first_some o d v e = ap (λ o. over o d) e

pub queue_wrote : (c d : Contents) (b : List ℕ) (q : ℕ × ℕ) → d ≡ insert c b (queue_bytes q) → b ≡ queue_key → queue_of (queue_bytes q) ≡ Some q → Turned c d (λ s. record s { queue = Some q })
unfolding little
queue_wrote c d b q new at back =
    let same : d ≡ insert c queue_key (queue_bytes q) = new ∙ ap (λ k. insert c k (queue_bytes q)) at in
    let here : get (insert c queue_key (queue_bytes q)) queue_key ≡ Some (queue_bytes q) = get-insert nat_list_cmp_total c queue_key (queue_bytes q) queue_key in
    subst (λ d. Turned c d (λ s. record s { queue = Some q })) (sym same)
    (record {
      laid = laid_insert c queue_key (queue_bytes q) (first_some _ _ _ (ap (option_map queue_bytes) back));
      columns =
          moved 7 c _ (λ m bs e. apart_insert c queue_key (queue_bytes q) (m ∷ bs) (other_head m 7 bs [] e))
          ∙ (λ i. record (columns_in c) { queue = (ap (option_and_then queue_of) here ∙ back) i; delayed = part_same delayed_law _ c (λ n. sym (apart_insert c queue_key (queue_bytes q) _ refl)) i });
    })
