-- Every world whose records fit their fields is read back from its trie entries.
use Rattle.std.proofs.Common.{◌≡◌, ℕ, ◌+◌, ◌^◌, ◌<◌, Bool, true, false, cond, T, List, [], ◌∷◌, length, Option}
use Rattle.std.proofs.Common.{Some, None, Ordering, refl, sym, ap, subst, ◌∙◌, arith}
use Rattle.std.specs.Prelude.{◌==◌}
use Rattle.std.specs.FinMap.{FinMap, IsAntisymmetric, empty, find, get, insert, entries, entries_sorted, is_sorted}
use Rattle.std.specs.FinMap.{get-empty, get-entries, get-insert, get-from_entries, same_map, nat_cmp-IsAntisymmetric}
use Rattle.std.specs.FinMap.Entries.{below_all}
use Rattle.std.specs.List.{AllByRecursion}
use Rattle.std.specs.Option.{option_map}
use Rattle.std.specs.Ordering.{eq_by_cmp, nat_cmp}
use Rattle.std.specs.Cmp.{IsTotalOrder, eq_by_cmp_equiv, nat_cmp_total}
use Rattle.std.proofs.lemmas.List.Sums.{count_by-le-length}
use Rattle.nr_bytes.proofs.Basics.{left_of, right_of}
use Rattle.nr_bytes.proofs.Fields.{blob_law}
use Rattle.nr_bytes.proofs.Whole.{whole_again}
use Rattle.nr_bytes.specs.Spelling.{IsCounted}
use Rattle.nr_bytes.specs.Writing.{counted_bytes}
use Rattle.nr_ids.specs.declared.key.Hash32.{Hash32}
use Rattle.nr_ids.specs.declared.key.PublicKey.{PublicKey}
use Rattle.nr_ids.specs.Keys.{IsHash, hash_bytes}
use Rattle.nr_records.specs.AccessKeyLaws.{access_key_law}
use Rattle.nr_records.specs.AccessKeys.{IsAccessKey, access_key_at, access_key_bytes}
use Rattle.nr_records.specs.AccountLaw.{account_law}
use Rattle.nr_records.specs.Accounts.{IsAccount, account_at, account_bytes}
use Rattle.nr_records.specs.Fault.{record_fault}
use Rattle.nr_records.specs.IdLaws.{hash_law}
use Rattle.nr_records.specs.Ids.{hash_at}
use Rattle.nr_records.specs.OptionLaw.{option_law}
use Rattle.nr_records.specs.Options.{IsOption, option_at, option_bytes}
use Rattle.nr_records.specs.Reading.{blob_at}
use Rattle.nr_records.specs.ReceiptLaws.{receipt_law}
use Rattle.nr_records.specs.Receipts.{IsReceipt, IsBody, receipt_at, receipt_bytes}
use Rattle.nr_records.specs.declared.access_key.AccessKey.{AccessKey}
use Rattle.nr_records.specs.declared.account.Account.{Account}
use Rattle.nr_records.specs.declared.receipt.Body.{Body}
use Rattle.nr_records.specs.declared.receipt.Body.TheVariants.{Act, Datum}
use Rattle.nr_records.specs.declared.receipt.Receipt.{Receipt}
use Rattle.nr_triedef.specs.Root.{Contents}
use Rattle.nr_columns.specs.Columns.{Columns, laid_columns, laid_queue, queue_bytes}
use Rattle.nr_columns.specs.Keys.{queue_key}
use Rattle.nr_columns.specs.Tables.{Table, laid, read_of}
use Rattle.nr_columns.specs.View.{columns_in, accounts_table, keys_table, code_table, data_table, received_table}
use Rattle.nr_columns.specs.View.{awaited_table, missing_table, postponed_table, delayed_table, queue_of}
use Rattle.nr_columns.proofs.Empty.{no_columns_in}
use Rattle.nr_columns.proofs.ReadBack.{comma_there, rest_there, number_there, count_back, queue_back}
use Rattle.nr_columns.proofs.Steps.{IsColumn, wrote, queue_wrote, accounts_column, keys_column, code_column}
use Rattle.nr_columns.proofs.Steps.{data_column}
use Rattle.nr_columns.proofs.Steps.{received_column, awaited_column, missing_column, postponed_column, delayed_column}
use Rattle.nr_columns.proofs.Tables.{find_below}
use Rattle.nr_state.specs.Flat.{columns_of, flat, awaited_in, missing_in, missing_inputs, is_missing, inputs_of}
use Rattle.nr_state.specs.Flat.{numbered, queue_in}
use Rattle.nr_state.specs.View.{ArePostponed}
use Rattle.nr_state.specs.World.{World}
use Rattle.nr_state.specs.Worlds.{IsWorld}
use Rattle.nr_state.proofs.Awaiting.{Key, either, waiter}
use Rattle.nr_state.specs.Entries.{IsReadBack}
use Rattle.nr_state.proofs.Missing.{missing_at}
use Rattle.nr_state.proofs.ValidSums.{equal}

-- ---- entries put into a map, one after the other
abbrev piled : {K X : Type 0} {R : K → K → Ordering} → List (K × X) → FinMap R X → FinMap R X
piled [] m = m
piled (e ∷ es) m = piled es (insert m e.0 e.1)

nothing_more : {A : Type 0} (o : Option A) → either o None ≡ o
nothing_more None = refl
nothing_more (Some a) = refl

none_found : {K X : Type 0} (R : K → K → Ordering) → IsAntisymmetric R → (e : K × X) (es : List (K × X))
    → T (below_all R e.0 es) → (q : K) → eq_by_cmp R q e.0 ≡ true → find R q es ≡ None
none_found R exact e es below q t =
    ap (λ k. find R k es) (exact q e.0 (equal _ t)) ∙ find_below R e.0 es below

module _ {K X : Type 0} {R : K → K → Ordering} (o : IsTotalOrder R) (exact : IsAntisymmetric R) where
  get-piled : (es : List (K × X)) → T (is_sorted R es) → (m : FinMap R X) (q : K)
      → get (piled es m) q ≡ either (find R q es) (get m q)
  get-piled [] s m q = refl
  get-piled (e ∷ es) s m q =
      get-piled es (right_of _ _ s) (insert m e.0 e.1) q
      ∙ ap (either (find R q es)) (get-insert o m e.0 e.1 q)
      ∙ once (eq_by_cmp R q e.0) refl
    where
      once : (b : Bool) → eq_by_cmp R q e.0 ≡ b
          → either (find R q es) (cond b (Some e.1) (get m q)) ≡ either (cond b (Some e.1) (find R q es)) (get m q)
      once true t = ap (λ f. either f (Some e.1)) (none_found R exact e es (left_of _ _ s) q t)
      once false t = refl

  piled_all : (m : FinMap R X) → piled (entries m) empty ≡ m
  piled_all m = same_map o exact _ _ (λ q.
      get-piled (entries m) (entries_sorted m) empty q
      ∙ ap (either (find R q (entries m))) (get-empty R q)
      ∙ nothing_more (find R q (entries m))
      ∙ sym (get-entries m q))

  -- what holds of what is found holds of each entry
  pub each_entry : (P : K → X → Type 0) (es : List (K × X)) → T (is_sorted R es)
      → ((k : K) (x : X) → find R k es ≡ Some x → P k x) → AllByRecursion (λ e. P e.0 e.1) es
  each_entry P [] s h = tt
  each_entry P (e ∷ es) s h = (
    h e.0 e.1 (ap (λ b. cond b (Some e.1) (find R e.0 es)) ((eq_by_cmp_equiv o).refl e.0)),
    each_entry P es (right_of _ _ s) (λ k x is. h k x (later k x is (eq_by_cmp R k e.0) refl)),
  )
    where
      later : (k : K) (x : X) → find R k es ≡ Some x → (b : Bool) → eq_by_cmp R k e.0 ≡ b
          → cond b (Some e.1) (find R k es) ≡ Some x
      later k x is true t = absurd (let no : ◌≡◌ {A = Option X} None (Some x) =
          sym (none_found R exact e es (left_of _ _ s) k t) ∙ is in cc)
      later k x is false t = is

-- ---- a table laid into contents is read back
abbrev CanLay : {K X : Type 0} → Table K X → K → X → Type 0
CanLay t k x = (t.unkey (t.key k) ≡ Some k) × (t.read (t.spell x) ≡ Some x)

module _ {K X : Type 0} {t : Table K X} {pick : Columns → FinMap t.cmp X}
    {put_in : Columns → FinMap t.cmp X → Columns} (is : IsColumn t pick put_in)
    (picked : (s : Columns) (m : FinMap t.cmp X) → pick (put_in s m) ≡ m)
    (again : (s : Columns) (m n : FinMap t.cmp X) → put_in (put_in s m) n ≡ put_in s n)
    (own : (s : Columns) → put_in s (pick s) ≡ s) where
  laid_in : (es : List (K × X)) (c : Contents) → AllByRecursion (λ e. CanLay t e.0 e.1) es
      → columns_in (laid t.key t.spell es c) ≡ put_in (columns_in c) (piled es (pick (columns_in c)))
  laid_in [] c all = sym (own (columns_in c))
  laid_in (e ∷ es) c all =
      let s : Columns = columns_in c in
      let m : FinMap t.cmp X = insert (pick s) e.0 e.1 in
      laid_in es (insert c (t.key e.0) (t.spell e.1)) all.1
      ∙ ap (λ r. put_in r (piled es (pick r))) (wrote is c _ (t.key e.0) e.0 e.1 refl refl all.0.0 all.0.1).columns
      ∙ ap (λ n. put_in (put_in s m) (piled es n)) (picked s m)
      ∙ again s m (piled es m)

  laid_whole : (m : FinMap t.cmp X) (c : Contents) (s : Columns) → columns_in c ≡ s → pick s ≡ empty
      → ((k : K) (x : X) → get m k ≡ Some x → CanLay t k x)
      → columns_in (laid t.key t.spell (entries m) c) ≡ put_in s m
  laid_whole m c s e none can =
      laid_in (entries m) c
      (each_entry is.law.total is.law.exact (CanLay t) (entries m) (entries_sorted m)
      (λ k x found. can k x (get-entries m k ∙ found)))
      ∙ ap (λ r. put_in r (piled (entries m) (pick r))) e
      ∙ ap (λ n. put_in s (piled (entries m) n)) none
      ∙ ap (put_in s) (piled_all is.law.total is.law.exact m)

-- ---- all of them
record CanLayAll (k : Columns) : Type 0 where
  accounts : (id : List ℕ) (a : Account) → get k.accounts id ≡ Some a → CanLay accounts_table id a
  keys : (q : List ℕ × PublicKey) (a : AccessKey) → get k.keys q ≡ Some a → CanLay keys_table q a
  code : (id v : List ℕ) → get k.code id ≡ Some v → CanLay code_table id v
  data_of : (q : Key) (v : List ℕ) → get k.data_of q ≡ Some v → CanLay data_table q v
  received : (q : Key) (v : Option (List ℕ)) → get k.received q ≡ Some v → CanLay received_table q v
  awaited : (q : Key) (v : Hash32) → get k.awaited q ≡ Some v → CanLay awaited_table q v
  missing : (q : Key) (n : ℕ) → get k.missing q ≡ Some n → CanLay missing_table q n
  postponed : (q : Key) (r : Receipt) → get k.postponed q ≡ Some r → CanLay postponed_table q r
  delayed : (n : ℕ) (r : Receipt) → get k.delayed n ≡ Some r → CanLay delayed_table n r
  queue : (q : ℕ × ℕ) → k.queue ≡ Some q → queue_of (queue_bytes q) ≡ Some q

queue_laid : (o : Option (ℕ × ℕ)) → ((q : ℕ × ℕ) → o ≡ Some q → queue_of (queue_bytes q) ≡ Some q) → (c : Contents)
    (s : Columns) → columns_in c ≡ s → s.queue ≡ None → columns_in (laid_queue o c) ≡ record s { queue = o }
queue_laid None can c s e none = e ∙ (λ i. record s { queue = none i })
queue_laid (Some q) can c s e none =
    (queue_wrote c _ queue_key q refl refl (can q refl)).columns ∙ ap (λ (r : Columns). record r { queue = Some q }) e

read_columns : (k : Columns) → CanLayAll k → columns_in (laid_columns k) ≡ k
unfolding laid_columns
read_columns k can =
    queue_laid k.queue can.queue _ _
    (laid_whole delayed_column (λ s m. refl) (λ s m n. refl) (λ s. refl) k.delayed _ _
    (laid_whole postponed_column (λ s m. refl) (λ s m n. refl) (λ s. refl) k.postponed _ _
    (laid_whole missing_column (λ s m. refl) (λ s m n. refl) (λ s. refl) k.missing _ _
    (laid_whole awaited_column (λ s m. refl) (λ s m n. refl) (λ s. refl) k.awaited _ _
    (laid_whole received_column (λ s m. refl) (λ s m n. refl) (λ s. refl) k.received _ _
    (laid_whole data_column (λ s m. refl) (λ s m n. refl) (λ s. refl) k.data_of _ _
    (laid_whole code_column (λ s m. refl) (λ s m n. refl) (λ s. refl) k.code _ _
    (laid_whole keys_column (λ s m. refl) (λ s m n. refl) (λ s. refl) k.keys _ _
    (laid_whole accounts_column (λ s m. refl) (λ s m n. refl) (λ s. refl) k.accounts _ _ no_columns_in refl
    can.accounts)
    refl can.keys) refl can.code) refl can.data_of) refl can.received) refl can.awaited) refl can.missing) refl
    can.postponed) refl can.delayed) refl

-- ---- the columns of a world
few_inputs : (b : Body) → IsBody b → length (inputs_of b) < 256 ^ 4
few_inputs (Act act) fits = fits.1.1.1.1.0.0
few_inputs (Datum d) fits = omega arith

module _ (w : World) (fits : IsWorld w) (are : ArePostponed w) where
  awaited_laid : (q : Key) (by : Hash32) → get (awaited_in w) q ≡ Some by → CanLay awaited_table q by
  awaited_laid q by is =
      let one = waiter w are q by is in
      let h = fits.postponed (q.0, by.0) one.receipt one.there in
      (comma_there q.0 q.1 h.0, ap read_of (whole_again record_fault hash_at hash_bytes IsHash hash_law by h.1.0))

  missing_laid : (q : Key) (n : ℕ) → get (missing_in w) q ≡ Some n → CanLay missing_table q n
  missing_laid q n is = by (get w.postponed q) refl (sym (missing_at w q) ∙ is)
    where
      by : (o : Option Receipt) → get w.postponed q ≡ o → option_map (missing_inputs w) o ≡ Some n
          → CanLay missing_table q n
      by None there e = absurd cc
      by (Some r) there e =
          let h = fits.postponed q r there in
          let count : missing_inputs w r ≡ n = cc in
          let small : n < 256 ^ 4 =
          subst (λ m. m < 256 ^ 4) count
          (omega (
            arith,
            count_by-le-length (is_missing w r.receiver) (inputs_of r.body),
            few_inputs r.body
                h.1.1.1.1.1,
          )) in
          (comma_there q.0 q.1 h.0, count_back n small)

  numbered_fits : (list : List Receipt) (from n : ℕ) (r : Receipt) → AllByRecursion IsReceipt list
      → find nat_cmp n (numbered from list) ≡ Some r → (n < from + length list) × IsReceipt r
  numbered_fits [] from n r all is = absurd cc
  numbered_fits (q ∷ rest) from n r all is =
      by (eq_by_cmp nat_cmp n from) refl is (numbered_fits rest (from + 1) n r all.1)
    where
      by : (b : Bool) → eq_by_cmp nat_cmp n from ≡ b → cond b (Some q) (find nat_cmp n (numbered (from + 1) rest))
          ≡ Some r
          → (find nat_cmp n (numbered (from + 1) rest) ≡ Some r → (n < (from + 1) + length rest) × IsReceipt r)
          → (n < from + length (q ∷ rest)) × IsReceipt r
      by true t e later =
          let at : n ≡ from = nat_cmp-IsAntisymmetric n from (equal _ t) in
          let same : q ≡ r = cc in
          (omega (arith, at), subst IsReceipt same all.0)
      by false t e later = let h = later e in (omega (arith, h.0), h.1)

  delayed_laid : (n : ℕ) (r : Receipt) → get (columns_of w).delayed n ≡ Some r → CanLay delayed_table n r
  delayed_laid n r is =
      let h = numbered_fits w.delayed w.served n r fits.delayed
      (sym (get-from_entries nat_cmp_total (numbered w.served w.delayed) n) ∙ is) in (
        number_there n (omega (arith, h.0, fits.served)),
        ap read_of (whole_again record_fault receipt_at receipt_bytes IsReceipt receipt_law r h.1),
      )

  queue_read : (q : ℕ × ℕ) → queue_in w ≡ Some q → queue_of (queue_bytes q) ≡ Some q
  queue_read q is = by ((w.served + length w.delayed) == 0) is
    where
      by : (b : Bool) → cond b None (Some (w.served, w.served + length w.delayed)) ≡ Some q → queue_of (queue_bytes q)
          ≡ Some q
      by true e = absurd cc
      by false e =
          let same : ◌≡◌ {A = ℕ × ℕ} (w.served, w.served + length w.delayed) q = cc in
          subst (λ (p : ℕ × ℕ). queue_of (queue_bytes p) ≡ Some p) same
          (queue_back w.served (w.served + length w.delayed) (omega (arith, fits.served)) (omega (arith, fits.served)))

  pub world_read : IsReadBack w
  unfolding flat
  world_read = read_columns (columns_of w) (record {
    accounts = λ id a is. (
      refl,
      ap read_of (whole_again record_fault account_at account_bytes IsAccount account_law a
          (fits.accounts id a is).1),
    );
    keys = λ q a is.
        let h = fits.keys q a is in (
          rest_there q.0 q.1 h.0 h.1.0,
          ap read_of (whole_again record_fault access_key_at access_key_bytes IsAccessKey
              access_key_law a h.1.1),
        );
    code = λ id v is. (refl, refl);
    data_of = λ q v is. (comma_there q.0 q.1 (fits.data_of q v is), refl);
    received = λ q v is.
        let h = fits.received q v is in (
          comma_there q.0 q.1 h.0,
          ap read_of
              (whole_again record_fault (option_at blob_at) (option_bytes counted_bytes) (IsOption IsCounted)
              (option_law blob_at counted_bytes IsCounted (blob_law record_fault)) v h.1.1),
        );
    awaited = awaited_laid;
    missing = missing_laid;
    postponed = λ q r is.
        let h = fits.postponed q r is in (
          comma_there q.0 q.1 h.0,
          ap read_of (whole_again record_fault receipt_at receipt_bytes IsReceipt receipt_law
              r h.1.1),
        );
    delayed = delayed_laid;
    queue = queue_read;
  })
