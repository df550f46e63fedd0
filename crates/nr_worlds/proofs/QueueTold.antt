-- Entries are those of a delayed queue exactly where their keys begin with its byte and its numbers are told.
use Rattle.std.proofs.Common.{◌≡◌, ℕ, Bool, true, false, List, [], ◌∷◌, ◌&&◌, Option, Some, None, Ordering, refl, sym, ap, subst, ◌∙◌}
use Rattle.std.specs.Prelude.{T, ◌==◌}
use Rattle.std.specs.FinMap.{FinMap, empty, entries, entries_sorted, get, get-empty, same_map}
use Rattle.std.specs.FinMap.Entries.{is_sorted}
use Rattle.std.specs.Option.{option_map}
use Rattle.nr_bytes.specs.Numbers.{IsBytes}
use Rattle.std.proofs.lemmas.Bool.{eqb-true, and_from, false_from_ne_true}
use Rattle.nr_bytes.proofs.Basics.{left_true, right_true, none≢some, same_test}
use Rattle.nr_ids.specs.declared.key.Hash32.{Hash32}
use Rattle.nr_records.specs.declared.receipt.Receipt.{Receipt}
use Rattle.nr_triedef.specs.Root.{Contents}
use Rattle.nr_columns.specs.Columns.{Columns}
use Rattle.nr_columns.specs.Entries.{contents_of}
use Rattle.nr_columns.specs.Orders.{bytes_cmp, pair_cmp}
use Rattle.nr_columns.specs.Tables.{Table, part}
use Rattle.nr_columns.specs.View.{ColumnsView, columns_in}
use Rattle.nr_columns.specs.declared.entry.Entry.{Entry}
use Rattle.nr_columns.proofs.Laid.{accounts_law, awaited_law, canon, canon_of, code_law, data_law, keys_law, missing_law, postponed_law, received_law}
use Rattle.nr_columns.proofs.Tables.{IsTable}
use Rattle.nr_entries.specs.Order.{rises}
use Rattle.nr_entries.specs.Told.{AreBytes, are_told, is_told, is_told_in}
use Rattle.nr_entries.proofs.ColumnSums.{delayed_count}
use Rattle.nr_entries.proofs.Columns.{IsOf, account_of, awaited_of, code_of, datum_of, key_of_entry, missing_of, postponed_of, received_of, tail_bytes}
use Rattle.nr_entries.proofs.Contents.{other_byte, read_from}
use Rattle.nr_entries.proofs.Rising.{all_pass, found_holds, holds_found, pass_all, rises_of}
use Rattle.nr_state.specs.Flat.{awaited_in, flat, missing_in, missing_inputs}
use Rattle.nr_state.specs.FromEntries.{world_from}
use Rattle.nr_state.specs.View.{ArePostponed, world_in}
use Rattle.nr_state.specs.World.{World}
use Rattle.nr_state.proofs.Awaiting.{Key, pair_exact, pair_total, waiter}
use Rattle.nr_state.proofs.EntryWorlds.{pairs_again}
use Rattle.nr_state.proofs.Missing.{missing_at}
use Rattle.nr_worlds.specs.Judging.{is_queue, queue_of}
use Rattle.nr_worlds.specs.Tests.{StandsFor, are_of_queue, is_of_queue, queue_told}
use Rattle.nr_worlds.proofs.AccountsTold.{in_map}
use Rattle.nr_worlds.proofs.Queues.{queue_so}
use Rattle.nr_worlds.proofs.Sound.{none_postponed, sound_queue}
use Rattle.nr_worlds.proofs.Tested.{lists_so}
use Rattle.nr_worlds.proofs.ToldAgain.{told_by}
use Rattle.nr_worlds.proofs.WorldTold.{numbers_told_fit, whole_told}

-- nothing is found in a map without entries
not_in : {K X : Type 0} {R : K → K → Ordering} (m : FinMap R X) (key : K) (x : X) → m ≡ empty → get m key ≡ Some x → ⊥
not_in {R = R} m key x e is = none≢some x (sym (ap (λ n. get n key) e ∙ get-empty R key) ∙ is)

-- ---- entries whose keys begin with the queue's byte
module _ (es : List Entry) (bytes : AreBytes es) (order : rises es ≡ true) (told : are_told es ≡ true) (of_queue : are_of_queue es ≡ true) where
  abbrev contents : Contents
  contents = contents_of es

  abbrev k : Columns
  k = columns_in contents

  abbrev w : World
  w = world_in k

  found_of_queue : (b v : List ℕ) → get contents b ≡ Some v → is_of_queue b ≡ true
  found_of_queue b v there = holds_found (λ b v. is_of_queue b ≡ true) es (all_pass (λ b v. is_of_queue b) es of_queue) b v there

  none_in : {K X : Type 0} {t : Table K X} → IsTable t → (n : ℕ) → (n == 7) ≡ false → ((key : K) → (bs : List ℕ) × (t.key key ≡ n ∷ bs)) → part t contents ≡ empty
  none_in {K} {X} {t = t} is n other heads = same_map is.total is.exact _ _ (λ q. by q (get (part t contents) q) refl ∙ sym (get-empty t.cmp q))
    where
      by : (q : K) (o : Option X) → get (part t contents) q ≡ o → o ≡ None
      by q None e = refl
      by q (Some x) e =
          let one = read_from is contents q x e in
          absurd (let no : false ≡ true = sym other ∙ ap is_of_queue (sym (heads q).1) ∙ found_of_queue (t.key q) one.value one.there in cc)

  awaited_none : k.awaited ≡ empty
  awaited_none = none_in awaited_law 4 refl (λ q. (_, refl))

  missing_none : k.missing ≡ empty
  missing_none = none_in missing_law 5 refl (λ q. (_, refl))

  postponed_none : k.postponed ≡ empty
  postponed_none = none_in postponed_law 6 refl (λ q. (_, refl))

  alone : queue_of w ≡ w
  alone = λ i. record w {
    accounts = sym (none_in accounts_law 0 refl (λ q. (_, refl))) i;
    keys = sym (none_in keys_law 2 refl (λ q. (_, refl))) i;
    code = sym (none_in code_law 1 refl (λ q. (_, refl))) i;
    data_of = sym (none_in data_law 9 refl (λ q. (_, refl))) i;
    received = sym (none_in received_law 3 refl (λ q. (_, refl))) i;
    postponed = sym postponed_none i;
  }

  are : ArePostponed w
  are = subst ArePostponed alone (none_postponed w)

  awaited_is : awaited_in w ≡ k.awaited
  awaited_is = same_map pair_total pair_exact _ _ (λ q. by q (get (awaited_in w) q) refl ∙ sym (ap (λ (m : FinMap pair_cmp Hash32). get m q) awaited_none ∙ get-empty pair_cmp q))
    where
      by : (q : Key) (o : Option Hash32) → get (awaited_in w) q ≡ o → o ≡ None
      by q None e = refl
      by q (Some by_id) e = let one = waiter w are q by_id e in absurd (not_in k.postponed (q.0, by_id.0) one.receipt postponed_none one.there)

  missing_is : missing_in w ≡ k.missing
  missing_is = same_map pair_total pair_exact _ _ (λ q.
      missing_at w q ∙ ap (option_map (missing_inputs w)) (ap (λ (m : FinMap pair_cmp Receipt). get m q) postponed_none ∙ get-empty pair_cmp q)
      ∙ sym (ap (λ (m : FinMap pair_cmp ℕ). get m q) missing_none ∙ get-empty pair_cmp q))

  pub queue_passes : queue_told k es ≡ true → is_queue es ≡ true
  unfolding is_queue
  queue_passes h =
      let whole = whole_told es bytes order told h awaited_is missing_is are in
      and_from _ _ (lists_so _ _ (ap (λ u. entries (flat u)) alone ∙ pairs_again es whole)) (numbers_told_fit es bytes order told h)

-- ---- the entries of a queue
module _ (es : List Entry) (bytes : AreBytes es) (h : is_queue es ≡ true) where
  abbrev k_of : Columns
  k_of = columns_in (contents_of es)

  queue_rises : rises es ≡ true
  queue_rises = rises_of es (subst (λ ps. T (is_sorted bytes_cmp ps)) (sound_queue es bytes h).whole.entries.order (entries_sorted (contents_of es)))

  postponed_of_queue : ArePostponed (world_from es)
  postponed_of_queue = subst ArePostponed (sound_queue es bytes h).alone (none_postponed (world_from es))

  found_is_told : (b v : List ℕ) → get (contents_of es) b ≡ Some v → is_told b v ≡ true
  found_is_told b v there =
      let o = sound_queue es bytes h in
      told_by es o.fits postponed_of_queue b v there (ap (canon b) (sym there) ∙ canon_of (contents_of es) o.whole.entries.laid b ∙ there)

  queue_are_told : are_told es ≡ true
  queue_are_told = pass_all is_told es (found_holds (λ b v. is_told b v ≡ true) es queue_rises found_is_told)

  queue_numbers : queue_told k_of es ≡ true
  queue_numbers =
      let derived = (sound_queue es bytes h).whole.whole.derived in
      queue_so k_of es (delayed_count es bytes queue_rises queue_are_told) (ap (λ j. j.queue) derived) (ap (λ j. j.delayed) derived)

  no_entry : {K X : Type 0} {t : Table K X} → IsTable t → (b v : List ℕ) → part t (contents_of es) ≡ empty → get (contents_of es) b ≡ Some v → IsOf t b v → ⊥
  no_entry {t = t} is b v none there one = not_in (part t (contents_of es)) one.key one.value none (in_map is (contents_of es) b v one there)

  no_awaited : k_of.awaited ≡ empty
  no_awaited = same_map pair_total pair_exact _ _ (λ q. by q (get k_of.awaited q) refl ∙ sym (get-empty pair_cmp q))
    where
      by : (q : Key) (o : Option Hash32) → get k_of.awaited q ≡ o → o ≡ None
      by q None e = refl
      by q (Some by_id) e =
          let o = sound_queue es bytes h in
          let one = waiter (world_from es) postponed_of_queue q by_id (ap (λ j. get j.awaited q) o.whole.whole.derived ∙ e) in
          absurd (not_in k_of.postponed (q.0, by_id.0) one.receipt (sym (ap (λ u. u.postponed) o.alone)) one.there)

  no_missing : k_of.missing ≡ empty
  no_missing = same_map pair_total pair_exact _ _ (λ q.
      let o = sound_queue es bytes h in
      ap (λ j. get j.missing q) (sym o.whole.whole.derived) ∙ missing_at (world_from es) q
      ∙ ap (option_map (missing_inputs (world_from es))) (ap (λ (u : World). get u.postponed q) (sym o.alone) ∙ get-empty pair_cmp q)
      ∙ sym (get-empty pair_cmp q))

  of_queue_by : (n : ℕ) (rest v : List ℕ) → get (contents_of es) (n ∷ rest) ≡ Some v → IsBytes (n ∷ rest) → IsBytes v → is_told_in n rest v ≡ true → (n == 7) ≡ true
  of_queue_by n rest v there key_fits fits t =
      at_byte (n == 0) (n == 1) (n == 2) (n == 3) (n == 4) (n == 5) (n == 6) (n == 7) (n == 9) refl refl refl refl refl refl refl refl refl
    where
      alone_es : queue_of (world_from es) ≡ world_from es
      alone_es = (sound_queue es bytes h).alone

      this : {A : Type 0} (m : ℕ) → (n == m) ≡ true → (get (contents_of es) (m ∷ rest) ≡ Some v → is_told_in m rest v ≡ true → ⊥) → A
      this m e f =
          let same : n ≡ m = eqb-true n m e in
          absurd (f (subst (λ j. get (contents_of es) (j ∷ rest) ≡ Some v) same there) (subst (λ j. is_told_in j rest v ≡ true) same t))

      at_byte : (b0 b1 b2 b3 b4 b5 b6 b7 b9 : Bool) → (n == 0) ≡ b0 → (n == 1) ≡ b1 → (n == 2) ≡ b2 → (n == 3) ≡ b3 → (n == 4) ≡ b4 → (n == 5) ≡ b5 → (n == 6) ≡ b6 → (n == 7) ≡ b7 → (n == 9) ≡ b9 → b7 ≡ true
      at_byte b0 b1 b2 b3 b4 b5 b6 true b9 e0 e1 e2 e3 e4 e5 e6 e7 e9 = refl
      at_byte true b1 b2 b3 b4 b5 b6 false b9 e0 e1 e2 e3 e4 e5 e6 e7 e9 = this 0 e0 (λ there t. no_entry accounts_law _ v (sym (ap (λ u. u.accounts) alone_es)) there (account_of rest v fits t))
      at_byte false true b2 b3 b4 b5 b6 false b9 e0 e1 e2 e3 e4 e5 e6 e7 e9 = this 1 e1 (λ there t. no_entry code_law _ v (sym (ap (λ u. u.code) alone_es)) there (code_of rest v))
      at_byte false false true b3 b4 b5 b6 false b9 e0 e1 e2 e3 e4 e5 e6 e7 e9 = this 2 e2 (λ there t. no_entry keys_law _ v (sym (ap (λ u. u.keys) alone_es)) there (key_of_entry rest v (tail_bytes n rest key_fits) fits t))
      at_byte false false false true b4 b5 b6 false b9 e0 e1 e2 e3 e4 e5 e6 e7 e9 = this 3 e3 (λ there t. no_entry received_law _ v (sym (ap (λ u. u.received) alone_es)) there (received_of rest v fits t))
      at_byte false false false false true b5 b6 false b9 e0 e1 e2 e3 e4 e5 e6 e7 e9 = this 4 e4 (λ there t. no_entry awaited_law _ v no_awaited there (awaited_of rest v fits t))
      at_byte false false false false false true b6 false b9 e0 e1 e2 e3 e4 e5 e6 e7 e9 = this 5 e5 (λ there t. no_entry missing_law _ v no_missing there (missing_of rest v fits t))
      at_byte false false false false false false true false b9 e0 e1 e2 e3 e4 e5 e6 e7 e9 = this 6 e6 (λ there t. no_entry postponed_law _ v (sym (ap (λ u. u.postponed) alone_es)) there (postponed_of rest v fits t))
      at_byte false false false false false false false false true e0 e1 e2 e3 e4 e5 e6 e7 e9 = this 9 e9 (λ there t. no_entry data_law _ v (sym (ap (λ u. u.data_of) alone_es)) there (datum_of rest v t))
      at_byte false false false false false false false false false e0 e1 e2 e3 e4 e5 e6 e7 e9 =
          absurd (let never : false ≡ true = sym (other_byte n rest v e0 e1 e2 e3 e4 e5 e6 e7 e9) ∙ t in cc)

  of_queue_one : (b v : List ℕ) → get (contents_of es) b ≡ Some v → is_told b v ≡ true → is_of_queue b ≡ true
  unfolding is_told
  of_queue_one [] v there t = absurd (let never : false ≡ true = t in cc)
  of_queue_one (n ∷ rest) v there t =
      let fits = holds_found (λ b v. IsBytes b × IsBytes v) es bytes (n ∷ rest) v there in
      of_queue_by n rest v there fits.0 fits.1 t

  all_of_queue : are_of_queue es ≡ true
  all_of_queue = pass_all (λ b v. is_of_queue b) es (found_holds (λ b v. is_of_queue b ≡ true) es queue_rises (λ b v there. of_queue_one b v there (found_is_told b v there)))

-- ---- the answers
pub queue_told_is : (es : List Entry) → AreBytes es → are_of_queue es ≡ true → (rises es && are_told es) ≡ true → queue_told (columns_in (contents_of es)) es ≡ is_queue es
queue_told_is es bytes of_queue told = same_test _ _ (queue_passes es bytes (left_true _ _ told) (right_true _ _ told) of_queue) (queue_numbers es bytes)

pub queue_untold_is : (es : List Entry) → AreBytes es → (rises es && are_told es) ≡ false → is_queue es ≡ false
queue_untold_is es bytes untold = false_from_ne_true (is_queue es) (λ h.
    let no : true ≡ false = sym (and_from _ _ (queue_rises es bytes h) (queue_are_told es bytes h)) ∙ untold in cc)

pub queue_other_is : (es : List Entry) → AreBytes es → are_of_queue es ≡ false → is_queue es ≡ false
queue_other_is es bytes other = false_from_ne_true (is_queue es) (λ h. let no : true ≡ false = sym (all_of_queue es bytes h) ∙ other in cc)

pub queue_told_as : (es : List Entry) (v : ColumnsView) → AreBytes es → are_of_queue es ≡ true → StandsFor es (Some v) → queue_told v.columns es ≡ is_queue es
queue_told_as es v bytes of_queue stands = ap (λ k. queue_told k es) stands.1 ∙ queue_told_is es bytes of_queue stands.0
