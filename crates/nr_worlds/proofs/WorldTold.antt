-- Entries are those of a valid world exactly where all tests pass.
use Rattle.std.proofs.Common.{◌≡◌, ℕ, ◌+◌, ◌<◌, ◌≤◌, ◌^◌, Bool, true, false, List, ◌∷◌, ◌++◌, ◌&&◌, length, Option, Some, None, refl, sym, ap, subst, ◌∙◌, arith}
use Rattle.std.specs.Prelude.{T, IsSome, nat_le, nat_lt, not}
use Rattle.std.specs.FinMap.{entries, entries_sorted, get, values}
use Rattle.std.specs.FinMap.Entries.{is_sorted}
use Rattle.std.specs.List.{list_all}
use Rattle.std.specs.Option.{option_and_then}
use Rattle.std.proofs.lemmas.Bool.{eqb-true, and_from, false_from_ne_true}
use Rattle.std.proofs.lemmas.Bool.Decides.{nat_tests}
use Rattle.nr_bytes.proofs.Basics.{left_true, right_true, same_test}
use Rattle.nr_bytes.specs.Numbers.{IsBytes}
use Rattle.nr_bytes.specs.Spelling.{Below, Both}
use Rattle.nr_config.specs.Config.{Config}
use Rattle.nr_ids.specs.Grammar.{id_fault}
use Rattle.nr_ids.specs.Keys.{key_bytes}
use Rattle.nr_ids.specs.declared.key.PublicKey.{PublicKey}
use Rattle.nr_records.specs.declared.receipt.Receipt.{Receipt}
use Rattle.nr_triedef.specs.Root.{Contents}
use Rattle.nr_columns.specs.Columns.{Columns, queue_bytes}
use Rattle.nr_columns.specs.Entries.{contents_of}
use Rattle.nr_columns.specs.Keys.{queue_key}
use Rattle.nr_columns.specs.Orders.{bytes_cmp}
use Rattle.nr_columns.specs.View.{ColumnsView, at_first, columns_in, data_table, key_of_rest, keys_table, postponed_table, queue_at, queue_of, received_table}
use Rattle.nr_columns.specs.declared.entry.Entry.{Entry}
use Rattle.nr_columns.proofs.Laid.{accounts_law, canon, canon_of, code_law, data_law, keys_law, postponed_law, received_law}
use Rattle.nr_columns.proofs.Tables.{unchecked}
use Rattle.nr_entries.specs.Order.{rises}
use Rattle.nr_entries.specs.Told.{AreBytes, are_told, is_id, is_id_and_hash, is_kept, is_key, is_owned, is_owned_key, is_received, is_told, is_told_in}
use Rattle.nr_entries.proofs.ColumnSums.{awaited_count, delayed_count, missing_count}
use Rattle.nr_entries.proofs.Columns.{queue_law, taken}
use Rattle.nr_entries.proofs.Contents.{laid_entries, read_from}
use Rattle.nr_entries.proofs.Rising.{all_pass, found_holds, holds_found, pass_all, rises_of}
use Rattle.nr_state.specs.Flat.{awaited_in, missing_in}
use Rattle.nr_state.specs.FromEntries.{AreWholeEntries}
use Rattle.nr_state.specs.Tokens.{world_tokens}
use Rattle.nr_state.specs.View.{ArePostponed, delayed_in, served_in, waiting_in, world_in}
use Rattle.nr_state.specs.World.{World}
use Rattle.nr_state.proofs.Awaiting.{Key, pair_exact, pair_total}
use Rattle.nr_state.proofs.EntryWorlds.{pairs_again}
use Rattle.nr_worlds.specs.Judging.{is_world}
use Rattle.nr_worlds.specs.Tests.{StandsFor, accounts_told, numbers_told, passes, queue_told, tokens_of, tokens_told, waiting_told}
use Rattle.nr_worlds.specs.Valid.{each, is_bounded, names_fit, numbers_fit, postponed_fits}
use Rattle.nr_worlds.proofs.AccountsTold.{accounts_fit_so, accounts_told_so}
use Rattle.nr_worlds.proofs.Passing.{all_bounded_so, apart_of, bounded_so, most_so}
use Rattle.nr_worlds.proofs.Queues.{delayed_is, queue_is, queue_so}
use Rattle.nr_worlds.proofs.Sound.{id_is, sound, world_fits}
use Rattle.nr_worlds.proofs.Tested.{each_of, each_so, lists_so, pair_is, same_so}
use Rattle.nr_worlds.proofs.ToldAgain.{told_by}
use Rattle.nr_worlds.proofs.WaitingReceipts.{values_each}
use Rattle.nr_worlds.proofs.WaitingTold.{act_so, awaited_is, missing_is, postponed_is, waiting_again, waits_so}

most_is : (a b : ℕ) → nat_le a b ≡ true → a ≤ b
most_is a b h = grind (arith, nat_tests)

below_so : (a b : ℕ) → a < b → nat_lt a b ≡ true
below_so a b h = grind (arith, nat_tests)

-- ---- entries that are told
module _ (es : List Entry) (bytes : AreBytes es) (order : rises es ≡ true) (told : are_told es ≡ true) where
  abbrev contents : Contents
  contents = contents_of es

  abbrev k : Columns
  k = columns_in contents

  abbrev w : World
  w = world_in k

  found_told : (b v : List ℕ) → get contents b ≡ Some v → is_told b v ≡ true
  found_told b v there = holds_found (λ b v. is_told b v ≡ true) es (all_pass is_told es told) b v there

  -- told under a key that begins with a column's byte
  byte_told : (n : ℕ) (rest v : List ℕ) → get contents (n ∷ rest) ≡ Some v → is_told_in n rest v ≡ true
  unfolding is_told
  byte_told n rest v there = found_told (n ∷ rest) v there

  key_named : (o : Option (List ℕ × PublicKey)) (q : List ℕ × PublicKey) → o ≡ Some q → is_owned_key o ≡ true → (is_id q.0 && is_key q.1) ≡ true
  key_named o q e h = subst (λ o. is_owned_key o ≡ true) e h

  owner_named : (o : Option (List ℕ × List ℕ)) (q : List ℕ × List ℕ) → o ≡ Some q → is_owned o ≡ true → is_id q.0 ≡ true
  owner_named o q e h = subst (λ o. is_owned o ≡ true) e h

  receiver_named : (o : Option (List ℕ × List ℕ)) (q : List ℕ × List ℕ) → o ≡ Some q → is_received o ≡ true → is_id_and_hash q ≡ true
  receiver_named o q e h = subst (λ o. is_received o ≡ true) e h

  pub names_told : names_fit w ≡ true
  names_told =
      and_from _ _ (and_from _ _ (and_from _ _ (and_from _ _ (and_from _ _
      (each_of accounts_law.total accounts_law.exact w.accounts _ (λ id a is.
      let one = read_from accounts_law contents id a is in
      left_true _ _ (byte_told 0 id one.value one.there)))
      (each_of keys_law.total keys_law.exact w.keys _ (λ q a is.
      let one = read_from keys_law contents q a is in
      let rest : List ℕ = q.0 ++ 2 ∷ key_bytes q.1 in
      key_named (key_of_rest rest) q (unchecked keys_table (2 ∷ rest) (key_of_rest rest) q one.at) (left_true _ _ (byte_told 2 rest one.value one.there)))))
      (each_of code_law.total code_law.exact w.code _ (λ id v is.
      let one = read_from code_law contents id v is in
      byte_told 1 id one.value one.there)))
      (each_of data_law.total data_law.exact w.data_of _ (λ q v is.
      let one = read_from data_law contents q v is in
      let rest : List ℕ = q.0 ++ 44 ∷ q.1 in
      owner_named (at_first 44 rest) q (unchecked data_table (9 ∷ rest) (at_first 44 rest) q one.at) (byte_told 9 rest one.value one.there))))
      (each_of received_law.total received_law.exact w.received _ (λ q v is.
      let one = read_from received_law contents q v is in
      let rest : List ℕ = q.0 ++ 44 ∷ q.1 in
      receiver_named (at_first 44 rest) q (unchecked received_table (3 ∷ rest) (at_first 44 rest) q one.at) (left_true _ _ (byte_told 3 rest one.value one.there)))))
      (each_of postponed_law.total postponed_law.exact w.postponed _ (λ q r is.
      let one = read_from postponed_law contents q r is in
      let rest : List ℕ = q.0 ++ 44 ∷ q.1 in
      receiver_named (at_first 44 rest) q (unchecked postponed_table (6 ∷ rest) (at_first 44 rest) q one.at) (left_true _ _ (byte_told 6 rest one.value one.there))))

  pub keyed_told : (q : Key) (r : Receipt) → get k.postponed q ≡ Some r → q ≡ (r.receiver, r.receipt_id.0)
  keyed_told q r is =
      let one = read_from postponed_law contents q r is in
      let rest : List ℕ = q.0 ++ 44 ∷ q.1 in
      let at : at_first 44 rest ≡ Some q = unchecked postponed_table (6 ∷ rest) (at_first 44 rest) q one.at in
      pair_is q (r.receiver, r.receipt_id.0) ((λ i. is_kept (sym at i) (sym one.read i)) ∙ right_true _ _ (byte_told 6 rest one.value one.there))

  -- ---- the queue's numbers
  queue_below : (q : ℕ × ℕ) → k.queue ≡ Some q → q.1 < 2 ^ 64
  queue_below q is = by (get contents queue_key) refl is
    where
      by : (o : Option (List ℕ)) → get contents queue_key ≡ o → option_and_then queue_of o ≡ Some q → q.1 < 2 ^ 64
      by None e h = absurd (let no : ◌≡◌ {A = Option (ℕ × ℕ)} None (Some q) = h in cc)
      by (Some v) e h =
          let fits = (taken queue_at queue_bytes (Both (Below (256 ^ 8)) (Below (256 ^ 8))) queue_law v q (holds_found (λ b v. IsBytes b × IsBytes v) es bytes queue_key v e).1 h).0 in
          omega (arith, fits.1)

  pub numbers_told_fit : queue_told k es ≡ true → numbers_fit w ≡ true
  numbers_told_fit h = by k.queue refl (left_true _ _ (left_true _ _ h)) (eqb-true _ _ (right_true _ _ h))
    where
      by : (q : Option (ℕ × ℕ)) → k.queue ≡ q → numbers_told q ≡ true → length (delayed_in k) ≡ waiting_in q → nat_lt (served_in k.queue + length (delayed_in k)) (2 ^ 64) ≡ true
      by None e t len =
          let served : served_in k.queue ≡ 0 = ap served_in e in
          let sum : served_in k.queue + length (delayed_in k) ≡ 0 = omega (arith, served, len) in
          ap (λ n. nat_lt n (2 ^ 64)) sum
      by (Some q) e t len =
          let served : served_in k.queue ≡ q.0 = ap served_in e in
          let most : q.1 < 2 ^ 64 = queue_below q e in
          let ordered : q.0 ≤ q.1 = most_is _ _ (right_true (nat_lt 0 q.1) (nat_le q.0 q.1) t) in
          let sum : served_in k.queue + length (delayed_in k) < 2 ^ 64 = omega (arith, served, len, most, ordered) in
          below_so _ _ sum

  -- ---- all that is derived
  pub whole_told : queue_told k es ≡ true → awaited_in w ≡ k.awaited → missing_in w ≡ k.missing → ArePostponed w → AreWholeEntries es
  whole_told queue awaited missing are =
      let count = delayed_count es bytes order told in
      record {
        entries = laid_entries es bytes order told;
        whole = record {
          derived = λ i. record k { awaited = awaited i; missing = missing i; queue = queue_is k es count queue i; delayed = delayed_is k es count queue i };
          postponed = are;
          fits = world_fits es bytes names_told (numbers_told_fit queue);
        };
      }

  -- ---- a valid world
  module _ (c : Config) where
    tokens_alike : tokens_of c (values k.accounts) (values k.postponed) (delayed_in k) ≡ world_tokens c w
    tokens_alike = omega arith

    pub world_told : passes c k es ≡ true → is_world c es ≡ true
    unfolding passes is_world
    world_told h =
        let Q : Bool = queue_told k es in
        let W : Bool = waiting_told k es in
        let A : Bool = accounts_told c k es in
        let P : Bool = list_all (is_bounded c) (values k.postponed) in
        let D : Bool = list_all (is_bounded c) (delayed_in k) in
        let N : Bool = nat_le (tokens_of c (values k.accounts) (values k.postponed) (delayed_in k)) (2 ^ 127) in
        let tokens : (P && D && N) ≡ true = right_true (Q && W && A) (tokens_told c k) h in
        let accounts : A ≡ true = right_true (Q && W) A (left_true (Q && W && A) (tokens_told c k) h) in
        let waiting : W ≡ true = right_true Q W (left_true (Q && W) A (left_true (Q && W && A) (tokens_told c k) h)) in
        let queue : Q ≡ true = left_true Q W (left_true (Q && W) A (left_true (Q && W && A) (tokens_told c k) h)) in
        let count4 = awaited_count es bytes order told in
        let count5 = missing_count es bytes order told in
        let are = postponed_is k es keyed_told count4 count5 waiting in
        let whole = whole_told queue (awaited_is k es keyed_told count4 count5 waiting) (missing_is k es keyed_told count4 count5 waiting) are in
        let bounded = each_so pair_total pair_exact k.postponed (λ q r. is_bounded c r) (sym (values_each (is_bounded c) (entries k.postponed)) ∙ left_true P D (left_true (P && D) N tokens)) in
        and_from _ _ (and_from _ _ (and_from _ _ (lists_so _ _ (pairs_again es whole)) names_told) (numbers_told_fit queue))
        (and_from _ _ (and_from _ _ (accounts_fit_so c es bytes order told accounts)
        (and_from _ _ (and_from _ _
        (each_of postponed_law.total postponed_law.exact w.postponed (postponed_fits c w) (λ q r is.
        and_from _ _ (and_from _ _ (and_from _ _ (and_from _ _ (same_so q _ (keyed_told q r is)) (act_so k es keyed_told count4 count5 waiting q r is))
        (ap not (are.each q r is).distinct)) (waits_so k es keyed_told count4 count5 waiting q r is)) (bounded q r is)))
        (apart_of w are)) (right_true P D (left_true (P && D) N tokens))))
        (ap (λ n. nat_le n (2 ^ 127)) (sym tokens_alike) ∙ right_true (P && D) N tokens))

-- ---- the entries of a valid world
module _ (c : Config) (es : List Entry) (bytes : AreBytes es) (h : is_world c es ≡ true) where
  world_rises : rises es ≡ true
  world_rises = rises_of es (subst (λ ps. T (is_sorted bytes_cmp ps)) (sound c es bytes h).whole.entries.order (entries_sorted (contents_of es)))

  world_are_told : are_told es ≡ true
  world_are_told =
      let o = sound c es bytes h in
      pass_all is_told es (found_holds (λ b v. is_told b v ≡ true) es world_rises (λ b v there.
      told_by es o.fits o.valid.waiting.postponed b v there (ap (canon b) (sym there) ∙ canon_of (contents_of es) o.whole.entries.laid b ∙ there)))

  world_passes : passes c (columns_in (contents_of es)) es ≡ true
  unfolding passes
  world_passes =
      let k : Columns = columns_in (contents_of es) in
      let o = sound c es bytes h in
      let derived = o.whole.whole.derived in
      let waiting = o.valid.waiting in
      and_from _ _ (and_from _ _ (and_from _ _
      (queue_so k es (delayed_count es bytes world_rises world_are_told) (ap (λ j. j.queue) derived) (ap (λ j. j.delayed) derived))
      (waiting_again k es (λ q r is. (waiting.postponed.each q r is).keyed) (awaited_count es bytes world_rises world_are_told) (missing_count es bytes world_rises world_are_told)
      (ap (λ j. j.awaited) derived) (ap (λ j. j.missing) derived) waiting.postponed waiting.actions waiting.waits))
      (accounts_told_so c es bytes world_rises world_are_told o.valid.accounts))
      (and_from _ _ (and_from _ _
      (values_each (is_bounded c) (entries k.postponed) ∙ each_of pair_total pair_exact k.postponed (λ q r. is_bounded c r) (λ q r is. bounded_so c r (waiting.bounded q r is)))
      (all_bounded_so c (delayed_in k) waiting.delayed))
      (ap (λ n. nat_le n (2 ^ 127)) (tokens_alike es bytes world_rises world_are_told c) ∙ most_so _ _ o.valid.tokens))

-- ---- the answers
pub passes_is : (c : Config) (es : List Entry) → AreBytes es → (rises es && are_told es) ≡ true → passes c (columns_in (contents_of es)) es ≡ is_world c es
passes_is c es bytes told = same_test _ _ (world_told es bytes (left_true _ _ told) (right_true _ _ told) c) (world_passes c es bytes)

pub untold_is : (c : Config) (es : List Entry) → AreBytes es → (rises es && are_told es) ≡ false → false ≡ is_world c es
untold_is c es bytes untold = sym (false_from_ne_true (is_world c es) (λ h.
    let no : true ≡ false = sym (and_from _ _ (world_rises c es bytes h) (world_are_told c es bytes h)) ∙ untold in cc))

pub passes_as : (c : Config) (es : List Entry) (v : ColumnsView) → AreBytes es → StandsFor es (Some v) → passes c v.columns es ≡ is_world c es
passes_as c es v bytes stands = ap (λ k. passes c k es) stands.1 ∙ passes_is c es bytes stands.0

-- the receivers of postponed receipts are account ids
pub postponed_named : (es : List Entry) (v : ColumnsView) → AreBytes es → StandsFor es (Some v) → (q : List ℕ × List ℕ) → IsSome (get v.columns.postponed q) → id_fault q.0 ≡ None
postponed_named es v bytes stands q has = by (get (columns_in (contents_of es)).postponed q) refl (subst (λ (k : Columns). IsSome (get k.postponed q)) stands.1 has)
  where
    by : (o : Option Receipt) → get (columns_in (contents_of es)).postponed q ≡ o → IsSome o → id_fault q.0 ≡ None
    by None e h = absurd (let no : false ≡ true = h in cc)
    by (Some r) e h =
        id_is q.0 (left_true _ _ (each_so postponed_law.total postponed_law.exact (columns_in (contents_of es)).postponed _
        (right_true _ _ (names_told es bytes (left_true _ _ stands.0) (right_true _ _ stands.0))) q r e))
