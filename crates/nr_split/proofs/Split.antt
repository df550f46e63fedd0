-- The entries that are put together are those of the worlds of the cut.
use Rattle.std.proofs.Common.{◌≡◌, ℕ, ◌+◌, ◌^◌, ◌<◌, ◌≤◌, Bool, true, false, cond, List, [], ◌∷◌, ◌++◌, length, map}
use Rattle.std.proofs.Common.{Option, None, Ok, Err, refl, sym, ap, subst, ◌∙◌, arith}
use Rattle.std.specs.Prelude.{◌==◌, ◌&&◌, not, IfOk, OnOk, Result}
use Rattle.std.specs.declared.alloc.AllocError.{AllocError}
use Rattle.std.specs.Cmp.Lexicographic.{nat_list_cmp_total}
use Rattle.std.specs.FinMap.{entries, get, same_map}
use Rattle.std.specs.List.{AllByRecursion, flat_map, range_with_len}
use Rattle.std.proofs.lemmas.Map.Lookups.{exact_bytes}
use Rattle.nr_columns.specs.Columns.{laid_columns}
use Rattle.nr_columns.specs.Entries.{contents_of, pairs_of}
use Rattle.nr_columns.specs.View.{columns_in}
use Rattle.nr_columns.specs.declared.entry.Entry.{Entry}
use Rattle.nr_config.specs.Config.{Config}
use Rattle.nr_cut.proofs.Cuts.{keeps_worlds}
use Rattle.nr_cut.proofs.Maps.{either, get-part}
use Rattle.nr_cut.proofs.Worlds.{each_kept}
use Rattle.nr_cut.specs.Cut.{HasOnly, all_beside, cut_world, cut_worlds, lives_in}
use Rattle.nr_cut.specs.Laws.{CanCut}
use Rattle.nr_layout.specs.Layout.{out_to, shard_of}
use Rattle.nr_records.specs.Receipts.{IsReceipt}
use Rattle.nr_records.specs.declared.receipt.Receipt.{Receipt}
use Rattle.nr_split.proofs.Found.{firsts, found_owned}
use Rattle.nr_split.proofs.Joined.{IsFound, all_found, unqueued}
use Rattle.nr_split.proofs.Worlds.{all_receipts, fewer, fits_all, fits_part, queued}
use Rattle.nr_split.specs.Owned.{is_queued, owned_of}
use Rattle.nr_split.specs.Split.{delayed_of, entries_cut, entries_in, entries_split, with_queue}
use Rattle.nr_state.proofs.EntryWorlds.{entries_again, entries_whole, flat_again, read_again, world_fits}
use Rattle.nr_state.proofs.OverEntries.{entries_of_part, read_part}
use Rattle.nr_state.specs.Entries.{IsReadBack, is_of}
use Rattle.nr_state.specs.Flat.{columns_of, flat}
use Rattle.nr_state.specs.FromEntries.{AreWholeEntries, world_from}
use Rattle.nr_state.specs.Keyed.{IsKeyed}
use Rattle.nr_state.specs.Scopes.{part_of}
use Rattle.nr_state.specs.Valid.{IsValidWorld}
use Rattle.nr_state.specs.World.{World}
use Rattle.nr_state.specs.Worlds.{IsWorld}
use Rattle.nr_triedef.specs.Root.{Contents}

-- ---- entries as pairs
pairs_back : (ps : List (List ℕ × List ℕ))
    → map (λ (e : Entry). (e.key, e.value)) (map (λ (p : List ℕ × List ℕ). record { key = p.0; value = p.1 }) ps) ≡ ps
pairs_back [] = refl
pairs_back (p ∷ ps) = ap (λ t. p ∷ t) (pairs_back ps)

pairs_in : (c : Contents) → pairs_of (entries_in c) ≡ entries c
pairs_in c = pairs_back (entries c)

-- ---- what holds of each world
keyed_of : (c : Config) (w : World) → IsValidWorld c w → IsKeyed w
keyed_of c w valid k r is = sym (ap (λ (key : List ℕ × List ℕ). key.0) (valid.waiting.postponed.each k r is).keyed)

all_keyed : (c : Config) (ws : List World) → AllByRecursion (IsValidWorld c) ws → AllByRecursion IsKeyed ws
all_keyed c [] all = tt
all_keyed c (w ∷ ws) all = (keyed_of c w all.0, all_keyed c ws all.1)

all_read : (worlds : List (List Entry)) → AllByRecursion AreWholeEntries worlds
    → AllByRecursion IsReadBack (map world_from worlds)
all_read [] all = tt
all_read (es ∷ worlds) all = (read_again es all.0, all_read worlds all.1)

all_fit : (worlds : List (List Entry)) → AllByRecursion AreWholeEntries worlds
    → AllByRecursion IsWorld (map world_from worlds)
all_fit [] all = tt
all_fit (es ∷ worlds) all = (world_fits es all.0, all_fit worlds all.1)

firsts_again : (k : List ℕ) (worlds : List (List Entry)) → AllByRecursion AreWholeEntries worlds
    → firsts (λ w. get (flat w) k) (map world_from worlds) ≡ firsts (λ es. get (contents_of es) k) worlds
firsts_again k [] all = refl
firsts_again k (es ∷ worlds) all = λ i.
    either (get (flat_again es all.0 i) k) (firsts_again k worlds all.1 i)

delayed_again : (worlds : List (List Entry)) → flat_map (λ w. w.delayed) (map world_from worlds) ≡ delayed_of worlds
delayed_again [] = refl
delayed_again (es ∷ worlds) = ap (λ l. (world_from es).delayed ++ l) (delayed_again worlds)

as_laid : (w : World) → flat w ≡ laid_columns (columns_of w)
unfolding flat
as_laid w = refl

module _ (c : Config) (old new : List (List ℕ)) (worlds : List (List Entry))
    (all : AllByRecursion AreWholeEntries worlds)
    (can : CanCut c old (map world_from worlds)) (few : length (delayed_of worlds) < 2 ^ 64) where
  abbrev ws : List World
  ws = map world_from worlds

  abbrev b : World
  b = unqueued (all_beside ws)

  zero_on : (k : ℕ) → k ≡ 0 + k
  zero_on k = omega arith

  found : IsFound old ws
  found =
      all_found old 0 ws (λ k w e. subst (λ n. HasOnly (lives_in old n) w) (zero_on k) (can.apart k w e))
      (all_keyed c ws can.valid) (all_read worlds all)

  module _ (x : List ℕ → Bool) where
    part_flat : contents_of (owned_of x worlds) ≡ flat (part_of x b)
    part_flat =
        same_map nat_list_cmp_total exact_bytes _ _ (λ q.
        found_owned x q worlds
        ∙ split (is_of x q) (is_queued q) (firsts (λ es. get (contents_of es) q) worlds)
        ∙ ap (λ o. cond (is_of x q) o None)
        (sym (found.found q ∙ ap (cond (is_queued q) None) (firsts_again q worlds all)))
        ∙ sym (get-part nat_list_cmp_total exact_bytes (flat b) (is_of x) q))
        ∙ sym (entries_of_part x b found.keyed found.read)
      where
        split : (a q : Bool) (o : Option (List ℕ)) → cond (a && not q) o None ≡ cond a (cond q None o) None
        split true true o = refl
        split true false o = refl
        split false q o = refl

    part_columns : columns_in (contents_of (owned_of x worlds)) ≡ columns_of (part_of x b)
    part_columns = ap columns_in part_flat ∙ read_part x b found.keyed found.read

    cut_pairs : (delayed : List Receipt)
        → pairs_of (entries_cut x worlds delayed) ≡ entries (flat (queued (part_of x b) delayed))
    cut_pairs delayed =
        pairs_in (laid_columns (with_queue (columns_in (contents_of (owned_of x worlds))) delayed))
        ∙ ap entries (ap (λ k. laid_columns (with_queue k delayed)) part_columns
        ∙ sym (as_laid (queued (part_of x b) delayed)))

  -- ---- the world of a shard
  abbrev list : ℕ → List Receipt
  list s = out_to new s (delayed_of worlds)

  world_is : (s : ℕ) → queued (part_of (lives_in new s) b) (list s) ≡ cut_world new ws s
  unfolding cut_world
  world_is s = λ i. queued (part_of (lives_in new s) b) (out_to new s (sym (delayed_again worlds) i))

  world_fits_here : (s : ℕ) → IsWorld (cut_world new ws s)
  world_fits_here s =
      subst IsWorld (world_is s)
      (fits_part (lives_in new s) b (list s) (fits_all ws (all_fit worlds all))
      (each_kept IsReceipt (λ r. shard_of new r.receiver == s) (delayed_of worlds)
      (subst (AllByRecursion IsReceipt) (delayed_again worlds) (all_receipts ws (all_fit worlds all))))
      (fewer (λ r. shard_of new r.receiver == s) (delayed_of worlds) (2 ^ 64) few))

  here : (s : ℕ) → pairs_of (entries_cut (lives_in new s) worlds (list s)) ≡ entries (flat (cut_world new ws s))
  here s = cut_pairs (lives_in new s) (list s) ∙ ap (λ w. entries (flat w)) (world_is s)

  record Are (ns : List ℕ) : Type 0 where
    whole : AllByRecursion AreWholeEntries (map (λ s. entries_cut (lives_in new s) worlds (list s)) ns)
    worlds_are : map world_from (map (λ s. entries_cut (lives_in new s) worlds (list s)) ns)
        ≡ map (cut_world new ws) ns

  are : (ns : List ℕ) → AllByRecursion (IsValidWorld c) (map (cut_world new ws) ns) → Are ns
  are [] valid = record { whole = tt; worlds_are = refl }
  are (s ∷ ns) valid =
      let fits : IsWorld (cut_world new ws s) = world_fits_here s in
      let postponed = valid.0.waiting.postponed in
      let es : List Entry = entries_cut (lives_in new s) worlds (list s) in
      let rest : Are ns = are ns valid.1 in
      record {
        whole = (entries_whole (cut_world new ws s) fits postponed es (here s), rest.whole);
        worlds_are = λ i.
            entries_again (cut_world new ws s) fits postponed es (here s) i ∷ rest.worlds_are i;
      }

  all_are : Are (range_with_len 0 (length new + 1))
  all_are = are (range_with_len 0 (length new + 1)) (keeps_worlds c old new ws can).valid

  pub split_whole : AllByRecursion AreWholeEntries (entries_split new worlds)
  split_whole = all_are.whole

  pub split_are : map world_from (entries_split new worlds) ≡ cut_worlds new ws
  split_are = all_are.worlds_are

-- ---- the answer of the call
abbrev Split : Type 0
Split = Result (List (List Entry)) AllocError

below : (n : ℕ) → n ≤ 2 ^ 63 → n < 2 ^ 64
below n few = omega (arith, few)

module _ (new : List (List ℕ)) (worlds : List (List Entry)) (all : AllByRecursion AreWholeEntries worlds) where
  pub answer_whole : (r : Split) → IfOk r (λ found. found ≡ entries_split new worlds)
      → OnOk r (length (delayed_of worlds) ≤ 2 ^ 63) → (c : Config) (old : List (List ℕ))
      → CanCut c old (map world_from worlds) → IfOk r (AllByRecursion AreWholeEntries)
  answer_whole (Ok split) is few c old can =
      subst (AllByRecursion AreWholeEntries) (sym is) (split_whole c old new worlds all can (below (length (delayed_of worlds)) few))
  answer_whole (Err e) is few c old can = tt

  pub answer_worlds : (r : Split) → IfOk r (λ found. found ≡ entries_split new worlds)
      → OnOk r (length (delayed_of worlds) ≤ 2 ^ 63) → (c : Config) (old : List (List ℕ))
      → CanCut c old (map world_from worlds)
      → IfOk r (λ found. map world_from found ≡ cut_worlds new (map world_from worlds))
  answer_worlds (Ok split) is few c old can =
      ap (map world_from) is ∙ split_are c old new worlds all can (below (length (delayed_of worlds)) few)
  answer_worlds (Err e) is few c old can = tt
