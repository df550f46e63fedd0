-- What the phases of a chunk make of a world that lives in its shard.
use Rattle.std.proofs.Common.{◌≡◌, ℕ, zero, suc, ◌+◌, ◌<◌, Bool, true, false, cond, List, [], ◌∷◌, ◌++◌, map, length}
use Rattle.std.proofs.Common.{Some, None, Ok, Err, refl, sym, ap, subst, ◌∙◌, arith}
use Rattle.std.specs.Prelude.{fold, slice_get, slice_index_or, sum_by, unwrap_or}
use Rattle.std.specs.Cmp.Lexicographic.{nat_list_cmp_total}
use Rattle.std.specs.FinMap.{get}
use Rattle.std.specs.List.{AllByRecursion, range_with_len}
use Rattle.std.proofs.lemmas.List.Sums.{sum_by-cons}
use Rattle.std.proofs.lemmas.Map.Lookups.{exact_bytes}
use Rattle.nr_apart.proofs.Only.{only_world}
use Rattle.nr_apart.specs.Apart.{AreTo, StartsApart, StaysApart}
use Rattle.nr_chunk.proofs.Localized.{valid_keyed}
use Rattle.nr_chunk.proofs.OverChunk.{IsFor, Stays, opened_over, opened_stays, taken_over, taken_stays}
use Rattle.nr_chunk.specs.Chain.{Chain, IsChain, chunk_at, opened_first, place_at, rules_of, shards_of}
use Rattle.nr_chunk.specs.Chunk.{Opening, begun, by_conversion, convert_all, convert_next, is_local, open_chunk}
use Rattle.nr_chunk.specs.Chunk.{put_aside, serve_delayed, served_local, take_list, with_converted}
use Rattle.nr_chunk.specs.Lawful.{one_each}
use Rattle.nr_chunk.specs.Start.{start_list, start_world}
use Rattle.nr_chunk.specs.StartSums.{start_valid}
use Rattle.nr_chunk.specs.Views.{Kept, Working}
use Rattle.nr_config.specs.Config.{Config}
use Rattle.nr_cut.proofs.Maps.{absent, test_of, test_same}
use Rattle.nr_cut.proofs.Worlds.{owned}
use Rattle.nr_cut.specs.Cut.{HasOnly, lives_in}
use Rattle.nr_layout.specs.Layout.{out_to, shard_of}
use Rattle.nr_overlap.proofs.Bounds.{IsNeverMade}
use Rattle.nr_overlap.proofs.SerialLemmas.{work_first, work_next}
use Rattle.nr_overlap.proofs.Staying.{StaysGood, good_world}
use Rattle.nr_overlap.specs.Balance.{Amount}
use Rattle.nr_overlap.specs.Rules.{Rules}
use Rattle.nr_overlap.specs.Serial.{last_work, with_list, work, world_after}
use Rattle.nr_receipt.proofs.OverExecution.{owned as owned_scope}
use Rattle.nr_records.specs.declared.chunk_result.ChunkResult.{ChunkResult}
use Rattle.nr_records.specs.declared.receipt.Receipt.{Receipt}
use Rattle.nr_records.specs.declared.transaction.Transaction.{Transaction}
use Rattle.nr_state.proofs.OverCalls.{over_itself}
use Rattle.nr_state.proofs.OverMaps.{get-over}
use Rattle.nr_state.proofs.ValidOwned.{exact_data, pair_total, same_id}
use Rattle.nr_state.specs.Calls.{Called}
use Rattle.nr_state.specs.Local.{IsLocal}
use Rattle.nr_state.specs.Scopes.{Scope, all_of, over}
use Rattle.nr_state.specs.World.{World, no_world}
use Rattle.nr_state.specs.declared.calls.CallContext.{CallContext}
use Rattle.nr_state.specs.declared.place.Place.{Place}
use Rattle.nr_txconvert.proofs.OverConversion.{GoesTo, convert_goes, convert_over, over_conversion}
use Rattle.nr_txconvert.specs.Conversion.{Conversion, by_signer, convert}
use Rattle.nr_txconvert.specs.declared.converted.Converted.{Converted}

-- ---- a world that lives in a scope
record Lives (x : List ℕ → Bool) (w : World) : Type 0 where
  only : HasOnly x w
  stays : Stays x w

push : {A : Type 0} (P : A → Type 0) (xs : List A) (y : A) → AllByRecursion P xs → P y → AllByRecursion P (xs ++ y ∷ [])
push P [] y all here = (here, tt)
push P (x ∷ xs) y all here = (all.0, push P xs y all.1 here)

-- the world of a conversion that is put together from two
came_over : (p : Scope) (w : World) (made : World × Converted) → Ok made ≡ over_conversion p w (Ok made)
    → made.0 ≡ over p made.0 w
came_over p w made e = cc

-- postponed receipts and the queue are those of another world
same_waiting : (x : List ℕ → Bool) (u w : World) → u ≡ over owned_scope u w → Stays x w → Stays x u
same_waiting x u w is h = record {
  keyed = λ k r there.
      h.keyed k r (sym (get-over pair_total exact_data (λ k. false) u.postponed w.postponed k)
      ∙ ap (λ (t : World). get t.postponed k) (sym is) ∙ there);
  queued = subst (AllByRecursion (IsFor x)) (sym (ap (λ (t : World). t.delayed) is)) h.queued;
}

module _ (c : Config) (call : World → CallContext → Called) (local : IsLocal call) (x : List ℕ → Bool) where
  self : (k : Working) → record k { world = over (all_of x) k.world k.world } ≡ k
  self k = λ i. record k { world = over_itself (all_of x) k.world i }

  -- ---- lists
  takes : (list : List Receipt) (k : Working) → Lives x k.world → AllByRecursion (IsFor x) list
      → Lives x (take_list c call k list).world
  takes list k h all = record {
    only = only_world x (take_list c call k list).world k.world (ap (λ (l : Working). l.world)
        (ap (λ l. take_list c call l list) (sym (self k))
        ∙ taken_over x k.world h.stays.keyed c call local list k h.stays all)) h.only;
    stays = taken_stays x k.world h.stays.keyed c call local list k h.stays all;
  }

  -- ---- the queue: an opening without transactions
  none_opened : (k : Working) → open_chunk c call k [] ≡ serve_delayed c call k
  unfolding open_chunk
  none_opened k = refl

  serves : (k : Working) → Lives x k.world → Lives x (serve_delayed c call k).world
  serves k h =
      subst (λ (l : Working). Lives x l.world) (none_opened k) (record {
        only = only_world x (open_chunk c call k []).world k.world (ap (λ (l : Working). l.world)
            (ap (λ l. open_chunk c call l []) (sym (self k))
            ∙ opened_over x k.world h.stays.keyed c call local k [] h.stays tt)) h.only;
        stays = opened_stays x k.world h.stays.keyed c call local k [] h.stays tt;
      })

  -- ---- transactions: one whose signer lives elsewhere is refused
  record Opens (o : Opening) : Type 0 where
    lives : Lives x o.working.world
    listed : AllByRecursion (IsFor x) o.local

  aside : (b : Bool) (k : Working) (list : List Receipt) (r : Receipt) → (b ≡ true → IsFor x r) → Lives x k.world
      → AllByRecursion (IsFor x) list → Opens (put_aside b k list r)
  aside true k list r here h all = record { lives = h; listed = push (IsFor x) list r all (here refl) }
  aside false k list r here h all = record { lives = h; listed = all }

  by_came : (o : Opening) (tx : Transaction) (came : Conversion) → x tx.signer ≡ true → Opens o
      → came ≡ over_conversion (all_of x) o.working.world came
      → came ≡ over_conversion owned_scope o.working.world came → GoesTo tx.receiver came
      → Opens (by_conversion o tx came)
  by_came o tx (Ok made) here h inside apart goes =
      let within : made.0 ≡ over (all_of x) made.0 o.working.world =
      came_over (all_of x) o.working.world made inside in
      let own : made.0 ≡ over owned_scope made.0 o.working.world =
      came_over owned_scope o.working.world made apart in
      aside (is_local tx) (with_converted o.working tx made.0 made.1) o.local made.1.receipt
      (λ e. ap x (goes ∙ sym (same_id tx.signer tx.receiver e)) ∙ here)
      (record {
        only = only_world x made.0 o.working.world within h.lives.only;
        stays = same_waiting x made.0 o.working.world own h.lives.stays;
      }) h.listed
  by_came o tx (Err fault) here h inside apart goes = record { lives = h.lives; listed = h.listed }

  next : (o : Opening) (tx : Transaction) → Opens o → Opens (convert_next c o tx)
  unfolding convert_next convert
  next o tx h = by (x tx.signer) refl
    where
      w : World
      w = o.working.world

      place : Place
      place = o.working.place

      by : (b : Bool) → x tx.signer ≡ b → Opens (by_conversion o tx (convert c w tx place))
      by true here =
          by_came o tx (convert c w tx place) here h
          (ap (λ u. convert c u tx place) (sym (over_itself (all_of x) w))
          ∙ convert_over (all_of x) w c tx place here here w)
          (ap (λ u. convert c u tx place) (sym (over_itself owned_scope w))
          ∙ convert_over owned_scope w c tx place refl refl w)
          (convert_goes c w tx place)
      by false away =
          let none : get w.accounts tx.signer ≡ None =
          absent nat_list_cmp_total exact_bytes (λ id. id) x w.accounts tx.signer (owned x w h.lives.only).accounts away
          in
          subst (λ a. Opens (by_conversion o tx (by_signer c w tx place a))) (sym none)
          (record { lives = h.lives; listed = h.listed })

  all_next : (txs : List Transaction) (o : Opening) → Opens o → Opens (fold (convert_next c) o txs)
  all_next [] o h = h
  all_next (tx ∷ txs) o h = all_next txs (convert_next c o tx) (next o tx h)

  opens : (txs : List Transaction) (k : Working) → Lives x k.world → Lives x (open_chunk c call k txs).world
  unfolding open_chunk
  opens txs k h =
      let o : Opening = convert_all c k txs in
      let s : Opens o = all_next txs (record { working = k; local = [] }) (record { lives = h; listed = tt }) in
      serves (served_local c call o) (takes o.local o.working s.lives s.listed)

-- ---- receivers
to_test : (bs : List (List ℕ)) (s : ℕ) (list : List Receipt) → AreTo bs s list
    → AllByRecursion (IsFor (lives_in bs s)) list
to_test bs s [] all = tt
to_test bs s (r ∷ rest) all = (test_same (shard_of bs r.receiver) s all.0, to_test bs s rest all.1)

of_test : (bs : List (List ℕ)) (s : ℕ) (list : List Receipt) → AllByRecursion (IsFor (lives_in bs s)) list
    → AreTo bs s list
of_test bs s [] all = tt
of_test bs s (r ∷ rest) all = (test_of (shard_of bs r.receiver) s all.0, of_test bs s rest all.1)

filtered : (bs : List (List ℕ)) (s : ℕ) (list : List Receipt)
    → AllByRecursion (IsFor (lives_in bs s)) (out_to bs s list)
filtered bs s [] = tt
filtered bs s (r ∷ rest) = by (lives_in bs s r.receiver) refl (filtered bs s rest)
  where
    by : (b : Bool) → lives_in bs s r.receiver ≡ b → AllByRecursion (IsFor (lives_in bs s)) (out_to bs s rest)
        → AllByRecursion (IsFor (lives_in bs s)) (cond b (r ∷ out_to bs s rest) (out_to bs s rest))
    by true e others = (e, others)
    by false e others = others

pub out_to_is : (bs : List (List ℕ)) (s : ℕ) (list : List Receipt) → AreTo bs s (out_to bs s list)
out_to_is bs s list = of_test bs s (out_to bs s list) (filtered bs s list)

pub mapped_at : {B : Type 0} (g : ℕ → B) (n a s : ℕ) (y : B) → slice_get (map g (range_with_len a n)) s ≡ Some y
    → y ≡ g (a + s)
mapped_at g zero a s y e = absurd cc
mapped_at g (suc n) a zero y e = let is : g a ≡ y = cc in sym is ∙ ap g (omega arith)
mapped_at g (suc n) a (suc s) y e = mapped_at g n (a + 1) s y e ∙ ap g (omega arith)

-- the item of a long enough list
pub item_at : {A : Type 0} (xs : List A) (s : ℕ) (d : A) → s < length xs → slice_get xs s ≡ Some (slice_index_or xs s d)
item_at [] s d l = absurd (omega (arith, l))
item_at (x ∷ xs) zero d l = refl
item_at (x ∷ xs) (suc s) d l = item_at xs s d (omega (arith, l))

-- ---- a run
abbrev nothing : Amount Kept Working (List Receipt) ChunkResult
nothing = record {
  world = λ w. 0;
  working = λ s h n k. 0;
  list = λ l. 0;
  report = λ s h y. 0;
  made_so_far = λ s h n k. 0;
  made = λ s h y. 0;
}

none_more : (n : ℕ) → n ≡ 0 → 0 + 0 + n ≡ 0
none_more n e = omega (arith, e)

none_in_all : {A : Type 0} (xs : List A) → sum_by (λ y. 0) xs ≡ 0
none_in_all [] = refl
none_in_all (x ∷ xs) = omega (arith, sum_by-cons (λ y. 0) x xs, none_in_all xs)

module _ (x : Chain) (is : IsChain x) (local : IsLocal x.call) (first : StartsApart x.start) where
  abbrev r : Rules Kept Working (List Receipt) ChunkResult
  r = rules_of x

  abbrev bs : List (List ℕ)
  bs = x.start.boundaries

  abbrev scope : ℕ → List ℕ → Bool
  scope s = lives_in bs s

  record GoodWorldAt (s : ℕ) (w : Kept) : Type 0 where
    lives : Lives (scope s) w.world
    carried : AllByRecursion (IsFor (scope s)) w.carried

  abbrev GoodWorkAt : ℕ → Working → Type 0
  GoodWorkAt s k = Lives (scope s) k.world

  abbrev GoodListTo : ℕ → List Receipt → Type 0
  GoodListTo s list = AllByRecursion (IsFor (scope s)) list

  never : IsNeverMade r nothing
  never = record { so_far = λ s h n k. refl; whole = λ s h y. refl }

  begins : (s : ℕ) → s < r.shards → GoodWorldAt s (r.begins s)
  begins s l =
      let here = first.worlds s (start_world x.start s)
      (item_at x.start.worlds s no_world (omega (arith, l, is.start.worlds)))
      in
      record {
        lives = record {
          only = here.only;
          stays = record {
            keyed = valid_keyed x.config (start_world x.start s) (start_valid x.config x.start is.start s l);
            queued = to_test bs s (start_world x.start s).delayed here.delayed;
          };
        };
        carried = to_test bs s (start_list x.start s)
            (first.carried s (start_list x.start s) (item_at x.start.carried s [] (omega (arith, l, is.start.lists))));
      }

  opened_lives : (s h : ℕ) (w : Kept) → GoodWorldAt s w → GoodWorkAt s (r.opens s h w)
  opened_lives s h w good =
      takes x.config x.call local (scope s) w.carried (opened_first x s h w)
      (opens x.config x.call local (scope s) (unwrap_or (chunk_at x s h) [])
      (begun w (record { 0 = s }) (place_at x h)) good.lives) good.carried

  stays : StaysGood r nothing (one_each x is) never GoodWorldAt GoodWorkAt GoodListTo
  stays = record {
    begins = begins;
    opens = λ s h l below there good small. (
      subst (GoodWorkAt s) (sym (work_first r s h)) (opened_lives s (h + 1) (world_after r s h) good),
      refl,
    );
    takes = λ s h n pair list l below there next list_is good sent few. (
      subst (GoodWorkAt s) (sym (work_next r s h n pair next ∙ ap (with_list r (work r s h n)) list_is))
          (takes x.config x.call local (scope s) list (work r s h n) good sent),
      refl,
    );
    seals = λ s h l below there good few. (
      record { lives = good; carried = tt },
      (λ d list e. subst (GoodListTo d)
          (sym (mapped_at (λ shard. out_to bs shard (last_work r s h).outgoing) (shards_of x) 0 d list e))
          (filtered_at d (last_work r s h).outgoing)),
      none_more (sum_by (λ y. 0) (r.seals (last_work r s h)).lists) (none_in_all (r.seals (last_work r s h)).lists),
    );
  }
    where
      filtered_at : (d : ℕ) (list : List Receipt) → GoodListTo d (out_to bs (0 + d) list)
      filtered_at d list =
          let same : d ≡ 0 + d = omega arith in
          subst (λ n. GoodListTo d (out_to bs n list)) same (filtered bs d list)

  pub stays_apart : StaysApart x
  stays_apart s h l high =
      let good = (good_world r nothing (one_each x is) never GoodWorldAt GoodWorkAt GoodListTo stays s h l high).0 in
      record {
        only = good.lives.only;
        delayed = of_test bs s (world_after r s h).world.delayed good.lives.stays.queued;
      }
