-- From what is gathered for a chunk a report is given.
use Rattle.std.proofs.Common.{◌≡◌, ◌+◌, ◌^◌, ◌≤◌, ℕ, Bool, true, false, List, [], Ordering, Result, Ok, Err, refl, sym, ap, subst, ◌∙◌, arith}
use Rattle.std.specs.Prelude.{◌||◌, ◌&&◌, length, if◌then◌else◌}
use Rattle.std.specs.FinMap.{FinMap, IsAntisymmetric, empty, entries, get-empty, get-retain_keys, retain_keys, same_map}
use Rattle.std.specs.Cmp.{IsTotalOrder}
use Rattle.std.specs.Cmp.Lexicographic.{nat_list_cmp_total}
use Rattle.std.specs.List.{flat_map, list_any}
use Rattle.std.proofs.lemmas.Bool.{le-leb}
use Rattle.std.proofs.lemmas.Map.Lookups.{exact_bytes}
use Rattle.nr_bytes.specs.Reading.{◌>>=◌}
use Rattle.nr_chunk.specs.Locality.{is_in, touched}
use Rattle.nr_columns.specs.declared.entry.Entry.{Entry}
use Rattle.nr_config.specs.Config.{Config}
use Rattle.nr_gather.proofs.Fewer.{IsWithin, fewer_walk}
use Rattle.nr_gathered.specs.declared.gathered.Gathered.{Gathered}
use Rattle.nr_ids.specs.declared.key.Hash32.{Hash32}
use Rattle.nr_records.specs.declared.chunk_result.ChunkResult.{ChunkResult}
use Rattle.nr_records.specs.declared.receipt.Receipt.{Receipt}
use Rattle.nr_remake.specs.Merging.{found_in, kept_in, pairs_of, parts_of}
use Rattle.nr_state.specs.Calls.{Called}
use Rattle.nr_state.specs.Flat.{flat}
use Rattle.nr_state.specs.FromEntries.{world_from}
use Rattle.nr_state.specs.Scopes.{part_of}
use Rattle.nr_state.specs.Tokens.{list_tokens, world_tokens}
use Rattle.nr_state.specs.Valid.{IsValidWorld}
use Rattle.nr_state.specs.World.{World}
use Rattle.nr_state.specs.Worlds.{IsWorld}
use Rattle.nr_state.specs.declared.calls.CallContext.{CallContext}
use Rattle.nr_state.proofs.ValidOwned.{key_total, pair_total, exact_keys, exact_data}
use Rattle.nr_state.proofs.ValidPart.{part_fits, part_valid, tokens_of_part}
use Rattle.nr_stateless.specs.Accounts.{all_below, of_account, searched_of}
use Rattle.nr_columns.specs.Keys.{queue_key}
use Rattle.nr_walk.specs.Searched.{finds, is_found, is_met, looks}
use Rattle.nr_walk.specs.Shown.{IsOf, walk_of}
use Rattle.nr_walk.specs.Texts.{texts_of}
use Rattle.nr_walk.specs.declared.searched.Searched.{Searched}
use Rattle.nr_walk.specs.declared.walking.Gain.{Gain}
use Rattle.nr_worlds.specs.Answers.{queue_checked, world_checked}
use Rattle.nr_worlds.specs.Judging.{is_queue, is_world, queue_of}
use Rattle.nr_worlds.specs.declared.fault.WorldFault.TheVariants.{NotWorld}
use Rattle.nr_triedef.specs.Root.{root_of}
use Rattle.nr_recheck.specs.Bounds.{are_within}
use Rattle.nr_recheck.specs.Laws.{GoesWith, HasIds, IsGatheredFor}
use Rattle.nr_recheck.specs.Rechecking.{Found, asked, by_walk, by_world, is_placed, prepared, queued, rechecked, report_from, touched_by, walked}
use Rattle.nr_recheck.specs.declared.fault.RecheckFault.{RecheckFault}
use Rattle.nr_recheck.specs.declared.fault.RecheckFault.TheVariants.{Bounds, Place as NoPlace}
use Rattle.nr_recheck.proofs.Parts.{found_part}
use Rattle.nr_recheck.proofs.Sums.{bounded_all}
use Rattle.nr_recheck.proofs.Telling.{keyed, part_told, read, shown, touched_ids}

-- ---- the walk for no account is within that for accounts
or_none : (a b : Bool) → (a || false) ≡ true → (a || b) ≡ true
or_none true b h = refl
or_none false b h = absurd cc

pub none_within : (ids : List (List ℕ)) → IsWithin (searched_of []) (searched_of ids)
unfolding searched_of looks finds
none_within ids = record {
  looks = λ place h. or_none (is_met place (all_below queue_key)) (list_any (is_met place) (flat_map of_account ids)) h;
  finds = λ key h. or_none (is_found key (all_below queue_key)) (list_any (is_found key) (flat_map of_account ids)) h;
}

all_within : (many : List Searched) → IsWithin many many
all_within many = record { looks = λ place h. h; finds = λ key h. h }

-- ---- a part of no account has a queue and nothing else
none_kept : {K X : Type 0} {R : K → K → Ordering} (o : IsTotalOrder R) (exact : IsAntisymmetric R) (m : FinMap R X) → empty ≡ retain_keys m (λ k. false)
none_kept {K} {X} {R = R} o exact m = same_map o exact _ _ (λ q. get-empty R q ∙ sym (get-retain_keys m (λ k. false) q (λ x e. refl)))

queue_alone : (w : World) → queue_of (part_of (is_in []) w) ≡ part_of (is_in []) w
queue_alone w = λ i. record (part_of (is_in []) w) {
  accounts = none_kept nat_list_cmp_total exact_bytes w.accounts i;
  keys = none_kept key_total exact_keys w.keys i;
  code = none_kept nat_list_cmp_total exact_bytes w.code i;
  data_of = none_kept pair_total exact_data w.data_of i;
  received = none_kept pair_total exact_data w.received i;
  postponed = none_kept pair_total exact_data w.postponed i;
}

-- ---- answers
asked_ok : (b : Bool) (fault : RecheckFault) → b ≡ true → asked b fault ≡ Ok tt
asked_ok b fault e = ap (λ t. asked t fault) e

walked_ok : (g : Gathered) (ids : List (List ℕ)) (gains : List Gain) → walk_of (texts_of g.texts) (searched_of ids) g.prior_root ≡ Ok gains → walked g ids ≡ Ok (kept_in gains, found_in gains)
walked_ok g ids gains e = ap (λ r. by_walk (parts_of r)) e

module _ (c : Config) (g : Gathered) (w : World) (h : HasIds g) (gathered : IsGatheredFor c g w) (goes : GoesWith c g w)
    (passes_queue : (es : List Entry) (v : World) → IsWorld v → queue_of v ≡ v → pairs_of es ≡ entries (flat v) → is_queue es ≡ true)
    (passes_world : (es : List Entry) (v : World) → IsWorld v → IsValidWorld c v → pairs_of es ≡ entries (flat v) → is_world c es ≡ true) where
  abbrev ids : List (List ℕ)
  ids = touched w g.transactions g.taken

  agrees : IsOf (texts_of g.texts) (root_of (flat w)).hash (flat w)
  agrees = subst (λ (root : Hash32). IsOf (texts_of g.texts) root (flat w)) gathered.root goes.agrees

  gains_of : (few : List Searched) → IsWithin few (searched_of ids) → (gains : List Gain) × (walk_of (texts_of g.texts) few g.prior_root ≡ Ok gains)
  gains_of few within =
      let walk = fewer_walk few (searched_of ids) (flat w) g.texts within gathered.texts agrees in
      (walk.0, ap (walk_of (texts_of g.texts) few) gathered.root ∙ walk.1)

  -- the walk for the queue
  abbrev first_gains : List Gain
  first_gains = (gains_of (searched_of []) (none_within ids)).0

  abbrev queue : Found
  queue = (kept_in first_gains, found_in first_gains)

  queue_walked : walked g [] ≡ Ok queue
  queue_walked = walked_ok g [] first_gains (gains_of (searched_of []) (none_within ids)).1

  queue_passes : is_queue queue.1 ≡ true
  queue_passes =
      passes_queue queue.1 (part_of (is_in []) w) (part_fits (is_in []) w goes.fits) (queue_alone w)
      ((shown c g w h goes [] queue queue_walked).1 ∙ found_part [] tt w (keyed c g w h goes) (read c g w h goes))

  queue_told : touched_by g (world_from queue.1).delayed ≡ ids
  queue_told = ap (λ (v : World). touched_by g v.delayed) (part_told c g w h goes [] queue tt queue_walked)

  queued_ok : queued g ≡ Ok (world_from queue.1).delayed
  unfolding queued
  queued_ok =
      ap (λ r. r >>= λ (q : Found). by_world (queue_checked q.1)) queue_walked
      ∙ ap (λ b. by_world (if b then Ok (world_from queue.1).delayed else Err NotWorld)) queue_passes

  -- the walk for all
  abbrev all_gains : List Gain
  all_gains = (gains_of (searched_of ids) (all_within (searched_of ids))).0

  abbrev found : Found
  found = (kept_in all_gains, found_in all_gains)

  found_walked : walked g ids ≡ Ok found
  found_walked = walked_ok g ids all_gains (gains_of (searched_of ids) (all_within (searched_of ids))).1

  abbrev x : List ℕ → Bool
  x = is_in ids

  world_passes : is_world c found.1 ≡ true
  world_passes =
      passes_world found.1 (part_of x w) (part_fits x w goes.fits) (part_valid x c w goes.valid)
      ((shown c g w h goes ids found found_walked).1 ∙ found_part ids (touched_ids c g w h goes) w (keyed c g w h goes) (read c g w h goes))

  keeps_within : are_within c g.taken (world_from found.1) ≡ true
  keeps_within =
      let fewer : world_tokens c (part_of x w) + list_tokens c g.taken ≤ 2 ^ 127 = omega (arith, tokens_of_part x c w, gathered.tokens) in
      ap (are_within c g.taken) (part_told c g w h goes ids found (touched_ids c g w h goes) found_walked)
      ∙ (λ i. bounded_all c g.taken gathered.bounded i
      && (le-leb (world_tokens c (part_of x w) + list_tokens c g.taken) (2 ^ 127) fewer i && le-leb (w.served + length w.delayed) (2 ^ 63) gathered.few i))

  prepared_ok : prepared c g ≡ Ok found
  unfolding prepared
  prepared_ok =
      let world_ok : by_world (world_checked c found.1) ≡ Ok tt = ap (λ b. by_world (if b then Ok tt else Err NotWorld)) world_passes in
      let last : Found → Result Found RecheckFault = λ f. (do
        valid ← by_world (world_checked c f.1)
        within ← asked (are_within c g.taken (world_from f.1)) Bounds
        Ok f) in
      let later : List Receipt → Result Found RecheckFault = λ delayed. (do
        f ← walked g (touched_by g delayed)
        last f) in
      let all : Unit {0} → Result Found RecheckFault = λ placed. (do
        delayed ← queued g
        later delayed) in
      ap (λ r. r >>= all) (asked_ok (is_placed g) NoPlace gathered.placed)
      ∙ ap (λ r. r >>= later) queued_ok
      ∙ ap (λ r. r >>= last) (ap (walked g) queue_told ∙ found_walked)
      ∙ ap (λ r. r >>= λ valid. (do
        within ← asked (are_within c g.taken (world_from found.1)) Bounds
        Ok found)) world_ok
      ∙ ap (λ r. r >>= λ within. Ok found) (asked_ok (are_within c g.taken (world_from found.1)) Bounds keeps_within)

  pub answered : (call : World → CallContext → Called) → (r : ChunkResult) × (rechecked c call g ≡ Ok r)
  unfolding rechecked
  answered call = (report_from c call g found, ap (λ r. r >>= λ (f : Found). Ok (report_from c call g f)) prepared_ok)
