-- What stands behind an answer.
use Rattle.std.proofs.Common.{◌≡◌, ℕ, Bool, true, false, List, [], Result, Ok, Err, refl, sym, ap, ◌∙◌}
use Rattle.std.specs.Prelude.{if◌then◌else◌}
use Rattle.nr_bytes.specs.Reading.{◌>>=◌}
use Rattle.nr_config.specs.Config.{Config}
use Rattle.nr_gathered.specs.declared.gathered.Gathered.{Gathered}
use Rattle.nr_records.specs.declared.chunk_result.ChunkResult.{ChunkResult}
use Rattle.nr_records.specs.declared.receipt.Receipt.{Receipt}
use Rattle.nr_remake.specs.Merging.{found_in, kept_in, parts_of}
use Rattle.nr_state.specs.Calls.{Called}
use Rattle.nr_state.specs.FromEntries.{world_from}
use Rattle.nr_state.specs.World.{World}
use Rattle.nr_state.specs.declared.calls.CallContext.{CallContext}
use Rattle.nr_stateless.specs.Accounts.{searched_of}
use Rattle.nr_walk.specs.Shown.{walk_of}
use Rattle.nr_walk.specs.Texts.{texts_of}
use Rattle.nr_walk.specs.declared.fault.WalkFault.{WalkFault}
use Rattle.nr_walk.specs.declared.walking.Gain.{Gain}
use Rattle.nr_worlds.specs.Answers.{queue_checked, world_checked}
use Rattle.nr_worlds.specs.Judging.{is_queue, is_world}
use Rattle.nr_worlds.specs.declared.fault.WorldFault.{WorldFault}
use Rattle.nr_worlds.specs.declared.fault.WorldFault.TheVariants.{NotWorld}
use Rattle.nr_recheck.specs.Bounds.{are_within}
use Rattle.nr_recheck.specs.Rechecking.{Found, asked, by_walk, by_world, is_placed, prepared, queued, rechecked, report_from, touched_by, walked}
use Rattle.nr_recheck.specs.declared.fault.RecheckFault.{RecheckFault}
use Rattle.nr_recheck.specs.declared.fault.RecheckFault.TheVariants.{Bounds, Place as NoPlace}

bound : {A B F : Type 0} (r : Result A F) (f : A → Result B F) (y : B) → (r >>= f) ≡ Ok y → (x : A) × ((r ≡ Ok x) × (f x ≡ Ok y))
bound (Ok x) f y e = (x, (refl, e))
bound (Err fault) f y e = absurd cc

ok_same : {A F : Type 0} (x y : A) → ◌≡◌ {A = Result A F} (Ok x) (Ok y) → x ≡ y
ok_same x y e = cc

pub was_asked : (b : Bool) (fault : RecheckFault) (u : Unit {0}) → asked b fault ≡ Ok u → b ≡ true
was_asked true fault u e = refl
was_asked false fault u e = absurd cc

of_world : {A : Type 0} (r : Result A WorldFault) (y : A) → by_world r ≡ Ok y → r ≡ Ok y
of_world (Ok x) y e = ap Ok (ok_same x y e)
of_world (Err fault) y e = absurd cc

pub passed : (b : Bool) (u : Unit {0}) → ◌≡◌ {A = Result (Unit {0}) WorldFault} (if b then Ok tt else Err NotWorld) (Ok u) → b ≡ true
passed true u e = refl
passed false u e = absurd cc

passed_with : {A : Type 0} (b : Bool) (x y : A) → ◌≡◌ {A = Result A WorldFault} (if b then Ok x else Err NotWorld) (Ok y) → (b ≡ true) × (x ≡ y)
passed_with true x y e = (refl, ok_same x y e)
passed_with false x y e = absurd cc

-- ---- a walk
pub record IsWalked (g : Gathered) (accounts : List (List ℕ)) (found : Found) : Type 0 where
  pub gains : List Gain
  pub walk : walk_of (texts_of g.texts) (searched_of accounts) g.prior_root ≡ Ok gains
  pub is : found ≡ (kept_in gains, found_in gains)

pub has_walked : (g : Gathered) (accounts : List (List ℕ)) (found : Found) → walked g accounts ≡ Ok found → IsWalked g accounts found
has_walked g accounts found e = by (walk_of (texts_of g.texts) (searched_of accounts) g.prior_root) refl e
  where
    by : (r : Result (List Gain) WalkFault) → walk_of (texts_of g.texts) (searched_of accounts) g.prior_root ≡ r → by_walk (parts_of r) ≡ Ok found → IsWalked g accounts found
    by (Ok gains) is e = record { gains = gains; walk = is; is = sym (ok_same (kept_in gains, found_in gains) found e) }
    by (Err fault) is e = absurd cc

-- ---- all steps
pub record IsPrepared (c : Config) (g : Gathered) (found : Found) : Type 0 where
  pub placed : is_placed g ≡ true
  pub queue : Found
  pub first : walked g [] ≡ Ok queue
  pub queued_is : is_queue queue.1 ≡ true
  pub second : walked g (touched_by g (world_from queue.1).delayed) ≡ Ok found
  pub valid : is_world c found.1 ≡ true
  pub within : are_within c g.taken (world_from found.1) ≡ true

record IsQueued (g : Gathered) (delayed : List Receipt) : Type 0 where
  queue : Found
  first : walked g [] ≡ Ok queue
  queued_is : is_queue queue.1 ≡ true
  is : (world_from queue.1).delayed ≡ delayed

has_queued : (g : Gathered) (delayed : List Receipt) → queued g ≡ Ok delayed → IsQueued g delayed
unfolding queued
has_queued g delayed e =
    let walk = bound (walked g []) (λ queue. by_world (queue_checked queue.1)) delayed e in
    let queue = passed_with (is_queue walk.0.1) (world_from walk.0.1).delayed delayed (of_world (queue_checked walk.0.1) delayed walk.1.1) in
    record { queue = walk.0; first = walk.1.0; queued_is = queue.0; is = queue.1 }

pub has_prepared : (c : Config) (g : Gathered) (found : Found) → prepared c g ≡ Ok found → IsPrepared c g found
unfolding prepared
has_prepared c g found e =
    let place = bound (asked (is_placed g) NoPlace) _ found e in
    let queue = bound (queued g) _ found place.1.1 in
    let walk = bound (walked g (touched_by g queue.0)) _ found queue.1.1 in
    let world = bound (by_world (world_checked c walk.0.1)) _ found walk.1.1 in
    let within = bound (asked (are_within c g.taken (world_from walk.0.1)) Bounds) _ found world.1.1 in
    let same : walk.0 ≡ found = ok_same walk.0 found within.1.1 in
    let q = has_queued g queue.0 queue.1.0 in
    let world_ok : is_world c walk.0.1 ≡ true = passed (is_world c walk.0.1) world.0 (of_world (world_checked c walk.0.1) world.0 world.1.0) in
    record {
      placed = was_asked (is_placed g) NoPlace place.0 place.1.0;
      queue = q.queue;
      first = q.first;
      queued_is = q.queued_is;
      second = ap (λ (rs : List Receipt). walked g (touched_by g rs)) q.is ∙ walk.1.0 ∙ ap Ok same;
      valid = sym (ap (λ (f : Found). is_world c f.1) same) ∙ world_ok;
      within = sym (ap (λ (f : Found). are_within c g.taken (world_from f.1)) same) ∙ was_asked (are_within c g.taken (world_from walk.0.1)) Bounds within.0 within.1.0;
    }

pub has_rechecked : (c : Config) (call : World → CallContext → Called) (g : Gathered) (r : ChunkResult) → rechecked c call g ≡ Ok r → (found : Found) × ((prepared c g ≡ Ok found) × (report_from c call g found ≡ r))
unfolding rechecked
has_rechecked c call g r e =
    let made = bound (prepared c g) (λ found. Ok (report_from c call g found)) r e in
    (made.0, (made.1.0, ok_same (report_from c call g made.0) r made.1.1))
