-- What a cut keeps: each world is valid, nothing of the worlds and lists is lost or stands twice, and each receipt is
-- where its receiver lives. This project's own.
use Rattle.std.specs.Prelude.{◌≡◌, ℕ, ◌+◌, ◌^◌, ◌≤◌, Bool, List, length, Some, slice_get, sum_by}
use Rattle.std.specs.FinMap.{FinMap, get, retain_keys}
use Rattle.std.specs.List.{AllByRecursion, flat_map}
use Rattle.std.specs.declared.cmp.Ordering.{Ordering}
use Rattle.nr_config.specs.Config.{Config}
use Rattle.nr_cut.specs.Cut.{AreApart, beside, carried, cut_world, cut_worlds, joined}
use Rattle.nr_layout.specs.Layout.{out_to, shard_of}
use Rattle.nr_records.specs.declared.receipt.Receipt.{Receipt}
use Rattle.nr_state.specs.Flat.{awaited_in, missing_in}
use Rattle.nr_state.specs.Scopes.{part_of}
use Rattle.nr_state.specs.Tokens.{world_tokens, postponed_sum, delayed_sum}
use Rattle.nr_state.specs.Valid.{IsValidWorld, IsBounded}
use Rattle.nr_state.specs.World.{World, accounts_tokens}

-- valid worlds that a layout keeps apart, with at most 2^127 tokens together
pub record CanCut (c : Config) (old : List (List ℕ)) (ws : List World) : Type 0 where
  pub valid : AllByRecursion (IsValidWorld c) ws
  pub apart : AreApart old ws
  pub tokens : sum_by (world_tokens c) ws ≤ 2 ^ 127

-- under each key the world of its owner's new shard has what the world of the old shard had
abbrev pub IsFound : {K X : Type 0} {R : K → K → Ordering} → List (List ℕ) → List (List ℕ) → List World → (K → List ℕ)
    → (World → FinMap R X) → Type 0
IsFound {K} old new ws owner column =
    (k : K) (w : World) → slice_get ws (shard_of old (owner k)) ≡ Some w
    → get (column (cut_world new ws (shard_of new (owner k)))) k ≡ get (column w) k

pub record KeepsWorlds (c : Config) (old new : List (List ℕ)) (ws : List World) : Type 0 where
  pub count : length (cut_worlds new ws) ≡ length new + 1
  pub valid : AllByRecursion (IsValidWorld c) (cut_worlds new ws)
  -- nothing stands in a world whose owner lives elsewhere, so nothing stands twice
  pub apart : AreApart new (cut_worlds new ws)
  -- nothing is lost
  pub accounts : IsFound old new ws (λ id. id) (λ w. w.accounts)
  pub keys : IsFound old new ws (λ k. k.0) (λ w. w.keys)
  pub code : IsFound old new ws (λ id. id) (λ w. w.code)
  pub data_of : IsFound old new ws (λ k. k.0) (λ w. w.data_of)
  pub received : IsFound old new ws (λ k. k.0) (λ w. w.received)
  pub postponed : IsFound old new ws (λ k. k.0) (λ w. w.postponed)
  -- the delayed receipts stand old world after old world, each in its order, and none was served
  pub delayed : (s : ℕ) → (cut_world new ws s).delayed ≡ out_to new s (flat_map (λ w. w.delayed) ws)
  pub served : (s : ℕ) → (cut_world new ws s).served ≡ 0
  -- together they have what the old ones had: tokens, and any amount that receipts have
  pub accounts_sum : sum_by accounts_tokens (cut_worlds new ws) ≡ sum_by accounts_tokens ws
  pub postponed_sum : (f : Receipt → ℕ) → sum_by (postponed_sum f) (cut_worlds new ws) ≡ sum_by (postponed_sum f) ws
  pub delayed_sum : (f : Receipt → ℕ) → sum_by (delayed_sum f) (cut_worlds new ws) ≡ sum_by (delayed_sum f) ws
  pub tokens_sum : sum_by (world_tokens c) (cut_worlds new ws) ≡ sum_by (world_tokens c) ws

-- each shard's list has only receipts whose receivers live in the shard
abbrev pub AreFor : List (List ℕ) → List (List Receipt) → Type 0
AreFor boundaries lists =
    (shard : ℕ) (list : List Receipt) → slice_get lists shard ≡ Some list
    → AllByRecursion (λ (r : Receipt). shard_of boundaries r.receiver ≡ shard) list

pub record KeepsLists (new : List (List ℕ)) (lists : List (List Receipt)) : Type 0 where
  pub count : length (carried new lists) ≡ length new + 1
  pub receivers : AreFor new (carried new lists)
  -- together they have what the lists had, of any amount that receipts have
  pub sum : (f : Receipt → ℕ)
      → sum_by (λ list. sum_by f list) (carried new lists) ≡ sum_by (λ list. sum_by f list) lists
  pub bounded : (c : Config) → AllByRecursion (AllByRecursion (IsBounded c)) lists
      → AllByRecursion (AllByRecursion (IsBounded c)) (carried new lists)

-- ---- what is derived from the postponed receipts, of a part and of worlds side by side
pub record PartsDerived (test : List ℕ → Bool) (w : World) : Type 0 where
  pub awaited : awaited_in (part_of test w) ≡ retain_keys (awaited_in w) (λ k. test k.0)
  pub missing : missing_in (part_of test w) ≡ retain_keys (missing_in w) (λ k. test k.0)

pub record JoinsDerived (a b : World) : Type 0 where
  pub awaited : awaited_in (beside a b) ≡ joined (awaited_in a) (awaited_in b)
  pub missing : missing_in (beside a b) ≡ joined (missing_in a) (missing_in b)
