-- The serial run: block after block, each chunk that is there is opened, takes the lists that are due, and is sealed.
-- After the Nomicon, Chain Specification (Chunks and cross-shard receipts).
use Rattle.std.specs.Prelude.{◌≡◌, ◌<◌, true, length, ℕ, zero, suc, ◌+◌, ◌-◌, ◌==◌, max, cond, List, filter, fold, map}
use Rattle.std.specs.Prelude.{take, Option, Some, None, slice_get}
use Rattle.std.specs.List.{flat_map, range_with_len}
use Rattle.nr_overlap.specs.Rules.{Rules, Sealing}

-- what stands after a height: each shard's world, and what was sealed, by height and then shard
pub record Past (W L R : Type 0) : Type 0 where
  pub world : ℕ → W
  pub sealed : ℕ → ℕ → Option (Sealing W L R)

module _ {W K L R : Type 0} (r : Rules W K L R) where
  -- ---- which lists a chunk takes: those of all chunks from the shard's last present height on, by height and then
  -- source
  abbrev pub last_present : ℕ → ℕ → ℕ
  last_present shard zero = 0
  last_present shard (suc h) = cond (r.present shard (h + 1)) (h + 1) (last_present shard h)

  abbrev pub shard_numbers : List ℕ
  shard_numbers = range_with_len 0 r.shards

  abbrev pub sources_at : ℕ → List ℕ
  sources_at h = filter (λ source. r.present source h) shard_numbers

  abbrev pub pairs_at : ℕ → List (ℕ × ℕ)
  pairs_at h = map (λ source. (h, source)) (sources_at h)

  -- the heights from one to another
  abbrev pub heights_between : ℕ → ℕ → List ℕ
  heights_between from to = range_with_len from ((to + 1) - from)

  -- the first height that the chunk after h takes lists of
  abbrev pub first_due : ℕ → ℕ → ℕ
  first_due shard h = max 1 (last_present shard h)

  -- what is due at the height after h
  unfoldable pub due_after : ℕ → ℕ → List (ℕ × ℕ)
  due_after shard h = flat_map pairs_at (heights_between (first_due shard h) h)

  -- ---- one chunk
  abbrev pub list_to : Option (Sealing W L R) → ℕ → Option L
  list_to None shard = None
  list_to (Some s) shard = slice_get s.lists shard

  abbrev pub with_list : K → Option L → K
  with_list k None = k
  with_list k (Some list) = r.takes k list

  abbrev pub take_due : Past W L R → ℕ → K → ℕ × ℕ → K
  take_due past shard k due = with_list k (list_to (past.sealed due.0 due.1) shard)

  -- the working state after these of the due lists
  abbrev pub worked : Past W L R → ℕ → ℕ → List (ℕ × ℕ) → K
  worked past h shard dues = fold (take_due past shard) (r.opens shard (h + 1) (past.world shard)) dues

  abbrev pub if_present : Past W L R → ℕ → ℕ → Option (Sealing W L R)
  if_present past h shard =
      cond (r.present shard (h + 1)) (Some (r.seals (worked past h shard (due_after shard h)))) None

  -- ---- one block after another
  abbrev pub world_or : Option (Sealing W L R) → W → W
  world_or None w = w
  world_or (Some s) w = s.world

  abbrev pub next : ℕ → Past W L R → Past W L R
  next h past =
      record {
        world = λ shard. world_or (if_present past h shard) (past.world shard);
        sealed = λ height shard. cond (height == (h + 1)) (if_present past h shard) (past.sealed height shard);
      }

  unfoldable pub past_after : ℕ → Past W L R
  past_after zero = record { world = r.begins; sealed = λ height shard. None }
  past_after (suc h) = next h (past_after h)

  -- ---- the parts of it
  -- a shard's world after a height
  abbrev pub world_after : ℕ → ℕ → W
  world_after shard h = (past_after h).world shard

  -- what a chunk gives, if there is one
  abbrev pub sealing_at : ℕ → ℕ → Option (Sealing W L R)
  sealing_at shard h = (past_after h).sealed h shard

  -- the working state of the chunk after a height, when it has taken n lists
  unfoldable pub work : ℕ → ℕ → ℕ → K
  work shard h n = worked (past_after h) h shard (take n (due_after shard h))

  -- and when it has taken all
  abbrev pub last_work : ℕ → ℕ → K
  last_work shard h = work shard h (length (due_after shard h))

  -- ---- of each chunk that is there, after a height; and of each list that one takes, with how many it took before
  abbrev pub EachChunk : (ℕ → ℕ → Type 0) → Type 0
  EachChunk P = (shard h : ℕ) → shard < r.shards → h < r.heights → r.present shard (h + 1) ≡ true → P shard h

  abbrev pub EachTaken : (ℕ → ℕ → ℕ → L → Type 0) → Type 0
  EachTaken P =
      (shard h n : ℕ) (pair : ℕ × ℕ) (list : L) → shard < r.shards → h < r.heights → r.present shard (h + 1) ≡ true
      → slice_get (due_after shard h) n ≡ Some pair → list_to (sealing_at pair.1 pair.0) shard ≡ Some list
      → P shard h n list
