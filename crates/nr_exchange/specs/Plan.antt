-- The serial run as an exchange sees it: which chunks are there, and the lists that each one seals. After the
-- Nomicon, Chain Specification (Chunks and cross-shard receipts).
use Rattle.std.specs.Prelude.{◌≡◌, ℕ, zero, suc, ◌+◌, ◌<◌, ◌≤◌, Bool, true, false, cond, List, [], Option, Some, None}
use Rattle.std.specs.Prelude.{slice_get}
use Rattle.nr_overlap.specs.Rules.{Rules, Sealing}
use Rattle.nr_overlap.specs.Serial.{sealing_at}

pub record Plan (L : Type 0) : Type 0 where
  pub shards : ℕ
  pub heights : ℕ
  pub present : ℕ → ℕ → Bool
  -- by source and height: a list for each shard
  pub lists : ℕ → ℕ → List L

-- the lists of a chunk
abbrev pub lists_in : {W L R : Type 0} → Option (Sealing W L R) → List L
lists_in None = []
lists_in (Some z) = z.lists

-- what the serial run sends
abbrev pub plan_of : {W K L R : Type 0} → Rules W K L R → Plan L
plan_of r =
    record { shards = r.shards; heights = r.heights; present = r.present; lists = λ s h. lists_in (sealing_at r s h) }

-- the list of a source and a height for a shard
abbrev pub list_of : {L : Type 0} → Plan L → ℕ → ℕ → ℕ → Option L
list_of p s h d = slice_get (p.lists s h) d

-- how many chunks a source has up to a height. Each of them sends one list to each shard
abbrev pub chunks_to : {L : Type 0} → Plan L → ℕ → ℕ → ℕ
chunks_to p s zero = 0
chunks_to p s (suc h) = chunks_to p s h + cond (p.present s (suc h)) 1 0

-- the first height after one at which the source has a chunk
pub record IsNextChunk {L : Type 0} (p : Plan L) (s after h : ℕ) : Type 0 where
  pub later : after < h
  pub last : h ≤ p.heights
  pub there : p.present s h ≡ true
  pub first : (k : ℕ) → after < k → k < h → p.present s k ≡ false
