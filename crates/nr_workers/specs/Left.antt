-- What stands in the lists that no chunk of a shard takes. This project's own.
use Rattle.std.specs.Prelude.{◌≡◌, ℕ, zero, suc, ◌<◌, nat_lt, cond, List, [], ◌∷◌, Option, None, length}
use Rattle.std.specs.BTreeMap.{BTreeMap, get}
use Rattle.std.specs.Ordering.{nat_cmp}
use Rattle.nr_overlap.specs.Rules.{Rules}
use Rattle.nr_overlap.specs.Serial.{list_to, sealing_at}
use Rattle.nr_workers.specs.declared.left.Left.{Left}
use Rattle.nr_workers.specs.Taking.{taken_to}

module _ {L : Type 0} where
  abbrev pub list_in : List (BTreeMap ℕ L) → ℕ → ℕ → Option L
  list_in [] t h = None
  list_in (row ∷ rows) zero h = get nat_cmp row h
  list_in (row ∷ rows) (suc t) h = list_in rows t h

  -- the list of a source and a height
  abbrev pub slot_of : Left L → ℕ → ℕ → Option L
  slot_of left t h = list_in left.rows.items t h

  -- the same of a shard
  abbrev pub slot_in : List (Left L) → ℕ → ℕ → ℕ → Option L
  slot_in [] d t h = None
  slot_in (left ∷ lefts) zero t h = slot_of left t h
  slot_in (left ∷ lefts) (suc d) t h = slot_in lefts d t h

module _ {W K L R : Type 0} (r : Rules W K L R) where
  -- the list of a source and a height to a shard, if the height is one of those from one to another
  abbrev pub list_among : ℕ → ℕ → ℕ → ℕ → ℕ → Option L
  list_among s first last t h = cond (nat_lt h first) None (cond (nat_lt last h) None (list_to r (sealing_at r t h) s))

  -- a shard's lists of all sources before the next one
  pub record HasLeft (s first done source : ℕ) (left : Left L) : Type 0 where
    pub all : length left.rows.items ≡ r.shards
    pub lists_are : (t h : ℕ) → t < r.shards → slot_of left t h ≡ list_among s first (taken_to r done source t) t h
