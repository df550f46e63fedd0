-- Two ways of the same sides that lead to one top from different ones. This project's own.
use Rattle.std.specs.Prelude.{◌≡◌, ◌≢◌, ℕ, List, length}
use Rattle.sha2.specs.Sha256.{sha256}
use Rattle.nr_ids.specs.declared.key.Hash32.{Hash32}
use Rattle.nr_outproof.specs.declared.explaining.Explained.{Explained}
use Rattle.nr_outproof.specs.declared.explaining.Explained.TheVariants.{Same, Collision}
use Rattle.nr_outproof.specs.declared.levels.Side.{Side}
use Rattle.nr_outproof.specs.Tree.{climb, IsOnWay}

-- different texts of one hash, one on each way
pub record MeetsAt (way : List Side) (a : Hash32) (path : List Hash32) (b : Hash32) (others : List Hash32)
    (first second : List ℕ) : Type 0 where
  pub different : first ≢ second
  pub one_hash : sha256 first ≡ sha256 second
  pub first_way : IsOnWay way a path first
  pub second_way : IsOnWay way b others second

abbrev pub Meets : List Side → Hash32 → List Hash32 → Hash32 → List Hash32 → Explained → Type 0
Meets way a path b others Same = ⊥
Meets way a path b others (Collision first second) = MeetsAt way a path b others first second

-- on the way up from two tops, of whose paths these parts are left
pub record Apart (way : List Side) (a : Hash32) (path : List Hash32) (b : Hash32) (others : List Hash32)
    (sides : List Side) (top : Hash32) (rest : List Hash32) (other : Hash32) (other_rest : List Hash32) : Type 0 where
  pub differ : top ≢ other
  pub alike : length top.0 ≡ length other.0
  pub first_long : length rest ≡ length sides
  pub second_long : length other_rest ≡ length sides
  pub meet : climb sides top rest ≡ climb sides other other_rest
  pub first_way : (text : List ℕ) → IsOnWay sides top rest text → IsOnWay way a path text
  pub second_way : (text : List ℕ) → IsOnWay sides other other_rest text → IsOnWay way b others text
