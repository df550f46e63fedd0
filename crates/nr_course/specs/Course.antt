-- A run of one chain, or of two legs: of a chain, and of what goes on under other boundaries where it is over. This
-- project's own.
use Rattle.std.specs.Prelude.{◌≡◌, ℕ, ◌+◌, ◌-◌, ◌^◌, ◌<◌, cond, nat_lt, List, length, take, drop, Option, Some, None}
use Rattle.nr_apart.specs.Apart.{StartsApart}
use Rattle.nr_blocks.specs.declared.block.Block.{Block}
use Rattle.nr_blocks.specs.declared.genesis.Genesis.{Genesis}
use Rattle.nr_chunk.specs.Chain.{Chain, IsChain, chain_with, rules_of}
use Rattle.nr_chunk.specs.Start.{genesis_start}
use Rattle.nr_config.specs.Config.{Config}
use Rattle.nr_course.specs.declared.turn.Turn.{Turn}
use Rattle.nr_legs.specs.Legs.{EndsWhole, cut_start}
use Rattle.nr_reshard.specs.declared.chain_file.ChainFile.{ChainFile}
use Rattle.nr_reshard.specs.declared.reshard.Reshard.{Reshard}
use Rattle.nr_state.specs.Calls.{Called}
use Rattle.nr_state.specs.Local.{IsLocal}
use Rattle.nr_state.specs.World.{World}
use Rattle.nr_state.specs.declared.calls.CallContext.{CallContext}

pub record Course : Type 0 where
  pub first : Chain
  -- what follows where the first leg is over, if anything
  pub turn : Option Turn

-- the second leg: it starts from the cut of the first one's end
abbrev pub second : Chain → Turn → Chain
second x t = chain_with x.config (cut_start x t.layout) t.blocks x.call

-- both legs are chains whose chunks can be worked on
pub record AreLegs (o : Course) : Type 0 where
  pub first : IsChain o.first
  pub behind : (t : Turn) → o.turn ≡ Some t → IsChain (second o.first t)

-- ---- heights
-- the leg that has a height: the second one, where there is one, has those above the first
abbrev pub leg_by : Chain → ℕ → Option Turn → Chain
leg_by x h None = x
leg_by x h (Some t) = cond (nat_lt (second x t).start.below h) (second x t) x

abbrev pub leg_at : Course → ℕ → Chain
leg_at o h = leg_by o.first h o.turn

-- a height as a chain counts it: from 1 at its first block
abbrev pub height_in : Chain → ℕ → ℕ
height_in x h = h - x.start.below

-- ---- what can follow
-- calls look at nothing but the current account, no height lies below the first block, each shard starts with what
-- lives in it, the last block misses no chunk, and all heights have 64 bits
pub record CanTurn (x : Chain) (t : Turn) : Type 0 where
  pub local : IsLocal x.call
  pub founded : x.start.below ≡ 0
  pub apart : StartsApart x.start
  pub whole : EndsWhole x
  pub fits : x.start.below + (rules_of x).heights + length t.blocks < 2 ^ 64

pub record CanRun (o : Course) : Type 0 where
  pub founded : o.first.start.below ≡ 0
  pub turns : (t : Turn) → o.turn ≡ Some t → CanTurn o.first t

-- ---- that of a file of blocks
-- the blocks below the height from which there are other boundaries
abbrev pub before_by : List Block → Option Reshard → List Block
before_by bs None = bs
before_by bs (Some r) = take (r.height.0 - 1) bs

abbrev pub blocks_before : ChainFile → List Block
blocks_before f = before_by f.blocks f.reshard

-- and the others, with these boundaries
abbrev pub turn_by : List Block → Option Reshard → Option Turn
turn_by bs None = None
turn_by bs (Some r) = Some (record { layout = r.layout; blocks = drop (r.height.0 - 1) bs })

abbrev pub turn_of : ChainFile → Option Turn
turn_of f = turn_by f.blocks f.reshard

abbrev pub course : Config → Genesis → ChainFile → (World → CallContext → Called) → Course
course c g f call = record { first = chain_with c (genesis_start g) (blocks_before f) call; turn = turn_of f }
