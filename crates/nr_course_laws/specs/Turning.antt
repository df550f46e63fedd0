-- What a change of boundaries leaves as it is: the totals, and the receipts in each place. This project's own.
use Rattle.std.specs.Prelude.{◌≡◌, ℕ, List, sum_by}
use Rattle.nr_chunk.specs.Chain.{Chain, rules_of}
use Rattle.nr_course.specs.Course.{second}
use Rattle.nr_course.specs.Totals.{tally_behind}
use Rattle.nr_course.specs.declared.turn.Turn.{Turn}
use Rattle.nr_overlap.specs.Run.{ending, opening}
use Rattle.nr_overlap.specs.declared.position.Position.{Position}
use Rattle.nr_places.specs.Moments.{delayed, flying, postponed}
use Rattle.nr_places.specs.Totals.{tally_at}
use Rattle.nr_records.specs.declared.receipt.Receipt.{Receipt}

module _ (x : Chain) (t : Turn) where
  -- where the first leg is over, and where the second one opens
  abbrev pub over : List Position
  over = ending (rules_of x)

  abbrev pub behind : List Position
  behind = opening (rules_of (second x t))

  -- a place has the same receipts on both sides: whatever receipts have, as the count of one of them, it has as much of
  -- it behind the change as before
  abbrev pub StaysAlike : (Chain → List Position → List Receipt) → Type 0
  StaysAlike place = (f : Receipt → ℕ) → sum_by f (place (second x t) behind) ≡ sum_by f (place x over)

  pub record TurnsAlike : Type 0 where
    -- tokens of accounts and of receipts, burnt ones, and how many receipts were routed and executed, are postponed,
    -- delayed and in flight
    pub totals : tally_behind x t behind ≡ tally_at x over
    -- postponed receipts stay postponed, delayed ones delayed, and those in flight in flight
    pub postponed : StaysAlike postponed
    pub delayed : StaysAlike delayed
    pub flying : StaysAlike flying
