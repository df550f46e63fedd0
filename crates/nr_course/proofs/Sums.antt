-- Tokens and receipts of a course add up.
use Rattle.std.proofs.Common.{◌≡◌, ℕ, ◌+◌, List, Option, Some, None, refl, ap, ◌∙◌, arith}
use Rattle.std.specs.Prelude.{slice_index}
use Rattle.nr_chunk.specs.Chain.{Chain, IsChain, rules_of}
use Rattle.nr_chunk.specs.Start.{start_tokens}
use Rattle.nr_course.proofs.Ends.{goes_behind}
use Rattle.nr_course.specs.Course.{AreLegs, CanRun, Course, second}
use Rattle.nr_course.specs.Totals.{AddUp, AddsUp, receipts_at_first, tally_by, totals_behind}
use Rattle.nr_course.specs.declared.turn.Turn.{Turn}
use Rattle.nr_legs.proofs.Ends.{goes_on}
use Rattle.nr_legs.specs.Legs.{CanGoOn, GoesOn, cut_start}
use Rattle.nr_outcome.proofs.Adding.{alike}
use Rattle.nr_outcome.specs.Totals.{totals_at, totals_of}
use Rattle.nr_overlap.specs.Run.{ending}
use Rattle.nr_overlap.specs.declared.position.Position.{Position}
use Rattle.nr_places.proofs.Replay.{end_holds, replay_holds, as_ones}
use Rattle.nr_places.specs.Moments.{delayed, flying, postponed}
use Rattle.nr_places.specs.Places.{start_receipts}
use Rattle.nr_places.specs.Replay.{Holds}
use Rattle.nr_places.specs.Totals.{nothing, plus, tally_at, tally_of}

zero_on : (n : ℕ) → 0 + n ≡ n
zero_on n = omega arith

pub nothing_past : (x : Chain) (ps : List Position) → plus nothing (tally_at x ps) ≡ tally_at x ps
nothing_past x ps =
    alike nothing (tally_at x ps) (rules_of x).shards (tally_of x ps)
    (λ g is. is.both nothing (tally_at x ps) ∙ ap (λ n. n + g (tally_at x ps)) is.none ∙ zero_on (g (tally_at x ps)))

adds_at : (x : Chain) (ps : List Position) → Holds x ps → AddUp (receipts_at_first x) (totals_at x ps)
adds_at x ps holds = record { tokens = holds.tokens; places = holds.printed }

module _ (x : Chain) (is : IsChain x) (can : CanGoOn x) (t : Turn) (ps : List Position) where
  abbrev e : List Position
  e = ending (rules_of x)

  one : Holds x e
  one = end_holds x is

  on : GoesOn x t.layout
  on = goes_on x is can t.layout

  -- what waits at the end, by the numbers of the tally
  waits : start_receipts (λ q. 1) (cut_start x t.layout)
      ≡ slice_index (tally_at x e).places 2 + slice_index (tally_at x e).places 3 + slice_index (tally_at x e).places 4
  waits =
      omega (
        arith,
        on.receipts (λ q. 1),
        as_ones (postponed x e),
        as_ones (delayed x e),
        as_ones (flying x e),
        ap (λ (l : List ℕ). slice_index l 2) one.counts,
        ap (λ (l : List ℕ). slice_index l 3) one.counts,
        ap (λ (l : List ℕ). slice_index l 4) one.counts,
      )

  adds_behind : Holds (second x t) ps → AddUp (receipts_at_first x) (totals_behind x t ps)
  adds_behind two = record {
    tokens = omega (arith, two.tokens, on.tokens, one.tokens);
    places = omega (arith, two.printed, waits, one.printed);
  }

pub adds_up : (o : Course) → AreLegs o → CanRun o → AddsUp o
adds_up o legs can = record {
  first = λ es inside. adds_at o.first _ (replay_holds o.first legs.first es inside);
  behind = λ t e es inside. adds_behind o.first legs.first (goes t e) t _
      (replay_holds (second o.first t) (legs.behind t e) es inside);
  end = at_end o.turn refl;
}
  where
    goes : (t : Turn) → o.turn ≡ Some t → CanGoOn o.first
    goes t e = goes_behind o.first t legs.first (can.turns t e)

    at_end : (u : Option Turn) → o.turn ≡ u → AddUp (receipts_at_first o.first)
        (totals_of (start_tokens o.first.config o.first.start) (tally_by o.first u))
    at_end None e = adds_at o.first (ending (rules_of o.first)) (end_holds o.first legs.first)
    at_end (Some t) e =
        adds_behind o.first legs.first (goes t e) t (ending (rules_of (second o.first t)))
        (end_holds (second o.first t) (legs.behind t e))
