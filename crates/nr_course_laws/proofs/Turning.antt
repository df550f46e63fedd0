-- A change of boundaries leaves totals and places as they are.
use Rattle.std.proofs.Common.{◌≡◌, ℕ, List, length, sym, ap, ◌∙◌, arith}
use Rattle.std.specs.Prelude.{slice_index}
use Rattle.nr_chunk.specs.Chain.{Chain, IsChain}
use Rattle.nr_chunk.specs.Start.{IsStart}
use Rattle.nr_chunk.specs.Tallies.{five}
use Rattle.nr_course.proofs.Ends.{goes_behind}
use Rattle.nr_course.specs.Course.{CanTurn, second}
use Rattle.nr_course.specs.Totals.{tally_behind}
use Rattle.nr_course.specs.declared.turn.Turn.{Turn}
use Rattle.nr_course_laws.proofs.Opening.{accounts_first, delayed_count, delayed_first, flying_count, flying_first}
use Rattle.nr_course_laws.proofs.Opening.{none_burnt, none_executed, none_routed, postponed_count, postponed_first}
use Rattle.nr_course_laws.proofs.Opening.{tokens_first}
use Rattle.nr_course_laws.proofs.Over.{accounts_over, delayed_over, postponed_over}
use Rattle.nr_course_laws.specs.Turning.{StaysAlike, TurnsAlike, behind, over}
use Rattle.nr_cut.proofs.Cuts.{keeps_worlds}
use Rattle.nr_cut.proofs.Maps.{sum_both}
use Rattle.nr_cut.specs.Laws.{KeepsWorlds}
use Rattle.nr_legs.proofs.Ends.{can_cut, goes_on}
use Rattle.nr_legs.specs.Legs.{CanGoOn, GoesOn, last_worlds}
use Rattle.nr_overlap.specs.declared.position.Position.{Position}
use Rattle.nr_places.proofs.Replay.{end_holds, as_ones}
use Rattle.nr_places.specs.Moments.{delayed, executed, flying, postponed, routed}
use Rattle.nr_places.specs.Replay.{Holds}
use Rattle.nr_places.specs.Totals.{tally_at}
use Rattle.nr_state.specs.Tokens.{delayed_sum, postponed_sum}

module _ (x : Chain) (t : Turn) (is : IsChain x) (can : CanTurn x t) where
  abbrev y : Chain
  y = second x t

  abbrev e : List Position
  e = over x t

  abbrev o : List Position
  o = behind x t

  on_it : CanGoOn x
  on_it = goes_behind x t is can

  on : GoesOn x t.layout
  on = goes_on x is on_it t.layout

  keeps : KeepsWorlds x.config x.start.boundaries t.layout (last_worlds x)
  keeps = keeps_worlds x.config x.start.boundaries t.layout (last_worlds x) (can_cut x is on_it)

  one : Holds x e
  one = end_holds x is

  starts : IsStart y.config y.start
  starts = on.start

  -- ---- the places
  postponed_same : StaysAlike x t postponed
  postponed_same f = postponed_first y starts f ∙ keeps.postponed_sum f ∙ sym (postponed_over x f)

  delayed_same : StaysAlike x t delayed
  delayed_same f = delayed_first y starts f ∙ keeps.delayed_sum f ∙ sym (delayed_over x f)

  -- all three are together what the start of the second leg has
  flying_same : StaysAlike x t flying
  flying_same f =
      omega (
        arith,
        on.receipts f,
        sum_both (postponed_sum f) (delayed_sum f) y.start.worlds,
        postponed_first y starts f,
        delayed_first y starts f,
        flying_first y starts f,
        postponed_same f,
        delayed_same f,
      )

  -- ---- the totals
  accounts_same : (tally_behind x t o).accounts ≡ (tally_at x e).accounts
  accounts_same = omega (arith, accounts_first y starts, keeps.accounts_sum, accounts_over x)

  receipts_same : (tally_behind x t o).receipts ≡ (tally_at x e).receipts
  receipts_same = omega (arith, accounts_same, tokens_first y starts, on.tokens)

  burnt_same : (tally_behind x t o).burnt ≡ (tally_at x e).burnt
  burnt_same = omega (arith, none_burnt y)

  count_over : (i : ℕ) → slice_index (tally_at x e).places i
      ≡ slice_index (five (length (routed x e)) (length (executed x e)) (length (postponed x e)) (length (delayed x e))
      (length (flying x e))) i
  count_over i = ap (λ (l : List ℕ). slice_index l i) one.counts

  places_same : (tally_behind x t o).places ≡ (tally_at x e).places
  places_same = (λ i. five (c0 i) (c1 i) (c2 i) (c3 i) (c4 i)) ∙ sym one.counts
    where
      c0 : slice_index (tally_behind x t o).places 0 ≡ length (routed x e)
      c0 = omega (arith, none_routed y, count_over 0)

      c1 : slice_index (tally_behind x t o).places 1 ≡ length (executed x e)
      c1 = omega (arith, none_executed y, count_over 1)

      c2 : slice_index (tally_behind x t o).places 2 ≡ length (postponed x e)
      c2 = omega (arith, postponed_count y, postponed_same (λ q. 1), as_ones (postponed x e))

      c3 : slice_index (tally_behind x t o).places 3 ≡ length (delayed x e)
      c3 = omega (arith, delayed_count y, delayed_same (λ q. 1), as_ones (delayed x e))

      c4 : slice_index (tally_behind x t o).places 4 ≡ length (flying x e)
      c4 = omega (arith, flying_count y, flying_same (λ q. 1), as_ones (flying x e))

  totals_same : tally_behind x t o ≡ tally_at x e
  totals_same = λ i. record {
    accounts = accounts_same i;
    receipts = receipts_same i;
    burnt = burnt_same i;
    places = places_same i;
  }

  pub turns_alike : TurnsAlike x t
  turns_alike = record {
    totals = totals_same;
    postponed = postponed_same;
    delayed = delayed_same;
    flying = flying_same;
  }
