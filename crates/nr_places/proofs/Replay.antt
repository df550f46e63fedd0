-- The replay theorem: what holds at each moment of a run.
use Rattle.std.proofs.Common.{◌≡◌, ℕ, suc, ◌+◌, ◌<◌, List, [], ◌∷◌, length, Option, Some, None, refl, sym, subst, ◌∙◌, arith}
use Rattle.std.specs.Prelude.{sum_by}
use Rattle.std.proofs.lemmas.List.Sums.{sum_by-cons}
use Rattle.nr_chunk.specs.Amounts.{tokens}
use Rattle.nr_chunk.specs.Chain.{Chain, IsChain, rules_of}
use Rattle.nr_chunk.specs.Lasting.{flight_is, reached_by, reached_end, report_is, tried_reached}
use Rattle.nr_chunk.specs.Lawful.{one_each, tokens_kept}
use Rattle.nr_chunk.specs.Views.{Kept, Working}
use Rattle.nr_overlap.specs.Balance.{AddsUp, AllAddsUp, Amount, IsKeptBy}
use Rattle.nr_overlap.specs.Cut.{IsSerialCut}
use Rattle.nr_overlap.specs.Held.{IsReached}
use Rattle.nr_overlap.specs.Inside.{AreInside}
use Rattle.nr_overlap.specs.Moves.{refusal}
use Rattle.nr_overlap.specs.Rules.{Rules}
use Rattle.nr_overlap.specs.Run.{moved_if, tried, run_of, opening, ending}
use Rattle.nr_overlap.specs.declared.event.Event.{Event}
use Rattle.nr_overlap.specs.declared.event.Why.{Why}
use Rattle.nr_overlap.specs.declared.position.Position.{Position}
use Rattle.nr_overlap.proofs.Along.{at_height}
use Rattle.nr_overlap.proofs.Cutting.{cuts_are_serial}
use Rattle.nr_overlap.proofs.Ended.{is_ending}
use Rattle.nr_overlap.proofs.Founding.{at_replicate}
use Rattle.nr_overlap.proofs.Leading.{reached_are_led}
use Rattle.nr_overlap.proofs.Sums.{first_sums, keeps_sums}
use Rattle.nr_places.proofs.Counts.{all_counts}
use Rattle.nr_places.proofs.Kept.{places_kept}
use Rattle.nr_places.proofs.Placed.{places_add_up}
use Rattle.nr_places.proofs.Sums.{tokens_add_up}
use Rattle.nr_places.specs.Moments.{routed, executed, postponed, delayed, flying}
use Rattle.nr_places.specs.Places.{places, start_receipts}
use Rattle.nr_places.specs.Replay.{Holds, HoldsAtEnd, HoldsIn, HoldsWhereReached, PlacesAddUp, cut_by}
use Rattle.nr_records.specs.declared.chunk_result.ChunkResult.{ChunkResult}
use Rattle.nr_records.specs.declared.receipt.Receipt.{Receipt}

-- ---- lengths are sums
pub as_ones : (list : List Receipt) → sum_by (λ q. 1) list ≡ length list
as_ones [] = refl
as_ones (q ∷ rest) = sum_by-cons (λ q. 1) q rest ∙ one_and (sum_by (λ q. 1) rest) (length rest) (as_ones rest)
  where
    one_and : (a b : ℕ) → a ≡ b → 1 + a ≡ suc b
    one_and a b e = omega (arith, e)

-- ---- sums along a list of events
module _ {W K L R : Type 0} (r : Rules W K L R) (one_each : (k : K) → length (r.seals k).lists ≡ r.shards) (m : Amount W K L R) (kept : IsKeptBy r m) where
  run_sums : (es : List Event) (ps : List Position) → IsReached r ps → AreInside r.shards es → AddsUp r m ps → AddsUp r m (run_of r ps es)
  run_sums [] ps is inside adds = adds
  run_sums (e ∷ es) ps is inside adds = run_sums es (tried r ps e) (tried_reached r ps e is inside.0) inside.1 (by (refusal r ps e) refl)
    where
      by : (o : Option Why) → refusal r ps e ≡ o → AddsUp r m (moved_if o ps e)
      by None none = keeps_sums r m ps e is inside.0 none one_each kept adds
      by (Some why) some = adds

  sums_by : (es : List Event) → AreInside r.shards es → AddsUp r m (run_of r (opening r) es)
  sums_by es inside = run_sums es (opening r) (reached_by r [] tt) inside (first_sums r m (opening r) (at_replicate r.shards))

  sums_at_end : 0 < r.shards → AddsUp r m (ending r)
  sums_at_end some =
      let past = at_height r (AddsUp r m) (λ ps e here inside none was. keeps_sums r m ps e here inside none one_each kept was) (first_sums r m (opening r) (at_replicate r.shards)) r.heights (omega arith) some in
      subst (AddsUp r m) (is_ending r past.0 past.1.reached.count (λ s l. past.2 s l)) past.1.kept

module _ (x : Chain) (is : IsChain x) where
  abbrev r : Rules Kept Working (List Receipt) ChunkResult
  r = rules_of x

  -- ---- where its amounts add up and steps lead
  holds_where : (ps : List Position) → IsReached r ps → AddsUp r (tokens x) ps → ((f : Receipt → ℕ) → AddsUp r (places x f) ps) → Holds x ps
  holds_where ps reached tokens_add places_add =
      let counts = all_counts x is ps reached in
      let all = places_add_up x ps (λ q. 1) is (places_add (λ q. 1)) in
      let first : ℕ = start_receipts (λ q. 1) x.start in
      record {
        tokens = tokens_add_up x ps is tokens_add;
        places = λ f. places_add_up x ps f is (places_add f);
        counts = counts;
        printed = subst (PlacesAddUp first) (sym counts) (ones first (routed x ps) (executed x ps) (postponed x ps) (delayed x ps) (flying x ps) all);
      }
    where
      ones : (first : ℕ) (a b c d e : List Receipt) → first + sum_by (λ q. 1) a ≡ sum_by (λ q. 1) b + sum_by (λ q. 1) c + sum_by (λ q. 1) d + sum_by (λ q. 1) e
          → first + length a ≡ length b + length c + length d + length e
      ones first a b c d e all = omega (arith, all, as_ones a, as_ones b, as_ones c, as_ones d, as_ones e)

  pub holds_at : (ps : List Position) → IsReached r ps → AllAddsUp r ps → Holds x ps
  holds_at ps reached adds = holds_where ps reached (adds (tokens x) (tokens_kept x is)) (λ f. adds (places x f) (places_kept x is f))

  pub replay_holds : (es : List Event) → AreInside r.shards es → Holds x (run_of r (opening r) es)
  replay_holds es inside = holds_at (run_of r (opening r) es) (reached_by r es inside) (λ m kept. sums_by r (one_each x is) m kept es inside)

  pub end_holds : Holds x (ending r)
  end_holds = holds_at (ending r) (reached_end r) (λ m kept. sums_at_end r (one_each x is) m kept (omega arith))

  -- ---- of the cuts that events make
  pub holds_in : (es : List Event) → AreInside r.shards es → HoldsIn x (cut_by x es) (run_of r (opening r) es)
  holds_in es inside =
      let ps : List Position = run_of r (opening r) es in
      let serial : IsSerialCut r (cut_by x es) ps = cuts_are_serial r (one_each x is) es inside in
      record {
        serial = serial;
        chunks = λ s h y e. report_is r ps s h y (sym (serial.report s h) ∙ e);
        lists = λ s h d list e. (flight_is r ps s h d list (sym (serial.list s h d) ∙ e)).1;
        sums = replay_holds es inside;
      }

  pub holds_reached : HoldsWhereReached x
  holds_reached ps reached =
      let led = reached_are_led r ps reached in
      (led.0, led.1, led.2, subst (HoldsIn x (cut_by x led.0)) led.2 (holds_in led.0 led.1))

  pub holds_over : HoldsAtEnd x
  holds_over = holds_reached (ending r) (reached_end r)
