-- What the parts of a run that is made again show together.
use Rattle.std.proofs.Common.{◌≡◌, ◌+◌, ◌^◌, ℕ, true, List, [], ◌∷◌, Result, Ok, sym, ap, subst, ◌∙◌}
use Rattle.std.specs.Prelude.{◌&&◌, length, nat_le, nat_lt, if◌then◌else◌}
use Rattle.std.specs.FinMap.{entries}
use Rattle.std.specs.List.{AllByRecursion}
use Rattle.std.proofs.lemmas.Bool.{leb-true, ltb-true}
use Rattle.nr_bytes.proofs.Basics.{left_true, right_true}
use Rattle.nr_bytes.specs.Numbers.{IsBytes}
use Rattle.nr_bytes.specs.Reading.{◌>>=◌}
use Rattle.nr_chunk.specs.Goodness.{AreGood, IsGood}
use Rattle.nr_chunk.specs.Views.{Kept}
use Rattle.nr_chunk.proofs.Small.{small_world}
use Rattle.nr_columns.specs.Entries.{pairs_of}
use Rattle.nr_columns.specs.declared.entry.Entry.{Entry}
use Rattle.nr_config.specs.Config.{Config}
use Rattle.nr_entries.specs.Told.{AreBytes}
use Rattle.nr_fees.specs.Fees.{gas_of, price_of}
use Rattle.nr_gathered.specs.declared.gathered.Gathered.{Gathered}
use Rattle.nr_ids.specs.declared.key.Hash32.{Hash32}
use Rattle.nr_overlap.specs.Rules.{Sealing}
use Rattle.nr_receipt.specs.Keeping.{HasSmallCalls}
use Rattle.nr_records.specs.declared.chunk_result.ChunkResult.{ChunkResult}
use Rattle.nr_records.specs.declared.receipt.Receipt.{Receipt}
use Rattle.nr_remake.specs.Marks.{marked_whole}
use Rattle.nr_remake.specs.Merging.{marked, marks_of, merge, remade}
use Rattle.nr_state.specs.Calls.{Called}
use Rattle.nr_state.specs.Flat.{flat}
use Rattle.nr_state.specs.FromEntries.{AreWholeEntries, world_from}
use Rattle.nr_state.specs.Tokens.{list_tokens, world_tokens}
use Rattle.nr_state.specs.View.{ArePostponed}
use Rattle.nr_state.specs.World.{World}
use Rattle.nr_state.specs.Worlds.{IsWorld}
use Rattle.nr_state.specs.declared.calls.CallContext.{CallContext}
use Rattle.nr_state.proofs.EntryWorlds.{world_fits, world_postponed}
use Rattle.nr_triedef.specs.Root.{paths, summary_of}
use Rattle.nr_worlds.specs.Answers.{world_checked}
use Rattle.nr_worlds.specs.Judging.{is_world}
use Rattle.nr_worlds.specs.Laws.{AreOfWorld}
use Rattle.nr_worlds.specs.Valid.{is_bounded}
use Rattle.nr_recheck.specs.Bounds.{are_bounded, are_within}
use Rattle.nr_recheck.specs.Laws.{EndsWell, IsShowable}
use Rattle.nr_recheck.specs.Rechecking.{Found, entries_of, is_placed, prepared, rechecked, report_from, sealed_on}
use Rattle.nr_recheck.specs.Running.{CanRun}
use Rattle.nr_recheck.proofs.Prepared.{passed}
use Rattle.nr_recheck.proofs.Replaced.{pairs_entries}

-- ---- what the answer of the first part allows
good_one : (c : Config) (r : Receipt) → is_bounded c r ≡ true → HasSmallCalls r.body → IsGood c r
good_one c r bounded calls = record {
  bounded = record {
    price = ltb-true (price_of r) (2 ^ 64) (left_true (nat_lt (price_of r) (2 ^ 64)) (nat_lt (gas_of c r) (2 ^ 64)) bounded);
    gas = ltb-true (gas_of c r) (2 ^ 64) (right_true (nat_lt (price_of r) (2 ^ 64)) (nat_lt (gas_of c r) (2 ^ 64)) bounded);
  };
  calls = calls;
}

good_all : (c : Config) (list : List Receipt) → are_bounded c list ≡ true → AllByRecursion (λ (r : Receipt). HasSmallCalls r.body) list → AreGood c list
good_all c [] bounded calls = tt
good_all c (r ∷ list) bounded calls = (
  good_one c r (left_true (is_bounded c r) (are_bounded c list) bounded) calls.0,
  good_all c list (right_true (is_bounded c r) (are_bounded c list) bounded) calls.1,
)

pub of_checked : (c : Config) (es : List Entry) (u : Unit {0}) → AreBytes es → world_checked c es ≡ Ok u → (AreBytes es → is_world c es ≡ true → AreOfWorld c es) → AreOfWorld c es
of_checked c es u bytes e sound = sound bytes (passed (is_world c es) u e)

pub can_run : (c : Config) (g : Gathered) (es : List Entry) → is_placed g ≡ true → AreOfWorld c es → are_within c g.taken (world_from es) ≡ true → AllByRecursion (λ (r : Receipt). HasSmallCalls r.body) g.taken → CanRun c g es
can_run c g es placed of within calls =
    let w = world_from es in
    let roomy = nat_le (world_tokens c w + list_tokens c g.taken) (2 ^ 127) in
    let seldom = nat_le (w.served + length w.delayed) (2 ^ 63) in
    record {
      placed = placed;
      whole = of.whole;
      valid = of.valid;
      small = small_world w of.fits;
      good = good_all c g.taken (left_true (are_bounded c g.taken) (roomy && seldom) within) calls;
      room = leb-true (world_tokens c w + list_tokens c g.taken) (2 ^ 127) (left_true roomy seldom (right_true (are_bounded c g.taken) (roomy && seldom) within));
    }

-- ---- what the chunk leaves
module _ (c : Config) (call : World → CallContext → Called) (g : Gathered) (found : Found) (made : prepared c g ≡ Ok found)
    (after : List Entry) (whole : AreWholeEntries after) (again : world_from after ≡ (sealed_on c call g (world_from found.1)).world.world)
    (pairs : pairs_of after ≡ entries (flat (sealed_on c call g (world_from found.1)).world.world)) where
  abbrev sealed : Sealing Kept (List Receipt) ChunkResult
  sealed = sealed_on c call g (world_from found.1)

  abbrev new : World
  new = sealed.world.world

  pub ends_well : AllByRecursion (λ (e : List ℕ × List ℕ). IsBytes e.0) (pairs_of after) → EndsWell c call g
  ends_well bytes = λ other made_too.
      let same : found ≡ other = ok_found found other (sym made ∙ made_too) in
      subst (λ (f : Found). IsShowable (sealed_on c call g (world_from f.1)).world.world) same (record {
        fits = subst IsWorld again (world_fits after whole);
        postponed = subst ArePostponed again (world_postponed after whole);
        bytes = subst (AllByRecursion (λ (e : List ℕ × List ℕ). IsBytes e.0)) pairs bytes;
      })
    where
      ok_found : {F : Type 0} (a b : Found) → ◌≡◌ {A = Result Found F} (Ok a) (Ok b) → a ≡ b
      ok_found a b e = cc

  root_is : (root : Hash32) → root ≡ remade found.0 after → root ≡ remade found.0 (entries_of new)
  root_is root e =
      e ∙ ap (λ (es : List (List ℕ × List ℕ)). (summary_of (marked_whole (merge (marks_of found.0) (marked (paths es))))).hash) (pairs ∙ sym (pairs_entries new))

  pub gives_report : (report : ChunkResult) (root : Hash32) → report ≡ sealed.report → root ≡ remade found.0 after → rechecked c call g ≡ Ok (record report { root = root })
  unfolding rechecked
  gives_report report root is e =
      ap (λ r. r >>= λ (f : Found). Ok (report_from c call g f)) made
      ∙ (λ i. Ok (record (sym is i) { root = sym (root_is root e) i }))
