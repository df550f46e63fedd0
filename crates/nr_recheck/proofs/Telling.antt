-- A report is that of the chunk from every whole state that the texts go with.
use Rattle.std.proofs.Common.{◌≡◌, ℕ, Bool, List, [], ◌∷◌, ◌++◌, map, Ok, refl, sym, ap, subst, ◌∙◌}
use Rattle.std.specs.List.{AllByRecursion}
use Rattle.nr_chunk.specs.Locality.{is_in, touched}
use Rattle.nr_chunk.proofs.Localized.{valid_keyed}
use Rattle.nr_chunk.specs.Views.{Kept}
use Rattle.nr_config.specs.Config.{Config}
use Rattle.nr_gathered.specs.declared.gathered.Gathered.{Gathered}
use Rattle.nr_ids.specs.declared.key.Hash32.{Hash32}
use Rattle.nr_records.specs.Ids.{IsId}
use Rattle.nr_records.specs.Receipts.{IsReceipt}
use Rattle.nr_records.specs.declared.chunk_result.ChunkResult.{ChunkResult}
use Rattle.nr_records.specs.declared.receipt.Receipt.{Receipt}
use Rattle.nr_records.specs.declared.transaction.Transaction.{Transaction}
use Rattle.nr_remake.specs.Merging.{pairs_of, remade}
use Rattle.nr_remake.proofs.Changed.{one_root}
use Rattle.nr_state.specs.Calls.{Called}
use Rattle.nr_state.specs.Entries.{IsReadBack}
use Rattle.nr_state.specs.Flat.{flat}
use Rattle.nr_state.specs.FromEntries.{world_from}
use Rattle.nr_state.specs.Keyed.{IsKeyed}
use Rattle.nr_state.specs.Local.{IsLocal}
use Rattle.nr_state.specs.Scopes.{all_of, over, part_of}
use Rattle.nr_state.specs.World.{World}
use Rattle.nr_state.specs.declared.calls.CallContext.{CallContext}
use Rattle.nr_state.proofs.EntryWorlds.{entries_again}
use Rattle.nr_state.proofs.OverEntries.{read_part}
use Rattle.nr_state.proofs.ValidPart.{part_fits, part_valid}
use Rattle.nr_state.proofs.WorldsRead.{world_read}
use Rattle.nr_stateless.specs.Accounts.{found_of, searched_of}
use Rattle.nr_stateless.specs.Changing.{IsPart, IsReplaced}
use Rattle.nr_stateless.proofs.ByKeys.{accounts_shown, replaced_changed}
use Rattle.nr_stateless.proofs.FoundEntries.{parts_shown}
use Rattle.nr_triedef.specs.Root.{root_of}
use Rattle.nr_walk.specs.Texts.{texts_of}
use Rattle.nr_walk.proofs.ShownMaps.{map_shown}
use Rattle.nr_recheck.specs.Laws.{EndsWell, GoesWith, HasIds, IsShowable, TellsChunk}
use Rattle.nr_recheck.specs.Rechecking.{Found, entries_of, rechecked, report_from, sealed_on, touched_by, walked}
use Rattle.nr_recheck.proofs.Chunks.{part_closed, same_seal}
use Rattle.nr_recheck.proofs.Parts.{found_part}
use Rattle.nr_recheck.proofs.Prepared.{IsPrepared, has_prepared, has_rechecked, has_walked}
use Rattle.nr_recheck.proofs.Replaced.{own_entries, replaced_world}

-- ---- lists of ids
appended : (P : List ℕ → Type 0) (xs ys : List (List ℕ)) → AllByRecursion P xs → AllByRecursion P ys → AllByRecursion P (xs ++ ys)
appended P [] ys h k = k
appended P (x ∷ xs) ys h k = (h.0, appended P xs ys h.1 k)

mapped : {A : Type 0} (P : List ℕ → Type 0) (f : A → List ℕ) (xs : List A) → AllByRecursion (λ x. P (f x)) xs → AllByRecursion P (map f xs)
mapped P f [] h = tt
mapped P f (x ∷ xs) h = (h.0, mapped P f xs h.1)

receivers_are : (rs : List Receipt) → AllByRecursion IsReceipt rs → AllByRecursion (λ (r : Receipt). IsId r.receiver) rs
receivers_are [] h = tt
receivers_are (r ∷ rs) h = (h.0.1.0, receivers_are rs h.1)

module _ (c : Config) (g : Gathered) (w : World) (h : HasIds g) (goes : GoesWith c g w) where
  pub keyed : IsKeyed w
  keyed = valid_keyed c w goes.valid

  pub read : IsReadBack w
  read = world_read w goes.fits goes.valid.waiting.postponed

  pub touched_ids : AllByRecursion IsId (touched w g.transactions g.taken)
  touched_ids =
      appended IsId (map (λ (tx : Transaction). tx.signer) g.transactions) (map (λ (r : Receipt). r.receiver) w.delayed ++ map (λ (r : Receipt). r.receiver) g.taken)
      (mapped IsId (λ (tx : Transaction). tx.signer) g.transactions h.signers)
      (appended IsId (map (λ (r : Receipt). r.receiver) w.delayed) (map (λ (r : Receipt). r.receiver) g.taken)
      (mapped IsId (λ (r : Receipt). r.receiver) w.delayed (receivers_are w.delayed goes.fits.delayed))
      (mapped IsId (λ (r : Receipt). r.receiver) g.taken h.receivers))

  -- ---- what a walk gives
  pub shown : (ids : List (List ℕ)) (found : Found) → walked g ids ≡ Ok found → IsPart ids (flat w) found.0 × (pairs_of found.1 ≡ found_of ids (flat w))
  shown ids found e =
      let is = has_walked g ids found e in
      accounts_shown ids (searched_of ids) (texts_of g.texts) g.prior_root found refl
      (parts_shown (searched_of ids) (texts_of g.texts) g.prior_root is.gains found is.is (map_shown (texts_of g.texts) (searched_of ids) g.prior_root is.gains is.walk))
      (flat w) goes.agrees

  -- the entries are those of the part, which can be told from them
  pub part_told : (ids : List (List ℕ)) (found : Found) → AllByRecursion IsId ids → walked g ids ≡ Ok found → world_from found.1 ≡ part_of (is_in ids) w
  part_told ids found all e =
      let x = is_in ids in
      let valid = part_valid x c w goes.valid in
      entries_again (part_of x w) (part_fits x w goes.fits) valid.waiting.postponed found.1 ((shown ids found e).1 ∙ found_part ids all w keyed read)

  module _ (call : World → CallContext → Called) (local : IsLocal call) (found : Found) (is : IsPrepared c g found) where
    abbrev ids : List (List ℕ)
    ids = touched w g.transactions g.taken

    queue_told : touched_by g (world_from is.queue.1).delayed ≡ ids
    queue_told = ap (λ (v : World). touched_by g v.delayed) (part_told [] is.queue tt is.first)

    walked_all : walked g ids ≡ Ok found
    walked_all = sym (ap (walked g) queue_told) ∙ is.second

    pub world_told : world_from found.1 ≡ part_of (is_in ids) w
    world_told = part_told ids found touched_ids walked_all

    abbrev x : List ℕ → Bool
    x = is_in ids

    abbrev part : World
    part = part_of x w

    abbrev new : World
    new = (sealed_on c call g part).world.world

    -- the root of the whole new world
    root_told : IsShowable new → remade found.0 (entries_of new) ≡ (root_of (flat (sealed_on c call g w).world.world)).hash
    root_told showable =
        let keyed_new : IsKeyed new = λ k r there. sym (ap (λ (key : List ℕ × List ℕ). key.0) (showable.postponed.each k r there).keyed) in
        let read_new : IsReadBack new = world_read new showable.fits showable.postponed in
        let keyed_part : IsKeyed part = valid_keyed c part (part_valid x c w goes.valid) in
        let own = own_entries x new w keyed_new keyed read_new read keyed_part (read_part x w keyed read) (part_closed c call local g w keyed keyed_part) in
        let replaced : IsReplaced ids (flat w) (flat (over (all_of x) new w)) (entries_of new) =
        replaced_world ids touched_ids new w keyed_new keyed read_new read own showable.bytes goes.agrees.bytes in
        one_root found.0 (entries_of new) (searched_of ids) (flat w) (flat (over (all_of x) new w)) (shown ids found walked_all).0
        (replaced_changed ids (flat w) (flat (over (all_of x) new w)) (entries_of new) replaced)
        ∙ ap (λ (v : World). (root_of (flat v)).hash) (sym (ap (λ (k : Kept). k.world) (same_seal c call local g w keyed).world))

    pub report_told : IsShowable new → report_from c call g found ≡ (sealed_on c call g w).report
    report_told showable =
        let whole = (sealed_on c call g w).report in
        ap (λ (v : World). record (sealed_on c call g v).report { root = remade found.0 (entries_of (sealed_on c call g v).world.world) }) world_told
        ∙ ap (λ (root : Hash32). record (sealed_on c call g part).report { root = root }) (root_told showable)
        ∙ sym (same_seal c call local g w keyed).report

pub told_chunk : (c : Config) (call : World → CallContext → Called) (g : Gathered) (r : ChunkResult) → IsLocal call → HasIds g → EndsWell c call g → rechecked c call g ≡ Ok r → TellsChunk c call g r
told_chunk c call g r local h ends e w goes =
    let made = has_rechecked c call g r e in
    let is = has_prepared c g made.0 made.1.0 in
    let well : IsShowable (sealed_on c call g (world_from made.0.1)).world.world = ends made.0 made.1.0 in
    let told = world_told c g w h goes call local made.0 is in
    sym made.1.1 ∙ report_told c g w h goes call local made.0 is (subst (λ (v : World). IsShowable (sealed_on c call g v).world.world) told well)
