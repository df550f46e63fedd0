-- Each step of a worker leaves it where the serial run is.
use Rattle.std.proofs.Common.{◌≡◌, ℕ, ◌+◌, ◌-◌, ◌<◌, ◌≤◌, Bool, true, false, cond, List, [], ◌∷◌, ◌++◌, Some, None, Option, length, max, refl, sym, ap, ◌∙◌, subst, arith}
use Rattle.std.specs.Prelude.{nat_lt, IfSome}
use Rattle.std.specs.Option.{option_map, option_to_list}
use Rattle.std.specs.List.{flat_map}
use Rattle.std.proofs.lemmas.List.{append-nil}
use Rattle.nr_overlap.specs.Rules.{Rules, Sealing}
use Rattle.nr_overlap.specs.Serial.{first_due, list_to, with_list, worked, past_after, sealing_at, last_work}
use Rattle.nr_overlap.specs.Lawful.{AreLawful}
use Rattle.nr_overlap.proofs.SerialLemmas.{sealing_there, sealing_missing, world_there, world_missing}
use Rattle.nr_exchange.specs.declared.planned.Serial.{Serial}
use Rattle.nr_exchange.specs.SerialPlan.{serial_plan}
use Rattle.nr_exchange.specs.Notes.{link, passed}
use Rattle.nr_exchange.specs.Views.{ExchangeView}
use Rattle.nr_exchange.specs.Ports.{IsPortOf}
use Rattle.nr_exchange.specs.Laws.{lists_there}
use Rattle.nr_overlap.specs.Outcome.{report_at, reports_to}
use Rattle.nr_workers.specs.Taking.{pairs_before, source_after, done_after, HasClaimed, Finds, IsInbox}
use Rattle.nr_workers.specs.Left.{slot_of}
use Rattle.nr_workers.specs.declared.left.Left.{Left}
use Rattle.nr_workers.specs.Stages.{IsBetween, IsAt}
use Rattle.nr_workers.specs.declared.inbox.Inbox.{Inbox}
use Rattle.nr_workers.specs.declared.inbox.Found.TheVariants.{Passed}
use Rattle.nr_workers.specs.declared.worker.Stage.{Stage}
use Rattle.nr_workers.specs.declared.worker.Stage.TheVariants.{Idle, Opened, Sealed, Ended}
use Rattle.nr_overlap.proofs.Orders.{flat_map_more}
use Rattle.nr_workers.proofs.Takings.{last_small, last_missing, still_claimed}
use Rattle.nr_workers.proofs.Rows.{no_list_yet, list_after}
use Rattle.nr_workers.proofs.Pairs.{work_opened, work_takes, work_whole, may_take}

module _ {W K L R : Type 0} (r : Rules W K L R) where
  reports_more : (s h : ℕ) → reports_to r s (h + 1) ≡ reports_to r s h ++ report_at r s (h + 1)
  reports_more s h =
      let n : (h + 1) + 1 - 1 ≡ ((h + 1) - 1) + 1 = omega arith in
      let z : 1 + ((h + 1) - 1) ≡ h + 1 = omega arith in
      ap (λ (m : ℕ). flat_map (report_at r s) (Rattle.std.specs.List.range_with_len 1 m)) n ∙ flat_map_more (report_at r s) 1 ((h + 1) - 1) ∙ ap (λ (t : ℕ). reports_to r s h ++ report_at r s t) z

  pub reports_there : (s h : ℕ) → r.present s (h + 1) ≡ true → reports_to r s (h + 1) ≡ reports_to r s h ++ (r.seals (last_work r s h)).report ∷ []
  reports_there s h there = reports_more s h ∙ ap (λ o. reports_to r s h ++ option_to_list (option_map (λ (z : Sealing W L R). z.report) o)) (sealing_there r s h there)

  pub reports_missing : (s h : ℕ) → r.present s (h + 1) ≡ false → reports_to r s (h + 1) ≡ reports_to r s h
  reports_missing s h missing = reports_more s h ∙ ap (λ o. reports_to r s h ++ option_to_list (option_map (λ (z : Sealing W L R). z.report) o)) (sealing_missing r s h missing) ∙ append-nil (reports_to r s h)

  -- a list that was sent is of a chunk that is there
  pub sent_there : (t done s : ℕ) (list : L) → list_to r (sealing_at r t (done + 1)) s ≡ Some list → r.present t (done + 1) ≡ true
  sent_there t done s list is = by (r.present t (done + 1)) refl
    where
      nothing : (x : L) → ◌≡◌ {A = Option L} None (Some x) → ⊥
      nothing x e = cc

      by : (b : Bool) → r.present t (done + 1) ≡ b → b ≡ true
      by true e = refl
      by false e = absurd (nothing list (ap (λ o. list_to r o s) (sym (sealing_missing r t done e)) ∙ is))

  pub first_missing : (s h : ℕ) → r.present s (h + 1) ≡ false → first_due r s h ≡ first_due r s (h + 1)
  first_missing s h missing = ap (max 1) (last_missing r s h missing)

module _ {P W K L R : Type 0} (rules : P → Rules W K L R) (e : ExchangeView (Serial P W K L R)) where
  -- a height without a chunk
  pub skips : (s h : ℕ) (i i' : Inbox P W K L R) (world : W) (reports : List R) → IsAt rules e s i h (Idle world) reports → h < (rules e.run.0).heights → (rules e.run.0).present s (h + 1) ≡ false
      → IsPortOf (serial_plan rules) e i'.port → i'.port.note ≡ passed i.port.note → i'.done ≡ i.done → i'.source ≡ i.source → IsAt rules e s i' (h + 1) (Idle world) reports
  skips s h i i' world reports at below missing port_of note done source =
      let r = rules e.run.0 in
      record {
        inbox = record {
          port_of = port_of;
          source_there = subst (λ (n : ℕ). n < r.shards) (sym source) at.inbox.source_there;
          claimed = subst (λ (n : ℕ). HasClaimed r i'.port.note n i'.source) (sym done) (subst (λ (n : ℕ). HasClaimed r i'.port.note i.done n) (sym source)
              (still_claimed r i.port.note i'.port.note i.done i.source at.inbox.claimed (λ t. ap (λ v. (link v t).claimed) note)));
        };
        shard_is = ap (λ v. v.shard) note ∙ at.shard_is;
        number_is = ap (λ (n : ℕ). n + 1) at.number_is ∙ sym (ap (λ v. v.number) note);
        within = omega arith;
        stage_is = (at.stage_is.0 ∙ sym (world_missing r s h missing), ap (λ (n : ℕ). n + 1) done ∙ at.stage_is.1 ∙ first_missing r s h missing, source ∙ at.stage_is.2);
        reports_are = at.reports_are ∙ sym (reports_missing r s h missing);
      }

  pub opens : (s h : ℕ) (i : Inbox P W K L R) (world : W) (working : K) (reports : List R) → IsAt rules e s i h (Idle world) reports → h < (rules e.run.0).heights → (rules e.run.0).present s (h + 1) ≡ true
      → working ≡ (rules e.run.0).opens s (h + 1) world → IsAt rules e s i h (Opened working) reports
  opens s h i world working reports at below there is =
      let r = rules e.run.0 in
      record {
        inbox = at.inbox;
        shard_is = at.shard_is;
        number_is = at.number_is;
        within = at.within;
        stage_is = (
          is ∙ ap (r.opens s (h + 1)) at.stage_is.0 ∙ sym (work_opened r s h i.done at.stage_is.1) ∙ ap (λ (n : ℕ). worked r (past_after r h) h s (pairs_before r (first_due r s h) i.done n)) (sym at.stage_is.2),
          below,
          there,
          record { from = (let f = at.stage_is.1 in omega arith); to = (let f = at.stage_is.1 in let small = last_small r s h in omega arith); whole = λ l. at.stage_is.2 },
        );
        reports_are = at.reports_are;
      }

  between_next : (shards first last done source : ℕ) (b : Bool) → nat_lt (source + 1) shards ≡ b → IsBetween first last done source → done < last
      → IsBetween first last (cond b done (done + 1)) (cond b (source + 1) 0)
  between_next shards first last done source true is at below = record { from = at.from; to = at.to; whole = λ l. absurd (omega arith) }
  between_next shards first last done source false is at below = record { from = (let f = at.from in omega arith); to = omega arith; whole = λ l. refl }

  -- the place of the next list is moved on, or it stays
  between_after : (first last done source done' source' : ℕ) → IsBetween first last done source → done < last → done' ≡ done_after (rules e.run.0).shards done source → source' ≡ source_after (rules e.run.0).shards source
      → IsBetween first last done' source'
  between_after first last done source done' source' at below done_is source_is =
      subst (λ (n : ℕ). IsBetween first last n source') (sym done_is) (subst (λ (n : ℕ). IsBetween first last (done_after (rules e.run.0).shards done source) n) (sym source_is)
      (between_next (rules e.run.0).shards first last done source (nat_lt (source + 1) (rules e.run.0).shards) refl at below))

  -- a list comes into the chunk, or a source without one is passed
  pub gives : (s h : ℕ) (i i' : Inbox P W K L R) (working working' : K) (list : Option L) (reports : List R) → IsAt rules e s i h (Opened working) reports → IsInbox rules e i' → i'.port.note.shard ≡ i.port.note.shard → i'.port.note.number ≡ i.port.note.number
      → Finds (rules e.run.0) i.port.note.shard h i.done i.source (Passed list) i'.done i'.source → working' ≡ with_list (rules e.run.0) working list → IsAt rules e s i' h (Opened working') reports
  gives s h i i' working working' list reports at inbox shard number found is =
      let r = rules e.run.0 in
      record {
        inbox = inbox;
        shard_is = shard ∙ at.shard_is;
        number_is = at.number_is ∙ sym number;
        within = at.within;
        stage_is = (
          is ∙ (λ j. with_list r (at.stage_is.0 j) ((found.1 ∙ ap (list_to r (sealing_at r i.source (i.done + 1))) at.shard_is) j)) ∙ sym (work_takes r s h i.done i.source at.stage_is.3.from found.0 at.inbox.source_there)
              ∙ (λ j. worked r (past_after r h) h s (pairs_before r (first_due r s h) (sym found.2 j) (sym found.3 j))),
          at.stage_is.1,
          at.stage_is.2,
          between_after (first_due r s h) h i.done i.source i'.done i'.source at.stage_is.3 found.0 found.2 found.3,
        );
        reports_are = at.reports_are;
      }

  -- the chunk at work has taken all that is due
  pub works_whole : (s h : ℕ) (i : Inbox P W K L R) (working : K) (reports : List R) → IsAt rules e s i h (Opened working) reports → h ≤ i.done → working ≡ last_work (rules e.run.0) s h
  works_whole s h i working reports at all =
      let b = at.stage_is.3 in
      at.stage_is.0 ∙ work_whole (rules e.run.0) s h i.done i.source b.to all (b.whole all)

  -- it is sealed
  pub seals : (s h : ℕ) (i : Inbox P W K L R) (working : K) (world : W) (report : R) (lists : List L) (reports reports' : List R) → IsAt rules e s i h (Opened working) reports → h ≤ i.done
      → world ≡ ((rules e.run.0).seals working).world → report ≡ ((rules e.run.0).seals working).report → lists ≡ ((rules e.run.0).seals working).lists → reports' ≡ reports ++ report ∷ [] → IsAt rules e s i h (Sealed world lists) reports'
  seals s h i working world report lists reports reports' at all world_is report_is lists_is reports_is =
      let r = rules e.run.0 in
      let whole = works_whole s h i working reports at all in
      let b = at.stage_is.3 in
      record {
        inbox = at.inbox;
        shard_is = at.shard_is;
        number_is = at.number_is;
        within = at.within;
        stage_is = (
          world_is ∙ ap (λ k. (r.seals k).world) whole ∙ sym (world_there r s h at.stage_is.2),
          lists_is ∙ ap (λ k. (r.seals k).lists) whole ∙ sym (lists_there r s h at.stage_is.2),
          at.stage_is.1,
          at.stage_is.2,
          (let to = b.to in omega arith),
          b.whole all,
        );
        reports_are = reports_is ∙ (λ j. at.reports_are j ++ (report_is ∙ ap (λ k. (r.seals k).report) whole) j ∷ []) ∙ sym (reports_there r s h at.stage_is.2);
      }

  -- behind the last height
  pub ends : (s h : ℕ) (i : Inbox P W K L R) (world : W) (left : Left L) (reports : List R) → IsAt rules e s i h (Idle world) reports → h ≡ (rules e.run.0).heights
      → length left.rows.items ≡ (rules e.run.0).shards → ((t h : ℕ) → slot_of left t h ≡ None) → IsAt rules e s i h (Ended world left) reports
  ends s h i world left reports at last all none =
      let r = rules e.run.0 in
      let to : i.done ≤ h = (let f = at.stage_is.1 in let small = last_small r s h in omega arith) in
      record {
        inbox = at.inbox;
        shard_is = at.shard_is;
        number_is = at.number_is;
        within = at.within;
        stage_is = (
          at.stage_is.0,
          last,
          record {
            all = all;
            lists_are = λ t k inside. none t k ∙ sym (no_list_yet r s (first_due r s h) i.done i.source t k at.stage_is.1 at.stage_is.2);
          },
          record { from = (let f = at.stage_is.1 in omega arith); to = to; whole = λ l. at.stage_is.2 },
        );
        reports_are = at.reports_are;
      }

  -- a list that no chunk takes
  pub keeps_left : (s h : ℕ) (i i' : Inbox P W K L R) (world : W) (left left' : Left L) (list : Option L) (reports : List R) → IsAt rules e s i h (Ended world left) reports → IsInbox rules e i' → i'.port.note.shard ≡ i.port.note.shard → i'.port.note.number ≡ i.port.note.number
      → Finds (rules e.run.0) i.port.note.shard h i.done i.source (Passed list) i'.done i'.source → length left'.rows.items ≡ length left.rows.items
      → slot_of left' i.source (i.done + 1) ≡ list → ((t k : ℕ) → (t ≡ i.source → k ≡ i.done + 1 → ⊥) → slot_of left' t k ≡ slot_of left t k) → IsAt rules e s i' h (Ended world left') reports
  keeps_left s h i i' world left left' list reports at inbox shard number found all this others =
      let r = rules e.run.0 in
      let has = at.stage_is.2 in
      record {
        inbox = inbox;
        shard_is = shard ∙ at.shard_is;
        number_is = at.number_is ∙ sym number;
        within = at.within;
        stage_is = (
          at.stage_is.0,
          at.stage_is.1,
          record {
            all = all ∙ has.all;
            lists_are = list_after r s (first_due r s h) i.done i.source i'.done i'.source list (slot_of left) (slot_of left') at.stage_is.3.from at.inbox.source_there found.2 found.3 (found.1 ∙ ap (list_to r (sealing_at r i.source (i.done + 1))) at.shard_is) has.lists_are this others;
          },
          between_after (first_due r s h) h i.done i.source i'.done i'.source at.stage_is.3 found.0 found.2 found.3,
        );
        reports_are = at.reports_are;
      }

  -- ---- each phase may be called
  inside_of : (s h : ℕ) (i : Inbox P W K L R) (stage : Stage W K L) (reports : List R) → IsAt rules e s i h stage reports → s < (rules e.run.0).shards
  inside_of s h i stage reports at = subst (λ (n : ℕ). n < (rules e.run.0).shards) at.shard_is at.inbox.port_of.inside

  module _ {can_open : ℕ → ℕ → W → Type 0} {can_take : K → L → Type 0} {can_seal : K → Type 0} (laws : AreLawful (rules e.run.0) can_open can_take can_seal) where
    pub may_open : (s h : ℕ) (i : Inbox P W K L R) (world : W) (reports : List R) → IsAt rules e s i h (Idle world) reports → h < (rules e.run.0).heights → (rules e.run.0).present s (h + 1) ≡ true → can_open s (h + 1) world
    may_open s h i world reports at below there = subst (can_open s (h + 1)) (sym at.stage_is.0) (laws.opens s h (inside_of s h i (Idle world) reports at) below there)

    pub may_seal : (s h : ℕ) (i : Inbox P W K L R) (working : K) (reports : List R) → IsAt rules e s i h (Opened working) reports → h ≤ i.done → can_seal working
    may_seal s h i working reports at all =
        subst can_seal (sym (works_whole s h i working reports at all)) (laws.seals s h (inside_of s h i (Opened working) reports at) at.stage_is.1 at.stage_is.2)

    pub may_give : (s h : ℕ) (i : Inbox P W K L R) (working : K) (list : Option L) (reports : List R) (done' source' : ℕ) → IsAt rules e s i h (Opened working) reports → Finds (rules e.run.0) i.port.note.shard h i.done i.source (Passed list) done' source'
        → IfSome list (can_take working)
    may_give s h i working None reports done' source' at found = tt
    may_give s h i working (Some list) reports done' source' at found =
        let r = rules e.run.0 in
        let is = found.1 ∙ ap (list_to r (sealing_at r i.source (i.done + 1))) at.shard_is in
        subst (λ k. can_take k list) (sym at.stage_is.0)
        (may_take r laws s h i.done i.source list (inside_of s h i (Opened working) reports at) at.stage_is.1 at.stage_is.2 at.stage_is.3.from found.0 at.inbox.source_there (sent_there r i.source i.done s list (sym is)) (sym is))
