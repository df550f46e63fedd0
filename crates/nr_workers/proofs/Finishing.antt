-- What a worker begins with, and what one that has done all comes to.
use Rattle.std.proofs.Common.{◌≡◌, ℕ, ◌+◌, ◌≤◌, List, [], refl, sym, ap, ◌∙◌, subst, arith}
use Rattle.nr_overlap.specs.Rules.{Rules}
use Rattle.nr_overlap.specs.Serial.{last_present, first_due, past_after, world_after}
use Rattle.nr_exchange.specs.declared.planned.Serial.{Serial}
use Rattle.nr_exchange.specs.Views.{ExchangeView}
use Rattle.nr_overlap.specs.Outcome.{reports_to}
use Rattle.nr_workers.specs.Outcome.{HasDoneAll}
use Rattle.nr_workers.specs.Taking.{taken_to}
use Rattle.nr_workers.specs.Left.{HasLeft}
use Rattle.nr_workers.specs.Stages.{IsFresh, IsAt}
use Rattle.nr_workers.specs.Shares.{IsShareOf}
use Rattle.nr_workers.specs.declared.inbox.Inbox.{Inbox}
use Rattle.nr_workers.specs.declared.left.Left.{Left}
use Rattle.nr_workers.specs.declared.done.Share.{Share}
use Rattle.nr_workers.specs.declared.worker.Stage.TheVariants.{Idle, Ended}
use Rattle.nr_workers.proofs.Orders.{none_of}

first_world : {W K L R : Type 0} (r : Rules W K L R) (s : ℕ) → r.begins s ≡ world_after r s 0
unfolding past_after
first_world r s = refl

module _ {P W K L R : Type 0} (rules : P → Rules W K L R) (e : ExchangeView (Serial P W K L R)) where
  pub begins : (s : ℕ) (i : Inbox P W K L R) (world : W) → IsFresh rules e i.port → i.port.note.shard ≡ s → i.done ≡ 0 → i.source ≡ 0 → world ≡ (rules e.run.0).begins s → IsAt rules e s i 0 (Idle world) []
  begins s i world is shard done source begun =
      let r = rules e.run.0 in
      record {
        inbox = record {
          port_of = is.port_of;
          source_there = (let inside = is.port_of.inside in omega arith);
          claimed = λ t inside. is.claimed t inside ∙ sym (ap (λ (n : ℕ). last_present r t (taken_to r i.done n t)) source ∙ ap (last_present r t) (none_of t 0 (i.done + 1) i.done (omega arith) ∙ done));
        };
        shard_is = shard;
        number_is = sym is.number_is;
        within = omega arith;
        stage_is = (begun ∙ first_world r s, ap (λ (n : ℕ). n + 1) done, source);
        reports_are = refl;
      }

  pub finishes : (s h : ℕ) (i : Inbox P W K L R) (world : W) (left : Left L) (reports : List R) (share : Share P W K L R) → IsAt rules e s i h (Ended world left) reports → (rules e.run.0).heights ≤ i.done
      → share.port ≡ i.port → share.world ≡ world → share.reports ≡ reports → share.left ≡ left → IsShareOf rules e s share
  finishes s h i world left reports share at all port_is world_is reports_is left_is =
      let r = rules e.run.0 in
      let last = at.stage_is.1 in
      let b = at.stage_is.3 in
      let done : i.done ≡ r.heights = (let to = b.to in omega arith) in
      let none : i.source ≡ 0 = b.whole (omega arith) in
      record {
        port_is = subst (HasDoneAll rules e s) (sym port_is) (record {
          port_of = at.inbox.port_of;
          shard_is = at.shard_is;
          published = sym at.number_is ∙ last;
          claimed = λ t inside. at.inbox.claimed t inside ∙ ap (λ (n : ℕ). last_present r t (taken_to r i.done n t)) none ∙ ap (last_present r t) (none_of t 0 (i.done + 1) i.done (omega arith) ∙ done);
        });
        world_is = world_is ∙ at.stage_is.0 ∙ ap (world_after r s) last;
        reports_are = reports_is ∙ at.reports_are ∙ ap (reports_to r s) last;
        left_is = subst (HasLeft r s (first_due r s r.heights) r.heights 0) (sym left_is)
            (subst (λ (n : ℕ). HasLeft r s (first_due r s r.heights) r.heights n left) none (subst (λ (n : ℕ). HasLeft r s (first_due r s r.heights) n i.source left) done
            (subst (λ (n : ℕ). HasLeft r s (first_due r s n) i.done i.source left) last at.stage_is.2)));
      }
