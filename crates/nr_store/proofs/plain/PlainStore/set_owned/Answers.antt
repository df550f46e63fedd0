-- The goals of `plain::PlainStore::set_owned` that no tactic closes.
use Rattle.std.proofs.Common.{◌≡◌, ◌≤◌, Some, length, refl, sym, ap, ◌∙◌, subst}
use Rattle.std.specs.List.{AllByRecursion}
use Rattle.std.specs.FinMap.{entries}
use Rattle.nr_triedef.specs.Stores.{most_entries, IsSized, IsSizedEntry}
use Rattle.nr_store.specs.Plain.{held_in, HasSlot, seen}
use Rattle.nr_store.proofs.Rewind.{changed_back, seen-noted, HaveSlots-kept, HaveSlots-noted, AreApart-noted, InOrder-noted}
use Rattle.nr_store.proofs.Held.{value_found, new_slot}
use Rattle.nr_store.specs.declared.slots.Undo.{Undo}
use Rattle.nr_store.proofs.Sizes.{few_put, sized_put, saw_none}
use Rattle.nr_store.proofs.plain.PlainStore.set_owned.Goals as goal
use Rattle.nr_store.proofs.plain.PlainStore.set_owned.Goals.{In_ok-push}

-- the checkpoints saw the same
marks_same : (c : In_ok-push) → seen (held_in c.put-2.new.slots.entries) c.push.new.self.items c.self.inside.starts c.self.inside.standing ≡ seen (held_in c.self.inside.slots.entries) c.self.inside.log.items c.self.inside.starts c.self.inside.standing
marks_same c =
    let u : Undo = record { key = c.in_ok-noted.noted; before = c.in_ok-before.before } in
    seen-noted (held_in c.self.inside.slots.entries) (held_in c.put-2.new.slots.entries) c.self.inside.log.items c.reserve.new.self.items c.push.new.self.items u c.self.inside.starts c.self.inside.standing c.self.invariant.order c.in_ok-reserve.ensures.items c.in_ok-push.ensures.items
    (changed_back (held_in c.self.inside.slots.entries) (held_in c.put-2.new.slots.entries)
    c.in_ok-stored.stored.items (Some c.args.value.items) u c.in_ok-before.ensures.ok
    (c.in_ok-noted.ensures.items ∙ sym c.in_ok-stored.ensures.items)
    (value_found c.self.inside.slots.entries u c.in_ok-stored.stored.items c.in_ok-before.ensures.before))

few_after : (c : In_ok-push) → length (entries (held_in c.put-2.new.slots.entries)) ≤ most_entries
few_after c = few_put c.self.inside.slots.entries c.put-2.new.slots.entries c.in_ok-before.before c.in_ok-stored.stored.items c.args.key.now c.in_ok-stored.ensures.items c.in_ok-before.ensures.before c.in_ok-before.ensures.count (c.if-not-fits.ensures.room refl)

pub invariant_of-self-2 : goal.invariant_of-self-2
invariant_of-self-2 c =
    let u : Undo = record { key = c.in_ok-noted.noted; before = c.in_ok-before.before } in
    record {
      few = c.self.invariant.few;
      slots = HaveSlots-noted c.self.inside.slots.entries c.put-2.new.slots.entries c.self.inside.log.items c.reserve.new.self.items c.push.new.self.items u c.in_ok-reserve.ensures.items c.in_ok-push.ensures.items c.in_ok-before.ensures.kept
          (λ s. subst (HasSlot c.put-2.new.slots.entries) (c.in_ok-stored.ensures.items ∙ sym c.in_ok-noted.ensures.items) c.in_ok-before.ensures.slot) c.self.invariant.slots;
      apart = AreApart-noted c.self.inside.slots.entries c.self.inside.log.items c.reserve.new.self.items c.push.new.self.items u c.in_ok-reserve.ensures.items c.in_ok-push.ensures.items
          (new_slot c.self.inside.slots.entries u c.in_ok-stored.stored.items (c.in_ok-noted.ensures.items ∙ sym c.in_ok-stored.ensures.items) c.in_ok-before.ensures.before) c.self.invariant.slots c.self.invariant.apart;
      order = InOrder-noted c.self.inside.starts c.self.inside.standing c.self.inside.log.items c.reserve.new.self.items c.push.new.self.items u c.in_ok-reserve.ensures.items c.in_ok-push.ensures.items c.self.invariant.order;
      none = λ e. absurd (c.if-self-eq0.false e);
      sizes = sized_put c.self.inside.slots.entries c.put-2.new.slots.entries c.in_ok-stored.stored.items c.args.value.items c.args.key.now c.args.value.items c.in_ok-stored.ensures.items refl c.in_ok-before.ensures.ok (subst (IsSizedEntry c.args.key.now) c.as_slice.ensures.value (c.if-not-fits.ensures.entry refl)) (few_after c) c.self.invariant.sizes;
      saw = subst (AllByRecursion IsSized) (sym (marks_same c)) c.self.invariant.saw;
    }

pub invariant_of-self-then-self-eq0 : goal.invariant_of-self-then-self-eq0
invariant_of-self-then-self-eq0 c = record {
  few = c.self.invariant.few;
  slots = HaveSlots-kept c.self.inside.slots.entries c.put.new.slots.entries c.in_ok-put.ensures.kept c.self.inside.log.items c.self.invariant.slots;
  apart = c.self.invariant.apart;
  order = c.self.invariant.order;
  none = c.self.invariant.none;
  sizes = sized_put c.self.inside.slots.entries c.put.new.slots.entries c.in_ok-stored.stored.items c.args.value.items c.args.key.now c.args.value.items c.in_ok-stored.ensures.items refl c.in_ok-put.ensures.ok (subst (IsSizedEntry c.args.key.now) c.as_slice.ensures.value (c.if-not-fits.ensures.entry refl)) (few_put c.self.inside.slots.entries c.put.new.slots.entries c.in_ok-put.field-0 c.in_ok-stored.stored.items c.args.key.now c.in_ok-stored.ensures.items c.in_ok-put.ensures.before c.in_ok-put.ensures.count (c.if-not-fits.ensures.room refl)) c.self.invariant.sizes;
  saw = saw_none (held_in c.put.new.slots.entries) c.self.inside.log.items c.self.inside.starts c.self.inside.standing c.if-self-eq0.true;
}

pub returns-then-self-eq0-clause-sizes : goal.returns-then-self-eq0-clause-sizes
returns-then-self-eq0-clause-sizes c = (subst (IsSizedEntry c.args.key.now) c.as_slice.ensures.value (c.if-not-fits.ensures.entry refl), few_put c.self.inside.slots.entries c.put.new.slots.entries c.in_ok-put.field-0 c.in_ok-stored.stored.items c.args.key.now c.in_ok-stored.ensures.items c.in_ok-put.ensures.before c.in_ok-put.ensures.count (c.if-not-fits.ensures.room refl))

pub returns-clause-sizes : goal.returns-clause-sizes
returns-clause-sizes c = (subst (IsSizedEntry c.args.key.now) c.as_slice.ensures.value (c.if-not-fits.ensures.entry refl), few_after c)

pub returns-clause-marks : goal.returns-clause-marks
returns-clause-marks c = marks_same c ∙ ap (λ v. v.marks) c.self.view_is
