-- The goals of `plain::PlainStoreStore::keep` that no tactic closes.
use Rattle.std.proofs.Common.{◌-◌, ap, sym, subst, arith, length}
use Rattle.nr_triedef.specs.Stores.{IsSized}
use Rattle.nr_store.specs.Plain.{held_in, HaveSlots, AreApart}
use Rattle.nr_store.proofs.Rewind.{length-seen, InOrder-none, InOrder-older}
use Rattle.nr_store.proofs.Sizes.{saw_none, saw_older}
use Rattle.nr_store.proofs.plain.PlainStoreStore.keep.Goals as goal

pub invariant_of-self : goal.invariant_of-self
invariant_of-self c = record {
  few = omega (arith, c.self.invariant.few, c.requires, ap (λ v. length v.marks) c.self.view_is, length-seen (held_in c.self.inside.slots.entries) c.self.inside.log.items c.self.inside.starts c.self.inside.standing);
  slots = subst (HaveSlots c.drop_empty_slots.new.slots.entries) (sym c.clear.ensures.items) tt;
  apart = subst AreApart (sym c.clear.ensures.items) tt;
  order = InOrder-none _ _ _ c.if-self-eq0.true;
  none = λ e. c.clear.ensures.items;
  sizes = subst IsSized (sym c.drop_empty_slots.ensures) c.self.invariant.sizes;
  saw = saw_none (held_in c.drop_empty_slots.new.slots.entries) c.clear.new.self.items c.self.inside.starts (c.self.inside.standing - 1) c.if-self-eq0.true;
}

pub invariant_of-self-else-self-eq0 : goal.invariant_of-self-else-self-eq0
invariant_of-self-else-self-eq0 c = record {
  few = omega (arith, c.self.invariant.few, c.requires, ap (λ v. length v.marks) c.self.view_is, length-seen (held_in c.self.inside.slots.entries) c.self.inside.log.items c.self.inside.starts c.self.inside.standing);
  slots = c.self.invariant.slots;
  apart = c.self.invariant.apart;
  order = InOrder-older c.self.inside.starts c.self.inside.standing (length c.self.inside.log.items) c.self.invariant.order;
  none = λ e. absurd (c.if-self-eq0.false e);
  sizes = c.self.invariant.sizes;
  saw = saw_older (held_in c.self.inside.slots.entries) c.self.inside.log.items c.self.inside.starts c.self.inside.standing c.self.invariant.saw;
}
