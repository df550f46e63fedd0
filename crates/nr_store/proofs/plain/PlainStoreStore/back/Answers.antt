-- The goals of `plain::PlainStoreStore::back` that no tactic closes.
use Rattle.std.proofs.Common.{◌≡◌, ◌<◌, ◌-◌, ◌∷◌, sym, subst, ap, ◌∙◌, arith, length, length-take, get_or}
use Rattle.std.specs.List.{AllByRecursion}
use Rattle.nr_triedef.specs.Stores.{IsSized}
use Rattle.nr_store.specs.Plain.{held_in, seen, HaveSlots, AreApart}
use Rattle.nr_store.proofs.Rewind.{seen-back, length-seen, InOrder-none, InOrder-back, newest_within}
use Rattle.nr_store.proofs.Sizes.{saw_none}
use Rattle.nr_store.proofs.plain.PlainStoreStore.back.Goals as goal
use Rattle.nr_store.proofs.plain.PlainStoreStore.back.Goals.{After-clear, Else-self-eq0}

some_then : (c : After-clear) → 0 < c.self.inside.standing
some_then c = omega (arith, c.requires, ap (λ v. length v.marks) c.self.view_is, length-seen (held_in c.self.inside.slots.entries) c.self.inside.log.items c.self.inside.starts c.self.inside.standing)

saw_then : (c : After-clear) → AllByRecursion IsSized (held_in c.undo_to.new.slots.entries ∷ seen (held_in c.undo_to.new.slots.entries) c.undo_to.new.log.items c.self.inside.starts (c.self.inside.standing - 1))
saw_then c =
    subst (AllByRecursion IsSized)
    (seen-back (held_in c.self.inside.slots.entries) (held_in c.undo_to.new.slots.entries) c.self.inside.log.items c.undo_to.new.log.items c.self.inside.starts c.self.inside.standing (length c.self.inside.log.items) (some_then c) c.self.invariant.order c.undo_to.ensures.contents c.undo_to.ensures.older)
    c.self.invariant.saw

some_else : (c : Else-self-eq0) → 0 < c.self.inside.standing
some_else c = omega (arith, c.requires, ap (λ v. length v.marks) c.self.view_is, length-seen (held_in c.self.inside.slots.entries) c.self.inside.log.items c.self.inside.starts c.self.inside.standing)

saw_else : (c : Else-self-eq0) → AllByRecursion IsSized (held_in c.undo_to.new.slots.entries ∷ seen (held_in c.undo_to.new.slots.entries) c.undo_to.new.log.items c.self.inside.starts (c.self.inside.standing - 1))
saw_else c =
    subst (AllByRecursion IsSized)
    (seen-back (held_in c.self.inside.slots.entries) (held_in c.undo_to.new.slots.entries) c.self.inside.log.items c.undo_to.new.log.items c.self.inside.starts c.self.inside.standing (length c.self.inside.log.items) (some_else c) c.self.invariant.order c.undo_to.ensures.contents c.undo_to.ensures.older)
    c.self.invariant.saw

pub returns-else-self-eq0-clause-marks : goal.returns-else-self-eq0-clause-marks
returns-else-self-eq0-clause-marks c =
    sym (ap (λ v. v.marks) c.self.view_is)
    ∙ seen-back (held_in c.self.inside.slots.entries) (held_in c.undo_to.new.slots.entries) c.self.inside.log.items c.undo_to.new.log.items c.self.inside.starts c.self.inside.standing (length c.self.inside.log.items) (some_else c) c.self.invariant.order c.undo_to.ensures.contents c.undo_to.ensures.older

pub invariant_of-self : goal.invariant_of-self
invariant_of-self c = record {
  few = omega (arith, c.self.invariant.few, some_then c);
  slots = subst (HaveSlots c.undo_to.new.slots.entries) (sym c.clear.ensures.items) tt;
  apart = subst AreApart (sym c.clear.ensures.items) tt;
  order = InOrder-none _ _ _ c.if-self-eq0.true;
  none = λ e. c.clear.ensures.items;
  sizes = (saw_then c).0;
  saw = saw_none (held_in c.undo_to.new.slots.entries) c.clear.new.self.items c.self.inside.starts (c.self.inside.standing - 1) c.if-self-eq0.true;
}

pub invariant_of-self-else-self-eq0 : goal.invariant_of-self-else-self-eq0
invariant_of-self-else-self-eq0 c =
    let within = newest_within c.self.inside.starts c.self.inside.standing (length c.self.inside.log.items) (some_else c) c.self.invariant.order in
    let long : length c.undo_to.new.log.items ≡ get_or c.self.inside.starts (c.self.inside.standing - 1) 0 = ap length c.undo_to.ensures.log ∙ omega (arith, within, length-take (get_or c.self.inside.starts (c.self.inside.standing - 1) 0) c.self.inside.log.items) in
    record {
      few = omega (arith, c.self.invariant.few, some_else c);
      slots = c.undo_to.ensures.slots;
      apart = c.undo_to.ensures.apart;
      order = InOrder-back c.self.inside.starts c.self.inside.standing (length c.self.inside.log.items) (length c.undo_to.new.log.items) (some_else c) long c.self.invariant.order;
      none = λ e. absurd (c.if-self-eq0.false e);
      sizes = (saw_else c).0;
      saw = (saw_else c).1;
    }
