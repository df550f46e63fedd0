-- The goals of `plain::PlainStoreStore::reserve_marks` that no tactic closes.
use Rattle.std.proofs.Common.{ap, arith, length}
use Rattle.nr_store.specs.Plain.{held_in}
use Rattle.nr_store.proofs.Rewind.{length-seen}
use Rattle.nr_store.proofs.plain.PlainStoreStore.reserve_marks.Goals as goal

pub invariant_of-self : goal.invariant_of-self
invariant_of-self c =
    record {
      few = omega (arith, c.requires, ap (λ v. length v.marks) c.self.view_is, length-seen (held_in c.self.inside.slots.entries) c.self.inside.log.items c.self.inside.starts c.self.inside.standing, c.self.invariant.few, c.max-self-inside.ensures);
      slots = c.self.invariant.slots;
      apart = c.self.invariant.apart;
      order = c.self.invariant.order;
      none = c.self.invariant.none;
      sizes = c.self.invariant.sizes;
      saw = c.self.invariant.saw;
    }
