-- The goals of `plain::PlainStore::clear` that no tactic closes.
use Rattle.std.proofs.Common.{◌≡◌, sym, subst, ap}
use Rattle.nr_triedef.specs.Stores.{IsSized}
use Rattle.nr_store.specs.Plain.{HaveSlots, held_in}
use Rattle.nr_store.proofs.Rewind.{none_stand, seen_none}
use Rattle.nr_store.proofs.Sizes.{sized_empty, saw_none}
use Rattle.nr_store.proofs.plain.PlainStore.clear.Goals as goal

pub invariant_of-self : goal.invariant_of-self
invariant_of-self c =
    let none : c.self.inside.standing ≡ 0 =
    none_stand (held_in c.self.inside.slots.entries) c.self.inside.log.items c.self.inside.starts c.self.inside.standing c.args.self.now.marks (ap (λ v. v.marks) c.self.view_is) c.requires in
    record {
      few = c.self.invariant.few;
      slots = subst (HaveSlots c.new.result.entries) (sym (c.self.invariant.none none)) tt;
      apart = c.self.invariant.apart;
      order = c.self.invariant.order;
      none = c.self.invariant.none;
      sizes = subst IsSized (sym (ap held_in c.new.ensures.empty)) sized_empty;
      saw = saw_none (held_in c.new.result.entries) c.self.inside.log.items c.self.inside.starts c.self.inside.standing none;
    }

pub returns-clause-contents : goal.returns-clause-contents
returns-clause-contents c = ap held_in c.new.ensures.empty

pub returns-clause-marks : goal.returns-clause-marks
returns-clause-marks c =
    seen_none (held_in c.new.result.entries) c.self.inside.log.items c.self.inside.starts c.self.inside.standing
    (none_stand (held_in c.self.inside.slots.entries) c.self.inside.log.items c.self.inside.starts c.self.inside.standing c.args.self.now.marks (ap (λ v. v.marks) c.self.view_is) c.requires)
