-- The goals of `plain::PlainStore::new` that no tactic closes.
use Rattle.std.proofs.Common.{sym, subst, ap, arith}
use Rattle.nr_triedef.specs.Stores.{IsSized}
use Rattle.nr_store.specs.Plain.{HaveSlots, AreApart, held_in}
use Rattle.nr_store.proofs.Sizes.{sized_empty}
use Rattle.nr_store.proofs.plain.PlainStore.new.Goals as goal

pub invariant_of-result : goal.invariant_of-result
invariant_of-result c = record {
  few = omega arith;
  slots = subst (HaveSlots c.new.result.entries) (sym c.new-2.ensures.items) tt;
  apart = subst AreApart (sym c.new-2.ensures.items) tt;
  order = tt;
  none = λ e. c.new-2.ensures.items;
  sizes = subst IsSized (sym (ap held_in c.new.ensures.empty)) sized_empty;
  saw = tt;
}
