-- The goals of `plain::PlainStoreStore::mark` that no tactic closes.
use Rattle.std.proofs.Common.{◌∷◌, ap, sym, subst, ◌∙◌, arith, length}
use Rattle.std.specs.List.{AllByRecursion}
use Rattle.nr_triedef.specs.Stores.{IsSized}
use Rattle.nr_store.specs.Plain.{held_in}
use Rattle.nr_store.proofs.Rewind.{seen-mark, InOrder-mark}
use Rattle.nr_store.proofs.plain.PlainStoreStore.mark.Goals as goal

pub returns-clause-marks : goal.returns-clause-marks
returns-clause-marks c =
    seen-mark (held_in c.self.inside.slots.entries) c.self.inside.log.items c.self.inside.starts c.self.inside.standing c.len.result
    (omega (arith, c.len.ensures, c.self.inside.log.ok)) (omega (arith, c.self.told, c.requires, ap (λ v. v.spare) c.self.view_is, c.self.invariant.few))
    ∙ ap (λ v. v.contents ∷ v.marks) c.self.view_is

pub invariant_of-self : goal.invariant_of-self
invariant_of-self c =
    record {
      few = omega (arith, c.requires, ap (λ v. v.spare) c.self.view_is, c.self.invariant.few);
      slots = c.self.invariant.slots;
      apart = c.self.invariant.apart;
      order = InOrder-mark c.self.inside.starts c.self.inside.standing c.len.result (length c.self.inside.log.items) (omega (arith, c.self.told, c.requires, ap (λ v. v.spare) c.self.view_is, c.self.invariant.few)) (omega (arith, c.len.ensures, c.self.inside.log.ok)) c.self.invariant.order;
      none = λ e. absurd (omega (arith, e));
      sizes = c.self.invariant.sizes;
      saw = subst (AllByRecursion IsSized) (sym (
          seen-mark (held_in c.self.inside.slots.entries) c.self.inside.log.items c.self.inside.starts c.self.inside.standing c.len.result
          (omega (arith, c.len.ensures, c.self.inside.log.ok)) (omega (arith, c.self.told, c.requires, ap (λ v. v.spare) c.self.view_is, c.self.invariant.few))
          )) (c.self.invariant.sizes, c.self.invariant.saw);
    }
