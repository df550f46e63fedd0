-- The goals of `plain::PlainStoreStore::remove` that no tactic closes.
use Rattle.std.proofs.Common.{◌≡◌, Some, None, sym, ap, ◌∙◌, subst}
use mathlib.Core.Bool.{false≢true}
use Rattle.std.specs.Option.{is_some}
use Rattle.std.specs.List.{AllByRecursion}
use Rattle.std.specs.FinMap as map
use Rattle.nr_triedef.specs.Stores.{IsSized}
use Rattle.nr_store.specs.Plain.{held_in, HasSlot, HaveSlots, seen}
use Rattle.nr_store.proofs.Held.{remove-absent, copied_none, copied_some, HasSlot-got}
use Rattle.nr_store.proofs.Rewind.{changed_back, seen-noted, HaveSlots-noted, AreApart-noted, InOrder-noted}
use Rattle.nr_store.specs.declared.slots.Undo.{Undo}
use Rattle.nr_store.proofs.Sizes.{sized_remove, saw_none}
use Rattle.nr_store.proofs.plain.PlainStoreStore.remove.Goals as goal
use Rattle.nr_store.proofs.plain.PlainStoreStore.remove.Goals.{In_ok-push}

pub returns-then-is_none-clause-ok : goal.returns-then-is_none-clause-ok
returns-then-is_none-clause-ok c = sym (remove-absent c.args.self.now.contents c.args.key.now (sym c.get.ensures ∙ copied_none c.get.result c.if-is_none.ensures))

-- the checkpoints saw the same
marks_same : (c : In_ok-push) → seen (held_in c.clear-value.new.slots.entries) c.push.new.self.items c.self.inside.starts c.self.inside.standing ≡ seen (held_in c.self.inside.slots.entries) c.self.inside.log.items c.self.inside.starts c.self.inside.standing
marks_same c =
    let u : Undo = record { key = c.in_ok-noted.noted; before = Some c.clear-value.result } in
    seen-noted (held_in c.self.inside.slots.entries) (held_in c.clear-value.new.slots.entries) c.self.inside.log.items c.reserve.new.self.items c.push.new.self.items u c.self.inside.starts c.self.inside.standing c.self.invariant.order c.in_ok-reserve.ensures.items c.in_ok-push.ensures.items
    (changed_back (held_in c.self.inside.slots.entries) (held_in c.clear-value.new.slots.entries) c.args.key.now None u c.clear-value.ensures.after c.in_ok-noted.ensures.items c.clear-value.ensures.before)

pub returns-clause-marks : goal.returns-clause-marks
returns-clause-marks c = marks_same c ∙ ap (λ v. v.marks) c.self.view_is

pub invariant_of-self-2 : goal.invariant_of-self-2
invariant_of-self-2 c =
    let u : Undo = record { key = c.in_ok-noted.noted; before = Some c.clear-value.result } in
    let there : HasSlot c.self.inside.slots.entries c.args.key.now = HasSlot-got c.self.inside.slots.entries c.args.key.now (ap (λ v. is_some (map.get v.contents c.args.key.now)) c.self.view_is ∙ ap is_some (sym c.get.ensures) ∙ copied_some c.get.result ∙ c.if-is_none.ensures) in
    record {
      few = c.self.invariant.few;
      slots = HaveSlots-noted c.self.inside.slots.entries c.clear-value.new.slots.entries c.self.inside.log.items c.reserve.new.self.items c.push.new.self.items u c.in_ok-reserve.ensures.items c.in_ok-push.ensures.items c.clear-value.ensures.kept
          (λ s. subst (HasSlot c.clear-value.new.slots.entries) (sym c.in_ok-noted.ensures.items) (c.clear-value.ensures.kept c.args.key.now there)) c.self.invariant.slots;
      apart = AreApart-noted c.self.inside.slots.entries c.self.inside.log.items c.reserve.new.self.items c.push.new.self.items u c.in_ok-reserve.ensures.items c.in_ok-push.ensures.items (λ n h. false≢true (sym n)) c.self.invariant.slots c.self.invariant.apart;
      order = InOrder-noted c.self.inside.starts c.self.inside.standing c.self.inside.log.items c.reserve.new.self.items c.push.new.self.items u c.in_ok-reserve.ensures.items c.in_ok-push.ensures.items c.self.invariant.order;
      none = λ e. absurd (c.if-self-eq0.false e);
      sizes = sized_remove (held_in c.self.inside.slots.entries) (held_in c.clear-value.new.slots.entries) c.args.key.now c.clear-value.ensures.after c.self.invariant.sizes;
      saw = subst (AllByRecursion IsSized) (sym (marks_same c)) c.self.invariant.saw;
    }

pub invariant_of-self : goal.invariant_of-self
invariant_of-self c = record {
  few = c.self.invariant.few;
  slots = subst (HaveSlots c.drop_slot.new.slots.entries) (sym (c.self.invariant.none c.if-self-eq0.true)) tt;
  apart = c.self.invariant.apart;
  order = c.self.invariant.order;
  none = c.self.invariant.none;
  sizes = sized_remove (held_in c.self.inside.slots.entries) (held_in c.drop_slot.new.slots.entries) c.args.key.now c.drop_slot.ensures.after c.self.invariant.sizes;
  saw = saw_none (held_in c.drop_slot.new.slots.entries) c.self.inside.log.items c.self.inside.starts c.self.inside.standing c.if-self-eq0.true;
}
