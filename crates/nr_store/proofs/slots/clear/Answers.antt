-- The goals of `slots::clear` that no tactic closes.
use Rattle.std.proofs.Common.{sym, ap, ◌∙◌}
use Rattle.std.specs.Option.{option_map}
use Rattle.nr_store.specs.Plain.{held_in, text_of, put_back}
use Rattle.nr_store.proofs.Held.{joined, get-held_in, held_in-write, HasSlot-found, HasSlot-write, remove-absent}
use Rattle.nr_store.proofs.slots.clear.Goals as goal

pub returns-in-Some-clause-before : goal.returns-in-Some-clause-before
returns-in-Some-clause-before c =
    ap text_of c.take.ensures.value ∙ ap (λ o. joined (option_map text_of o)) c.in-Some.ensures.value ∙ sym (get-held_in c.args.slots.now.entries c.args.key.now)

pub returns-in-Some-clause-after : goal.returns-in-Some-clause-after
returns-in-Some-clause-after c =
    ap held_in (c.get_mut.follows.holds c.take.new.self).0
    ∙ held_in-write c.args.slots.now.entries c.args.key.now c.take.new.self (HasSlot-found c.args.slots.now.entries c.args.key.now c.in-Some.slot.now c.in-Some.ensures.value)
    ∙ ap (λ o. put_back (held_in c.args.slots.now.entries) c.args.key.now (text_of o)) c.take.ensures.after

pub returns-in-Some-clause-kept : goal.returns-in-Some-clause-kept
returns-in-Some-clause-kept c q h =
    rw ((c.get_mut.follows.holds c.take.new.self).0)
    (HasSlot-write c.args.slots.now.entries c.args.key.now c.take.new.self q (HasSlot-found c.args.slots.now.entries c.args.key.now c.in-Some.slot.now c.in-Some.ensures.value) h)

pub returns-in-None-clause-before : goal.returns-in-None-clause-before
returns-in-None-clause-before c = ap (λ o. joined (option_map text_of o)) c.in-None.ensures.value ∙ sym (get-held_in c.args.slots.now.entries c.args.key.now)

pub returns-in-None-clause-after : goal.returns-in-None-clause-after
returns-in-None-clause-after c =
    ap (λ m. held_in m.entries) c.get_mut.follows.holds-at-none
    ∙ sym (remove-absent _ c.args.key.now (get-held_in c.args.slots.now.entries c.args.key.now ∙ sym (ap (λ o. joined (option_map text_of o)) c.in-None.ensures.value)))
