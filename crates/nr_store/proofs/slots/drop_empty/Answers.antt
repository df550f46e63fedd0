-- The goals of `slots::drop_empty` that no tactic closes.
use Rattle.std.proofs.Common.{sym, ap, ◌∙◌}
use Rattle.std.specs.Option.{option_map}
use Rattle.nr_store.specs.Plain.{text_of}
use Rattle.nr_store.proofs.Held.{joined, get-held_in, remove-absent}
use Rattle.nr_store.proofs.slots.drop_empty.Goals as goal

pub returns-in-Some-None : goal.returns-in-Some-None
returns-in-Some-None c =
    c.drop_slot.ensures.after
    ∙ remove-absent _ c.args.key.now (get-held_in c.args.slots.now.entries c.args.key.now ∙ sym (ap (λ o. joined (option_map text_of o)) (rw c.in-Some-None.field-0-is at c.in-Some-None.ensures.value)))
