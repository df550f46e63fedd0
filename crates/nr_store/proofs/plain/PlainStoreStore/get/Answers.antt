-- The goals of `plain::PlainStoreStore::get` that no tactic closes.
use Rattle.std.proofs.Common.{Some, sym, ap, ◌∙◌}
use Rattle.std.specs.Option.{option_map}
use Rattle.std.specs.FinMap as map
use Rattle.nr_store.specs.Plain.{text_of}
use Rattle.nr_store.proofs.Held.{joined, get-held_in}
use Rattle.nr_store.proofs.plain.PlainStoreStore.get.Goals as goal

pub returns-in-Some-Some : goal.returns-in-Some-Some
returns-in-Some-Some c =
    ap Some c.as_slice.ensures.value ∙ ap (λ o. joined (option_map text_of o)) (rw c.in-Some-Some.value-is at (rw c.in-Some-Some.field-0-is at c.in-Some-Some.ensures.value))
    ∙ sym (get-held_in c.self.inside.slots.entries c.args.key.now) ∙ ap (λ v. map.get v.contents c.args.key.now) c.self.view_is

pub returns-in-Some-None : goal.returns-in-Some-None
returns-in-Some-None c =
    ap (λ o. joined (option_map text_of o)) (rw c.in-Some-None.field-0-is at c.in-Some-None.ensures.value)
    ∙ sym (get-held_in c.self.inside.slots.entries c.args.key.now) ∙ ap (λ v. map.get v.contents c.args.key.now) c.self.view_is

pub returns-in-None : goal.returns-in-None
returns-in-None c =
    ap (λ o. joined (option_map text_of o)) c.in-None.ensures.value
    ∙ sym (get-held_in c.self.inside.slots.entries c.args.key.now) ∙ ap (λ v. map.get v.contents c.args.key.now) c.self.view_is
