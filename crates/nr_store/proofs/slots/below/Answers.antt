-- The goals of `slots::below` that no tactic closes.
use Rattle.std.proofs.Common.{◌≡◌, ◌∷◌, ◌++◌, [], false, sym, ap, subst, ◌∙◌}
use Rattle.std.specs.declared.ops.Bound.TheVariants.{Included, Unbounded}
use Rattle.std.specs.BTreeMap.Range.{entries_between}
use Rattle.nr_store.proofs.Held.{C}
use Rattle.nr_store.proofs.Prefixes.{Rises, keys_in, begins, rises_rest, rises_first, ahead_first, none_after, keys_pushed, keys_passed, keys_walked}
use Rattle.nr_store.proofs.slots.below.Goals as goal

pub loop-key-init : goal.loop-key-init
loop-key-init c =
    let gives : c.into_iter-key-iterator.result ≡ entries_between C (Included c.in_ok-start.start) Unbounded c.args.slots.now.entries = c.into_iter-key-iterator.ensures.into_iter_gives ∙ c.range-key-items.ensures.between tt in
    record {
      keys = ap (λ t. t ++ keys_in c.args.prefix.now c.into_iter-key-iterator.result) c.new-keys.ensures.items ∙ ahead_first c.args.prefix.now c.in_ok-start.start c.args.slots.now.entries c.into_iter-key-iterator.result c.in_ok-start.ensures.items gives;
      rises = rises_first c.args.prefix.now c.in_ok-start.start c.args.slots.now.entries c.into_iter-key-iterator.result c.in_ok-start.ensures.items gives c.range-key-items.ensures.ordered;
    }

pub returns-then-not-begins_with : goal.returns-then-not-begins_with
returns-then-not-begins_with c =
    let rest : c.loop-key.key-iterator ≡ (c.in-Some.key.now, c.in-Some.slot.now) ∷ c.next.new.self = c.in-Some.ensures.steps in
    let none : begins c.args.prefix.now c.in-Some.key.now.items ≡ false = ap (begins c.args.prefix.now) (sym c.deref.ensures.value) ∙ sym c.if-not-begins_with.ensures in
    c.of.ensures ∙ keys_walked c.args.slots.now.entries c.loop-key.key-iterator c.args.prefix.now c.loop-key.keys.items c.range-key-items.ensures.ordered
    (ap (keys_in c.args.prefix.now) rest ∙ none_after c.args.prefix.now (c.in-Some.key.now, c.in-Some.slot.now) c.next.new.self (subst (Rises c.args.prefix.now) rest c.loop-key.invariant.rises) none)
    c.loop-key.invariant.keys

pub loop-key-preserved-in_ok-push : goal.loop-key-preserved-in_ok-push
loop-key-preserved-in_ok-push c =
    let rest : c.loop-key.key-iterator ≡ (c.in-Some.key.now, c.in-Some.slot.now) ∷ c.next.new.self = c.in-Some.ensures.steps in
    record {
      keys = keys_pushed c.args.prefix.now (c.in-Some.key.now, c.in-Some.slot.now) c.next.new.self c.loop-key.key-iterator c.loop-key.keys.items c.push.new.self.items rest (sym c.if-is_some.ensures)
          (ap (begins c.args.prefix.now) (sym c.deref.ensures.value) ∙ sym c.if-not-begins_with.ensures)
          (c.in_ok-push.ensures.items ∙ ap (λ b. c.loop-key.keys.items ++ b ∷ []) (c.of-then-is_some.ensures ∙ c.in_ok-from_slice.ensures.items ∙ c.deref-then-is_some.ensures.value))
          (keys_in c.args.prefix.now c.args.slots.now.entries) c.loop-key.invariant.keys;
      rises = rises_rest c.args.prefix.now (c.in-Some.key.now, c.in-Some.slot.now) c.next.new.self (subst (Rises c.args.prefix.now) rest c.loop-key.invariant.rises);
    }

pub loop-key-preserved : goal.loop-key-preserved
loop-key-preserved c =
    let rest : c.loop-key.key-iterator ≡ (c.in-Some.key.now, c.in-Some.slot.now) ∷ c.next.new.self = c.in-Some.ensures.steps in
    record {
      keys = keys_passed c.args.prefix.now (c.in-Some.key.now, c.in-Some.slot.now) c.next.new.self c.loop-key.key-iterator c.loop-key.keys.items rest (sym c.if-is_some.ensures) (keys_in c.args.prefix.now c.args.slots.now.entries) c.loop-key.invariant.keys;
      rises = rises_rest c.args.prefix.now (c.in-Some.key.now, c.in-Some.slot.now) c.next.new.self (subst (Rises c.args.prefix.now) rest c.loop-key.invariant.rises);
    }

pub returns : goal.returns
returns c = c.of-2.ensures ∙ keys_walked c.args.slots.now.entries c.loop-key.key-iterator c.args.prefix.now c.loop-key.keys.items c.range-key-items.ensures.ordered (ap (keys_in c.args.prefix.now) c.in-None.ensures.steps.0) c.loop-key.invariant.keys
