-- The goals of `slots::undo_to` that no tactic closes.
use Rattle.std.proofs.Common.{◌≡◌, ◌≤◌, ◌∷◌, ◌++◌, [], take, drop, sym, ap, ◌∙◌, subst, arith, length, length-append}
use Rattle.std.proofs.lemmas.List.{take-append-le}
use Rattle.nr_store.specs.Plain.{held_in, HaveSlots, AreApart, rewound}
use Rattle.nr_store.proofs.Rewind.{rewound-drop_push, HaveSlots-last, HaveSlots-undone, AreApart-last}
use Rattle.nr_store.proofs.slots.undo_to.Goals as goal

pub take_back-requires : goal.take_back-requires
take_back-requires c =
    (HaveSlots-last c.loop-log.slots.entries c.pop.new.self.items c.in-Some.undo (subst (HaveSlots c.loop-log.slots.entries) c.in-Some.ensures.items c.loop-log.invariant.slots)).1

pub loop-log-preserved-in-Some : goal.loop-log-preserved-in-Some
loop-log-preserved-in-Some c =
    let es = c.loop-log.slots.entries in
    let split : c.loop-log.log.items ≡ c.pop.new.self.items ++ c.in-Some.undo ∷ [] = c.in-Some.ensures.items in
    let long : c.args.start ≤ length c.pop.new.self.items = omega (arith, c.loop-log.log.ok, ap length split, length-append c.pop.new.self.items (c.in-Some.undo ∷ []), c.loop-log-test.true, c.len.ensures) in
    let parted = AreApart-last c.pop.new.self.items c.in-Some.undo (subst AreApart split c.loop-log.invariant.apart) in
    record {
      start = omega (arith, long, c.pop.new.self.ok);
      slots = HaveSlots-undone es c.take_back.new.slots.entries c.pop.new.self.items c.in-Some.undo c.take_back.ensures.kept (HaveSlots-last es c.pop.new.self.items c.in-Some.undo (subst (HaveSlots es) split c.loop-log.invariant.slots)).0 parted.1;
      apart = parted.0;
      log = sym (ap (take c.args.start) split ∙ take-append-le c.args.start c.pop.new.self.items (c.in-Some.undo ∷ []) long) ∙ c.loop-log.invariant.log;
      older = λ n h.
          ap (λ m. rewound m (drop n c.pop.new.self.items)) c.take_back.ensures.after
          ∙ sym (ap (λ l. rewound (held_in es) (drop n l)) split ∙ rewound-drop_push (held_in es) c.pop.new.self.items c.in-Some.undo n (omega (arith, h, long)))
          ∙ c.loop-log.invariant.older n h;
    }
