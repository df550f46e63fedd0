-- The goals of `hashing::warm` that no tactic closes.
use Rattle.std.proofs.Common.{arith}
use Rattle.nr_trienodes.proofs.Hashed.{warm_refl}
use Rattle.nr_trienodes.proofs.Queues.{next_warm, warming_next, left_weights}
use Rattle.nr_trienodes.proofs.hashing.warm.Goals as goal

pub returns-in_err-scratch-clause-warms : goal.returns-in_err-scratch-clause-warms
returns-in_err-scratch-clause-warms g c = warm_refl c.args.nodes.now c.count-count.ensures.sound

pub summary_of-requires-clause-hashes : goal.summary_of-requires-clause-hashes
summary_of-requires-clause-hashes g c = (next_warm c.args.nodes.now c.up.nodes c.args.queue.items c.up.queue.items c.pop.new.self.items c.in-Some.id c.count-count.ensures.sound c.requires c.up.invariant.warming c.in-Some.ensures.items).hashes

pub returns-in_err-made-clause-steps : goal.returns-in_err-made-clause-steps
returns-in_err-made-clause-steps g c =
    let next = next_warm c.args.nodes.now c.up.nodes c.args.queue.items c.up.queue.items c.pop.new.self.items c.in-Some.id c.count-count.ensures.sound c.requires c.up.invariant.warming c.in-Some.ensures.items in
    omega (arith, c.up.invariant.steps, c.summary_of.ensures.steps, left_weights c.args.nodes.now c.up.nodes c.up.queue.items c.pop.new.self.items c.in-Some.id c.in-Some.ensures.items c.up.invariant.warming.warms next.first)

pub keep_hash-requires-clause-there : goal.keep_hash-requires-clause-there
keep_hash-requires-clause-there g c = (next_warm c.args.nodes.now c.up.nodes c.args.queue.items c.up.queue.items c.pop.new.self.items c.in-Some.id c.count-count.ensures.sound c.requires c.up.invariant.warming c.in-Some.ensures.items).there

pub keep_hash-requires-clause-below : goal.keep_hash-requires-clause-below
keep_hash-requires-clause-below g c = (next_warm c.args.nodes.now c.up.nodes c.args.queue.items c.up.queue.items c.pop.new.self.items c.in-Some.id c.count-count.ensures.sound c.requires c.up.invariant.warming c.in-Some.ensures.items).hashes

pub up-preserved : goal.up-preserved
up-preserved g c =
    let next = next_warm c.args.nodes.now c.up.nodes c.args.queue.items c.up.queue.items c.pop.new.self.items c.in-Some.id c.count-count.ensures.sound c.requires c.up.invariant.warming c.in-Some.ensures.items in
    record {
      warming = warming_next c.args.nodes.now c.up.nodes c.keep_hash.new.self c.args.queue.items c.up.queue.items c.pop.new.self.items c.in-Some.id c.in_ok-made.made.hash c.requires c.up.invariant.warming c.in-Some.ensures.items next c.keep_hash.ensures;
      steps = omega (arith, c.up.invariant.steps, c.summary_of.ensures.steps, left_weights c.args.nodes.now c.up.nodes c.up.queue.items c.pop.new.self.items c.in-Some.id c.in-Some.ensures.items c.up.invariant.warming.warms next.first);
    }
