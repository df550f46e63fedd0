-- The goals of `nodes::Nodes::hash` that no tactic closes.
use Rattle.std.proofs.Common.{sym, ◌∙◌}
use Rattle.nr_trienodes.proofs.Hashed.{steps_of, known_of, known_none, hash_of_none, hash_of_some, keeps_warm, warm_there}
use Rattle.nr_trienodes.proofs.nodes.Nodes.hash.Goals as goal

pub returns-in_err-hash-in-Some-clause-steps : goal.returns-in_err-hash-in-Some-clause-steps
returns-in_err-hash-in-Some-clause-steps g c = steps_of c.args.self.now c.args.root c.in-Some.root c.args.steps.now c.hash_below.new.steps c.in-Some.is c.hash_below.ensures.steps

pub returns-in_err-hash-in-Some-clause-kept : goal.returns-in_err-hash-in-Some-clause-kept
returns-in_err-hash-in-Some-clause-kept g c = keeps_warm c.args.self.now c.hash_below.new.nodes c.count-count.ensures.sound c.hash_below.ensures.warms

pub returns-in-None-clause-hash : goal.returns-in-None-clause-hash
returns-in-None-clause-hash g c = c.empty_root.ensures ∙ sym (hash_of_none c.args.self.now c.args.root c.in-None.is)

pub returns-in-None-clause-known : goal.returns-in-None-clause-known
returns-in-None-clause-known g c = known_none c.args.self.now c.args.root c.in-None.is

pub returns-in_ok-hash-in-Some-clause-hash : goal.returns-in_ok-hash-in-Some-clause-hash
returns-in_ok-hash-in-Some-clause-hash g c = c.in_ok-hash-in-Some.ensures.hash ∙ sym (hash_of_some c.args.self.now c.args.root c.in-Some.root c.count-count.ensures.sound c.requires c.in-Some.is)

pub returns-in_ok-hash-in-Some-clause-steps : goal.returns-in_ok-hash-in-Some-clause-steps
returns-in_ok-hash-in-Some-clause-steps g c = steps_of c.args.self.now c.args.root c.in-Some.root c.args.steps.now c.hash_below.new.steps c.in-Some.is c.hash_below.ensures.steps

pub returns-in_ok-hash-in-Some-clause-known : goal.returns-in_ok-hash-in-Some-clause-known
returns-in_ok-hash-in-Some-clause-known g c = known_of c.hash_below.new.nodes c.args.root c.in-Some.root c.in-Some.is c.hash_below.ensures.warms.sound (warm_there c.args.self.now c.hash_below.new.nodes c.args.root c.in-Some.root c.hash_below.ensures.warms c.requires c.in-Some.is) c.in_ok-hash-in-Some.ensures.kept

pub returns-in_ok-hash-in-Some-clause-kept : goal.returns-in_ok-hash-in-Some-clause-kept
returns-in_ok-hash-in-Some-clause-kept g c = keeps_warm c.args.self.now c.hash_below.new.nodes c.count-count.ensures.sound c.hash_below.ensures.warms
