-- The goals of `hashing::hash_below` that no tactic closes.
use Rattle.std.proofs.Common.{◌<◌, sym, ap, ◌∙◌, subst}
use Rattle.nr_triedef.specs.declared.hash.Summary.{Summary}
use Rattle.nr_trienodes.proofs.Hashed.{warm_refl, kept_is, summary_same}
use Rattle.nr_trienodes.proofs.hashing.hash_below.Goals as goal

pub returns-in_err-queue-clause-warms : goal.returns-in_err-queue-clause-warms
returns-in_err-queue-clause-warms g c = warm_refl c.args.nodes.now c.count-count.ensures.sound

pub returns-clause-hash : goal.returns-clause-hash
returns-clause-hash g c =
    kept_is c.warm.new.nodes c.args.root c.hash_at.result c.in-Some.hash c.warm.ensures.warms.sound (subst (λ n. c.args.root < n) (sym c.warm.ensures.warms.same) c.requires) c.hash_at.ensures c.in-Some.is
    ∙ ap (λ (s : Summary). s.hash) (summary_same c.args.nodes.now c.warm.new.nodes c.args.root c.count-count.ensures.sound c.warm.ensures.warms c.requires)
