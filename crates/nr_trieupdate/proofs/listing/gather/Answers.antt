-- The goals of `listing::gather` that no tactic closes.
use Rattle.std.proofs.Common.{◌++◌, ℕ, List, sym, subst, arith, drop}
use Rattle.std.proofs.Math.Seq.{drop-length}
use Rattle.nr_trieupdate.specs.Overlays.{over, IsGathered}
use Rattle.nr_trieupdate.proofs.Overlays.{drop_at}
use Rattle.nr_trieupdate.proofs.listing.gather.Goals as goal

pub loop-left-init : goal.loop-left-init
loop-left-init c = record {
  within = omega arith;
  gathered = λ other h. subst (λ (ks : List (List ℕ)). IsGathered (over c.args.changes.now.contents c.args.base.now.contents) c.args.found.now.contents (ks ++ other)) (sym (drop-length c.args.keys.now)) h;
}

pub loop-left-preserved : goal.loop-left-preserved
loop-left-preserved c = record {
  within = omega (arith, c.loop-left.invariant.within);
  gathered = λ other h.
      subst (λ (ks : List (List ℕ)). IsGathered (over c.args.changes.now.contents c.args.base.now.contents) c.gather_one.new.found.contents (ks ++ other))
      (sym (drop_at c.args.keys.now c.loop-left.left c.index-keys-left.result c.inner.result.now (omega arith) c.loop-left.invariant.within c.index-keys-left.is c.inner.ensures))
      (c.in_ok-gather_one.ensures (drop c.loop-left.left c.args.keys.now ++ other) (c.loop-left.invariant.gathered other h));
}
