-- The goals of `groups::are_stated` that no tactic closes.
use Rattle.std.proofs.Common.{◌≡◌, ℕ, ◌-◌, ◌∷◌, true, drop, ap, subst, ◌∙◌, arith}
use Rattle.std.proofs.Math.Seq.{drop-length}
use Rattle.nr_blocks.specs.Groups.{lead, are_stated}
use Rattle.nr_blocks.proofs.Turns.{front_of}
use Rattle.nr_blocks.proofs.groups.are_stated.Goals as goal

pub loop-left-init : goal.loop-left-init
loop-left-init c = record {
  within = omega arith;
  bytes = ap (lead c.args.config.now) (drop-length c.args.entries.now);
  stated = ap (are_stated c.args.config.now) (drop-length c.args.entries.now);
}

pub loop-left-preserved : goal.loop-left-preserved
loop-left-preserved c =
    let es = c.args.entries.now in
    let n = c.loop-left.left in
    let e = c.index-entries-left.result in
    let front : drop (n - 1) es ≡ e ∷ drop n es = front_of es (n - 1) n e (omega (arith, c.loop-left.invariant.within, c.loop-left-test.true)) (omega (arith, c.loop-left-test.true)) c.index-entries-left.is in
    let on = c.in_ok-front.ensures c.if-not-stated.false (drop n es) c.loop-left.invariant.bytes c.loop-left.invariant.stated in
    record {
      within = omega (arith, c.loop-left.invariant.within);
      bytes = ap (lead c.args.config.now) front ∙ on.0;
      stated = ap (are_stated c.args.config.now) front ∙ on.1;
    }

pub returns : goal.returns
returns c = λ _.
    let none : c.loop-left.left ≡ 0 = omega (arith, c.loop-left-test.false) in
    subst (λ (n : ℕ). are_stated c.args.config.now (drop n c.args.entries.now) ≡ true) none c.loop-left.invariant.stated
