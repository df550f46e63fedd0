-- The goals of `left::Left::new` that no tactic closes.
use Rattle.std.proofs.Common.{◌∷◌, [], length, length-append, ap, ◌∙◌, arith}
use Rattle.nr_workers.specs.Left.{list_in}
use Rattle.nr_workers.proofs.Slots.{none_more}
use Rattle.nr_workers.proofs.left.Left.new.Goals as goal

pub loop-source-preserved : goal.loop-source-preserved
loop-source-preserved g c = record {
  all = (let pushed = ap length c.in_ok-push.ensures.items in omega (arith, pushed, c.loop-source.invariant.all, length-append c.loop-source.rows.items (c.new.result ∷ [])));
  none = λ t h. ap (λ rows. list_in rows t h) c.in_ok-push.ensures.items ∙ none_more c.loop-source.rows.items c.new.result c.loop-source.invariant.none c.new.ensures.empty t h;
}
