-- The goals of `loading::load` that no tactic closes.
use Rattle.nr_shell.proofs.Loaded.{has_counted, has_stopped, was_read}
use Rattle.nr_shell.proofs.loading.load.Goals as goal

pub returns-in-Ok : goal.returns-in-Ok
returns-in-Ok g c = λ refuses is. record {
  answers = was_read (g.S.Shelf.held c.args.shelf.now) _ _ c.args.name.now c.args.limit c.args.too_long c.new-bytes.result.items c.load.new.out.items c.new-bytes.ensures.items c.in-Ok.ensures.loads c.in-Ok.ensures.asks;
  keeps = c.load.ensures.held;
  failed = λ e. let wrong : ⊥ = cc in absurd wrong;
  rises = c.load.ensures.rises;
}

pub returns-in-Err : goal.returns-in-Err
returns-in-Err g c = λ refuses is. rw c.load_stop.ensures (record {
  answers = has_stopped (g.S.Shelf.held c.args.shelf.now) (g.S.Shelf.asked c.args.shelf.now) (g.S.Shelf.asked c.load.new.self) c.args.name.now c.args.limit c.args.too_long refuses c.in-Err.fault c.new-bytes.result.items c.load.new.out.items is c.new-bytes.ensures.items c.in-Err.ensures.loads c.in-Err.ensures.asks;
  keeps = c.load.ensures.held;
  failed = λ e. has_counted c.args.too_long c.in-Err.fault _ _ c.in-Err.ensures.failed e;
  rises = c.load.ensures.rises;
})
