-- What holds at the loops of `promise_arguments::copy_texts`.
use Rattle.std.proofs.Common.{◌≡◌, take, map}
use Rattle.nr_hostctx.proofs.promise_arguments.copy_texts.Given as goal

abbrev pub invariant-loop-part : goal.invariant-loop-part
invariant-loop-part l = l.texts.items ≡ map (λ part. part.now) (take l.part-index l.parts)
