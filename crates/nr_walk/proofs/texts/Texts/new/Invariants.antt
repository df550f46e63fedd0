-- What holds at the loops of `texts::Texts::new`.
use Rattle.std.proofs.Common.{◌≡◌, take, fold}
use Rattle.std.specs.FinMap.{empty}
use Rattle.nr_walk.specs.Texts.{with_text}
use Rattle.nr_walk.proofs.texts.Texts.new.Given as goal

abbrev pub invariant-loop-text : goal.invariant-loop-text
invariant-loop-text l = l.store.contents ≡ fold with_text empty (take l.text-index l.text-items)
