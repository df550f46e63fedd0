-- What holds at the loops of `reading::numbers_by`.
use Rattle.std.proofs.Common.{◌≡◌, length}
use Rattle.serde_json.specs.View.{view}
use Rattle.nr_config.proofs.Loop.{HasRead}
use Rattle.nr_config.proofs.reading.numbers_by.Given as goal

abbrev pub invariant-loop-i : goal.invariant-loop-i
invariant-loop-i l = (length l.numbers ≡ 75) × HasRead l.i l.numbers l.rows (view l.value)
