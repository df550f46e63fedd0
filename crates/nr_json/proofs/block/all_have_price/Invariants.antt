-- What holds at the loops of `block::all_have_price`.
use Rattle.nr_blocks.proofs.Turns.{IsLeft}
use Rattle.nr_json.specs.Blocks.{has_price}
use Rattle.nr_json.proofs.block.all_have_price.Given as goal

abbrev pub invariant-loop-number : goal.invariant-loop-number
invariant-loop-number l = IsLeft (has_price l.version) l.blocks l.number
