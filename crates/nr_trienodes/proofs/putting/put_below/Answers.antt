-- The goals of `putting::put_below` that no tactic closes.
use Rattle.std.proofs.Common.{◌+◌, ◌*◌, length, Some, arith}
use Rattle.nr_triedef.specs.Node.{nibbles}
use Rattle.nr_trienodes.specs.Turns.{left}
use Rattle.nr_trienodes.proofs.Puts.{put_climbed}
use Rattle.nr_trienodes.proofs.putting.put_below.Goals as goal

pub returns-clause-put : goal.returns-clause-put
returns-clause-put c =
    put_climbed c.args.nodes.now c.put_at.new.nodes c.climb.new.nodes c.args.root c.in_ok-end.end.node c.in_ok-below.below c.in_ok-id.id c.in_ok-end.end.way (nibbles c.args.key.now) (left c.args.key.now c.in_ok-end.end.at) (Some c.args.value) (2 * length (left c.args.key.now c.in_ok-end.end.at) + 3) 3
    c.in_ok-end.ensures.sound c.put_at.ensures.grows c.in_ok-end.ensures.leads c.in_ok-below.ensures.put c.in_ok-id.ensures.climbs c.in_ok-end.ensures.short (omega arith)
