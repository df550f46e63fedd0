-- The goals of `open_way::settle_open` that no tactic closes.
use Rattle.std.proofs.Common.{◌≡◌, false}
use Rattle.std.specs.Prelude.{is_some}
use Rattle.nr_trienodes.proofs.Settled.{settles_none, settles_single}
use Rattle.nr_trienodes.proofs.open_way.settle_open.Goals as goal

pub returns-in-Bare-clause-settled : goal.returns-in-Bare-clause-settled
returns-in-Bare-clause-settled c =
    let none : is_some c.args.node.value ≡ false = cc (c.is_some.ensures, c.if-is_some.false) in
    settles_none c.args.nodes.now c.args.node.part _ c.args.node.row none c.in-Bare.ensures

pub returns-in_ok-id-in-Single-clause-settled : goal.returns-in_ok-id-in-Single-clause-settled
returns-in_ok-id-in-Single-clause-settled c =
    let none : is_some c.args.node.value ≡ false = cc (c.is_some.ensures, c.if-is_some.false) in
    settles_single c.args.nodes.now c.join_open.new.nodes c.args.node.part _ c.args.node.row c.in-Single.nibble c.in-Single.child c.in_ok-id-in-Single.id c.join_open.ensures.sound (c.requires.back c.in-Single.nibble c.in-Single.child c.in-Single.ensures.1) none c.in-Single.ensures.1 c.in-Single.ensures.2 c.in_ok-id-in-Single.ensures.joined
