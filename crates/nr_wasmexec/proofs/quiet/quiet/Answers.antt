-- The goals of `quiet::quiet` that no tactic closes.
use Rattle.nr_wasmexec.proofs.Paying.{plain_quiet}
use Rattle.nr_wasmexec.proofs.Room.{plain_passed, block_passed, loop_passed, choice_passed}
use Rattle.nr_wasmexec.proofs.quiet.quiet.Goals as goal

pub returns-in-Plain-clause-quiet : goal.returns-in-Plain-clause-quiet
returns-in-Plain-clause-quiet c =
    plain_quiet c.args.program.now c.args.guest.now c.quiet_plain.result c.args.thread.now c.quiet_plain.new.thread
    c.args.instr.now _ c.requires c.in-Plain.is c.quiet_plain.ensures.quiet

pub returns-in-Plain-clause-calm : goal.returns-in-Plain-clause-calm
returns-in-Plain-clause-calm c =
    plain_passed c.quiet_plain.result c.args.thread.now.code c.args.instr.now _ c.requires c.in-Plain.is
    c.quiet_plain.ensures.calm

pub returns-in-Block-clause-calm : goal.returns-in-Block-clause-calm
returns-in-Block-clause-calm c = block_passed c.args.thread.now.code c.args.instr.now _ _ c.requires c.in-Block.is

pub returns-in-Loop-clause-calm : goal.returns-in-Loop-clause-calm
returns-in-Loop-clause-calm c = loop_passed c.args.thread.now.code c.args.instr.now _ _ c.requires c.in-Loop.is

pub returns-in-If-clause-calm : goal.returns-in-If-clause-calm
returns-in-If-clause-calm c = choice_passed c.args.thread.now.code c.args.instr.now _ _ c.requires c.in-If.is
