-- The goals of `code::code` that no tactic closes.
use Rattle.std.proofs.Common.{string_bytes, arith}
use Rattle.std.proofs.lemmas.Result.{on_ok_weaker}
use Rattle.nr_wat.proofs.Turns.{block_behind, choice_behind, choice_parts, ended, loop_behind, plain_behind, turn}
use Rattle.nr_wat.proofs.code.+code.Goals as goal

pub print_instr-returns-in-Plain : goal.print_instr-returns-in-Plain
print_instr-returns-in-Plain t c =
    on_ok_weaker c.print_plain.result
    (λ e. plain_behind c.args.margin.now c.args.instr.now c.in-Plain.plain _ _ c.in-Plain.is e) c.print_plain.ensures

pub print_instr-returns-in-Block : goal.print_instr-returns-in-Block
print_instr-returns-in-Block t c =
    on_ok_weaker c.print_block.result
    (λ e. block_behind c.args.margin.now c.args.instr.now c.in-Block.result_type c.in-Block.body c.deref.result.now _ _ c.in-Block.is c.deref.ensures e)
    c.print_block.ensures

pub print_instr-returns-in-Loop : goal.print_instr-returns-in-Loop
print_instr-returns-in-Loop t c =
    on_ok_weaker c.print_block-in-Loop.result
    (λ e. loop_behind c.args.margin.now c.args.instr.now c.in-Loop.result_type c.in-Loop.body c.deref-in-Loop.result.now _ _ c.in-Loop.is c.deref-in-Loop.ensures e)
    c.print_block-in-Loop.ensures

pub print_instr-returns-in_ok-print_other-in-If : goal.print_instr-returns-in_ok-print_other-in-If
print_instr-returns-in_ok-print_other-in-If t c =
    let both = c.deref-arms.result.now in
    let before = string_bytes c.args.text.now in
    on_ok_weaker c.print_name.result
    (λ e. choice_behind c.args.margin.now c.args.instr.now c.in-If.result_type c.in-If.arms both before (string_bytes c.print_name.new.text) c.in-If.is c.deref-arms.ensures
    (choice_parts c.args.margin.now c.in-If.result_type both.0.items both.1.items before (string_bytes c.print_head.new.text) (string_bytes c.print_inside.new.text) (string_bytes c.print_other.new.text) (string_bytes c.print_name.new.text)
    c.in_ok-print_head-in-If.ensures c.in_ok-print_inside-in-If.ensures c.in_ok-print_other-in-If.ensures e))
    c.print_name.ensures

pub print_code-loop-index-preserved : goal.print_code-loop-index-preserved
print_code-loop-index-preserved t c =
    turn c.args.margin.now c.args.code.now.items c.loop-index.index c.index.result.now (string_bytes c.loop-index.text) (string_bytes c.print_instr.new.text) _
    (omega arith) c.index.ensures c.in_ok-print_instr.ensures c.loop-index.invariant

pub print_code-returns : goal.print_code-returns
print_code-returns t c =
    ended c.args.margin.now c.args.code.now.items c.loop-index.index (string_bytes c.loop-index.text) _ (omega arith) c.loop-index.invariant
