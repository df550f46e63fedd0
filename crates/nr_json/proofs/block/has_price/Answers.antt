-- The goals of `block::has_price` that no tactic closes.
use Rattle.std.proofs.Common.{refl}
use Rattle.std.specs.Prelude.{codes}
use Rattle.nr_json.specs.Faults.{item_step, member_step}
use Rattle.nr_json.proofs.Loops.{told_in}
use Rattle.nr_json.proofs.block.has_price.Goals as goal

pub returns-in-Err : goal.returns-in-Err
returns-in-Err c = λ other.
    let told = told_in (member_step (codes "price")) (item_step c.args.number) (member_step (codes "blocks")) c.in-Err.fault c.in_member-of_block.result c.in_item-of_list.result c.in_member.result
    c.in_member-of_block.ensures c.in_item-of_list.ensures c.in_member.ensures other in
    rw (← c.in-Err.ensures, told) refl
