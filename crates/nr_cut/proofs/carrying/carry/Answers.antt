-- The goals of `carrying::carry` that no tactic closes.
use Rattle.std.proofs.Common.{◌++◌, List, sym, ap, ◌∙◌, append_assoc}
use Rattle.std.specs.List.{flat_map}
use Rattle.std.specs.Vec.Iter.{into_iter_items}
use Rattle.nr_records.specs.declared.receipt.Receipt.{Receipt}
use Rattle.nr_cut.proofs.carrying.carry.Goals as goal

pub loop-list-preserved : goal.loop-list-preserved
loop-list-preserved c =
    let before : List Receipt = c.loop-list.all.items in
    let rest : List (List Receipt) = into_iter_items c.next.new.self in
    ap (λ (l : List Receipt). l ++ flat_map (λ list. list) rest)
    (c.in_ok-append.ensures.items ∙ ap (λ (l : List Receipt). before ++ l) c.into_inner-receipts.ensures)
    ∙ append_assoc before c.in-Some.list (flat_map (λ list. list) rest)
    ∙ ap (λ (ls : List (List Receipt)). before ++ flat_map (λ list. list) ls) (sym c.in-Some.ensures.steps.0)
    ∙ c.loop-list.invariant
