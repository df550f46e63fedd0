-- What holds at the loops of `making::put_elements`.
use Rattle.std.proofs.Common.{◌≡◌, drop}
use Rattle.nr_wasmexec.specs.Making.{all_into, element_into}
use Rattle.nr_wasmexec.proofs.making.put_elements.Given as goal

abbrev pub invariant-loop-element : goal.invariant-loop-element
invariant-loop-element l = all_into (element_into l.globals) l.table.items (drop l.element-index l.elements) ≡ all_into (element_into l.globals) l.fn.table.items l.elements
