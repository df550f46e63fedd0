-- The goals of `open_way::head` that no tactic closes.
use Rattle.std.proofs.Common.{◌≡◌, ◌+◌, length, ap, refl, ◌∙◌, sym, arith}
use Rattle.nr_trienodes.specs.Opened.{shape_of}
use Rattle.nr_trienodes.proofs.Keys.{goes_by}
use Rattle.nr_trienodes.proofs.Rows.{child_get}
use Rattle.nr_trienodes.proofs.open_way.head.Goals as goal

pub returns-in-None : goal.returns-in-None
returns-in-None c =
    let by = goes_by (shape_of c.args.node.now) c.as_slice-part.result.now c.args.key.now c.args.at c.matched-shared.result (c.args.at + c.matched-shared.result) (c.args.at + c.matched-shared.result + 1) c.in-Some.nibble c.as_slice-part.ensures c.matched-shared.ensures (omega arith) refl refl c.in-Some.ensures in
    ((by, sym (child_get c.args.node.now.row c.in-Some.nibble) ∙ c.in-None.is), (let same : c.as_slice-part.result.now ≡ c.args.node.now.part = c.as_slice-part.ensures in omega (arith, ap length same, c.matched-shared.ensures.within)))

pub returns-in-Some-row : goal.returns-in-Some-row
returns-in-Some-row c =
    let by = goes_by (shape_of c.args.node.now) c.as_slice-part.result.now c.args.key.now c.args.at c.matched-shared.result (c.args.at + c.matched-shared.result) (c.args.at + c.matched-shared.result + 1) c.in-Some.nibble c.as_slice-part.ensures c.matched-shared.ensures (omega arith) refl refl c.in-Some.ensures in
    let down = sym (child_get c.args.node.now.row c.in-Some.nibble) ∙ c.in-Some-row.is in
    ((by, down, c.requires.back c.in-Some.nibble c.in-Some-row.child down), (let same : c.as_slice-part.result.now ≡ c.args.node.now.part = c.as_slice-part.ensures in omega (arith, ap length same, c.matched-shared.ensures.within)))
