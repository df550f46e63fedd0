-- The goals of `outline::outlines_of` that no tactic closes.
use Rattle.std.proofs.lemmas.Result.{err_from_is_err_and}
use Rattle.nr_bytes.specs.Fields.{items_at}
use Rattle.nr_bytes.proofs.Items.{goes_on, ends, is_done}
use Rattle.nr_blocks.specs.Outlines.{outline_at}
use Rattle.nr_blocks.proofs.outline.outlines_of.Goals as goal

pub returns-in_err-outline : goal.returns-in_err-outline
returns-in_err-outline c =
    let p = err_from_is_err_and c.from_residual.result c.from_residual.ensures.1 in
    rw (p.1, p.2)
    (λ other.
    ends (outline_at c.args.version) c.loop.outlines.items c.args.count c.loop.counter c.loop.reader
    c.in_err-outline.field-0.0
    (items_at (outline_at c.args.version) c.args.count c.args.reader.now) c.loop-test.true
    (c.in_err-outline.ensures other)
    c.loop.invariant)

pub loop-preserved : goal.loop-preserved
loop-preserved c =
    rw c.in_ok-push.ensures.items
    (goes_on (outline_at c.args.version) c.loop.outlines.items c.args.count c.loop.counter c.loop.reader
    c.in_ok-outline.outline
    c.read_outline.new.reader (items_at (outline_at c.args.version) c.args.count c.args.reader.now) c.loop-test.true
    c.in_ok-outline.ensures
    c.loop.invariant)

pub returns : goal.returns
returns c =
    is_done (outline_at c.args.version) c.loop.outlines.items c.args.count c.loop.counter c.loop.reader
    (items_at (outline_at c.args.version) c.args.count c.args.reader.now) c.loop-test.false c.loop.invariant
