-- The goals of `outline::chunks_of` that no tactic closes.
use Rattle.std.proofs.lemmas.Result.{err_from_is_err_and}
use Rattle.nr_bytes.specs.Fields.{items_at}
use Rattle.nr_bytes.proofs.Items.{goes_on, ends, is_done}
use Rattle.nr_blocks.specs.Outlines.{chunk_outline_at}
use Rattle.nr_blocks.proofs.outline.chunks_of.Goals as goal

pub returns-in_err-chunk : goal.returns-in_err-chunk
returns-in_err-chunk c =
    let p = err_from_is_err_and c.from_residual.result c.from_residual.ensures.1 in
    rw (p.1, p.2)
    (λ other.
    ends chunk_outline_at c.loop.chunks.items c.args.count c.loop.counter c.loop.reader c.in_err-chunk.field-0.0
    (items_at chunk_outline_at c.args.count c.args.reader.now) c.loop-test.true (c.in_err-chunk.ensures other)
    c.loop.invariant)

pub loop-preserved : goal.loop-preserved
loop-preserved c =
    rw c.in_ok-push.ensures.items
    (goes_on chunk_outline_at c.loop.chunks.items c.args.count c.loop.counter c.loop.reader c.in_ok-chunk.chunk
    c.read_chunk.new.reader (items_at chunk_outline_at c.args.count c.args.reader.now) c.loop-test.true
    c.in_ok-chunk.ensures
    c.loop.invariant)

pub returns : goal.returns
returns c =
    is_done chunk_outline_at c.loop.chunks.items c.args.count c.loop.counter c.loop.reader
    (items_at chunk_outline_at c.args.count c.args.reader.now) c.loop-test.false c.loop.invariant
