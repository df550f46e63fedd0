-- The goals of `making::make_chunks` that no tactic closes.
use Rattle.std.proofs.lemmas.Result.{err_from_is_err_and}
use Rattle.nr_blocks.specs.BlocksFiles.{IsChunk, chunk_bytes}
use Rattle.nr_blocks.specs.Outlines.{chunk_outline}
use Rattle.nr_blocks.proofs.LastFirst.{begins, emptied, ends, goes_on, stops}
use Rattle.nr_blocks.proofs.making.make_chunks.Goals as goal

pub loop-places-init : goal.loop-places-init
loop-places-init c =
    begins chunk_bytes chunk_outline IsChunk c.args.chunks c.into_inner-left.result.items c.in_ok-made.made.items
    c.args.bytes.now.items
    c.into_inner-left.ensures c.in_ok-made.ensures.items

pub returns-in_err-chunk : goal.returns-in_err-chunk
returns-in_err-chunk c =
    let p = err_from_is_err_and c.from_residual-in_err-chunk.result c.from_residual-in_err-chunk.ensures.1 in
    rw (p.1, p.2)
    (stops chunk_bytes chunk_outline IsChunk c.args.chunks c.args.bytes.now.items c.loop-places.left.items
    c.pop.new.self.items
    c.in-Some.places c.loop-places.made.items c.in_err-chunk.field-0.0 c.loop-places.bytes.items
    c.make_chunk.new.bytes.items
    c.in-Some.ensures.items (c.in_err-chunk.ensures) (c.loop-places.invariant) c.make_chunk.new.bytes.items)

pub loop-places-preserved : goal.loop-places-preserved
loop-places-preserved c =
    rw c.in_ok-push.ensures.items
    (goes_on chunk_bytes chunk_outline IsChunk c.args.chunks c.args.bytes.now.items c.loop-places.left.items
    c.pop.new.self.items
    c.in-Some.places c.loop-places.made.items c.in_ok-chunk.chunk c.loop-places.bytes.items c.make_chunk.new.bytes.items
    c.in-Some.ensures.items (c.in_ok-chunk.ensures) (c.loop-places.invariant))

pub returns : goal.returns
returns c =
    ends chunk_bytes chunk_outline IsChunk c.args.chunks c.args.bytes.now.items c.loop-places.left.items
    c.loop-places.made.items
    c.reverse.new.self c.loop-places.bytes.items
    (emptied c.loop-places.left.items c.pop.new.self.items _ c.in_default.ensures.cases.0 c.in_default.ensures.rest
    c.in_default.ensures.items) c.reverse.ensures.items (c.loop-places.invariant)
