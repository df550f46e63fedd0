-- The goals of `making::made_of` that no tactic closes.
use Rattle.std.proofs.lemmas.Result.{err_from_is_err_and}
use Rattle.nr_blocks.specs.BlocksFiles.{IsBlock, block_bytes}
use Rattle.nr_blocks.specs.Outlines.{block_outline}
use Rattle.nr_blocks.proofs.LastFirst.{begins, emptied, ends, goes_on, stops}
use Rattle.nr_blocks.proofs.making.made_of.Goals as goal

pub loop-outline-init : goal.loop-outline-init
loop-outline-init c = λ version.
    begins block_bytes block_outline (IsBlock version) c.args.outlines c.into_inner-left.result.items
    c.in_ok-blocks.blocks.items c.args.bytes.now.items
    c.into_inner-left.ensures c.in_ok-blocks.ensures.items

pub returns-in_err-block : goal.returns-in_err-block
returns-in_err-block c =
    let p = err_from_is_err_and c.from_residual-in_err-block.result c.from_residual-in_err-block.ensures.1 in
    rw (p.1, p.2)
    (λ version. stops block_bytes block_outline (IsBlock version) c.args.outlines c.args.bytes.now.items
    c.loop-outline.left.items c.pop.new.self.items
    c.in-Some.outline c.loop-outline.blocks.items c.in_err-block.field-0.0 c.loop-outline.bytes.items
    c.make_block.new.bytes.items
    c.in-Some.ensures.items (c.in_err-block.ensures version) (c.loop-outline.invariant version)
    c.make_block.new.bytes.items)

pub loop-outline-preserved : goal.loop-outline-preserved
loop-outline-preserved c =
    rw c.in_ok-push.ensures.items
    (λ version. goes_on block_bytes block_outline (IsBlock version) c.args.outlines c.args.bytes.now.items
    c.loop-outline.left.items c.pop.new.self.items
    c.in-Some.outline c.loop-outline.blocks.items c.in_ok-block.block c.loop-outline.bytes.items
    c.make_block.new.bytes.items
    c.in-Some.ensures.items (c.in_ok-block.ensures version) (c.loop-outline.invariant version))

pub returns : goal.returns
returns c = λ version.
    ends block_bytes block_outline (IsBlock version) c.args.outlines c.args.bytes.now.items c.loop-outline.left.items
    c.loop-outline.blocks.items
    c.reverse.new.self c.loop-outline.bytes.items
    (emptied c.loop-outline.left.items c.pop.new.self.items _ c.in_default.ensures.cases.0 c.in_default.ensures.rest
    c.in_default.ensures.items) c.reverse.ensures.items (c.loop-outline.invariant version)
