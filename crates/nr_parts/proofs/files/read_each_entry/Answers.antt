-- The goals of `files::read_each_entry` that no tactic closes.
use Rattle.std.proofs.lemmas.Result.{err_from_is_err_and}
use Rattle.nr_bytes.specs.Fields.{items_at}
use Rattle.nr_bytes.proofs.Items.{goes_on, ends, is_done}
use Rattle.nr_parts.specs.Files.{entry_at}
use Rattle.nr_parts.proofs.files.read_each_entry.Goals as goal

pub returns-in_err-item : goal.returns-in_err-item
returns-in_err-item c =
    let p = err_from_is_err_and c.from_residual.result c.from_residual.ensures.1 in
    rw (p.1, p.2) (λ other. ends entry_at c.loop.items.items c.args.count c.loop.counter c.loop.reader c.in_err-item.field-0.0 (items_at entry_at c.args.count c.args.reader.now) c.loop-test.true (c.in_err-item.ensures other) c.loop.invariant)

pub loop-preserved : goal.loop-preserved
loop-preserved c =
    rw c.in_ok-push_entry.ensures (goes_on entry_at c.loop.items.items c.args.count c.loop.counter c.loop.reader c.in_ok-item.item c.read_entry.new.reader (items_at entry_at c.args.count c.args.reader.now) c.loop-test.true c.in_ok-item.ensures c.loop.invariant)

pub returns : goal.returns
returns c = is_done entry_at c.loop.items.items c.args.count c.loop.counter c.loop.reader (items_at entry_at c.args.count c.args.reader.now) c.loop-test.false c.loop.invariant
