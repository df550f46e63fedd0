-- The goals of `lists::items_of` that no tactic closes.
use Rattle.std.proofs.Common.{◌≡◌, ℕ, ◌-◌, List, [], Ok, Err, refl, ap, ◌∙◌, arith}
use Rattle.std.proofs.lemmas.Result.{err_from_is_err_and}
use Rattle.nr_bytes.specs.Fields.{Read, items_at}
use Rattle.nr_bytes.specs.Reading.{Input}
use Rattle.nr_bytes.proofs.Items.{with_front, goes_on, ends, is_done}
use Rattle.nr_records.proofs.lists.items_of.Goals as goal

-- none was read before
plain : {F X : Type 0} (read : Read F (List X)) → with_front [] read ≡ read
plain (Ok x) = refl
plain (Err e) = refl

begins : {F X : Type 0} (item : Input → Read F X) (front : List X) (count : ℕ) (s : Input) → front ≡ [] → with_front front (items_at item (count - 0) s) ≡ items_at item count s
begins item front count s none =
    let all : count - 0 ≡ count = omega arith in
    ap (λ items. with_front items (items_at item (count - 0) s)) none ∙ ap (λ n. with_front [] (items_at item n s)) all ∙ plain (items_at item count s)

pub loop-init : goal.loop-init
loop-init g c = begins g.T.Spelled.reading c.in_ok-items.items.items c.args.count c.args.reader.now c.in_ok-items.ensures.items

pub returns-in_err-item : goal.returns-in_err-item
returns-in_err-item g c =
    let p = err_from_is_err_and c.from_residual-in_err-item.result c.from_residual-in_err-item.ensures.1 in
    rw (p.1, p.2) (λ other. ends g.T.Spelled.reading c.loop.items.items c.args.count c.loop.counter c.loop.reader c.in_err-item.field-0.0 (items_at g.T.Spelled.reading c.args.count c.args.reader.now) c.loop-test.true (c.in_err-item.ensures.gives other) c.loop.invariant)

pub loop-preserved : goal.loop-preserved
loop-preserved g c =
    rw c.in_ok-push.ensures.items (goes_on g.T.Spelled.reading c.loop.items.items c.args.count c.loop.counter c.loop.reader c.in_ok-item.item c.read.new.reader (items_at g.T.Spelled.reading c.args.count c.args.reader.now) c.loop-test.true c.in_ok-item.ensures.gives c.loop.invariant)

pub returns : goal.returns
returns g c = is_done g.T.Spelled.reading c.loop.items.items c.args.count c.loop.counter c.loop.reader (items_at g.T.Spelled.reading c.args.count c.args.reader.now) c.loop-test.false c.loop.invariant
