-- The goals of `list::read_items` that no tactic closes.
use Rattle.std.proofs.Common.{◌≡◌, ◌-◌, ◌<◌, [], ◌∷◌, ◌++◌, length, None, sym, ap, ◌∙◌, map, arith}
use Rattle.json.specs.Json.{after_end_array, value}
use Rattle.nr_jsonstream.proofs.Reading.{items_begin, one_more_item, items_over}
use Rattle.nr_jsonstream.proofs.Records.{good, one_more}
use Rattle.nr_jsonstream.proofs.list.read_items.Goals as goal

pub items-init : goal.items-init
items-init g c =
    (length c.args.reader.now, [], omega arith, items_begin (value c.args.depth) c.args.reader.now, ap (map good) (sym c.new-found.ensures.items), omega arith)

pub items-preserved : goal.items-preserved
items-preserved g c =
    let p = value c.args.depth in
    let l = c.items in
    let n = l.invariant.0 in
    let ds = l.invariant.1 in
    let going : (after_end_array l.reader ≡ None) × (c.take_end_array.new.self ≡ l.reader) = grind arith in
    let done = c.in_ok-item.ensures in
    let j = done.ok.0 in
    let d = done.ok.1 in
    let r = c.read_record.new.reader in
    let less : length r < length l.reader = rw (← going.1) done.shorter in (
      n - 1,
      ds ++ d ∷ [],
      omega (arith, l.invariant.2),
      one_more_item p c.args.reader.now l.reader r ds n j d (omega (arith, l.invariant.2)) going.0 (ap p (sym going.1) ∙ done.ok.2) done.ok.3 l.invariant.3,
      one_more g.T.Form.reading ds d l.found.items c.in_ok-item.item l.invariant.4 done.ok.4 ∙ ap (map good) (sym c.in_ok-push.ensures.items),
      omega (arith, l.invariant.5),
    )

pub returns-clause-ok : goal.returns-clause-ok
returns-clause-ok g c =
    let l = c.items in
    let ds = l.invariant.1 in
    let all = items_over (value c.args.depth) c.args.reader.now l.reader c.take_end_array.new.self ds l.invariant.0 l.invariant.2 (grind arith) l.invariant.3 in
    (all.0, ds, all.1, all.2, l.invariant.4)
