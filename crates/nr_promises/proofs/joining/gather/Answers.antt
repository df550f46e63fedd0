-- The places so far are those of the promises so far.
use Rattle.std.proofs.Common.{◌≡◌, ◌+◌, ◌<◌, ℕ, List, ◌++◌, length, take, get_or, ap, refl, ◌∙◌, arith}
use Rattle.nr_promises.proofs.Gathering.{one_more, all_below, over_all}
use Rattle.nr_promises.specs.Book.{all_places}
use Rattle.nr_promises.proofs.joining.gather.Goals as goal

pub returns-then-len-gt-MOST_INPUTS : goal.returns-then-len-gt-MOST_INPUTS
returns-then-len-gt-MOST_INPUTS c =
    let k = c.loop-index.index-index in
    let lt : get_or c.args.indices.now k 0 < length c.args.promises.now = all_below (length c.args.promises.now) c.args.indices.now k c.requires c.loop-index-test.true in
    let e : c.extend_from_slice.new.self.items ≡ all_places c.args.promises.now (take (k + 1) c.args.indices.now) =
    one_more c.args.promises.now c.args.indices.now k (get_or c.args.indices.now k 0) c.index-promises-index.result c.loop-index.places.items c.extend_from_slice.new.self.items c.loop-index-test.true refl lt c.index-promises-index.is c.loop-index.invariant.so_far
    (c.in_ok-extend_from_slice.ensures.items ∙ ap (λ (xs : List ℕ). c.loop-index.places.items ++ xs) c.places.ensures) in
    λ other. over_all c.args.promises.now c.args.indices.now (k + 1) (omega (arith, ap length e, c.extend_from_slice.new.self.ok.0, c.len.ensures, c.if-len-gt-MOST_INPUTS.true))

pub loop-index-preserved : goal.loop-index-preserved
loop-index-preserved c =
    let k = c.loop-index.index-index in
    let lt : get_or c.args.indices.now k 0 < length c.args.promises.now = all_below (length c.args.promises.now) c.args.indices.now k c.requires c.loop-index-test.true in
    let e : c.extend_from_slice.new.self.items ≡ all_places c.args.promises.now (take (k + 1) c.args.indices.now) =
    one_more c.args.promises.now c.args.indices.now k (get_or c.args.indices.now k 0) c.index-promises-index.result c.loop-index.places.items c.extend_from_slice.new.self.items c.loop-index-test.true refl lt c.index-promises-index.is c.loop-index.invariant.so_far
    (c.in_ok-extend_from_slice.ensures.items ∙ ap (λ (xs : List ℕ). c.loop-index.places.items ++ xs) c.places.ensures) in
    record { so_far = e; few = omega (arith, ap length e, c.extend_from_slice.new.self.ok.0, c.len.ensures, c.if-len-gt-MOST_INPUTS.false) }
