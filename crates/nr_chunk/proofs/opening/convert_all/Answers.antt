-- The goals of `opening::convert_all` that no tactic closes.
use Rattle.std.proofs.Common.{◌≡◌, ◌+◌, drop, sym, ap, subst, ◌∙◌}
use Rattle.std.specs.Prelude.{fold}
use Rattle.nr_chunk.specs.Chunk.{Opening, convert_next}
use Rattle.nr_chunk.specs.Works.{working_of}
use Rattle.nr_chunk.proofs.Converted.{CanGo, convert_goes, next_turn}
use Rattle.nr_chunk.proofs.opening.convert_all.Goals as goal

pub convert_next-requires-clause-can : goal.convert_next-requires-clause-can
convert_next-requires-clause-can g c = c.loop-tx.invariant.can.0

pub loop-tx-preserved : goal.loop-tx-preserved
loop-tx-preserved g c =
    let at = c.loop-tx in
    let config = c.args.chain.now.config in
    let tx = c.tx-item.result in
    let o : Opening = record { working = working_of at.work; local = at.local.items } in
    let is : record { working = working_of c.convert_next.new.work; local = c.convert_next.new.local.items } ≡ convert_next config o tx = c.in_ok-convert_next.ensures.converted in
    record {
      ready = c.in_ok-convert_next.ensures.ready;
      can = subst (λ (u : Opening). CanGo config u) (sym is) (convert_goes config c.pays.ensures o tx at.invariant.can);
      converted = ap (λ (u : Opening). fold (convert_next config) u (drop (at.tx-index + 1) c.args.txs.now)) is
          ∙ sym (next_turn (convert_next config) o c.args.txs.now at.tx-index tx c.loop-tx-test.true c.tx-item.is) ∙ at.invariant.converted;
      count = c.in_ok-convert_next.ensures.count;
    }
