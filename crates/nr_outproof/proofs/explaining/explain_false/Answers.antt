-- The goals of `explaining::explain_false` that no tactic closes.
use Rattle.std.proofs.Common.{◌≡◌, rules}
use Rattle.nr_outproof.specs.Proofs.{stated_text, chunk_text}
use Rattle.nr_outproof.proofs.Differing.{root_is}
use Rattle.nr_outproof.proofs.explaining.explain_false.Goals as goal

pub explain_item-requires-clause-same : goal.explain_item-requires-clause-same
explain_item-requires-clause-same c =
    let e : stated_text c.args.proof.now ≡ chunk_text c.args.chunk.now c.args.kind = search rules in
    root_is _ _ _ c.in_ok-own.ensures.fits c.stated_text.ensures.fits e
