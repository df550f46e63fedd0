-- The goals of `extracting::texts_of` that no tactic closes.
use Rattle.std.proofs.Common.{length, ap, arith, subst, ◌∙◌}
use Rattle.nr_state.specs.Flat.{flat}
use Rattle.nr_state.specs.Worlds.{IsWorld}
use Rattle.nr_extract.proofs.Chunks.{anyway, in_order}
use Rattle.nr_extract.proofs.extracting.texts_of.Goals as goal

pub gather-requires : goal.gather-requires
gather-requires c = in_order c.in_ok-entries.entries (flat c.args.world.now.world) c.in_ok-entries.ensures.entries

pub returns-clause-shown : goal.returns-clause-shown
returns-clause-shown c = anyway c.gather.result (record {
  fits = subst IsWorld c.in_ok-entries.ensures.world (c.entry_laws.ensures.fits c.in_ok-entries.entries c.in_ok-entries.ensures.whole);
  few = omega (arith, c.in_ok-check_few.ensures, c.in_ok-served.ensures, ap length (c.inner.ensures ∙ c.in_ok-delayed.ensures));
})
