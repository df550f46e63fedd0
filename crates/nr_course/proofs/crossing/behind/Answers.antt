-- The goals of `crossing::behind` that no tactic closes.
use Rattle.std.proofs.Common.{sym, ap, subst, ◌∙◌}
use Rattle.nr_chunk.specs.Chain.{Chain}
use Rattle.nr_chunk.specs.Runs.{chain_in}
use Rattle.nr_chunk.specs.Starts.{IsSoundStart}
use Rattle.nr_chunk.specs.declared.start.FirstState.TheVariants as first
use Rattle.nr_course.proofs.Ends.{fits_behind, follows, is_second}
use Rattle.nr_course.proofs.crossing.behind.Goals as goal

pub resume-requires-clause-sound : goal.resume-requires-clause-sound
resume-requires-clause-sound g c =
    let x : Chain = chain_in c.args.chain in
    subst (λ config. IsSoundStart config (first.Resumed c.in_ok-start.start)) (sym c.into_parts.ensures.config)
    (follows x c.args.turn c.shards.ensures.run c.requires.can c.inner.result.now c.args.left c.heights-below.result
    c.in_ok-start.start (c.inner.ensures ∙ c.requires.worlds) c.requires.left c.heights-below.ensures
    (c.in_ok-start.ensures x)).0

pub resume-requires-clause-fits : goal.resume-requires-clause-fits
resume-requires-clause-fits g c =
    let x : Chain = chain_in c.args.chain in
    fits_behind x c.args.turn c.shards.ensures.run c.requires.can c.in_ok-start.start
    (follows x c.args.turn c.shards.ensures.run c.requires.can c.inner.result.now c.args.left c.heights-below.result
    c.in_ok-start.start (c.inner.ensures ∙ c.requires.worlds) c.requires.left c.heights-below.ensures
    (c.in_ok-start.ensures x))

pub returns : goal.returns
returns g c =
    let x : Chain = chain_in c.args.chain in
    is_second x c.args.turn c.shards.ensures.run c.requires.can c.resume.result.config c.resume.result.grounds.start
    c.resume.result.blocks _ (c.resume.ensures.config ∙ c.into_parts.ensures.config)
    (c.resume.ensures.start
    ∙ (follows x c.args.turn c.shards.ensures.run c.requires.can c.inner.result.now c.args.left c.heights-below.result
    c.in_ok-start.start (c.inner.ensures ∙ c.requires.worlds) c.requires.left c.heights-below.ensures
    (c.in_ok-start.ensures x)).1) c.resume.ensures.blocks
    (ap g.C.Caller.meaning (c.resume.ensures.caller ∙ c.into_parts.ensures.caller))
