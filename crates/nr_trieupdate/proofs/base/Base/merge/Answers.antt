-- The goals of `base::Base::merge` that no tactic closes.
use Rattle.std.proofs.Common.{◌≤◌, ap, ◌∙◌, arith}
use Rattle.nr_trienodes.specs.Roots.{cost}
use Rattle.nr_trienodes.specs.Merging.{merged}
use Rattle.nr_trieupdate.proofs.Standing.{on_err, level_merged}
use Rattle.nr_trieupdate.proofs.base.Base.merge.Goals as goal

pub returns-in_err-draft-clause-less : goal.returns-in_err-draft-clause-less
returns-in_err-draft-clause-less c =
    let less : cost c.draft_of.new.nodes c.draft_of.new.top.root ≤ c.args.self.now.unhashed = omega (arith, c.in_err-draft.ensures.moved.debt, ap (λ v. v.unhashed) c.self.view_is) in
    on_err c.from_residual.result less

pub returns-clause-ok : goal.returns-clause-ok
returns-clause-ok c = c.in_ok-draft.ensures.merged.map ∙ ap (λ v. merged c.args.changes.now v.contents) c.self.view_is

pub returns-clause-unhashed : goal.returns-clause-unhashed
returns-clause-unhashed c = omega (arith, c.in_ok-draft.ensures.merged.cost, ap (λ v. v.unhashed) c.self.view_is)

pub invariant_of-self-2 : goal.invariant_of-self-2
invariant_of-self-2 c =
    let held = c.in_ok-draft.ensures.merged.map ∙ ap (λ v. merged c.args.changes.now v.contents) c.self.view_is in
    record {
      level = level_merged c.draft_of.new.nodes c.in_ok-draft.draft (merged c.args.changes.now c.args.self.now.contents) c.in_ok-draft.ensures.merged.root held c.in_ok-draft.ensures.counted c.requires.sized;
      bounded = c.in_ok-draft.ensures.bounded;
    }
