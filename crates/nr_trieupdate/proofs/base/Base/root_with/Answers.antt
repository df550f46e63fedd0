-- The goals of `base::Base::root_with` that no tactic closes.
use Rattle.std.proofs.Common.{ap, ◌∙◌, arith}
use Rattle.nr_triedef.specs.Root.{root_of}
use Rattle.nr_trienodes.specs.Merging.{merged}
use Rattle.nr_trieupdate.proofs.Standing.{moved_kept}
use Rattle.nr_trieupdate.proofs.base.Base.root_with.Goals as goal

pub returns-in_err-draft-clause-unhashed : goal.returns-in_err-draft-clause-unhashed
returns-in_err-draft-clause-unhashed g c = omega (arith, c.in_err-draft.ensures.moved.debt, ap (λ v. v.unhashed) c.self.view_is)

pub returns-in_err-hash-clause-contents : goal.returns-in_err-hash-clause-contents
returns-in_err-hash-clause-contents g c = (moved_kept c.self.inside.nodes c.draft_of.new.nodes c.hash.new.self c.self.inside.top.root c.draft_of.new.top.root c.in_ok-draft.ensures.moved c.in_err-hash.ensures.kept).held ∙ ap (λ v. v.contents) c.self.view_is

pub returns-in_err-hash-clause-unhashed : goal.returns-in_err-hash-clause-unhashed
returns-in_err-hash-clause-unhashed g c = omega (arith, (moved_kept c.self.inside.nodes c.draft_of.new.nodes c.hash.new.self c.self.inside.top.root c.draft_of.new.top.root c.in_ok-draft.ensures.moved c.in_err-hash.ensures.kept).debt, ap (λ v. v.unhashed) c.self.view_is)

pub returns-in_err-hash-clause-steps : goal.returns-in_err-hash-clause-steps
returns-in_err-hash-clause-steps g c = omega (arith, c.in_err-hash.ensures.steps, c.in_ok-draft.ensures.merged.cost, ap (λ v. v.unhashed) c.self.view_is)

pub returns-clause-root : goal.returns-clause-root
returns-clause-root g c = c.in_ok-hash.ensures.hash ∙ ap (λ m. (root_of m).hash) (c.in_ok-draft.ensures.merged.map ∙ ap (λ v. merged c.args.changes.now v.contents) c.self.view_is)

pub returns-clause-contents : goal.returns-clause-contents
returns-clause-contents g c = (moved_kept c.self.inside.nodes c.draft_of.new.nodes c.hash.new.self c.self.inside.top.root c.draft_of.new.top.root c.in_ok-draft.ensures.moved c.in_ok-hash.ensures.kept).held ∙ ap (λ v. v.contents) c.self.view_is

pub returns-clause-unhashed : goal.returns-clause-unhashed
returns-clause-unhashed g c = omega (arith, (moved_kept c.self.inside.nodes c.draft_of.new.nodes c.hash.new.self c.self.inside.top.root c.draft_of.new.top.root c.in_ok-draft.ensures.moved c.in_ok-hash.ensures.kept).debt, ap (λ v. v.unhashed) c.self.view_is)

pub returns-clause-steps : goal.returns-clause-steps
returns-clause-steps g c = omega (arith, c.in_ok-hash.ensures.steps, c.in_ok-draft.ensures.merged.cost, ap (λ v. v.unhashed) c.self.view_is)
