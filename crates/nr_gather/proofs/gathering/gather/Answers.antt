-- The goals of `gathering::gather` that no tactic closes.
use Rattle.std.proofs.Common.{ℕ, ap, ◌∙◌, List, subst}
use Rattle.nr_triedef.specs.Root.{paths}
use Rattle.nr_store.specs.Tries.{CanWalk}
use Rattle.nr_columns.specs.declared.entry.Entry.{Entry}
use Rattle.nr_columns.specs.Entries.{pairs_of}
use Rattle.nr_gather.specs.Gathered.{gathered, root_in}
use Rattle.nr_gather.proofs.Looked.{gathered_walk}
use Rattle.nr_gather.proofs.Results.{root_gathered}
use Rattle.nr_gather.proofs.gathering.gather.Goals as goal

pub returns-clause-walks : goal.returns-clause-walks
returns-clause-walks c =
    λ m e is. gathered_walk c.args.searched.now m (pairs_of c.args.entries.now) c.in_ok-texts.texts e (c.in_ok-texts.ensures.texts ∙ ap (λ (es : List Entry). gathered c.args.searched.now (paths (pairs_of es))) c.inner.ensures) is

pub returns-clause-root : goal.returns-clause-root
returns-clause-root c =
    let es : List (List ℕ × List ℕ) = pairs_of c.args.entries.now in
    let gives = c.in_ok-texts.ensures.texts ∙ ap (λ (es : List Entry). gathered c.args.searched.now (paths (pairs_of es))) c.inner.ensures in
    let walk : CanWalk (paths es) = subst (λ (es : List Entry). CanWalk (paths (pairs_of es))) c.inner.ensures c.in_ok-texts.ensures.order in
    ap root_in gives ∙ root_gathered c.args.searched.now es walk
