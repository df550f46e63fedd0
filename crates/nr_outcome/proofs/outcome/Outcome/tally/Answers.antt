-- The goals of `outcome::Outcome::tally` that no tactic closes.
use Rattle.std.proofs.Common.{◌^◌, ◌≤◌, ◌≡◌, sym, ap, subst, ◌∙◌}
use Rattle.std.specs.List.{AllByRecursion}
use Rattle.nr_chunk.specs.Chain.{AreBounded, IsCountable, rules_of}
use Rattle.nr_chunk.specs.Runs.{chain_in}
use Rattle.nr_chunk.specs.Tallies.{tally_list, tally_world}
use Rattle.nr_places.specs.Totals.{plus}
use Rattle.nr_state.specs.Tokens.{list_tokens}
use Rattle.nr_outcome.specs.Sums.{sum_of, table_tally}
use Rattle.nr_outcome.proofs.Cells.{shown_by}
use Rattle.nr_outcome.proofs.Counted.{bounded_lists, countable_worlds, small_lists, tally_is}
use Rattle.nr_outcome.proofs.outcome.Outcome.tally.Goals as goal

pub sum_worlds-requires : goal.sum_worlds-requires
sum_worlds-requires g c =
    let v = c.args.self.now in
    subst (AllByRecursion (IsCountable v.chain.config)) (sym (c.inner.ensures ∙ v.last)) (countable_worlds (chain_in v.chain) c.shards.ensures.run)

pub sum_lists-requires-clause-bounded : goal.sum_lists-requires-clause-bounded
sum_lists-requires-clause-bounded g c =
    let v = c.args.self.now in
    subst (AllByRecursion (λ l. AreBounded v.chain.config l.3)) (sym (c.inner-2.ensures ∙ v.rest)) (bounded_lists (chain_in v.chain) c.shards.ensures.run)

pub sum_lists-requires-clause-small : goal.sum_lists-requires-clause-small
sum_lists-requires-clause-small g c =
    let v = c.args.self.now in
    subst (AllByRecursion (λ l. list_tokens v.chain.config l.3 ≤ 2 ^ 127)) (sym (c.inner-2.ensures ∙ v.rest)) (small_lists (chain_in v.chain) c.shards.ensures.run)

pub returns : goal.returns
returns g c =
    let v = c.args.self.now in
    let x = chain_in v.chain in
    tally_is x c.in_ok-held.held c.in_ok-told.told c.in_ok-flying.flying c.in_ok-tally.tally
    (c.in_ok-held.ensures ∙ ap (sum_of (λ w. tally_world v.chain.config w)) (c.inner.ensures ∙ v.last))
    (shown_by (rules_of x) v.reports v.told (λ shards report heights. c.in_ok-told.told ≡ table_tally shards heights report) c.in_ok-told.ensures)
    (c.in_ok-flying.ensures ∙ ap (sum_of (λ l. tally_list v.chain.config l.3)) (c.inner-2.ensures ∙ v.rest))
    (c.in_ok-tally.ensures.1 ∙ ap (λ t. plus t c.in_ok-flying.flying) c.in_ok-both.ensures.1)
