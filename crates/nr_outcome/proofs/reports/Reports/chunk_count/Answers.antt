-- The goals of `reports::Reports::chunk_count` that no tactic closes.
use Rattle.std.proofs.Common.{◌≡◌, ◌≤◌, ◌<◌, ◌^◌, ℕ, ◌+◌, refl, sym, ap, subst, ◌∙◌, arith}
use Rattle.std.specs.Prelude.{SomeIff}
use Rattle.nr_outcome.specs.Reports.{report_in}
use Rattle.nr_outcome.specs.Texts.{count_at, count_to}
use Rattle.nr_outcome.proofs.Steps.{sum_next, sum_within}
use Rattle.nr_outcome.proofs.reports.Reports.chunk_count.Goals as goal

pub returns-in_err-count : goal.returns-in_err-count
returns-in_err-count c =
    let y = c.args.self.now in
    let below = c.loop-below.below in
    let f : ℕ → ℕ = λ h. count_at y.shards (report_in y) (h + 1) in
    let so_far : c.loop-below.count + c.count_height.result ≡ count_to y.shards (report_in y) (below + 1) =
    sum_next below f c.loop-below.count c.count_height.result _ c.loop-below.invariant.count c.count_height.ensures refl in
    let within : count_to y.shards (report_in y) (below + 1) ≤ count_to y.shards (report_in y) y.heights = sum_within (below + 1) y.heights f (omega (arith, c.loop-below-test.true)) in
    let all = count_to y.shards (report_in y) y.heights in
    subst (λ o. SomeIff o (all < 2 ^ 64) all) (sym c.from_residual.ensures) (λ fits. c.in_err-count.ensures (omega (arith, so_far, within, fits)))

pub returns : goal.returns
returns c =
    let all : c.loop-below.count ≡ count_to c.args.self.now.shards (report_in c.args.self.now) c.args.self.now.heights =
    c.loop-below.invariant.count ∙ ap (count_to c.args.self.now.shards (report_in c.args.self.now)) (omega (arith, c.loop-below.invariant.within, c.loop-below-test.false)) in
    (subst (λ n. n < 2 ^ 64) all c.loop-below.invariant.small, all)
