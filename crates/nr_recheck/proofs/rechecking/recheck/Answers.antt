-- The goals of `rechecking::recheck` that no tactic closes.
use Rattle.std.proofs.Common.{ℕ, List, ap, subst, ◌∙◌}
use Rattle.std.specs.FinMap.{entries}
use Rattle.std.specs.List.{AllByRecursion}
use Rattle.nr_bytes.specs.Numbers.{IsBytes}
use Rattle.nr_chunk.specs.Views.{Kept}
use Rattle.nr_columns.specs.Entries.{pairs_of}
use Rattle.nr_columns.specs.declared.entry.Entry.{Entry}
use Rattle.nr_overlap.specs.Rules.{Sealing}
use Rattle.nr_records.specs.declared.chunk_result.ChunkResult.{ChunkResult}
use Rattle.nr_records.specs.declared.receipt.Receipt.{Receipt}
use Rattle.nr_state.specs.Flat.{flat}
use Rattle.nr_recheck.proofs.Shown.{ends_well, gives_report}
use Rattle.nr_recheck.proofs.Starts.{done_is, inside_is, there_too}
use Rattle.nr_recheck.proofs.rechecking.recheck.Goals as goal

pub run_first-requires-clause-inside : goal.run_first-requires-clause-inside
run_first-requires-clause-inside g c = inside_is c.args.config c.args.gathered c.in_ok-partial.entries c.in_ok-partial.ensures.can (g.C.Caller.meaning c.args.caller) _ c.in_ok-chain.ensures

pub run_first-requires-clause-there : goal.run_first-requires-clause-there
run_first-requires-clause-there g c = there_too c.args.config c.args.gathered c.in_ok-partial.entries c.in_ok-partial.ensures.can (g.C.Caller.meaning c.args.caller) _ c.in_ok-chain.ensures

pub returns-clause-gives : goal.returns-clause-gives
returns-clause-gives g c =
    let call = g.C.Caller.meaning c.args.caller in
    let done = done_is c.args.config c.args.gathered c.in_ok-partial.entries c.in_ok-partial.ensures.can call _ c.in_ok-chain.ensures in
    let world = c.in_ok-world.ensures.world ∙ ap (λ (s : Sealing Kept (List Receipt) ChunkResult). s.world) done in
    gives_report c.args.config call c.args.gathered (c.in_ok-partial.partial, c.in_ok-partial.entries) c.in_ok-partial.ensures.gives c.in_ok-after.after c.in_ok-after.ensures.whole
    (c.in_ok-after.ensures.world ∙ ap (λ (k : Kept). k.world) world)
    (c.in_ok-after.ensures.entries ∙ ap (λ (k : Kept). entries (flat k.world)) world)
    c.in_ok-world.report c.in_ok-root.root
    (c.in_ok-world.ensures.report ∙ ap (λ (s : Sealing Kept (List Receipt) ChunkResult). s.report) done)
    c.in_ok-root.ensures.exact

pub returns-clause-ends : goal.returns-clause-ends
returns-clause-ends g c =
    let call = g.C.Caller.meaning c.args.caller in
    let done = done_is c.args.config c.args.gathered c.in_ok-partial.entries c.in_ok-partial.ensures.can call _ c.in_ok-chain.ensures in
    let world = c.in_ok-world.ensures.world ∙ ap (λ (s : Sealing Kept (List Receipt) ChunkResult). s.world) done in
    ends_well c.args.config call c.args.gathered (c.in_ok-partial.partial, c.in_ok-partial.entries) c.in_ok-partial.ensures.gives c.in_ok-after.after c.in_ok-after.ensures.whole
    (c.in_ok-after.ensures.world ∙ ap (λ (k : Kept). k.world) world)
    (c.in_ok-after.ensures.entries ∙ ap (λ (k : Kept). entries (flat k.world)) world)
    (subst (λ (es : List Entry). AllByRecursion (λ (e : List ℕ × List ℕ). IsBytes e.0) (pairs_of es)) c.inner.ensures c.know_keys.ensures)
