-- The goals of `rechecking::prepare` that no tactic closes.
use Rattle.std.proofs.Common.{◌≡◌, true, List, sym, ap, subst, ◌∙◌}
use Rattle.std.specs.List.{AllByRecursion}
use Rattle.nr_entries.specs.Told.{AreBytes}
use Rattle.nr_receipt.specs.Keeping.{HasSmallCalls}
use Rattle.nr_records.specs.declared.receipt.Receipt.{Receipt}
use Rattle.nr_state.specs.FromEntries.{world_from}
use Rattle.nr_recheck.specs.Bounds.{are_within}
use Rattle.nr_recheck.specs.Rechecking.{is_placed}
use Rattle.nr_recheck.specs.declared.fault.RecheckFault.TheVariants.{Bounds, Place}
use Rattle.nr_recheck.proofs.Prepared.{was_asked}
use Rattle.nr_recheck.proofs.Shown.{can_run, of_checked}
use Rattle.nr_recheck.proofs.rechecking.prepare.Goals as goal

pub check_bounds-requires-clause-whole : goal.check_bounds-requires-clause-whole
check_bounds-requires-clause-whole c =
    let es = c.in_ok-found.found.1 in
    (of_checked c.args.config.now es tt (subst AreBytes c.inner-3.ensures c.bytes_law.ensures) c.in_ok-check_world.ensures (c.world_laws.ensures.sound c.args.config.now es)).whole

pub check_bounds-requires-clause-valid : goal.check_bounds-requires-clause-valid
check_bounds-requires-clause-valid c =
    let es = c.in_ok-found.found.1 in
    (of_checked c.args.config.now es tt (subst AreBytes c.inner-3.ensures c.bytes_law.ensures) c.in_ok-check_world.ensures (c.world_laws.ensures.sound c.args.config.now es)).valid

pub returns-clause-can : goal.returns-clause-can
returns-clause-can c =
    let es = c.in_ok-found.found.1 in
    let of = of_checked c.args.config.now es tt (subst AreBytes c.inner-3.ensures c.bytes_law.ensures) c.in_ok-check_world.ensures (c.world_laws.ensures.sound c.args.config.now es) in
    let placed = was_asked (is_placed c.args.gathered.now) Place tt (sym c.in_ok-check_place.ensures) in
    let within : are_within c.args.config.now c.args.gathered.now.taken (world_from es) ≡ true =
    sym (ap (λ (rs : List Receipt). are_within c.args.config.now rs (world_from es)) c.inner-4.ensures)
    ∙ was_asked (are_within c.args.config.now c.inner-4.result.now (world_from es)) Bounds tt c.in_ok-check_bounds.ensures in
    can_run c.args.config.now c.args.gathered.now es placed of within
    (subst (AllByRecursion (λ (r : Receipt). HasSmallCalls r.body)) c.inner.ensures c.know_receipts.ensures)
