-- The goals of `machine::Machine::new` that no tactic closes.
use Rattle.std.proofs.Common.{◌≡◌, ◌≤◌, Some, subst, sym, ap, ◌∙◌}
use Rattle.nr_config.specs.Config.{max_pages}
use Rattle.nr_wasmtypes.specs.declared.module.Module.{Module}
use Rattle.nr_wasmexec.specs.declared.program.Limits.{Limits}
use Rattle.nr_wasmexec.specs.Functions.{links}
use Rattle.nr_wasmexec.specs.Making.{FitsFirst, first_guest}
use Rattle.nr_wasmexec.proofs.Made.{cost_bound, pages_bound, memory_fits, guest_whole, answer_is}
use Rattle.nr_wasmexec.proofs.machine.Machine.new.Goals as goal

pub first_guest-requires-clause-fits : goal.first_guest-requires-clause-fits
first_guest-requires-clause-fits c =
    subst (λ n. FitsFirst n c.module.result.now.memories) (sym c.entry-pages.ensures.value)
    (subst (λ (m : Module). FitsFirst (max_pages c.args.config.now) m.memories) (sym c.module.ensures.value) (memory_fits (max_pages c.args.config.now) c.args.valid c.requires))

pub first_guest-requires-clause-small : goal.first_guest-requires-clause-small
first_guest-requires-clause-small c = subst (λ n. n ≤ 2048) (sym c.entry-pages.ensures.value) (pages_bound c.args.config.now c.entry-pages.ensures.valid)

pub invariant_of-result : goal.invariant_of-result
invariant_of-result c =
    let g = c.in_ok-guest.guest in
    let here : first_guest c.entry-pages.result c.module.result.now ≡ Some g = answer_is (first_guest c.entry-pages.result c.module.result.now) g c.in_ok-guest.ensures in
    let is : first_guest (max_pages c.args.config.now) c.args.valid ≡ Some g =
    ap (λ n. first_guest n c.args.valid) (sym c.entry-pages.ensures.value) ∙ (ap (first_guest c.entry-pages.result) (sym c.module.ensures.value) ∙ here) in
    let whole = guest_whole (max_pages c.args.config.now) c.args.valid g c.requires is in
    record {
      cost = subst (λ (l : Limits). 1 ≤ l.cost) (sym c.limits_of.ensures) (cost_bound c.args.config.now c.entry-pages.ensures.valid);
      hosts = c.of-hosts.ensures ∙ (c.in_ok-links.ensures ∙ ap links (c.inner.ensures ∙ ap (λ (m : Module). m.imports) c.module-2.ensures.value));
      guest = record { globals = whole.globals; table = whole.table };
    }
