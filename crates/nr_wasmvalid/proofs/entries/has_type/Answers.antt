-- The goals of `entries::has_type` that no tactic closes.
use Rattle.std.proofs.Common.{◌≡◌, ◌&&◌, length, true, false, sym, ap, ◌∙◌}
use Rattle.std.specs.List.{list_all}
use Rattle.nr_wasmtypes.specs.Host.{host_type}
use Rattle.nr_wasmvalid.specs.Rules.{same_type, same_types}
use Rattle.nr_wasmvalid.proofs.OnSigs.{same_sig_is}
use Rattle.nr_wasmvalid.proofs.entries.has_type.Goals as goal

pub returns-then-are_all : goal.returns-then-are_all
returns-then-are_all c =
    let same : length c.args.sig.now.params ≡ length (host_type c.args.function).params = sym (ap length c.inner-params.ensures) ∙ c.if-params.false ∙ c.params.ensures in
    let all : list_all (λ p. same_type p c.param.result) c.args.sig.now.params ≡ true =
    ap (list_all (λ p. same_type p c.param.result)) (sym c.inner-params.ensures) ∙ sym c.are_all.ensures ∙ c.if-are_all.true in
    let whole = same_sig_is c.args.sig.now (host_type c.args.function) c.param.result c.param.ensures same in
    c.same_types.ensures ∙ ap (same_types c.args.sig.now.result) c.result.ensures
    ∙ sym (whole ∙ ap (λ b. b && same_types c.args.sig.now.result (host_type c.args.function).result) all)

pub returns-else-are_all : goal.returns-else-are_all
returns-else-are_all c =
    let same : length c.args.sig.now.params ≡ length (host_type c.args.function).params = sym (ap length c.inner-params.ensures) ∙ c.if-params.false ∙ c.params.ensures in
    let all : list_all (λ p. same_type p c.param.result) c.args.sig.now.params ≡ false =
    ap (list_all (λ p. same_type p c.param.result)) (sym c.inner-params.ensures) ∙ sym c.are_all.ensures ∙ c.if-are_all.false in
    let whole = same_sig_is c.args.sig.now (host_type c.args.function) c.param.result c.param.ensures same in
    c.if-are_all.false ∙ sym (whole ∙ ap (λ b. b && same_types c.args.sig.now.result (host_type c.args.function).result) all)
