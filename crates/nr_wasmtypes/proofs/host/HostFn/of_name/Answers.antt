-- The goals of `host::HostFn::of_name` that no tactic closes.
use Rattle.std.proofs.Common.{◌≡◌, ℕ, ◌+◌, ◌<◌, ◌≤◌, Bool, true, List, cond, length, drop, get_or, Some, None, sym, ap, ◌∙◌, arith}
use Rattle.std.proofs.lemmas.List.{drop_more, drop_all}
use Rattle.std.specs.List.{find}
use Rattle.std.specs.Str.{bytes_eq}
use Rattle.nr_wasmtypes.specs.declared.host.HostFn.{HostFn}
use Rattle.nr_wasmtypes.specs.declared.host.HostFn.TheVariants.{ReadRegister}
use Rattle.nr_wasmtypes.specs.Host.{host_name, host_named}
use Rattle.nr_wasmtypes.proofs.host.HostFn.of_name.Goals as goal

hit : (test : HostFn → Bool) (fs : List HostFn) (i : ℕ) (d : HostFn) → i < length fs → test (get_or fs i d) ≡ true → find test (drop i fs) ≡ find test fs → Some (get_or fs i d) ≡ find test fs
hit test fs i d h e so_far =
    sym (sym so_far ∙ ap (find test) (drop_more fs i d h) ∙ ap (λ b. cond b (Some (get_or fs i d)) (find test (drop (i + 1) fs))) e)

missed : (test : HostFn → Bool) (fs : List HostFn) (i : ℕ) → length fs ≤ i → find test (drop i fs) ≡ find test fs → None ≡ find test fs
missed test fs i h so_far = sym (sym so_far ∙ ap (find test) (drop_all i fs h))

pub returns-then-eq-clause-named : goal.returns-then-eq-clause-named
unfolding host_named
returns-then-eq-clause-named c =
    let test = λ (f : HostFn). bytes_eq (host_name f) c.args.name.now in
    let fs = c.host_functions-f-items.result.now in
    let all : length fs ≡ 41 = ap length c.host_functions-f-items.ensures in
    let holds : test (get_or fs c.loop-f.f-index ReadRegister) ≡ true =
    ap (λ bs. bytes_eq bs c.args.name.now) (sym c.name.ensures) ∙ ap (λ bs. bytes_eq bs c.args.name.now) (sym c.as_bytes.ensures.value)
    ∙ sym c.eq.ensures ∙ c.if-eq.true in
    hit test fs c.loop-f.f-index ReadRegister (omega arith) holds c.loop-f.invariant ∙ ap (find test) c.host_functions-f-items.ensures

pub returns-clause-named : goal.returns-clause-named
unfolding host_named
returns-clause-named c =
    let test = λ (f : HostFn). bytes_eq (host_name f) c.args.name.now in
    let fs = c.host_functions-f-items.result.now in
    let all : length fs ≡ 41 = ap length c.host_functions-f-items.ensures in
    missed test fs c.loop-f.f-index (omega arith) c.loop-f.invariant ∙ ap (find test) c.host_functions-f-items.ensures
