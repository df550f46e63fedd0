-- What holds at the loops of `host::HostFn::of_name`.
use Rattle.std.proofs.Common.{◌≡◌, drop}
use Rattle.std.specs.List.{find}
use Rattle.std.specs.Str.{bytes_eq}
use Rattle.nr_wasmtypes.specs.Host.{host_name}
use Rattle.nr_wasmtypes.specs.declared.host.HostFn.{HostFn}
use Rattle.nr_wasmtypes.proofs.host.HostFn.of_name.Given as goal

abbrev pub invariant-loop-f : goal.invariant-loop-f
invariant-loop-f l =
    let test = λ (f : HostFn). bytes_eq (host_name f) l.name in
    find test (drop l.f-index l.f-items) ≡ find test l.f-items
