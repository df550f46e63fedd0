-- Runs of a valid module, and of the machine that is made of one.
use Rattle.std.proofs.Common.{◌≡◌, ℕ, List, Option, Some, None, Ok, refl, subst}
use Rattle.std.specs.Prelude.{IsTrue}
use Rattle.nr_bytes.specs.Numbers.{IsBytes}
use Rattle.nr_config.specs.Config.{Config, IsValidConfig, max_pages}
use Rattle.nr_machine_laws.proofs.Constants.{spelled}
use Rattle.nr_machine_laws.proofs.First.{first_typed}
use Rattle.nr_machine_laws.proofs.Preserved.{typed}
use Rattle.nr_machine_laws.specs.Steps.{Reaches}
use Rattle.nr_machine_laws.specs.Typed.{AreConstants, IsTypedConfig, IsTypedGuest}
use Rattle.nr_wasmbin.specs.Grammar.{IsModule}
use Rattle.nr_wasmexec.proofs.Linked.{program_sound}
use Rattle.nr_wasmexec.proofs.Made.{pages_bound}
use Rattle.nr_wasmexec.specs.Functions.{func_at, links}
use Rattle.nr_wasmexec.specs.Machine.{rules_of, runtime}
use Rattle.nr_wasmexec.specs.Making.{MachineView, first_guest, is_method, limits_of, machine_of, machine_with}
use Rattle.nr_wasmexec.specs.Making.{program_of}
use Rattle.nr_wasmexec.specs.Reduction.{Config as State}
use Rattle.nr_wasmexec.specs.declared.program.Limits.{Limits}
use Rattle.nr_wasmexec.specs.declared.program.Program.{Program}
use Rattle.nr_wasmmem.specs.Meaning.{HostMeaning, IsHost}
use Rattle.nr_wasmmem.specs.declared.guest.Guest.{Guest}
use Rattle.nr_wasmtypes.specs.declared.module.Module.{Module}
use Rattle.nr_wasmvalid.specs.Modules.{IsValid}

abbrev made_of : Config → Module → Guest → MachineView
made_of config m g = record { program = program_of m; limits = limits_of config; guest = g }

machine_is : (config : Config) (m : Module) (o : Option Guest) (x : MachineView) → machine_with config m o ≡ Ok x
    → (g : Guest) × (o ≡ Some g) × (made_of config m g ≡ x)
machine_is config m None x e = absurd cc
machine_is config m (Some g) x e = (g, refl, let same : made_of config m g ≡ x = cc in same)

pub first : (config : Config) (m : Module) (g : Guest) → IsValidConfig config → IsValid (max_pages config) m
    → AreConstants m
    → first_guest (max_pages config) m ≡ Some g → IsTypedGuest m g
first config m g bounds valid constants e =
    first_typed (max_pages config) m g (pages_bound config bounds) valid constants e

module _ {S : Type 0} (host : HostMeaning S) (law : IsHost host) where
  pub kept : (p : Program) (l : Limits) (pages : ℕ) → IsValid pages p.code → p.hosts ≡ links p.code.imports
      → AreConstants p.code → (s : S) (g : Guest) (f n : ℕ) (c : State S) → IsTypedGuest p.code g
      → IsTrue (is_method (func_at p f)) → Reaches (rules_of host p l) (runtime s g) f n c → IsTypedConfig p c
  kept p l pages valid linked constants s g f n c guest method r =
      typed (rules_of host p l) law (program_sound pages p valid linked) constants (runtime s g) guest f method n c r

  pub whole : (config : Config) (text : List ℕ) (m : Module) (x : MachineView) → IsValidConfig config → IsBytes text
      → IsModule text m → IsValid (max_pages config) m → machine_of config m ≡ Ok x → (s : S) (f n : ℕ) (c : State S)
      → IsTrue (is_method (func_at x.program f)) → Reaches (rules_of host x.program x.limits) (runtime s x.guest) f n c
      → IsTypedConfig x.program c
  whole config text m x bounds bytes spelling valid made s f n c =
      let is = machine_is config m (first_guest (max_pages config) m) x made in
      let constants : AreConstants m = spelled text m bytes spelling in
      subst (λ (y : MachineView). IsTrue (is_method (func_at y.program f))
      → Reaches (rules_of host y.program y.limits) (runtime s y.guest) f n c → IsTypedConfig y.program c) is.2
      (λ method r. kept (program_of m) (limits_of config) (max_pages config) valid refl constants s is.0 f n c
      (first config m is.0 bounds valid constants is.1) method r)
