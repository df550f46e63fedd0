-- The guest of a machine before its first run is of its types.
use Rattle.std.proofs.Common.{◌≡◌, ℕ, zero, suc, ◌+◌, ◌*◌, ◌%◌, ◌≤◌, true, List, [], ◌∷◌, ◌++◌, length}
use Rattle.std.proofs.Common.{replicate}
use Rattle.std.proofs.Common.{Option, Some, None, Ok, refl, sym, ap, ◌∙◌, subst, arith}
use Rattle.std.specs.Prelude.{map, option_and_then, slice_get}
use Rattle.nr_machine_laws.proofs.Effects.{put_size}
use Rattle.nr_machine_laws.specs.Typed.{AreOf, AreConstants, IsFirst, IsTypedGuest, kind_of}
use Rattle.nr_wasmexec.proofs.Branches.{some_is}
use Rattle.nr_wasmexec.proofs.Linked.{both_ok, holds_first}
use Rattle.nr_wasmexec.proofs.Made.{memory_fits}
use Rattle.nr_wasmexec.specs.Making.{FitsFirst, all_into, constant_of, element_into, entries_of, first_guest}
use Rattle.nr_wasmexec.specs.Making.{globals_of, guest_with}
use Rattle.nr_wasmexec.specs.Making.{memory_of, most_of, segment_into}
use Rattle.nr_wasmmem.specs.Bytes.{IsMemory, MemoryView, page}
use Rattle.nr_wasmmem.specs.declared.guest.Guest.{Guest}
use Rattle.nr_wasmnum.specs.Integers.{IsOf}
use Rattle.nr_wasmtypes.specs.declared.instr.ValType.{ValType}
use Rattle.nr_wasmtypes.specs.declared.instr.ValType.TheVariants.{I32, I64}
use Rattle.nr_wasmtypes.specs.declared.module.ConstExpr.{ConstExpr}
use Rattle.nr_wasmtypes.specs.declared.module.ConstExpr.TheVariants as constant
use Rattle.nr_wasmtypes.specs.declared.module.Global.{Global}
use Rattle.nr_wasmtypes.specs.declared.module.Limits.{Limits as Sizes}
use Rattle.nr_wasmtypes.specs.declared.module.Module.{Module}
use Rattle.nr_wasmtypes.specs.declared.module.Segment.{Segment}
use Rattle.nr_wasmvalid.specs.Modules.{IsValid}
use Rattle.nr_wasmvalid.specs.Parts.{Demand, each, func_asks}
use Rattle.nr_wasmvalid.specs.Parts.{global_asks, import_asks}
use Rattle.nr_wasmvalid.specs.Parts.{init_asks, memory_asks, outcome, parts_outcome}
use Rattle.nr_wasmvalid.specs.Parts.{table_asks}
use Rattle.nr_wasmvalid.specs.Rules.{same_type}

-- ---- globals
globals_met : (pages : ℕ) (m : Module) → parts_outcome pages m ≡ Ok tt → outcome (each global_asks 0 m.globals) ≡ Ok tt
unfolding parts_outcome
globals_met pages m e =
    let a = both_ok (outcome (each (import_asks m.types) 0 m.imports)) _ e in
    let b = both_ok (outcome (each (func_asks m.types) 0 m.funcs)) _ a.1 in
    let d = both_ok (outcome (each table_asks 0 m.tables)) _ b.1 in
    let f = both_ok (outcome (each (memory_asks pages) 0 m.memories)) _ d.1 in
    (both_ok (outcome (each global_asks 0 m.globals)) _ f.1).0

is_i32 : (t : ValType) → same_type t I32 ≡ true → I32 ≡ t
is_i32 I32 e = refl
is_i32 I64 e = absurd cc

is_i64 : (t : ValType) → same_type t I64 ≡ true → I64 ≡ t
is_i64 I32 e = absurd cc
is_i64 I64 e = refl

-- a first value, and the demands behind it
first_value : (n : ℕ) (t : ValType) (x : ConstExpr) (ds : List Demand) → IsFirst x
    → outcome (init_asks n t x ++ ds) ≡ Ok tt → IsOf t (constant_of [] x) × (outcome ds ≡ Ok tt)
first_value n t (constant.I32 v) ds is e =
    let met = holds_first (same_type t I32) (outcome ds) _ e in
    (subst (λ u. IsOf u v) (is_i32 t met.0) is, met.1)
first_value n t (constant.I64 v) ds is e =
    let met = holds_first (same_type t I64) (outcome ds) _ e in
    (subst (λ u. IsOf u v) (is_i64 t met.0) is, met.1)
first_value n t (constant.Get g) ds is e = absurd cc

values_typed : (n : ℕ) (gs : List Global) → ((k : ℕ) (g : Global) → slice_get gs k ≡ Some g → IsFirst g.init)
    → outcome (each global_asks n gs) ≡ Ok tt → AreOf (map kind_of gs) (globals_of gs)
values_typed n [] are e = tt
values_typed n (g ∷ gs) are e =
    let first = first_value n g.kind g.init (each global_asks (n + 1) gs) (are 0 g refl) e in
    (first.0, values_typed (n + 1) gs (λ k x at. are (suc k) x at) first.1)

-- ---- the memory
whole_pages : (n : ℕ) → (page * n) % page ≡ 0
whole_pages n = omega arith

most_small : (most : Option ℕ) (pages : ℕ) → pages ≤ 2048 → most_of most pages ≤ 2048
most_small None pages le = le
most_small (Some most) pages le = omega (arith, le)

size_of : (n : ℕ) → length (replicate {A = ℕ} n 0) ≡ n
size_of zero = refl
size_of (suc n) = ap suc (size_of n)

memory_is : (pages : ℕ) (ms : List Sizes) → pages ≤ 2048 → FitsFirst pages ms → IsMemory (memory_of pages ms)
memory_is pages [] le fits = record { whole = omega arith; within = omega arith; small = omega arith }
memory_is pages (first ∷ others) le fits =
    let most : first.least ≤ most_of first.most pages = fits in
    record {
      whole = ap (λ n. n % page) (size_of (page * first.least)) ∙ whole_pages first.least;
      within = omega (arith, size_of (page * first.least), most);
      small = most_small first.most pages le;
    }

into_some : (o : Option (List ℕ)) (go : List ℕ → Option (List ℕ)) (u : List ℕ) → option_and_then go o ≡ Some u
    → (t : List ℕ) × (o ≡ Some t) × (go t ≡ Some u)
into_some None go u e = absurd cc
into_some (Some t) go u e = (t, refl, e)

segments_size : (globals : List ℕ) (ss : List Segment) (bytes new : List ℕ)
    → all_into (segment_into globals) bytes ss ≡ Some new → length new ≡ length bytes
segments_size globals [] bytes new e = ap length (sym (some_is bytes new e))
segments_size globals (x ∷ ss) bytes new e =
    let next = into_some (segment_into globals bytes x) (λ z. all_into (segment_into globals) z ss) new e in
    segments_size globals ss next.0 new next.2 ∙ put_size bytes (constant_of globals x.offset) x.bytes next.0 next.1

-- ---- the guest
guest_parts : (globals : List ℕ) (most : ℕ) (t : Option (List (Option ℕ))) (b : Option (List ℕ)) (g : Guest)
    → guest_with globals most t b ≡ Some g → (b ≡ Some g.memory.bytes) × (g.globals ≡ globals) × (g.memory.most ≡ most)
guest_parts globals most None b g e = absurd cc
guest_parts globals most (Some t) None g e = absurd cc
guest_parts globals most (Some t) (Some b) g e =
    let made : Guest = record { memory = record { bytes = b; most = most }; globals = globals; table = t } in
    let is : made ≡ g = some_is made g e in (
      ap (λ (x : Guest). Some x.memory.bytes) is,
      ap (λ (x : Guest). x.globals) (sym is),
      ap
          (λ (x : Guest). x.memory.most) (sym is),
    )

-- the same size, and as many pages at most
like_memory : (old new : MemoryView) → IsMemory old → length new.bytes ≡ length old.bytes → new.most ≡ old.most
    → IsMemory new
like_memory old new h e f =
    record {
      whole = ap (λ n. n % page) e ∙ h.whole;
      within = omega (arith, e, f, h.within);
      small = omega (arith, f, h.small);
    }

pub first_typed : (pages : ℕ) (m : Module) (g : Guest) → pages ≤ 2048 → IsValid pages m → AreConstants m
    → first_guest pages m ≡ Some g → IsTypedGuest m g
first_typed pages m g le valid constants e =
    let globals : List ℕ = globals_of m.globals in
    let memory : MemoryView = memory_of pages m.memories in
    let parts =
    guest_parts globals memory.most (all_into (element_into globals) (replicate (entries_of m.tables) None) m.elements)
    (all_into (segment_into globals) memory.bytes m.segments) g e in
    record {
      globals =
          subst (AreOf (map kind_of m.globals)) (sym parts.1)
          (values_typed 0 m.globals constants.globals (globals_met pages m valid.parts));
      memory =
          like_memory memory g.memory (memory_is pages m.memories le (memory_fits pages m valid))
          (segments_size globals m.segments memory.bytes g.memory.bytes parts.0) parts.2;
    }
