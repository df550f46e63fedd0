-- What a machine is made of is as its runs need it.
use Rattle.std.proofs.Common.{◌≡◌, ℕ, zero, suc, ◌+◌, ◌≤◌, Bool, true, false, ◌&&◌, List, [], ◌∷◌, ◌++◌, length, map, replicate, nat_le, nat_eq, Option, Some, None, Ok, refl, sym, ap, ◌∙◌, subst, arith}
use Rattle.std.specs.Prelude.{slice_get, slice_set, is_some, option_and_then, if◌then◌else◌}
use Rattle.std.specs.List.{list_all}
use Rattle.std.proofs.lemmas.Bool.{leb-true, and_parts}
use Rattle.nr_config.specs.Config.{Config, regular_op_cost, max_pages, least, greatest, IsValidConfig}
use Rattle.nr_config.specs.Table.{table}
use Rattle.nr_wasmtypes.specs.declared.module.Global.{Global}
use Rattle.nr_wasmtypes.specs.declared.module.Limits.{Limits as Sizes}
use Rattle.nr_wasmtypes.specs.declared.module.Element.{Element}
use Rattle.nr_wasmtypes.specs.declared.module.Module.{Module}
use Rattle.nr_wasmvalid.specs.Parts.{Demand, exists, outcome, each, at_most, up_to, memory_asks, offset_asks, element_asks, func_indices}
use Rattle.nr_wasmvalid.specs.Modules.{IsValid}
use Rattle.nr_wasmvalid.proofs.OnParts.{outcome-append}
use Rattle.nr_wasmmem.specs.declared.guest.Guest.{Guest}
use Rattle.nr_wasmexec.specs.Making.{constant_of, globals_of, entries_of, placed, put_funcs, element_into, segment_into, all_into, most_of, memory_of, FitsFirst, guest_with, guest_answer, first_guest, program_of, MachineView, IsMachine}
use Rattle.nr_wasmexec.specs.Executing.{SameShape}
use Rattle.nr_wasmexec.specs.Standing.{IsGuest}
use Rattle.nr_wasmexec.proofs.Branches.{some_is}
use Rattle.nr_wasmexec.proofs.Linked.{both_ok, holds_first, memories_met, elements_met}

-- ---- the configuration
pub cost_bound : (c : Config) → IsValidConfig c → 1 ≤ regular_op_cost c
unfolding least table
cost_bound c v = (v.within 4 (omega arith) (omega arith)).0

pub pages_bound : (c : Config) → IsValidConfig c → max_pages c ≤ 2048
unfolding greatest table
pages_bound c v = (v.within 14 (omega arith) (omega arith)).1

-- ---- the memory
sizes_hold : (a b d : Bool) → (true && a && b && d) ≡ true → (a ≡ true) × (b ≡ true)
sizes_hold true true d e = (refl, refl)
sizes_hold true false d e = absurd cc
sizes_hold false true d e = absurd cc
sizes_hold false false d e = absurd cc

least_fits : (low : ℕ) (most : Option ℕ) (pages : ℕ) → at_most low most ≡ true → nat_le low pages ≡ true → low ≤ most_of most pages
least_fits low None pages e f = leb-true low pages f
least_fits low (Some most) pages e f =
    let a : low ≤ most = leb-true low most e in
    let b : low ≤ pages = leb-true low pages f in
    grind (arith, a, b)

first_fits : (pages : ℕ) (ms : List Sizes) → outcome (each (memory_asks pages) 0 ms) ≡ Ok tt → FitsFirst pages ms
first_fits pages [] e = tt
first_fits pages (l ∷ ls) e =
    let holds = (holds_first (nat_eq 0 0 && at_most l.least l.most && nat_le l.least pages && up_to l.most 65536) _ _ e).0 in
    let both = sizes_hold (at_most l.least l.most) (nat_le l.least pages) (up_to l.most 65536) holds in
    least_fits l.least l.most pages both.0 both.1

pub memory_fits : (pages : ℕ) (m : Module) → IsValid pages m → FitsFirst pages m.memories
memory_fits pages m v = first_fits pages m.memories (memories_met pages m v.parts)

-- ---- the table
-- each function of the table is there
abbrev AreThere : List ℕ → List (Option ℕ) → Type 0
AreThere funcs t = (k f : ℕ) → slice_get t k ≡ Some (Some f) → (n : ℕ) × (slice_get funcs f ≡ Some n)

none_there : (funcs : List ℕ) (n : ℕ) → AreThere funcs (replicate n None)
none_there funcs zero k f e = cc
none_there funcs (suc n) zero f e = cc
none_there funcs (suc n) (suc k) f e = none_there funcs n k f e

there_is : (o : Option ℕ) → is_some o ≡ true → (n : ℕ) × (o ≡ Some n)
there_is None e = cc
there_is (Some n) e = (n, refl)

one_there : (funcs : List ℕ) (t : List (Option ℕ)) (at g : ℕ) → is_some (slice_get funcs g) ≡ true → AreThere funcs t → AreThere funcs (slice_set t at (Some g))
one_there funcs [] at g is h k f e = h k f e
one_there funcs (x ∷ t) zero g is h zero f e =
    let same : Some g ≡ Some f = some_is (Some g) (Some f) e in
    let named : g ≡ f = some_is g f same in
    there_is (slice_get funcs f) (subst (λ n. is_some (slice_get funcs n) ≡ true) named is)
one_there funcs (x ∷ t) zero g is h (suc k) f e = h (suc k) f e
one_there funcs (x ∷ t) (suc at) g is h zero f e = h zero f e
one_there funcs (x ∷ t) (suc at) g is h (suc k) f e = one_there funcs t at g is (λ k f e. h (suc k) f e) k f e

placed_there : (funcs : List ℕ) (fs : List ℕ) (t : List (Option ℕ)) (at : ℕ) → list_all (λ f. is_some (slice_get funcs f)) fs ≡ true → AreThere funcs t → AreThere funcs (placed t at fs)
placed_there funcs [] t at e h = h
placed_there funcs (g ∷ fs) t at e h =
    let parts = and_parts (is_some (slice_get funcs g)) (list_all (λ f. is_some (slice_get funcs f)) fs) e in
    placed_there funcs fs (slice_set t at (Some g)) (at + 1) parts.1 (one_there funcs t at g parts.0 h)

put_there : (funcs : List ℕ) (t u : List (Option ℕ)) (at : ℕ) (fs : List ℕ) → list_all (λ f. is_some (slice_get funcs f)) fs ≡ true → AreThere funcs t → put_funcs t at fs ≡ Some u → AreThere funcs u
put_there funcs t u at fs e h is = by_room (nat_le (at + length fs) (length t)) is
  where
    by_room : (b : Bool) → (if b then Some (placed t at fs) else None) ≡ Some u → AreThere funcs u
    by_room true is = subst (AreThere funcs) (some_is (placed t at fs) u is) (placed_there funcs fs t at e h)
    by_room false is = cc

-- what the functions of an element are asked
element_met : (m : Module) (funcs : List ℕ) (n : ℕ) (e : Element) (ds : List Demand) → outcome (element_asks m funcs n e ++ ds) ≡ Ok tt → (list_all (λ f. is_some (slice_get funcs f)) e.funcs ≡ true) × (outcome ds ≡ Ok tt)
element_met m funcs n e ds is =
    let whole = both_ok (outcome (element_asks m funcs n e)) (outcome ds) (sym (outcome-append (element_asks m funcs n e) ds) ∙ is) in
    let others = exists n (is_some (slice_get m.tables e.table)) ∷ exists n (list_all (λ f. is_some (slice_get funcs f)) e.funcs) ∷ [] in
    let front = both_ok (outcome (offset_asks m.globals n e.offset)) (outcome others) (sym (outcome-append (offset_asks m.globals n e.offset) others) ∙ whole.0) in
    let second = holds_first (is_some (slice_get m.tables e.table)) _ _ front.1 in
    ((holds_first (list_all (λ f. is_some (slice_get funcs f)) e.funcs) _ _ second.1).0, whole.1)

into_some : (o : Option (List (Option ℕ))) (go : List (Option ℕ) → Option (List (Option ℕ))) (u : List (Option ℕ)) → option_and_then go o ≡ Some u → (t : List (Option ℕ)) × (o ≡ Some t) × (go t ≡ Some u)
into_some None go u e = cc
into_some (Some t) go u e = (t, refl, e)

elements_there : (m : Module) (funcs globals : List ℕ) (n : ℕ) (es : List Element) (t u : List (Option ℕ)) → outcome (each (element_asks m funcs) n es) ≡ Ok tt → AreThere funcs t → all_into (element_into globals) t es ≡ Some u → AreThere funcs u
elements_there m funcs globals n [] t u e h is = subst (AreThere funcs) (some_is t u is) h
elements_there m funcs globals n (x ∷ es) t u e h is =
    let met = element_met m funcs n x (each (element_asks m funcs) (n + 1) es) e in
    let next = into_some (element_into globals t x) (λ z. all_into (element_into globals) z es) u is in
    elements_there m funcs globals (n + 1) es next.0 u met.1 (put_there funcs t next.0 (constant_of globals x.offset) x.funcs met.0 h next.1) next.2

-- ---- the guest
mapped : {X Y : Type 0} (f : X → Y) (xs : List X) → length (map f xs) ≡ length xs
mapped f [] = refl
mapped f (x ∷ xs) = ap suc (mapped f xs)

guest_parts : (globals : List ℕ) (most : ℕ) (t : Option (List (Option ℕ))) (b : Option (List ℕ)) (g : Guest) → guest_with globals most t b ≡ Some g → (t ≡ Some g.table) × (g.globals ≡ globals)
guest_parts globals most None b g e = cc
guest_parts globals most (Some t) None g e = cc
guest_parts globals most (Some t) (Some b) g e =
    let is : record { memory = record { bytes = b; most = most }; globals = globals; table = t } ≡ g = some_is (record { memory = record { bytes = b; most = most }; globals = globals; table = t }) g e in
    (ap (λ (x : Guest). Some x.table) is, ap (λ (x : Guest). x.globals) (sym is))

pub guest_whole : (pages : ℕ) (m : Module) (g : Guest) → IsValid pages m → first_guest pages m ≡ Some g → IsGuest (program_of m) g
guest_whole pages m g v e =
    let globals = globals_of m.globals in
    let parts = guest_parts globals (memory_of pages m.memories).most (all_into (element_into globals) (replicate (entries_of m.tables) None) m.elements) (all_into (segment_into globals) (memory_of pages m.memories).bytes m.segments) g e in
    record {
      globals = ap length parts.1 ∙ mapped (λ (x : Global). constant_of [] x.init) m.globals;
      table = elements_there m (func_indices m) globals 0 m.elements (replicate (entries_of m.tables) None) g.table (elements_met pages m v.parts) (none_there (func_indices m) (entries_of m.tables)) parts.0;
    }

pub answer_is : (o : Option Guest) (g : Guest) → guest_answer o ≡ Ok g → o ≡ Some g
answer_is None g e = cc
answer_is (Some x) g e = ap Some (let same : x ≡ g = cc in same)

-- after a run
pub machine_stays : (m : MachineView) (g : Guest) → IsMachine m → SameShape m.guest g → IsMachine (record m { guest = g })
machine_stays m g v s = record {
  cost = v.cost;
  hosts = v.hosts;
  guest = record {
    globals = s.1 ∙ v.guest.globals;
    table = λ k f at. v.guest.table k f (ap (λ (t : List (Option ℕ)). slice_get t k) (sym s.0) ∙ at);
  };
}
