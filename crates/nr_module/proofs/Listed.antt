-- What is listed as good is what validity asks of imports.
use Rattle.std.proofs.Common.{◌≡◌, ℕ, ◌&&◌, Bool, true, false, cond, [], ◌∷◌, Option, Some, None, is_some, Ok, refl}
use Rattle.std.specs.Prelude.{◌↔◌, List, codes, slice_get}
use Rattle.std.specs.Str.{bytes_eq}
use Rattle.nr_wasmtypes.specs.Host.{host_named, host_type}
use Rattle.nr_wasmtypes.specs.declared.host.HostFn.{HostFn}
use Rattle.nr_wasmtypes.specs.declared.module.FuncType.{FuncType}
use Rattle.nr_wasmtypes.specs.declared.module.Import.{Import}
use Rattle.nr_wasmtypes.specs.declared.module.ImportKind.{ImportKind}
use Rattle.nr_wasmtypes.specs.declared.module.ImportKind.TheVariants as imported
use Rattle.nr_wasmvalid.specs.Parts.{exists, has_sig, import_kind, is_offered, outcome, same_sig}
use Rattle.nr_module.specs.Listing.{by_name, offer_of}
use Rattle.nr_module.specs.declared.offer.Offer.TheVariants as offer

-- a function of `env`, or of another module
asked : (n : ℕ) (h : Option HostFn) (s : Option FuncType) (b : Bool) → cond b (by_name h s) offer.Module ≡ offer.Good
    → outcome (exists n (is_some s) ∷ is_offered n (b && has_sig h s) ∷ []) ≡ Ok tt
asked n h s false e = absurd cc
asked n None s true e = absurd cc
asked n (Some f) None true e = absurd cc
asked n (Some f) (Some sig) true e = by (same_sig sig (host_type f)) e
  where
    by : (b : Bool) → cond b offer.Good offer.Type ≡ offer.Good → outcome (exists n true ∷ is_offered n b ∷ []) ≡ Ok tt
    by true e = refl
    by false e = absurd cc

met : (n : ℕ) (h : Option HostFn) (s : Option FuncType) (b : Bool)
    → outcome (exists n (is_some s) ∷ is_offered n (b && has_sig h s) ∷ []) ≡ Ok tt
    → cond b (by_name h s) offer.Module ≡ offer.Good
met n h None b e = absurd cc
met n h (Some sig) false e = absurd cc
met n None (Some sig) true e = absurd cc
met n (Some f) (Some sig) true e = by (same_sig sig (host_type f)) e
  where
    by : (b : Bool) → outcome (exists n true ∷ is_offered n b ∷ []) ≡ Ok tt → cond b offer.Good offer.Type ≡ offer.Good
    by true e = refl
    by false e = absurd cc

pub good_kind : (types : List FuncType) (n : ℕ) (i : Import) (kind : ImportKind)
    → (offer_of types i kind ≡ offer.Good) ↔ (outcome (import_kind types n i kind) ≡ Ok tt)
good_kind types n i (imported.Func t) =
    let h : Option HostFn = host_named i.name in
    let s : Option FuncType = slice_get types t in
    let b : Bool = bytes_eq i.module (codes "env") in
    (asked n h s b, met n h s b)
good_kind types n i imported.Table = (λ e. absurd cc, λ e. absurd cc)
good_kind types n i imported.Memory = (λ e. absurd cc, λ e. absurd cc)
good_kind types n i imported.Global = (λ e. absurd cc, λ e. absurd cc)
