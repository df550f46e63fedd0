-- The imported functions, one after the other.
use Rattle.std.proofs.Common.{◌≡◌, ℕ, ◌+◌, ◌<◌, List, [], ◌∷◌, ◌++◌, length, drop, get_or, Some, None, sym, ap, ◌∙◌, append_assoc}
use Rattle.std.specs.List.{cons_option}
use Rattle.std.proofs.lemmas.List.{drop_more}
use Rattle.nr_wasmtypes.specs.declared.module.Import.{Import}
use Rattle.nr_wasmvalid.specs.Parts.{imported_type, imported_types}

front : (is : List Import) (i : ℕ) (x : Import) → i < length is → x ≡ get_or is i x → imported_types (drop i is) ≡ cons_option (imported_type x.kind) (imported_types (drop (i + 1) is))
front is i x h e = ap imported_types (drop_more is i x h ∙ ap (λ (y : Import). y ∷ drop (i + 1) is) (sym e))

pub one_more : (is : List Import) (i t : ℕ) (x : Import) (ts : List ℕ) → i < length is → x ≡ get_or is i x → imported_type x.kind ≡ Some t → (ts ++ (t ∷ [])) ++ imported_types (drop (i + 1) is) ≡ ts ++ imported_types (drop i is)
one_more is i t x ts h e kind =
    append_assoc ts (t ∷ []) (imported_types (drop (i + 1) is))
    ∙ ap (λ (us : List ℕ). ts ++ us) (sym (front is i x h e ∙ ap (λ o. cons_option o (imported_types (drop (i + 1) is))) kind))

pub no_more : (is : List Import) (i : ℕ) (x : Import) → i < length is → x ≡ get_or is i x → imported_type x.kind ≡ None → imported_types (drop (i + 1) is) ≡ imported_types (drop i is)
no_more is i x h e kind = sym (front is i x h e ∙ ap (λ o. cons_option o (imported_types (drop (i + 1) is))) kind)
