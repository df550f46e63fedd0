-- The one member of an object.
use Rattle.std.proofs.Common.{◌≡◌, List, [], ◌∷◌, length, Option, Some, None, String, Global, string_bytes, refl, ap, sym, arith}
use Rattle.std.specs.Prelude.{slice_get}
use Rattle.serde_json.specs.View.{view, members_view}
use Rattle.serde_json.specs.declared.value.Value.{Value}
use Rattle.nr_json.specs.Variants.{Named, only_member}

abbrev pub Entry : Type 0
Entry = String Global × Value

-- there is none, or several
pub not_one : (es : List Entry) → (length es ≡ 1 → ⊥) → None ≡ only_member (members_view es)
not_one [] other = refl
not_one (e ∷ []) other = absurd (other refl)
not_one (e ∷ f ∷ es) other = refl

abbrev shown : Option Entry → Option Named
shown None = None
shown (Some p) = Some (string_bytes p.0, Some (view p.1))

pub the_one : (es : List Entry) (e : Entry) → length es ≡ 1 → slice_get es 0 ≡ Some e → Some (string_bytes e.0, Some (view e.1)) ≡ only_member (members_view es)
the_one [] e one first = absurd (omega (arith, one))
the_one (d ∷ []) e one first = sym (ap shown first)
the_one (d ∷ f ∷ es) e one first = absurd (omega (arith, one))
