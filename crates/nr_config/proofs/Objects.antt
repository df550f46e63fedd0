-- Which bytes spell an object.
use Rattle.std.proofs.Common.{◌≡◌, ℕ, List, true, false, Some, None, Ok, Err, is_some, refl, IsUtf8}
use Rattle.std.specs.Str.{is_utf8}
use Rattle.std.proofs.lemmas.Str.{is_utf8-from_IsUtf8, IsUtf8-from_is_utf8}
use Rattle.serde_json.specs.Data.{Data}
use Rattle.serde_json.specs.Find.{as_object}
use Rattle.serde_json.specs.Read.{read}
use Rattle.nr_config.specs.Reading.{object_in}
use Rattle.nr_config.specs.declared.fault.ConfigFault.TheVariants.{NotJson}

pub object_found : (bytes : List ℕ) (d : Data) → IsUtf8 bytes → read bytes ≡ Some d → is_some (as_object d) ≡ true → object_in bytes ≡ Ok d
object_found bytes d u e o = rw (is_utf8-from_IsUtf8 bytes u, e, o) refl

pub no_text : (bytes : List ℕ) → (IsUtf8 bytes → read bytes ≡ None) → object_in bytes ≡ Err NotJson
no_text bytes h =
    elim (is_utf8 bytes) as (λ b. is_utf8 bytes ≡ b → object_in bytes ≡ Err NotJson) [
      | true ↦ λ e. rw (e, h (IsUtf8-from_is_utf8 bytes e)) refl
      | false ↦ λ e. rw e refl
    ] refl
