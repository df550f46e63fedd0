-- A key's bytes with another front spell the key with another nonce and another allowance.
use Rattle.std.proofs.Common.{◌≡◌, ℕ, ◌+◌, ◌^◌, ◌<◌, ◌≤◌, List, [], ◌∷◌, ◌++◌, length, drop, Option, Some, None, sym, ap, subst, ◌∙◌, append_assoc, arith}
use Rattle.std.proofs.lemmas.List.{length-append, drop_at, append-nil}
use Rattle.nr_bytes.specs.Numbers.{little}
use Rattle.nr_bytes.specs.Spelling.{list}
use Rattle.nr_bytes.specs.Writing.{counted_bytes}
use Rattle.nr_bytes.proofs.Numbers.{length-little}
use Rattle.nr_records.specs.AccessKeys.{permission_bytes, IsPermission, access_key_bytes, IsAccessKey}
use Rattle.nr_records.specs.Options.{option_bytes}
use Rattle.nr_records.specs.declared.access_key.AccessKey.{AccessKey}
use Rattle.nr_records.specs.declared.access_key.CallPermission.{CallPermission}
use Rattle.nr_records.specs.declared.access_key.Permission.{Permission}
use Rattle.nr_records.specs.declared.access_key.Permission.TheVariants.{Call, Full}
use Rattle.nr_columns.proofs.SpelledKeys.{read_again}
use Rattle.nr_columns.specs.SpelledKeys.{key_read}
use Rattle.nr_keys.specs.Changed.{with_allowance, changed, front_bytes, front_by, front_length, FitsFront}

-- ---- the front of a key's bytes, and what stands behind it

abbrev call_front : ℕ → Option ℕ → List ℕ
call_front nonce allowance = little 8 nonce ++ (0 ∷ option_bytes (little 16) allowance)

abbrev full_front : ℕ → List ℕ
full_front nonce = little 8 nonce ++ (1 ∷ [])

abbrev call_rest : CallPermission → List ℕ
call_rest calls = counted_bytes calls.receiver ++ list counted_bytes calls.methods

abbrev rest_of : Permission → List ℕ
rest_of (Call calls) = call_rest calls
rest_of Full = []

length-call : (nonce : ℕ) (allowance : Option ℕ) → length (call_front nonce allowance) ≡ front_by allowance
length-call nonce None = omega (arith, length-append (little 8 nonce) (0 ∷ 0 ∷ []), length-little 8 nonce)
length-call nonce (Some most) =
    omega (arith, length-append (little 8 nonce) (0 ∷ 1 ∷ little 16 most), length-little 8 nonce, length-little 16 most)

length-full : (nonce : ℕ) → length (full_front nonce) ≡ 9
length-full nonce = omega (arith, length-append (little 8 nonce) (1 ∷ []), length-little 8 nonce)

-- the bytes of a key for calls in these two parts
in_parts : (nonce : ℕ) (calls : CallPermission) → little 8 nonce ++ permission_bytes (Call calls) ≡ call_front nonce calls.allowance ++ call_rest calls
in_parts nonce calls = sym (append_assoc (little 8 nonce) (0 ∷ option_bytes (little 16) calls.allowance) (call_rest calls))

rest_stands : (nonce : ℕ) (permission : Permission) → drop (front_length permission) (little 8 nonce ++ permission_bytes permission) ≡ rest_of permission
rest_stands nonce (Call calls) =
    ap (drop (front_by calls.allowance)) (in_parts nonce calls)
    ∙ drop_at (call_front nonce calls.allowance) (call_rest calls) (front_by calls.allowance) (length-call nonce calls.allowance)
rest_stands nonce Full =
    ap (drop 9) (sym (append-nil (full_front nonce))) ∙ drop_at (full_front nonce) [] 9 (length-full nonce)

front_stands : (nonce : ℕ) (permission : Permission) → front_length permission ≤ length (little 8 nonce ++ permission_bytes permission)
front_stands nonce (Call calls) =
    subst (λ (b : List ℕ). front_by calls.allowance ≤ length b) (sym (in_parts nonce calls))
    (omega (arith, length-append (call_front nonce calls.allowance) (call_rest calls), length-call nonce calls.allowance))
front_stands nonce Full = omega (arith, length-full nonce)

-- ---- another front before that rest

joined : (nonce : ℕ) (allowance : Option ℕ) (permission : Permission)
    → (little 8 nonce ++ front_bytes allowance permission) ++ rest_of permission ≡ little 8 nonce ++ permission_bytes (with_allowance allowance permission)
joined nonce allowance (Call calls) = append_assoc (little 8 nonce) (0 ∷ option_bytes (little 16) allowance) (call_rest calls)
joined nonce allowance Full = append-nil (full_front nonce)

fits_again : (allowance : Option ℕ) (permission : Permission) → IsPermission permission → FitsFront allowance permission → IsPermission (with_allowance allowance permission)
fits_again allowance (Call calls) fits low = (low, fits.1)
fits_again allowance Full fits low = tt

-- ---- of bytes that spell a key which was read

as_read : (access key : AccessKey) (bytes : List ℕ) → access ≡ key → bytes ≡ access_key_bytes key → bytes ≡ access_key_bytes access
as_read access key bytes same spelled = spelled ∙ ap access_key_bytes (sym same)

pub front_within : (access key : AccessKey) (bytes : List ℕ) → access ≡ key → bytes ≡ access_key_bytes key → front_length access.permission ≤ length bytes
front_within access key bytes same spelled =
    subst (λ (b : List ℕ). front_length access.permission ≤ length b) (sym (as_read access key bytes same spelled)) (front_stands access.nonce access.permission)

pub changed_read : (access key : AccessKey) (bytes made : List ℕ) (nonce : ℕ) (allowance : Option ℕ) → access ≡ key → bytes ≡ access_key_bytes key → IsAccessKey key
    → made ≡ (little 8 nonce ++ front_bytes allowance access.permission) ++ drop (front_length access.permission) bytes
    → nonce < 256 ^ 8 → FitsFront allowance access.permission → key_read made ≡ Some (changed nonce allowance access)
changed_read access key bytes made nonce allowance same spelled fits is low few =
    let rest : drop (front_length access.permission) bytes ≡ rest_of access.permission =
    ap (drop (front_length access.permission)) (as_read access key bytes same spelled) ∙ rest_stands access.nonce access.permission in
    let own : IsAccessKey access = subst IsAccessKey (sym same) fits in
    let whole : made ≡ access_key_bytes (changed nonce allowance access) =
    is ∙ ap (λ (b : List ℕ). (little 8 nonce ++ front_bytes allowance access.permission) ++ b) rest ∙ joined nonce allowance access.permission in
    ap key_read whole ∙ read_again (changed nonce allowance access) (low, fits_again allowance access.permission own.1 few)
