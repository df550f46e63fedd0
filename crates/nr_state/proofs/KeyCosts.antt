-- What a key costs doesn't hang on its nonce, nor on how much of an allowance is left.
use Rattle.std.proofs.Common.{◌≡◌, ℕ, suc, List, ◌∷◌, ◌++◌, length, Some, sym, ap, ◌∙◌, arith}
use Rattle.std.proofs.lemmas.List.{length-append}
use Rattle.nr_bytes.specs.Numbers.{little}
use Rattle.nr_bytes.proofs.Numbers.{length-little}
use Rattle.nr_config.specs.Config.{Config}
use Rattle.nr_ids.specs.declared.key.PublicKey.{PublicKey}
use Rattle.nr_records.specs.AccessKeys.{access_key_bytes, permission_bytes, call_permission_bytes}
use Rattle.nr_records.specs.declared.access_key.AccessKey.{AccessKey}
use Rattle.nr_records.specs.declared.access_key.CallPermission.{CallPermission}
use Rattle.nr_records.specs.declared.access_key.Permission.{Permission}
use Rattle.nr_records.specs.declared.access_key.Permission.TheVariants.{Call, Full}
use Rattle.nr_state.specs.Usage.{key_usage}

-- two numbers of as many bytes, before the same
pub same_length : (k m n : ℕ) (rest : List ℕ) → length (little k m ++ rest) ≡ length (little k n ++ rest)
same_length k m n rest = omega (arith, length-append (little k m) rest, length-append (little k n) rest, length-little k m, length-little k n)

pub nonce_free : (c : Config) (key : PublicKey) (access : AccessKey) (nonce : ℕ) → key_usage c key (record access { nonce = nonce }) ≡ key_usage c key access
nonce_free c key access nonce = omega (arith, same_length 8 nonce access.nonce (permission_bytes access.permission))

pub by_permission : (c : Config) (key : PublicKey) (nonce : ℕ) (p q : Permission) → length (permission_bytes p) ≡ length (permission_bytes q) → key_usage c key (record { nonce = nonce; permission = p }) ≡ key_usage c key (record { nonce = nonce; permission = q })
by_permission c key nonce p q same = omega (arith, length-append (little 8 nonce) (permission_bytes p), length-append (little 8 nonce) (permission_bytes q), same)

by_allowance : (call : CallPermission) (before after : ℕ) → call.allowance ≡ Some before → length (call_permission_bytes (record call { allowance = Some after })) ≡ length (call_permission_bytes call)
by_allowance call before after is =
    same_length_more after before _ ∙ ap (λ o. length (call_permission_bytes (record call { allowance = o }))) (sym is)
  where
    same_length_more : (m n : ℕ) (rest : List ℕ) → length (1 ∷ (little 16 m ++ rest)) ≡ length (1 ∷ (little 16 n ++ rest))
    same_length_more m n rest = ap suc (same_length 16 m n rest)

pub allowance_free : (c : Config) (key : PublicKey) (access : AccessKey) (call : CallPermission) (before after : ℕ) → access.permission ≡ Call call → call.allowance ≡ Some before
    → key_usage c key (record access { permission = Call (record call { allowance = Some after }) }) ≡ key_usage c key access
allowance_free c key access call before after is has =
    by_permission c key access.nonce (Call (record call { allowance = Some after })) access.permission
    (ap suc (by_allowance call before after has) ∙ ap (λ p. length (permission_bytes p)) (sym is))

-- a key that may do all takes nine bytes
pub full_length : (access : AccessKey) → access.permission ≡ Full → 9 ≡ length (access_key_bytes access)
full_length access is =
    let last : length (permission_bytes access.permission) ≡ 1 = ap (λ (p : Permission). length (permission_bytes p)) is in
    omega (arith, length-append (little 8 access.nonce) (permission_bytes access.permission), length-little 8 access.nonce, last)
