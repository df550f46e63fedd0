-- What is read of a key's bytes.
use Rattle.std.proofs.Common.{◌≡◌, ℕ, ◌+◌, ◌<◌, ◌≤◌, List, [], ◌∷◌, ◌++◌, ◌%◌, length, drop, Option, Some, None, Ok, refl, sym, ap, subst, ◌∙◌, append_assoc, arith}
use Rattle.std.specs.Prelude.{IsSome, unwrap_or}
use Rattle.std.proofs.lemmas.List.{length-append, drop_at}
use Rattle.nr_bytes.specs.Numbers.{little, IsBytes}
use Rattle.nr_bytes.specs.Reading.{Input, number_at}
use Rattle.nr_bytes.specs.Spelling.{before, behind, list}
use Rattle.nr_bytes.specs.Writing.{counted_bytes}
use Rattle.nr_bytes.proofs.Fields.{nat_law, string_law}
use Rattle.nr_bytes.proofs.Numbers.{length-little}
use Rattle.nr_bytes.proofs.Steps.{ok_is, lifted_ok}
use Rattle.nr_bytes.proofs.Whole.{whole_taken, whole_again}
use Rattle.nr_records.specs.AccessKeyLaws.{call_permission_law}
use Rattle.nr_records.specs.AccessKeys.{call_permission_at, call_permission_bytes, IsCallPermission, permission_bytes, IsPermission, access_key_bytes, IsAccessKey}
use Rattle.nr_records.specs.Fault.{record_fault}
use Rattle.nr_records.specs.OptionLaw.{option_law}
use Rattle.nr_records.specs.Options.{option_at, option_bytes}
use Rattle.nr_records.specs.Reading.{all_of, nat_at, string_at}
use Rattle.nr_records.specs.declared.access_key.AccessKey.{AccessKey}
use Rattle.nr_records.specs.declared.access_key.CallPermission.{CallPermission}
use Rattle.nr_records.specs.declared.access_key.Permission.{Permission}
use Rattle.nr_records.specs.declared.access_key.Permission.TheVariants.{Call, Full}
use Rattle.nr_columns.specs.Tables.{read_of}
use Rattle.nr_keys.specs.Lent.{calls_read}
use Rattle.nr_keys.specs.Names.{names_read}
use Rattle.nr_columns.proofs.SpelledKeys.{is_read, read_ok}
use Rattle.nr_keys.proofs.SpelledNames.{names_again}

-- ---- the calls of a key

pub calls_so : (bytes : List ℕ) (calls : CallPermission) → IsBytes bytes → calls_read bytes ≡ Some calls → IsCallPermission calls × (bytes ≡ call_permission_bytes calls)
calls_so bytes calls fits e =
    whole_taken record_fault call_permission_at call_permission_bytes IsCallPermission call_permission_law bytes calls fits (read_ok (all_of call_permission_at bytes) calls e)

pub calls_again : (calls : CallPermission) → IsCallPermission calls → calls_read (call_permission_bytes calls) ≡ Some calls
calls_again calls fits = ap read_of (whole_again record_fault call_permission_at call_permission_bytes IsCallPermission call_permission_law calls fits)

abbrev some_list : List (List ℕ) → Option (List (List ℕ))
some_list x = Some x

same_list : (x y : List (List ℕ)) → some_list x ≡ some_list y → x ≡ y
same_list x y e = cc

abbrev some_calls : CallPermission → Option CallPermission
some_calls x = Some x

same_calls : (x y : CallPermission) → some_calls x ≡ some_calls y → x ≡ y
same_calls x y e = cc

-- the calls, and some calls where the bytes permit none
abbrev pub calls_in : List ℕ → CallPermission
calls_in bytes = unwrap_or (calls_read bytes) (record { allowance = None; receiver = []; methods = [] })

pub calls_there : (bytes : List ℕ) → IsSome (calls_read bytes) → calls_read bytes ≡ Some (calls_in bytes)
calls_there bytes there = is_read (calls_read bytes) _ there

-- the allowance and the receiver were read, and the methods are what is left
pub record AreRead (bytes : List ℕ) (calls : CallPermission) (limit : Option ℕ) (named : List ℕ) (at : ℕ) : Type 0 where
  pub allowance : limit ≡ calls.allowance
  pub receiver : named ≡ calls.receiver
  pub within : at ≤ length bytes
  pub methods : names_read (drop at bytes) ≡ Some calls.methods

abbrev front_of : CallPermission → List ℕ
front_of calls = option_bytes (little 16) calls.allowance ++ counted_bytes calls.receiver

pub are_read : (bytes : List ℕ) (calls : CallPermission) (allowance : Option ℕ) (receiver : List ℕ) (s t : Input) → IsBytes bytes → calls_read bytes ≡ Some calls
    → option_at (nat_at 16) (record { left = bytes; at = 0 }) ≡ Ok (allowance, s) → string_at s ≡ Ok (receiver, t) → AreRead bytes calls allowance receiver t.at
are_read bytes calls allowance receiver s t fits e first second =
    let so = calls_so bytes calls fits e in
    let tail : List ℕ = list counted_bytes calls.methods in
    let head : List ℕ = option_bytes (little 16) calls.allowance in
    let one : option_at (nat_at 16) (record { left = bytes; at = 0 }) ≡ Ok (calls.allowance, behind head 0 (counted_bytes calls.receiver ++ tail)) =
    ap (λ (b : List ℕ). option_at (nat_at 16) (record { left = b; at = 0 })) so.1
    ∙ (option_law _ _ _ (nat_law record_fault 16)).again calls.allowance 0 (counted_bytes calls.receiver ++ tail) so.0.0 in
    let p = ok_is (allowance, s) (calls.allowance, behind head 0 (counted_bytes calls.receiver ++ tail)) (sym first ∙ one) in
    let two : string_at s ≡ Ok (calls.receiver, behind (counted_bytes calls.receiver) (0 + length head) tail) =
    ap (λ (p : Option ℕ × Input). string_at p.1) p ∙ (string_law record_fault).again calls.receiver (0 + length head) tail so.0.1.0 in
    let q = ok_is (receiver, t) (calls.receiver, behind (counted_bytes calls.receiver) (0 + length head) tail) (sym second ∙ two) in
    let at : t.at ≡ 0 + length head + length (counted_bytes calls.receiver) = ap (λ (p : List ℕ × Input). p.1.at) q in
    let whole : bytes ≡ front_of calls ++ tail = so.1 ∙ sym (append_assoc head (counted_bytes calls.receiver) tail) in
    let long : length (front_of calls) ≡ t.at = omega (arith, length-append head (counted_bytes calls.receiver), at) in
    record {
      allowance = ap (λ (p : Option ℕ × Input). p.0) p;
      receiver = ap (λ (p : List ℕ × Input). p.0) q;
      within = subst (λ (b : List ℕ). t.at ≤ length b) (sym whole) (omega (arith, length-append (front_of calls) tail, long));
      methods = ap names_read (ap (drop t.at) whole ∙ drop_at (front_of calls) tail t.at long) ∙ names_again calls.methods so.0.1.1;
    }

-- the same of what was read of a reader
pub are_here : (bytes : List ℕ) (allowance : Option ℕ) (receiver : List ℕ) (r s t : Input) (at : ℕ) → IsBytes bytes → IsSome (calls_read bytes) → r ≡ record { left = bytes; at = 0 }
    → option_at (nat_at 16) r ≡ Ok (allowance, s) → string_at s ≡ Ok (receiver, t) → at ≡ t.at → AreRead bytes (calls_in bytes) allowance receiver at
are_here bytes allowance receiver r s t at fits there new first second is =
    subst (AreRead bytes (calls_in bytes) allowance receiver) (sym is)
    (are_read bytes (calls_in bytes) allowance receiver s t fits (calls_there bytes there) (ap (λ (r : Input). option_at (nat_at 16) r) (sym new) ∙ first) second)

abbrev permitted : Option ℕ → List ℕ → List (List ℕ) → CallPermission
permitted allowance receiver methods = record { allowance = allowance; receiver = receiver; methods = methods }

pub calls_are : (bytes : List ℕ) (calls : CallPermission) (allowance : Option ℕ) (receiver : List ℕ) (at : ℕ) (methods : List (List ℕ))
    → AreRead bytes calls allowance receiver at → calls_read bytes ≡ Some calls → names_read (drop at bytes) ≡ Some methods
    → calls_read bytes ≡ Some (permitted allowance receiver methods)
calls_are bytes calls allowance receiver at methods are e named =
    let same = same_list calls.methods methods (sym are.methods ∙ named) in
    e ∙ (λ i. some_calls (permitted (sym are.allowance i) (sym are.receiver i) (same i)))

-- ---- what stands before them

nonce_read : (access : AccessKey) (nonce : ℕ) (s : Input) → IsAccessKey access → number_at 8 (record { left = access_key_bytes access; at = 0 }) ≡ Ok (nonce, s) → (nonce ≡ access.nonce) × (s.left ≡ permission_bytes access.permission)
nonce_read access nonce s fits e =
    let rest : List ℕ = permission_bytes access.permission in
    let one : number_at 8 (record { left = access_key_bytes access; at = 0 }) ≡ Ok (access.nonce, behind (little 8 access.nonce) 0 rest) =
    lifted_ok record_fault _ _ ((nat_law record_fault 8).again access.nonce 0 rest fits.0) in
    let p = ok_is (nonce, s) (access.nonce, behind (little 8 access.nonce) 0 rest) (sym e ∙ one) in
    (ap (λ (p : ℕ × Input). p.0) p, ap (λ (p : ℕ × Input). p.1.left) p)

abbrev ordinal : Permission → ℕ
ordinal (Call calls) = 0
ordinal Full = 1

ordinal_at : (n : ℕ) (rest : List ℕ) (at : ℕ) → n < 256 → number_at 1 (record { left = n ∷ rest; at = at }) ≡ Ok (n, behind (n ∷ []) at rest)
unfolding little
ordinal_at n rest at low =
    let same : little 1 n ≡ n ∷ [] = (let e : n % 256 ≡ n = omega arith in rw e refl) in
    subst (λ (b : List ℕ). number_at 1 (before b at rest) ≡ Ok (n, behind b at rest)) same (lifted_ok record_fault _ _ ((nat_law record_fault 1).again n at rest low))

ordinal_read : (permission : Permission) (n at : ℕ) (s : Input) → number_at 1 (record { left = permission_bytes permission; at = at }) ≡ Ok (n, s) → n ≡ ordinal permission
ordinal_read (Call calls) n at s e = ap (λ (p : ℕ × Input). p.0) (ok_is (n, s) (0, behind (0 ∷ []) at (call_permission_bytes calls)) (sym e ∙ ordinal_at 0 (call_permission_bytes calls) at (omega arith)))
ordinal_read Full n at s e = ap (λ (p : ℕ × Input). p.0) (ok_is (n, s) (1, behind (1 ∷ []) at []) (sym e ∙ ordinal_at 1 [] at (omega arith)))

-- the ordinal 0 is that of a key for calls, and they stand behind it
pub record AreCalls (access : AccessKey) (nonce : ℕ) : Type 0 where
  pub calls : CallPermission
  pub is : access ≡ record { nonce = nonce; permission = Call calls }
  pub within : 9 ≤ length (access_key_bytes access)
  pub read : calls_read (drop 9 (access_key_bytes access)) ≡ Some calls

by_permission : (nonce : ℕ) (permission : Permission) → IsPermission permission → ordinal permission ≡ 0 → AreCalls (record { nonce = nonce; permission = permission }) nonce
by_permission nonce (Call calls) fits e =
    let text : List ℕ = call_permission_bytes calls in
    let whole : access_key_bytes (record { nonce = nonce; permission = Call calls }) ≡ (little 8 nonce ++ 0 ∷ []) ++ text = sym (append_assoc (little 8 nonce) (0 ∷ []) text) in
    let nine : length (little 8 nonce ++ 0 ∷ []) ≡ 9 = omega (arith, length-append (little 8 nonce) (0 ∷ []), length-little 8 nonce) in
    record {
      calls = calls;
      is = refl;
      within = subst (λ (b : List ℕ). 9 ≤ length b) (sym whole) (omega (arith, length-append (little 8 nonce ++ 0 ∷ []) text, nine));
      read = ap calls_read (ap (drop 9) whole ∙ drop_at (little 8 nonce ++ 0 ∷ []) text 9 nine) ∙ calls_again calls fits;
    }
by_permission nonce Full fits e = absurd cc

pub are_calls : (access : AccessKey) (nonce : ℕ) (s t : Input) → IsAccessKey access → number_at 8 (record { left = access_key_bytes access; at = 0 }) ≡ Ok (nonce, s) → number_at 1 s ≡ Ok (0, t) → AreCalls access nonce
are_calls access nonce s t fits first second =
    let head = nonce_read access nonce s fits first in
    let zero_is = ordinal_read access.permission 0 s.at t (ap (λ (b : List ℕ). number_at 1 (record { left = b; at = s.at })) (sym head.1) ∙ second) in
    subst (AreCalls access) (sym head.0) (by_permission access.nonce access.permission fits.1 (sym zero_is))

-- the same of bytes that spell the key, and of a reader
pub calls_stand : (bytes : List ℕ) (access : AccessKey) (nonce n : ℕ) (r s t : Input) → bytes ≡ access_key_bytes access → IsAccessKey access → r ≡ record { left = bytes; at = 0 }
    → number_at 8 r ≡ Ok (nonce, s) → number_at 1 s ≡ Ok (n, t) → n ≡ 0 → AreCalls access nonce
calls_stand bytes access nonce n r s t at fits new first second none =
    are_calls access nonce s t fits (ap (λ (b : List ℕ). number_at 8 (record { left = b; at = 0 })) (sym at) ∙ ap (λ (r : Input). number_at 8 r) (sym new) ∙ first)
    (subst (λ (k : ℕ). number_at 1 s ≡ Ok (k, t)) none second)

pub calls_within : (bytes : List ℕ) (access : AccessKey) (nonce : ℕ) → bytes ≡ access_key_bytes access → AreCalls access nonce → 9 ≤ length bytes
calls_within bytes access nonce at are = subst (λ (b : List ℕ). 9 ≤ length b) (sym at) are.within

pub calls_told : (bytes : List ℕ) (access : AccessKey) (nonce : ℕ) → bytes ≡ access_key_bytes access → AreCalls access nonce → IsSome (calls_read (drop 9 bytes))
calls_told bytes access nonce at are = subst IsSome (sym (ap (λ (b : List ℕ). calls_read (drop 9 b)) at ∙ are.read)) refl

pub calls_key : (bytes : List ℕ) (access : AccessKey) (nonce : ℕ) (calls : CallPermission) → bytes ≡ access_key_bytes access → AreCalls access nonce → calls_read (drop 9 bytes) ≡ Some calls
    → record { nonce = nonce; permission = Call calls } ≡ access
calls_key bytes access nonce calls at are read =
    let same = same_calls calls are.calls (sym read ∙ ap (λ (b : List ℕ). calls_read (drop 9 b)) at ∙ are.read) in
    (λ i. record { nonce = nonce; permission = Call (same i) }) ∙ sym are.is

-- any other is that of a full key
abbrev key_of : ℕ → Permission → AccessKey
key_of nonce permission = record { nonce = nonce; permission = permission }

full_by : (nonce : ℕ) (permission : Permission) (n : ℕ) → n ≡ ordinal permission → (n ≡ 0 → ⊥) → key_of nonce Full ≡ key_of nonce permission
full_by nonce (Call calls) n e other = absurd (other e)
full_by nonce Full n e other = refl

is_full : (access : AccessKey) (nonce n : ℕ) (s t : Input) → IsAccessKey access → number_at 8 (record { left = access_key_bytes access; at = 0 }) ≡ Ok (nonce, s) → number_at 1 s ≡ Ok (n, t) → (n ≡ 0 → ⊥)
    → key_of nonce Full ≡ access
is_full access nonce n s t fits first second other =
    let head = nonce_read access nonce s fits first in
    let is = ordinal_read access.permission n s.at t (ap (λ (b : List ℕ). number_at 1 (record { left = b; at = s.at })) (sym head.1) ∙ second) in
    ap (λ (k : ℕ). key_of k Full) head.0 ∙ full_by access.nonce access.permission n is other

pub full_key : (bytes : List ℕ) (access : AccessKey) (nonce n : ℕ) (r s t : Input) → bytes ≡ access_key_bytes access → IsAccessKey access → r ≡ record { left = bytes; at = 0 }
    → number_at 8 r ≡ Ok (nonce, s) → number_at 1 s ≡ Ok (n, t) → (n ≡ 0 → ⊥) → key_of nonce Full ≡ access
full_key bytes access nonce n r s t at fits new first second other =
    is_full access nonce n s t fits (ap (λ (b : List ℕ). number_at 8 (record { left = b; at = 0 })) (sym at) ∙ ap (λ (r : Input). number_at 8 r) (sym new) ∙ first) second other
