-- The law of values that may be absent.
use Rattle.std.proofs.Common.{◌≡◌, ℕ, zero, suc, ◌<◌, List, [], Option, Some, None, Ok, refl, ap, subst, arith}
use Rattle.nr_bytes.specs.Numbers.{IsBytes}
use Rattle.nr_bytes.specs.Reading.{Input}
use Rattle.nr_records.specs.Reading.{Read, choice}
use Rattle.nr_bytes.specs.Spelling.{IsRead, tagged, before, behind}
use Rattle.nr_bytes.proofs.Steps.{IsRead-spelled, answer, ok_is}
use Rattle.nr_bytes.proofs.Values.{mapped_case}
use Rattle.nr_bytes.proofs.Combined.{choice_law, IsArm}
use Rattle.nr_records.specs.Fault.{record_fault}
use Rattle.nr_records.specs.Options.{option_bytes, IsOption, option_body, option_at}

abbrev ordinal : {X : Type 0} → Option X → ℕ
ordinal None = 0
ordinal (Some x) = 1

abbrev inner : {X : Type 0} → (X → List ℕ) → Option X → List ℕ
inner item None = []
inner item (Some x) = item x

arms : {X : Type 0} (r : Input → Read X) (a : X → List ℕ) (P : X → Type 0) → IsRead r a P → (at n : ℕ) (s : Input) (p : Option X × Input) → IsBytes s.left → option_body r at n s ≡ Ok p
    → IsArm ordinal (inner a) (IsOption P) n s p
arms {X} r a P law at zero s p fits e =
    let made : Option X × Input = (None, s) in
    subst (IsArm ordinal (inner a) (IsOption P) 0 s) (ok_is made p e) (record { ordinal = refl; fits = tt; takes = record { left = refl; at = omega arith; bytes = fits } })
arms {X} r a P law at (suc zero) s p fits e =
    mapped_case (λ (x : X). Some x) r a P law (IsArm ordinal (inner a) (IsOption P) 1 s) s p fits
    (λ x t ok takes. record { ordinal = refl; fits = ok; takes = takes }) e
arms r a P law at (suc (suc b)) s p fits e = absurd cc

again : {X : Type 0} (r : Input → Read X) (a : X → List ℕ) (P : X → Type 0) → IsRead r a P → (at : ℕ) (v : Option X) (here : ℕ) (rest : List ℕ) → IsOption P v
    → option_body r at (ordinal v) (before (inner a v) here rest) ≡ Ok (v, behind (inner a v) here rest)
again {X} r a P law at None here rest fits =
    let none : Option X = None in
    ap (λ n. answer (none, record { left = rest; at = n })) (omega arith)
again r a P law at (Some x) here rest fits = rw (law.again x here rest fits) refl

low : {X : Type 0} (v : Option X) → ordinal v < 256
low None = omega arith
low (Some x) = omega arith

spelled : {X : Type 0} (a : X → List ℕ) (v : Option X) → option_bytes a v ≡ tagged ordinal (inner a) v
spelled a None = refl
spelled a (Some x) = refl

pub option_law : {X : Type 0} (r : Input → Read X) (a : X → List ℕ) (P : X → Type 0) → IsRead r a P
    → IsRead (option_at r) (option_bytes a) (IsOption P)
unfolding option_at
option_law r a P law =
    IsRead-spelled (choice (option_body r)) (option_bytes a) (tagged ordinal (inner a)) (IsOption P) (spelled a)
    (choice_law record_fault (option_body r) ordinal (inner a) (IsOption P) low (arms r a P law) (again r a P law))
