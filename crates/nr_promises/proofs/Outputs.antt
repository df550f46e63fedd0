-- Outputs that are taken back, and receipts that are waited for.
use Rattle.std.proofs.Common.{◌≡◌, ℕ, ◌-◌, ◌<◌, true, List, [], ◌∷◌, ◌++◌, length, take, get_or, ap, refl, sym, ◌∙◌, subst, arith}
use Rattle.std.specs.Prelude.{Result, Ok, Err, OnErr}
use Rattle.std.specs.Result.{is_err}
use Rattle.std.proofs.Math.ListN.{set}
use Rattle.std.specs.List.{AllByRecursion}
use Rattle.std.proofs.lemmas.Grind.{common_steps}
use Rattle.nr_promises.proofs.Changed.{changed_back, set_is_changed}
use Rattle.nr_promises.specs.Book.{changed, body_with_output, with_output}
use Rattle.nr_promises.specs.Making.{body_without_output, without_output}
use Rattle.nr_records.specs.declared.receipt.Body.{Body}
use Rattle.nr_records.specs.declared.receipt.Body.TheVariants.{Act, Datum}
use Rattle.nr_records.specs.declared.receipt.DataReceiver.{DataReceiver}
use Rattle.nr_records.specs.declared.receipt.Receipt.{Receipt}

pub but_last : {X : Type 0} (xs : List X) (x : X) → take (length (xs ++ x ∷ []) - 1) (xs ++ x ∷ []) ≡ xs
but_last xs x = grind (arith, common_steps)

pub body_back : (output : DataReceiver) (b : Body) → body_without_output (body_with_output output b) ≡ b
body_back output (Act act) = ap (λ (xs : List DataReceiver). Act (record act { outputs = xs })) (but_last act.outputs output)
body_back output (Datum d) = refl

pub output_back : (output : DataReceiver) (made : List Receipt) (at : ℕ) → changed without_output (changed (with_output output) made at) at ≡ made
output_back output made at = changed_back (with_output output) without_output (λ (r : Receipt). ap (λ (b : Body). record r { body = b }) (body_back output r.body)) made at

-- the first place and the others, in a list of as many receipts
pub rest_stand : (n m : ℕ) → m ≡ n → (xs rest : List ℕ) (at : ℕ) → xs ≡ at ∷ rest → AllByRecursion (λ k. k < n) xs → (at < m) × AllByRecursion (λ k. k < m) rest
rest_stand n m same xs rest at is all =
    let here : AllByRecursion (λ k. k < m) xs = subst (λ (j : ℕ). AllByRecursion (λ k. k < j) xs) (sym same) all in
    subst (λ (ys : List ℕ). AllByRecursion (λ k. k < m) ys) is here

-- ---- a write to one receipt's body
pub set_with : (h : Body → Body) (xs old : List Receipt) (at : ℕ) (q : Receipt) (b : Body) → xs ≡ old → q ≡ get_or xs at q → b ≡ h q.body → set xs at (record q { body = b }) ≡ changed (λ (r : Receipt). record r { body = h r.body }) old at
set_with h xs old at q b same read is =
    set_is_changed (λ (r : Receipt). record r { body = h r.body }) xs at q (record q { body = b }) read (ap (λ (d : Body). record q { body = d }) is)
    ∙ ap (λ (m : List Receipt). changed (λ (r : Receipt). record r { body = h r.body }) m at) same

-- ---- results
pub err_then : {T E : Type 0} (r : Result T E) (P : Type 0) → is_err r ≡ true → OnErr r P → P
err_then (Ok x) P h k = absurd (cc)
err_then (Err e) P h k = k

pub on_err : {T E : Type 0} (r : Result T E) (P : Type 0) → P → OnErr r P
on_err (Ok x) P h = tt
on_err (Err e) P h = h
