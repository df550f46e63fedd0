-- What holds of the receipts once a new one was made, from what each step keeps.
use Rattle.std.proofs.Common.{◌≡◌, ℕ, ◌+◌, false, List, [], ◌∷◌, ◌++◌, length, ap, refl, ◌∙◌, arith, length-append}
use Rattle.std.specs.List.{AllByRecursion}
use Rattle.std.proofs.lemmas.List.Sums.{sum_by-append}
use Rattle.nr_bytes.proofs.Basics.{all_push}
use Rattle.nr_fees.specs.Fees.{body_gas}
use Rattle.nr_config.specs.Config.{Config}
use Rattle.nr_ids.specs.declared.key.Hash32.{Hash32}
use Rattle.nr_promises.proofs.Changed.{length_changed, all_changed, sum_kept}
use Rattle.nr_promises.specs.Book.{changed, with_output, body_with_output, new_receipt, drawn, made_after, IsOwn}
use Rattle.nr_promises.specs.Keeping.{receipt_gas}
use Rattle.nr_promises.specs.declared.contents.Origin.{Origin}
use Rattle.nr_records.specs.declared.receipt.Body.{Body}
use Rattle.nr_records.specs.declared.receipt.Body.TheVariants.{Act, Datum}
use Rattle.nr_records.specs.declared.receipt.DataReceiver.{DataReceiver}
use Rattle.nr_records.specs.declared.receipt.Receipt.{Receipt}
use Rattle.nr_state.specs.Calls.{HasPrice, body_deposits, made_gas, made_deposits}

-- ---- an output changes nothing of a receipt that counts
pub price_with_output : (price : ℕ) (output : DataReceiver) (b : Body) → HasPrice price b → HasPrice price (body_with_output output b)
price_with_output price output (Act act) h = h
price_with_output price output (Datum d) h = h

pub gas_with_output : (c : Config) (output : DataReceiver) (b : Body) → body_gas c false (body_with_output output b) ≡ body_gas c false b
gas_with_output c output (Act act) = refl
gas_with_output c output (Datum d) = refl

pub deposits_with_output : (output : DataReceiver) (b : Body) → body_deposits (body_with_output output b) ≡ body_deposits b
deposits_with_output output (Act act) = refl
deposits_with_output output (Datum d) = refl

-- ---- what each step keeps, and the last one brings about
pub made_by : (o : Origin) (receiver : List ℕ) (P Q : List Receipt → Type 0)
    → ((made : List Receipt) (output : DataReceiver) (at : ℕ) → P made → P (changed (with_output output) made at))
    → ((made : List Receipt) (id : Hash32) (inputs : List Hash32) → P made → Q (made ++ new_receipt o id receiver inputs ∷ []))
    → (waited : List ℕ) (inputs : List Hash32) (made : List Receipt) (ordinal : ℕ) → P made → Q (made_after o receiver waited inputs made ordinal).0
made_by o receiver P Q step last [] inputs made ordinal h = last made (drawn o ordinal) inputs h
made_by o receiver P Q step last (at ∷ rest) inputs made ordinal h =
    made_by o receiver P Q step last rest _ _ (ordinal + 1) (step made (record { data_id = drawn o ordinal; receiver = receiver }) at h)

pub made_length : (o : Origin) (receiver waited : List ℕ) (inputs : List Hash32) (made : List Receipt) (ordinal : ℕ) → length (made_after o receiver waited inputs made ordinal).0 ≡ length made + 1
made_length o receiver waited inputs made ordinal =
    made_by o receiver (λ m. length m ≡ length made) (λ m. length m ≡ length made + 1)
    (λ m output at h. length_changed (with_output output) m at ∙ h)
    (λ m id ids h. length-append m _ ∙ ap (λ n. n + 1) h)
    waited inputs made ordinal refl

pub made_own : (o : Origin) (receiver waited : List ℕ) (inputs : List Hash32) (made : List Receipt) (ordinal : ℕ) → AllByRecursion (IsOwn o) made → AllByRecursion (IsOwn o) (made_after o receiver waited inputs made ordinal).0
made_own o receiver waited inputs made ordinal all =
    made_by o receiver (λ m. AllByRecursion (IsOwn o) m) (λ m. AllByRecursion (IsOwn o) m)
    (λ m output at h. all_changed (IsOwn o) (with_output output) (λ r own. record { predecessor = own.predecessor; price = price_with_output o.gas_price output r.body own.price }) m at h)
    (λ m id ids h. all_push (IsOwn o) m _ h (record { predecessor = refl; price = refl }))
    waited inputs made ordinal all

pub made_gas_after : (c : Config) (o : Origin) (receiver waited : List ℕ) (inputs : List Hash32) (made : List Receipt) (ordinal : ℕ) → made_gas c (made_after o receiver waited inputs made ordinal).0 ≡ made_gas c made + receipt_gas c
made_gas_after c o receiver waited inputs made ordinal =
    made_by o receiver (λ m. made_gas c m ≡ made_gas c made) (λ m. made_gas c m ≡ made_gas c made + receipt_gas c)
    (λ m output at h. sum_kept (λ r. body_gas c false r.body) (with_output output) (λ r. gas_with_output c output r.body) m at ∙ h)
    (λ m id ids h. sum_by-append (λ r. body_gas c false r.body) m _ ∙ omega (arith, h))
    waited inputs made ordinal refl

pub made_deposits_after : (o : Origin) (receiver waited : List ℕ) (inputs : List Hash32) (made : List Receipt) (ordinal : ℕ) → made_deposits (made_after o receiver waited inputs made ordinal).0 ≡ made_deposits made
made_deposits_after o receiver waited inputs made ordinal =
    made_by o receiver (λ m. made_deposits m ≡ made_deposits made) (λ m. made_deposits m ≡ made_deposits made)
    (λ m output at h. sum_kept (λ r. body_deposits r.body) (with_output output) (λ r. deposits_with_output output r.body) m at ∙ h)
    (λ m id ids h. sum_by-append (λ r. body_deposits r.body) m _ ∙ omega (arith, h))
    waited inputs made ordinal refl
