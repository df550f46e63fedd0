-- The receipts that a call and a deletion make: their tokens and their bounds.
use Rattle.std.proofs.Common.{◌≡◌, ℕ, ◌+◌, ◌*◌, ◌^◌, ◌<◌, true, false, List, [], ◌∷◌, ◌++◌, refl, ap, ◌∙◌, arith, add-mul}
use Rattle.std.specs.Prelude.{◌||◌}
use Rattle.std.specs.List.{AllByRecursion, list_any}
use Rattle.std.specs.Str.{bytes_eq}
use Rattle.std.proofs.lemmas.List.Folds.{list_any-append}
use Rattle.std.proofs.lemmas.List.Sums.{sum_by-cons}
use mathlib.Core.Bool.{or-true}
use Rattle.std.proofs.lemmas.Bool.{or_left}
use Rattle.nr_actions.specs.Refunds.{deposit_refund}
use Rattle.nr_config.specs.Config.{Config}
use Rattle.nr_fees.specs.Fees.{deposits, prepaid_gas, body_tokens, body_gas, body_price, receipt_tokens}
use Rattle.nr_ids.specs.Grammar.{is_system}
use Rattle.nr_ids.specs.declared.key.Hash32.{Hash32}
use Rattle.nr_ids.proofs.System.{system_is}
use Rattle.nr_records.specs.declared.receipt.Body.{Body}
use Rattle.nr_records.specs.declared.receipt.Body.TheVariants.{Act, Datum}
use Rattle.nr_records.specs.declared.receipt.Receipt.{Receipt}
use Rattle.nr_state.specs.Calls.{body_deposits, made_deposits, made_gas, HasPrice, IsMade, IsReturned}
use Rattle.nr_state.specs.Queues.{is_act}
use Rattle.nr_state.specs.Tokens.{list_tokens}
use Rattle.nr_state.specs.Valid.{IsBounded}
use Rattle.nr_state.specs.declared.calls.CallContext.{CallContext}
use Rattle.nr_state.specs.declared.calls.Returned.{Returned}
use Rattle.nr_state.specs.declared.calls.Returned.TheVariants.{Value, Promise}

-- ---- receipts of a call
held_by : (c : Config) (price : ℕ) (b : Body) → HasPrice price b → body_tokens c false b ≡ body_deposits b + body_gas c false b * price
held_by c price (Act act) e = ap (λ n. deposits act.actions + prepaid_gas c act.actions * n) e
held_by c price (Datum d) e = absurd e

price_is : (price : ℕ) (b : Body) → HasPrice price b → body_price b ≡ price
price_is price (Act act) e = e
price_is price (Datum d) e = absurd e

of_actions : (price : ℕ) (b : Body) → HasPrice price b → is_act b ≡ true
of_actions price (Act act) e = refl
of_actions price (Datum d) e = absurd e

pub all_act : (x : CallContext) (made : List Receipt) → AllByRecursion (IsMade x) made → AllByRecursion (λ r. is_act r.body ≡ true) made
all_act x [] h = tt
all_act x (r ∷ rs) h = (of_actions x.gas_price r.body h.0.price, all_act x rs h.1)

module _ (c : Config) (x : CallContext) (plain : is_system x.current ≡ false) where
  from_account : (r : Receipt) → IsMade x r → is_system r.predecessor ≡ false
  from_account r h = ap is_system h.predecessor ∙ plain

  held : (r : Receipt) → IsMade x r → receipt_tokens c r ≡ body_deposits r.body + body_gas c false r.body * x.gas_price
  held r h = ap (λ b. body_tokens c b r.body) (from_account r h) ∙ held_by c x.gas_price r.body h.price

  pub all_held : (made : List Receipt) → AllByRecursion (IsMade x) made → list_tokens c made ≡ made_deposits made + made_gas c made * x.gas_price
  all_held [] h = omega arith
  all_held (r ∷ rs) h =
      let gas : made_gas c (r ∷ rs) * x.gas_price ≡ body_gas c false r.body * x.gas_price + made_gas c rs * x.gas_price =
      ap (λ n. n * x.gas_price) (sum_by-cons (λ (q : Receipt). body_gas c false q.body) r rs) ∙ add-mul (body_gas c false r.body) (made_gas c rs) x.gas_price in
      omega (arith, gas, sum_by-cons (receipt_tokens c) r rs, sum_by-cons (λ (q : Receipt). body_deposits q.body) r rs, held r h.0, all_held rs h.1)

  pub all_bounded : (made : List Receipt) → AllByRecursion (IsMade x) made → x.gas_price < 2 ^ 64 → made_gas c made < 2 ^ 64 → AllByRecursion (IsBounded c) made
  all_bounded [] h price gas = tt
  all_bounded (r ∷ rs) h price gas =
      let more : made_gas c (r ∷ rs) ≡ body_gas c false r.body + made_gas c rs = sum_by-cons (λ (q : Receipt). body_gas c false q.body) r rs in (
        record {
          price = rw (price_is x.gas_price r.body h.0.price) price;
          gas = rw (from_account r h.0) (omega (arith, more, gas));
        },
        all_bounded rs h.1 price (omega (arith, more, gas)),
      )

-- ---- a refund
pub refund_holds : (c : Config) (receiver : List ℕ) (id : Hash32) (amount : ℕ) → list_tokens c (deposit_refund receiver id amount ∷ []) ≡ amount
refund_holds c receiver id amount =
    let r : Receipt = deposit_refund receiver id amount in
    let one : receipt_tokens c r ≡ body_tokens c true r.body = ap (λ b. body_tokens c b r.body) system_is in
    omega (arith, sum_by-cons (receipt_tokens c) r [], one)

pub refund_bounded : (c : Config) (receiver : List ℕ) (id : Hash32) (amount : ℕ) → IsBounded c (deposit_refund receiver id amount)
refund_bounded c receiver id amount = record { price = omega arith; gas = rw system_is (omega arith) }

-- ---- a returned promise is still among the receipts made
pub returned_before : (made more : List Receipt) (r : Returned) → IsReturned made r → IsReturned (made ++ more) r
returned_before made more (Value bytes) h = tt
returned_before made more (Promise id) h =
    list_any-append (λ (r : Receipt). bytes_eq r.receipt_id.0 id.0) made more ∙ or_left (list_any (λ (r : Receipt). bytes_eq r.receipt_id.0 id.0) made) (list_any (λ (r : Receipt). bytes_eq r.receipt_id.0 id.0) more) h

pub returned_behind : (made more : List Receipt) (r : Returned) → IsReturned more r → IsReturned (made ++ more) r
returned_behind made more (Value bytes) h = tt
returned_behind made more (Promise id) h =
    list_any-append (λ (r : Receipt). bytes_eq r.receipt_id.0 id.0) made more
    ∙ ap (λ b. list_any (λ (r : Receipt). bytes_eq r.receipt_id.0 id.0) made || b) h ∙ or-true (list_any (λ (r : Receipt). bytes_eq r.receipt_id.0 id.0) made)
