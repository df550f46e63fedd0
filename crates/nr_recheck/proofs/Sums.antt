-- Sums of tokens over lists.
use Rattle.std.proofs.Common.{◌≡◌, ◌+◌, ◌≤◌, ◌^◌, ℕ, Bool, true, false, List, [], ◌∷◌, length, Option, Some, None, refl, sym, ap, subst, ◌∙◌, arith}
use Rattle.std.specs.Prelude.{◌&&◌, nat_le, sum_by}
use Rattle.std.proofs.lemmas.Bool.{lt-leb, lt-ltb}
use Rattle.nr_config.specs.Config.{Config}
use Rattle.nr_fees.specs.Fees.{FitsIn, gas_of, price_of}
use Rattle.nr_records.specs.declared.receipt.Receipt.{Receipt}
use Rattle.nr_chunk.proofs.Values.{all_values}
use Rattle.nr_state.specs.Tokens.{list_tokens, world_tokens}
use Rattle.nr_state.specs.Valid.{IsBounded, IsValidWorld}
use Rattle.nr_state.specs.World.{World, account_tokens, pair_cmp}
use Rattle.nr_state.proofs.ValidOwned.{exact_data, pair_total}
use Rattle.std.specs.FinMap.{values}
use Rattle.std.specs.List.{AllByRecursion}
use Rattle.nr_worlds.specs.Valid.{is_bounded}
use Rattle.nr_recheck.specs.Bounds.{Counts, are_bounded, are_within, room}

-- ---- receipts within their bounds
bounded_one : (c : Config) (r : Receipt) → IsBounded c r → is_bounded c r ≡ true
bounded_one c r h = λ i. lt-ltb (price_of r) (2 ^ 64) h.price i && lt-ltb (gas_of c r) (2 ^ 64) h.gas i

pub bounded_all : (c : Config) (list : List Receipt) → AllByRecursion (IsBounded c) list → are_bounded c list ≡ true
bounded_all c [] h = refl
bounded_all c (r ∷ list) h = λ i. bounded_one c r h.0 i && bounded_all c list h.1 i

-- ---- all together
too_many : (bounded : Bool) (sum : ℕ) → (bounded ≡ true → 2 ^ 128 ≤ sum) → false ≡ (bounded && nat_le sum (2 ^ 127))
too_many true sum h = sym (lt-leb sum (2 ^ 127) (omega (arith, h refl)))
too_many false sum h = refl

room_is : (held waiting taken : Option ℕ) (bounded : Bool) (n m k : ℕ) → FitsIn 128 held n → Counts waiting true m → Counts taken bounded k → room held waiting taken ≡ (bounded && nat_le (n + m + k) (2 ^ 127))
room_is None waiting taken bounded n m k h w t = too_many bounded (n + m + k) (λ e. omega (arith, h))
room_is (Some a) None taken bounded n m k h w t = too_many bounded (n + m + k) (λ e. omega (arith, w refl))
room_is (Some a) (Some b) None bounded n m k h w t = too_many bounded (n + m + k) (λ e. omega (arith, t e))
room_is (Some a) (Some b) (Some d) bounded n m k h w t =
    (λ i. nat_le (h.0 i + w.1 i + t.1 i) (2 ^ 127)) ∙ ap (λ u. u && nat_le (n + m + k) (2 ^ 127)) (sym t.0)

and_in : (a b d : Bool) → ((a && b) && d) ≡ (a && (b && d))
and_in true b d = refl
and_in false b d = refl

-- all that is asked of the numbers, by what was counted
pub within_is : (c : Config) (w : World) (list : List Receipt) (held waiting taken : Option ℕ) (few : Bool) → IsValidWorld c w
    → FitsIn 128 held (sum_by account_tokens (values w.accounts))
    → Counts waiting (are_bounded c (values w.postponed) && are_bounded c w.delayed) (list_tokens c (values w.postponed) + list_tokens c w.delayed)
    → Counts taken (are_bounded c list) (list_tokens c list) → few ≡ nat_le (w.served + length w.delayed) (2 ^ 63)
    → (room held waiting taken && few) ≡ are_within c list w
within_is c w list held waiting taken few valid h g t f =
    let postponed : are_bounded c (values w.postponed) ≡ true =
    bounded_all c (values w.postponed) (all_values pair_cmp pair_total exact_data (IsBounded c) w.postponed valid.waiting.bounded) in
    let delayed : are_bounded c w.delayed ≡ true = bounded_all c w.delayed valid.waiting.delayed in
    let counted : Counts waiting true (list_tokens c (values w.postponed) + list_tokens c w.delayed) =
    subst (λ b. Counts waiting b (list_tokens c (values w.postponed) + list_tokens c w.delayed)) (λ i. postponed i && delayed i) g in
    let all = room_is held waiting taken (are_bounded c list) (sum_by account_tokens (values w.accounts)) (list_tokens c (values w.postponed) + list_tokens c w.delayed) (list_tokens c list) h counted t in
    (λ i. all i && f i) ∙ and_in (are_bounded c list) (nat_le (world_tokens c w + list_tokens c list) (2 ^ 127)) (nat_le (w.served + length w.delayed) (2 ^ 63))
