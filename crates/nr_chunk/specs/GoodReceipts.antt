-- Receipts whose attached gas fits in 64 bits, as a count of those whose doesn't.
use Rattle.std.proofs.Common.{◌≡◌, ℕ, ◌+◌, ◌^◌, ◌<◌, Bool, true, false, cond, List, [], ◌∷◌, refl, ap, arith}
use Rattle.std.specs.Prelude.{count_by}
use Rattle.std.specs.List.{AllByRecursion}
use Rattle.std.proofs.lemmas.List.Sums.{sum_by-cons}
use Rattle.nr_chunk.specs.Chain.{AreBounded}
use Rattle.nr_chunk.specs.Goodness.{is_large, large_in, large, IsGood, AreGood}
use Rattle.nr_config.specs.Config.{Config}
use Rattle.nr_fees.specs.Fees.{attached}
use Rattle.nr_overlap.proofs.Basics.{gt_of, not_le}
use Rattle.nr_receipt.specs.Keeping.{HasSmallCalls}
use Rattle.nr_records.specs.declared.action.Action.{Action}
use Rattle.nr_records.specs.declared.receipt.Body.{Body}
use Rattle.nr_records.specs.declared.receipt.Body.TheVariants.{Act, Datum}
use Rattle.nr_records.specs.declared.receipt.Receipt.{Receipt}

-- ---- actions
abbrev counts : Bool → ℕ
counts b = cond b 1 0

one_more : (a : Action) (rest : List Action)
    → count_by is_large (a ∷ rest) ≡ counts (is_large a) + count_by is_large rest
one_more a rest = sum_by-cons (λ (b : Action). cond (is_large b) 1 0) a rest

below : (a : Action) → counts (is_large a) ≡ 0 → attached a < 2 ^ 64
below a e = gt_of (2 ^ 64) (attached a) (by (is_large a) e)
  where
    by : (b : Bool) → counts b ≡ 0 → b ≡ false
    by true e = absurd (omega arith)
    by false e = refl

small_actions : (actions : List Action) → count_by is_large actions ≡ 0
    → AllByRecursion (λ a. attached a < 2 ^ 64) actions
small_actions [] e = tt
small_actions (a ∷ rest) e =
    (below a (omega (arith, one_more a rest, e)), small_actions rest (omega (arith, one_more a rest, e)))

none_large : (actions : List Action) → AllByRecursion (λ a. attached a < 2 ^ 64) actions → count_by is_large actions ≡ 0
none_large [] h = refl
none_large (a ∷ rest) h =
    let here : counts (is_large a) ≡ 0 = ap counts (not_le (2 ^ 64) (attached a) h.0) in
    omega (arith, one_more a rest, here, none_large rest h.1)

-- ---- receipts
pub small_in : (b : Body) → large_in b ≡ 0 → HasSmallCalls b
small_in (Act act) e = small_actions act.actions e
small_in (Datum d) e = tt

pub none_in : (b : Body) → HasSmallCalls b → large_in b ≡ 0
none_in (Act act) h = none_large act.actions h
none_in (Datum d) h = refl

pub not_large : (c : Config) (r : Receipt) → IsGood c r → large r ≡ 0
not_large c r good = none_in r.body good.calls

-- ---- lists of receipts
pub are_good : (c : Config) (list : List Receipt) → AreBounded c list
    → AllByRecursion (λ (q : Receipt). HasSmallCalls q.body) list → AreGood c list
are_good c [] h k = tt
are_good c (r ∷ rest) h k = (record { bounded = h.0; calls = k.0 }, are_good c rest h.1 k.1)

pub are_bounded : (c : Config) (list : List Receipt) → AreGood c list → AreBounded c list
are_bounded c [] h = tt
are_bounded c (r ∷ rest) h = let one : IsGood c r = h.0 in (one.bounded, are_bounded c rest h.1)
