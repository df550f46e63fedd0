-- Calls that burn so much gas, or all that they have: one that fails, one that makes a receipt without actions and
-- gives its result, and one that only returns. This project's own.
use Rattle.std.specs.Prelude.{◌≡◌, ℕ, ◌+◌, ◌-◌, ◌≤◌, min, Bool, true, false, cond, [], ◌∷◌}
use Rattle.std.specs.Prelude.{◌||◌, codes, nat_le, refl, Result, Ok, Err}
use Rattle.std.specs.Str.{bytes_eq}
use Rattle.std.proofs.Common.{ap, arith, subst}
use Rattle.std.proofs.lemmas.Bool.Decides.{nat_tests}
use Rattle.std.proofs.lemmas.Slice.Eq.{bytes_eq-Decides}
use Rattle.nr_config.specs.Config.{Config}
use Rattle.nr_fees.specs.Fees.{prepaid_gas}
use Rattle.nr_ids.specs.Derive.{derived}
use Rattle.nr_ids.specs.declared.key.Hash32.{Hash32}
use Rattle.nr_records.specs.declared.receipt.Body.TheVariants.{Act}
use Rattle.nr_records.specs.declared.receipt.Receipt.{Receipt}
use Rattle.nr_state.specs.Calls.{Called, Ended, IsCaller, IsEnd, Stopped}
use Rattle.nr_state.specs.Local.{IsLocal}
use Rattle.nr_state.specs.Scopes.{one_account, over, over_called}
use Rattle.nr_state.specs.World.{World}
use Rattle.nr_state.proofs.ValidCalls.{changes_nothing}
use Rattle.nr_state.specs.declared.calls.CallContext.{CallContext}
use Rattle.nr_state.specs.declared.calls.CallEnd.{CallEnd}
use Rattle.nr_state.specs.declared.calls.CallStop.{CallStop}
use Rattle.nr_state.specs.declared.calls.CallStop.TheVariants.{Failed, Memory}
use Rattle.nr_state.specs.declared.calls.Returned.TheVariants.{Promise, Value}

-- ---- what the calls make
abbrev pub next_id : CallContext → Hash32
next_id x = derived x.receipt_id x.height.0 x.next_ordinal

abbrev pub asked : CallContext → Receipt
asked x =
    record {
      predecessor = x.current;
      receiver = x.current;
      receipt_id = next_id x;
      body =
          Act (record {
            signer = x.signer;
            signer_key = x.signer_key;
            gas_price = x.gas_price;
            outputs = [];
            inputs = [];
            actions = [];
          });
    }

-- the gas that this receipt is promised
abbrev pub asked_gas : Config → ℕ
asked_gas c = prepaid_gas c []

abbrev pub returning : ℕ → CallContext → CallEnd
returning burnt x =
    record {
      burnt = min burnt x.gas;
      promised = 0;
      returned = Value (codes "v");
      made = [];
      next_ordinal = x.next_ordinal;
      logs = codes "x" ∷ [];
    }

abbrev pub asking : Config → ℕ → CallContext → CallEnd
asking c burnt x =
    record {
      burnt = min burnt (x.gas - asked_gas c);
      promised = asked_gas c;
      returned = Promise (next_id x);
      made = asked x ∷ [];
      next_ordinal = x.next_ordinal + 1;
      logs = [];
    }

abbrev pub asks : Config → ℕ → World → CallContext → Called
asks c burnt w x = cond (nat_le (asked_gas c) x.gas) (Ended (asking c burnt x) w) (Stopped 17 0 x.gas)

abbrev pub burns : Config → ℕ → World → CallContext → Called
burns c burnt w x =
    cond (bytes_eq x.method (codes "trap")) (Stopped 15 1 (min burnt x.gas))
    (cond (bytes_eq x.method (codes "ask")) (asks c burnt w x) (Ended (returning burnt x) w))

-- ---- they keep what every caller promises
pub at_most : (m n : ℕ) → min m n ≤ n
at_most m n = omega arith

module _ (c : Config) (burnt : ℕ) (w : World) (x : CallContext) where
  returning_is_end : IsEnd c w x (returning burnt x) w
  returning_is_end = record {
    gas = omega (arith, at_most burnt x.gas);
    promised = refl;
    tokens = omega arith;
    changes = changes_nothing x.current w;
    made = tt;
    returned = tt;
    valid = λ h. h;
  }

  or_true : (b : Bool) → b ≡ true → (b || false) ≡ true
  or_true true e = refl
  or_true false e = e

  asking_is_end : asked_gas c ≤ x.gas → IsEnd c w x (asking c burnt x) w
  asking_is_end room = record {
    gas = omega (arith, room, at_most burnt (x.gas - asked_gas c));
    promised = omega arith;
    tokens = omega arith;
    changes = changes_nothing x.current w;
    made = (record { predecessor = refl; price = refl }, tt);
    returned = or_true (bytes_eq (next_id x).0 (next_id x).0) ((bytes_eq-Decides (next_id x).0 (next_id x).0).1 refl);
    valid = λ h. h;
  }

-- ---- by cases
abbrev end_of : Called → CallEnd → CallEnd
end_of (Ended end after) other = end
end_of (Stopped kind part burnt) other = other

abbrev world_of : Called → World → World
world_of (Ended end after) other = after
world_of (Stopped kind part burnt) other = other

abbrev burnt_of : Called → ℕ
burnt_of (Ended end after) = 0
burnt_of (Stopped kind part burnt) = burnt

as_end : (c : Config) (w : World) (x : CallContext) (end other : CallEnd) (after v : World) → Ended other v
    ≡ Ended end after → IsEnd c w x other v → IsEnd c w x end after
as_end c w x end other after v e h =
    let first : IsEnd c w x end v = subst (λ (k : CallEnd). IsEnd c w x k v) (ap (λ q. end_of q other) e) h in
    subst (λ (u : World). IsEnd c w x end u) (ap (λ q. world_of q v) e) first

within : (m n : ℕ) → nat_le m n ≡ true → m ≤ n
within m n e = grind (arith, nat_tests)

module _ (c : Config) (burnt : ℕ) (w : World) (x : CallContext) where
  asks_ended : (b : Bool) → nat_le (asked_gas c) x.gas ≡ b → (end : CallEnd) (after : World)
      → cond b (Ended (asking c burnt x) w) (Stopped 17 0 x.gas) ≡ Ended end after → IsEnd c w x end after
  asks_ended true room end after e =
      as_end c w x end (asking c burnt x) after w e (asking_is_end c burnt w x (within (asked_gas c) x.gas room))
  asks_ended false room end after e = absurd cc

  call_ended : (trap ask : Bool) (end : CallEnd) (after : World)
      → cond trap (Stopped 15 1 (min burnt x.gas)) (cond ask (asks c burnt w x) (Ended (returning burnt x) w))
      ≡ Ended end after → IsEnd c w x end after
  call_ended true ask end after e = absurd cc
  call_ended false true end after e = asks_ended (nat_le (asked_gas c) x.gas) refl end after e
  call_ended false false end after e = as_end c w x end (returning burnt x) after w e (returning_is_end c burnt w x)

  asks_burns : (b : Bool) → burnt_of (cond b (Ended (asking c burnt x) w) (Stopped 17 0 x.gas)) ≤ x.gas
  asks_burns true = omega arith
  asks_burns false = omega arith

  call_burns : (trap ask : Bool) → burnt_of
      (cond trap (Stopped 15 1 (min burnt x.gas)) (cond ask (asks c burnt w x) (Ended (returning burnt x) w))) ≤ x.gas
  call_burns true ask = at_most burnt x.gas
  call_burns false true = asks_burns (nat_le (asked_gas c) x.gas)
  call_burns false false = omega arith

pub burning_law : (c : Config) (burnt : ℕ) → IsCaller c (burns c burnt)
burning_law c burnt = record {
  ended =
      λ w x end after can e. call_ended c burnt w x (bytes_eq x.method (codes "trap"))
      (bytes_eq x.method (codes "ask")) end after e;
  stopped =
      λ w x kind part b can e. omega (
        arith,
        ap burnt_of e,
        call_burns c burnt w x (bytes_eq x.method (codes "trap"))
            (bytes_eq x.method (codes "ask")),
      );
}

-- ---- they leave the world, and look at nothing of it
module _ (c : Config) (burnt : ℕ) (w v : World) (x : CallContext) where
  asks_there : (b : Bool) → cond b (Ended (asking c burnt x) (over (one_account x.current) w v)) (Stopped 17 0 x.gas)
      ≡ over_called (one_account x.current) v (cond b (Ended (asking c burnt x) w) (Stopped 17 0 x.gas))
  asks_there true = refl
  asks_there false = refl

  call_there : (trap ask : Bool)
      → cond trap (Stopped 15 1 (min burnt x.gas))
      (cond ask (asks c burnt (over (one_account x.current) w v) x)
      (Ended (returning burnt x) (over (one_account x.current) w v)))
      ≡ over_called (one_account x.current) v (cond trap (Stopped 15 1 (min burnt x.gas))
      (cond ask (asks c burnt w x) (Ended (returning burnt x) w)))
  call_there true ask = refl
  call_there false true = asks_there (nat_le (asked_gas c) x.gas)
  call_there false false = refl

pub burning_local : (c : Config) (burnt : ℕ) → IsLocal (burns c burnt)
burning_local c burnt = record {
  alone = λ w v x. call_there c burnt w v x (bytes_eq x.method (codes "trap")) (bytes_eq x.method (codes "ask"));
}

-- ---- what the parts of the code answer: the end of the call, or its failure
abbrev pub Comes : Result CallEnd CallStop → World → Called → Type 0
Comes (Ok end) w called = called ≡ Ended end w
Comes (Err (Failed kind part burnt)) w called = called ≡ Stopped kind part burnt
Comes (Err Memory) w called = Unit {0}
