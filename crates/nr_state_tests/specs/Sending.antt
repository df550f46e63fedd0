-- Calls that send one token back to the account that made the receipt. This project's own.
use Rattle.std.specs.Prelude.{◌≡◌, ℕ, ◌+◌, ◌-◌, ◌<◌, ◌≤◌, Bool, true, false, cond, List, [], ◌∷◌, Option, Some, None}
use Rattle.std.specs.Prelude.{refl, nat_lt, nat_le}
use Rattle.std.specs.FinMap.{get}
use Rattle.std.proofs.Common.{ap, subst, arith, ◌∙◌}
use Rattle.std.proofs.lemmas.Bool.{leb-true, ltb-true}
use Rattle.std.proofs.lemmas.List.Sums.{sum_by-cons}
use Rattle.nr_config.specs.Config.{Config}
use Rattle.nr_fees.specs.Fees.{attached, deposit_of, exec_gas, body_gas}
use Rattle.nr_ids.specs.Derive.{derived}
use Rattle.nr_records.specs.declared.account.Account.{Account}
use Rattle.nr_records.specs.declared.action.Action.{Action}
use Rattle.nr_records.specs.declared.action.Action.TheVariants.{Transfer}
use Rattle.nr_records.specs.declared.receipt.Body.TheVariants.{Act}
use Rattle.nr_records.specs.declared.receipt.Receipt.{Receipt}
use Rattle.nr_state.specs.Calls.{Called, Ended, Stopped, IsCaller, IsEnd, body_deposits, made_deposits, made_gas}
use Rattle.nr_state.specs.Tokens.{world_tokens}
use Rattle.nr_state.specs.World.{World, with_account}
use Rattle.nr_state.specs.declared.calls.CallContext.{CallContext}
use Rattle.nr_state.specs.declared.calls.CallEnd.{CallEnd}
use Rattle.nr_state.specs.declared.calls.Returned.TheVariants.{Value}
use Rattle.nr_state.specs.Local.{IsLocal}
use Rattle.nr_state.specs.Scopes.{one_account, over, over_called}
use Rattle.nr_state.proofs.OverWorlds.{seen, account_written}
use Rattle.nr_state.proofs.ValidOwned.{itself}
use Rattle.nr_state.proofs.ValidCalls.{changes_account}
use Rattle.nr_state.proofs.ValidTokens.{moves_tokens}
use Rattle.nr_state.proofs.ValidWorlds.{with_account_kept}

-- ---- the receipt
abbrev pub sent_actions : List Action
sent_actions = Transfer 1 ∷ []

abbrev pub sent_receipt : CallContext → Receipt
sent_receipt x =
    record {
      predecessor = x.current;
      receiver = x.predecessor;
      receipt_id = derived x.receipt_id x.height.0 x.next_ordinal;
      body =
          Act (record {
            signer = x.signer;
            signer_key = x.signer_key;
            gas_price = x.gas_price;
            outputs = [];
            inputs = [];
            actions = sent_actions;
          });
    }

-- ---- the end of the call: its gas pays for executing the receipt
abbrev pub sent_end : Config → CallContext → CallEnd
sent_end c x =
    record {
      burnt = 0;
      promised = exec_gas c sent_actions;
      returned = Value [];
      made = sent_receipt x ∷ [];
      next_ordinal = x.next_ordinal + 1;
      logs = [];
    }

abbrev pub with_less : Account → Account
with_less account = record account { amount = account.amount - 1 }

-- an account without a token, or a call with too little gas, sends nothing
abbrev pub can_send : Config → ℕ → Account → Bool
can_send c gas account = cond (nat_lt 0 account.amount) (nat_le (exec_gas c sent_actions) gas) false

abbrev pub sent_by : Config → World → CallContext → Option Account → Called
sent_by c w x None = Stopped 14 0 0
sent_by c w x (Some account) =
    cond (can_send c x.gas account) (Ended (sent_end c x) (with_account w x.current (with_less account)))
    (Stopped 14 0 0)

abbrev pub sent : Config → World → CallContext → Called
sent c w x = sent_by c w x (get w.accounts x.current)

-- ---- they keep what every caller promises
abbrev Keeps : Config → World → CallContext → Called → Type 0
Keeps c w x (Ended end after) = IsEnd c w x end after
Keeps c w x (Stopped kind part burnt) = burnt ≤ x.gas

module _ (c : Config) (w : World) (x : CallContext) where
  gas_of_made : made_gas c (sent_receipt x ∷ []) ≡ exec_gas c sent_actions
  gas_of_made =
      omega (
        arith,
        sum_by-cons (λ (r : Receipt). body_gas c false r.body) (sent_receipt x) [],
        sum_by-cons attached (Transfer 1) [],
      )

  deposits_of_made : made_deposits (sent_receipt x ∷ []) ≡ 1
  deposits_of_made =
      omega (
        arith,
        sum_by-cons (λ (r : Receipt). body_deposits r.body) (sent_receipt x) [],
        sum_by-cons deposit_of (Transfer 1) [],
      )

  module _ (account : Account) (is : get w.accounts x.current ≡ Some account) (some : 0 < account.amount) (gas : exec_gas c sent_actions ≤ x.gas) where
    tokens_sent : world_tokens c w ≡ world_tokens c (with_account w x.current (with_less account)) + made_deposits
        (sent_receipt x ∷ [])
    tokens_sent =
        omega (
          arith,
          (moves_tokens c w).account_changed x.current account (with_less account) is,
          deposits_of_made,
          some,
        )

    sends : IsEnd c w x (sent_end c x) (with_account w x.current (with_less account))
    sends = record {
      gas = omega (arith, gas);
      promised = omega (arith, gas_of_made);
      tokens = tokens_sent;
      changes = changes_account x.current w account (with_less account) is refl;
      made = (record { predecessor = refl; price = refl }, tt);
      returned = tt;
      valid =
          λ v. with_account_kept c w x.current v account (with_less account) is refl refl
          (omega (arith, tokens_sent, v.tokens));
    }

  keeps_for : (account : Account) → get w.accounts x.current ≡ Some account → (a b : Bool) → nat_lt 0 account.amount
      ≡ a → nat_le (exec_gas c sent_actions) x.gas ≡ b
      → Keeps c w x (cond (cond a b false) (Ended (sent_end c x) (with_account w x.current (with_less account)))
      (Stopped 14 0 0))
  keeps_for account is true true some gas = sends account is (ltb-true _ _ some) (leb-true _ _ gas)
  keeps_for account is true false some gas = omega arith
  keeps_for account is false b some gas = omega arith

  keeps_by : (o : Option Account) → get w.accounts x.current ≡ o → Keeps c w x (sent_by c w x o)
  keeps_by None is = omega arith
  keeps_by (Some account) is =
      keeps_for account is (nat_lt 0 account.amount) (nat_le (exec_gas c sent_actions) x.gas) refl refl

  keeps : (called : Called) → sent c w x ≡ called → Keeps c w x called
  keeps called e = let P : Called → Type 0 = Keeps c w x in subst P e (keeps_by (get w.accounts x.current) refl)

pub sent_law : (c : Config) → IsCaller c (sent c)
sent_law c = record {
  ended = λ w x end after can e. keeps c w x (Ended end after) e;
  stopped = λ w x kind part burnt can e. keeps c w x (Stopped kind part burnt) e;
}

-- ---- they look at the current account alone
module _ (c : Config) (w v : World) (x : CallContext) where
  sent_where : (b : Bool) (account : Account)
      → cond b (Ended (sent_end c x) (with_account (over (one_account x.current) w v) x.current (with_less account)))
      (Stopped 14 0 0)
      ≡ over_called (one_account x.current) v (cond b
      (Ended (sent_end c x) (with_account w x.current (with_less account))) (Stopped 14 0 0))
  sent_where true account =
      ap (Ended (sent_end c x)) (account_written (one_account x.current) v w x.current (with_less account)
      (itself x.current))
  sent_where false account = refl

  sent_there : (o : Option Account) → sent_by c (over (one_account x.current) w v) x o
      ≡ over_called (one_account x.current) v (sent_by c w x o)
  sent_there None = refl
  sent_there (Some account) = sent_where (can_send c x.gas account) account

pub sent_local : (c : Config) → IsLocal (sent c)
sent_local c = record {
  alone = λ w v x.
      ap (sent_by c (over (one_account x.current) w v) x)
      (seen (one_account x.current) v w x.current (itself x.current))
      ∙ sent_there c w v x (get w.accounts x.current);
}
