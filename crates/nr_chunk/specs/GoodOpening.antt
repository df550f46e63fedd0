-- What opening a chunk makes of a good world.
use Rattle.std.proofs.Common.{◌≡◌, ℕ, ◌+◌, ◌^◌, ◌<◌, ◌≤◌, Bool, true, false, List, [], ◌∷◌, Option, Some, None, Ok, Err}
use Rattle.std.proofs.Common.{refl, sym, ap, subst, ◌∙◌, arith}
use Rattle.std.specs.Prelude.{fold}
use Rattle.std.specs.Result.{result_unwrap_or}
use Rattle.std.specs.FinMap.{get}
use Rattle.std.proofs.lemmas.List.Sums.{sum_by_push}
use Rattle.nr_chunk.specs.Chain.{working_tokens}
use Rattle.nr_chunk.specs.Chunk.{Opening, begun, is_local, with_converted, put_aside, by_conversion, convert_next}
use Rattle.nr_chunk.specs.Chunk.{convert_all, served_local, open_chunk}
use Rattle.nr_chunk.specs.Goodness.{IsSmall, IsGood, AreGood, IsFine, IsGoodWork, IsGoodWorld, large}
use Rattle.nr_chunk.specs.Serving.{Pays, Promise}
use Rattle.nr_chunk.specs.Views.{Kept, Working}
use Rattle.nr_chunk.specs.GoodServing.{Holds, all_served, queue_served}
use Rattle.nr_config.specs.Config.{Config}
use Rattle.nr_fees.specs.Fees.{receipt_tokens}
use Rattle.nr_ids.specs.Grammar.{is_system}
use Rattle.nr_ids.specs.declared.number.ShardId.{ShardId}
use Rattle.nr_overlap.proofs.Basics.{each_append}
use Rattle.nr_receipt.proofs.Executing.{has_small_calls}
use Rattle.nr_records.specs.declared.access_key.AccessKey.{AccessKey}
use Rattle.nr_records.specs.declared.account.Account.{Account}
use Rattle.nr_records.specs.declared.receipt.Receipt.{Receipt}
use Rattle.nr_records.specs.declared.transaction.Transaction.{Transaction}
use Rattle.nr_state.specs.Calls.{Called}
use Rattle.nr_state.specs.Tokens.{world_tokens, list_tokens, postponed_sum, delayed_sum}
use Rattle.nr_state.specs.Valid.{IsValidWorld}
use Rattle.nr_state.specs.World.{World}
use Rattle.nr_state.specs.declared.calls.CallContext.{CallContext}
use Rattle.nr_state.specs.declared.place.Place.{Place}
use Rattle.nr_txconvert.specs.Conversion.{Conversion, convert, converted, charged, unless_refused, by_key, by_signer}
use Rattle.nr_txconvert.specs.Keeping.{IsPaid}
use Rattle.nr_txconvert.specs.Refusals.{refusals, first_refusal}
use Rattle.nr_txconvert.specs.declared.converted.Converted.{Converted}
use Rattle.nr_txconvert.specs.declared.fault.TxFault.{TxFault}

-- ---- what is converted isn't the system's
module _ (c : Config) (w : World) (tx : Transaction) (place : Place) (after : World) (made : Converted)
    (valid : IsValidWorld c w) where
  at_refusal : (account : Account) (key : AccessKey) (o : Option TxFault) → get w.accounts tx.signer ≡ Some account
      → unless_refused c w tx place account key o ≡ Ok (after, made) → is_system made.receipt.predecessor ≡ false
  at_refusal account key None signer is =
      let pair : (charged c w tx place.price account key, converted c tx place) ≡ (after, made) =
      ap (λ r. result_unwrap_or r (charged c w tx place.price account key, converted c tx place)) is in
      let from : tx.signer ≡ made.receipt.predecessor = ap (λ p. p.1.receipt.predecessor) pair in
      ap is_system (sym from) ∙ valid.accounts.no_system tx.signer (rw signer refl)
  at_refusal account key (Some fault) signer is = absurd cc

  at_key : (account : Account) (o : Option AccessKey) → get w.accounts tx.signer ≡ Some account
      → by_key c w tx place account o ≡ Ok (after, made) → is_system made.receipt.predecessor ≡ false
  at_key account None signer is = absurd cc
  at_key account (Some key) signer is =
      at_refusal account key (first_refusal (refusals c tx place.price account key)) signer is

  at_signer : (o : Option Account) → get w.accounts tx.signer ≡ o → by_signer c w tx place o ≡ Ok (after, made)
      → is_system made.receipt.predecessor ≡ false
  at_signer None signer is = absurd cc
  at_signer (Some account) signer is = at_key account (get w.keys (tx.signer, tx.public_key)) signer is

  pub converted_plain : convert c w tx place ≡ Ok (after, made) → is_system made.receipt.predecessor ≡ false
  unfolding convert
  converted_plain is = at_signer (get w.accounts tx.signer) refl is

-- ---- a chunk that has just begun
pub begun_holds : (c : Config) (w : Kept) (shard : ShardId) (place : Place) → IsGoodWorld c w → place.price < 2 ^ 64
    → Holds c (world_tokens c w.world) (begun w shard place)
begun_holds c w shard place good price =
    record {
      good =
          record {
            config = good.config;
            valid = good.valid;
            fine = record { whole = refl; sent = tt; small = good.small; price = price };
          };
      tokens = omega arith;
    }

module _ (c : Config) (pays : Pays c) where
  -- ---- what was made of the transactions so far, with so many tokens in all
  record IsOpening (t : ℕ) (o : Opening) : Type 0 where
    good : IsGoodWork c o.working
    local : AreGood c o.local
    tokens : working_tokens c o.working + list_tokens c o.local ≡ t

  -- the lines, and how many are local, are free
  as_good : (k l : Working) → l.whole ≡ k.whole → l.config ≡ k.config → l.place ≡ k.place → l.world ≡ k.world
      → AreGood c l.outgoing → IsGoodWork c k → IsGoodWork c l
  as_good k l whole config place world sent good =
      record {
        config = config ∙ good.config;
        valid = subst (IsValidWorld c) (sym world) good.valid;
        fine =
            record {
              whole = whole ∙ good.fine.whole;
              sent = sent;
              small = subst IsSmall (sym world) good.fine.small;
              price = subst (λ (p : Place). p.price < 2 ^ 64) (sym place) good.fine.price;
            };
      }

  aside_good : (b : Bool) (t : ℕ) (k : Working) (local : List Receipt) (r : Receipt) → IsGoodWork c k → AreGood c local
      → IsGood c r → working_tokens c k + receipt_tokens c r + list_tokens c local ≡ t
      → IsOpening t (put_aside b k local r)
  aside_good true t k local r good others one e =
      record {
        good = as_good k (put_aside true k local r).working refl refl refl refl good.fine.sent good;
        local = each_append (IsGood c) local (r ∷ []) others (one, tt);
        tokens = omega (arith, e, sum_by_push (receipt_tokens c) local r);
      }
  aside_good false t k local r good others one e =
      record {
        good =
            as_good k (put_aside false k local r).working refl refl refl refl
            (each_append (IsGood c) k.outgoing (r ∷ []) good.fine.sent (one, tt)) good;
        local = others;
        tokens = omega (arith, e, sum_by_push (receipt_tokens c) k.outgoing r);
      }

  converted_good : (t : ℕ) (o : Opening) (tx : Transaction) → IsOpening t o → IsOpening t (convert_next c o tx)
  unfolding convert_next
  converted_good t o tx h = by (convert c o.working.world tx o.working.place) refl
    where
      k : Working
      k = o.working

      fine : IsFine c k
      fine = h.good.fine

      by : (v : Conversion) → convert c k.world tx k.place ≡ v → IsOpening t (by_conversion o tx v)
      by (Ok (w, made)) e =
          let paid : IsPaid c k.world k.place.price w made = pays k.world tx k.place w made h.good.valid e in
          let next : Working = with_converted k tx w made in
          let small : IsSmall w =
          record {
            postponed = ap (postponed_sum large) paid.rest ∙ fine.small.postponed;
            delayed = ap (delayed_sum large) paid.rest ∙ fine.small.delayed;
          } in
          let plain : is_system made.receipt.predecessor ≡ false =
          converted_plain c k.world tx k.place w made h.good.valid e in
          let bounded = paid.bounded fine.price in
          aside_good (is_local tx) t next o.local made.receipt
          (record {
            config = h.good.config;
            valid = paid.valid;
            fine = record { whole = fine.whole; sent = fine.sent; small = small; price = fine.price };
          }) h.local
          (record {
            bounded = bounded;
            calls = has_small_calls c made.receipt bounded plain;
          }) (omega (arith, paid.tokens, h.tokens))
      by (Err fault) e =
          record {
            good = as_good k (by_conversion o tx (Err fault)).working refl refl refl refl fine.sent h.good;
            local = h.local;
            tokens = h.tokens;
          }

  all_converted : (txs : List Transaction) (t : ℕ) (o : Opening) → IsOpening t o
      → IsOpening t (fold (convert_next c) o txs)
  all_converted [] t o h = h
  all_converted (tx ∷ txs) t o h = all_converted txs t (convert_next c o tx) (converted_good t o tx h)

  -- ---- the whole
  pub opened_holds : (call : World → CallContext → Called) → Promise c call
      → (t : ℕ) (k : Working) (txs : List Transaction) → Holds c t k → t ≤ 2 ^ 127 → Holds c t (open_chunk c call k txs)
  unfolding open_chunk
  opened_holds call p t k txs h few =
      let o : Opening = convert_all c k txs in
      let all : IsOpening t o = all_converted txs t (record {
        working = k;
        local = [];
      }) (record { good = h.good; local = tt; tokens = omega (arith, h.tokens) }) in
      let held : Holds c (working_tokens c o.working) o.working = record { good = all.good; tokens = refl } in
      let served : Holds c (working_tokens c o.working + list_tokens c o.local) (served_local c call o) =
      all_served c call p o.local (working_tokens c o.working) o.working held all.local
      (omega (arith, all.tokens, few)) in
      queue_served c call p t (served_local c call o)
      (subst (λ (n : ℕ). Holds c n (served_local c call o)) all.tokens served) few
