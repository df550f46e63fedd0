-- What converting a transaction keeps.
use Rattle.std.proofs.Common.{◌≡◌, ℕ, ◌+◌, ◌^◌, ◌<◌, ◌≤◌, Bool, true, false, List, [], ◌∷◌, ◌++◌, length, drop, get_or}
use Rattle.std.proofs.Common.{Ok, Err, refl, sym, ap, subst, ◌∙◌, arith}
use Rattle.std.specs.Prelude.{fold}
use Rattle.std.proofs.lemmas.List.{drop_more}
use Rattle.std.proofs.lemmas.List.Sums.{sum_by-append}
use Rattle.sha2.specs.Sha256.{sha256}
use Rattle.nr_chunk.specs.Chain.{AreBounded, working_tokens}
use Rattle.nr_chunk.specs.Chunk.{Opening, with_line, is_local, with_converted, put_aside, by_conversion, convert_next}
use Rattle.nr_chunk.specs.Chunk.{convert_all, serve_all, serve_delayed, served_local, open_chunk}
use Rattle.nr_chunk.specs.Refused.{refused}
use Rattle.nr_chunk.specs.Serving.{CanServe, Pays}
use Rattle.nr_chunk.specs.Views.{Working}
use Rattle.nr_chunk.specs.Works.{working_of}
use Rattle.nr_chunk.specs.declared.work.Work.{Work}
use Rattle.nr_chunk.specs.Served.{one_tokens}
use Rattle.nr_config.specs.Config.{Config}
use Rattle.nr_fees.specs.Fees.{receipt_tokens}
use Rattle.nr_ids.specs.declared.key.Hash32.{Hash32}
use Rattle.nr_records.specs.Transactions.{transaction_bytes}
use Rattle.nr_records.specs.declared.receipt.Receipt.{Receipt}
use Rattle.nr_records.specs.declared.transaction.Transaction.{Transaction}
use Rattle.nr_state.specs.Calls.{Called}
use Rattle.nr_state.specs.Tokens.{list_tokens}
use Rattle.nr_state.specs.Valid.{IsBounded, IsValidWorld}
use Rattle.nr_state.specs.View.{StateView, with_world}
use Rattle.nr_state.specs.World.{World}
use Rattle.nr_state.specs.declared.calls.CallContext.{CallContext}
use Rattle.nr_txconvert.specs.Conversion.{Conversion, convert, transaction_hash}
use Rattle.nr_txconvert.specs.declared.converted.Converted.{Converted}
use Rattle.nr_txconvert.specs.declared.fault.TxFault.{TxFault}

append_tokens : (c : Config) (xs : List Receipt) (r : Receipt)
    → list_tokens c (xs ++ r ∷ []) ≡ list_tokens c xs + receipt_tokens c r
append_tokens c xs r = omega (arith, sum_by-append (receipt_tokens c) xs (r ∷ []), one_tokens c r)

push_bounded : (c : Config) (xs : List Receipt) (r : Receipt) → AreBounded c xs → IsBounded c r
    → AreBounded c (xs ++ r ∷ [])
push_bounded c [] r all one = (one, tt)
push_bounded c (x ∷ xs) r all one = (all.0, push_bounded c xs r all.1 one)

-- what was made of the transactions so far can be served
abbrev pub CanGo : Config → Opening → Type 0
CanGo c o = CanServe c o.working o.local × (o.working.place.price < 2 ^ 64)

abbrev pub at_work : List Receipt → Working → Opening
at_work local k = record { working = k; local = local }

abbrev pub with_local : Working → List Receipt → Opening
with_local k local = record { working = k; local = local }

-- ---- the code's own chunk
pub hash_is : (hash : Hash32) (tx : Transaction) → hash.0 ≡ sha256 (transaction_bytes tx) → hash ≡ transaction_hash tx
hash_is hash tx e = ap (λ (bytes : List ℕ). record { 0 = bytes }) e

pub converted_is : (c : Config) (work : Work) (local : List Receipt) (tx : Transaction) (new : StateView)
    (made : Converted) → convert c work.state.world tx work.place ≡ Ok (new.world, made)
    → new ≡ with_world work.state new.world
    → put_aside (is_local tx) (with_converted (working_of (record work { state = new })) tx new.world made) local
    made.receipt ≡ convert_next c (record { working = working_of work; local = local }) tx
unfolding convert_next
converted_is c work local tx new made e same =
    ap (λ (s : StateView). put_aside (is_local tx)
    (with_converted (working_of (record work { state = s })) tx new.world made) local made.receipt) same
    ∙ sym (ap (by_conversion (record { working = working_of work; local = local }) tx) e)

pub refused_is : (c : Config) (work : Work) (local : List Receipt) (tx : Transaction) (new : StateView)
    (fault : TxFault) → convert c work.state.world tx work.place ≡ Err fault → new ≡ work.state
    → record {
      working = with_line (working_of (record work { state = new })) (refused (transaction_hash tx) fault);
      local = local;
    } ≡ convert_next c (record { working = working_of work; local = local }) tx
unfolding convert_next
refused_is c work local tx new fault e same =
    ap (λ (s : StateView). record {
      working = with_line (working_of (record work { state = s })) (refused (transaction_hash tx) fault);
      local = local;
    }) same
    ∙ sym (ap (by_conversion (record { working = working_of work; local = local }) tx) e)

-- ---- the turns of the loop
pub next_turn : {A B : Type 0} (f : B → A → B) (b : B) (xs : List A) (i : ℕ) (x : A) → i < length xs → x ≡ get_or xs i x
    → fold f b (drop i xs) ≡ fold f (f b x) (drop (i + 1) xs)
next_turn f b xs i x below is = ap (fold f b) (drop_more xs i x below ∙ ap (λ y. y ∷ drop (i + 1) xs) (sym is))

pub opens : (c : Config) (call : World → CallContext
    → Called) (k : Working) (txs : List Transaction) (o : Opening) (k1 k2 : Working) → o ≡ convert_all c k txs
    → k1 ≡ serve_all c call o.working o.local → k2 ≡ serve_delayed c call k1 → k2 ≡ open_chunk c call k txs
unfolding open_chunk
opens c call k txs o k1 k2 d e f = f ∙ ap (serve_delayed c call) (e ∙ ap (served_local c call) d)

module _ (c : Config) (pays : Pays c) where
  aside : (b : Bool) (k : Working) (local : List Receipt) (r : Receipt) (before : ℕ) → k.config ≡ c
      → IsValidWorld c k.world → AreBounded c local → IsBounded c r
      → working_tokens c k + receipt_tokens c r ≡ before → before + list_tokens c local ≤ 2 ^ 127
      → CanServe c (put_aside b k local r).working (put_aside b k local r).local
  aside true k local r before config valid bounded one e room =
      record {
        config = config;
        valid = valid;
        coming = push_bounded c local r bounded one;
        room = omega (arith, e, room, append_tokens c local r);
      }
  aside false k local r before config valid bounded one e room =
      record {
        config = config;
        valid = valid;
        coming = bounded;
        room = omega (arith, e, room, append_tokens c k.outgoing r);
      }

  aside_price : (b : Bool) (k : Working) (local : List Receipt) (r : Receipt)
      → (put_aside b k local r).working.place ≡ k.place
  aside_price true k local r = refl
  aside_price false k local r = refl

  pub convert_goes : (o : Opening) (tx : Transaction) → CanGo c o → CanGo c (convert_next c o tx)
  unfolding convert_next
  convert_goes o tx can = by (convert c o.working.world tx o.working.place) refl
    where
      k : Working
      k = o.working

      by : (v : Conversion) → convert c k.world tx k.place ≡ v → CanGo c (by_conversion o tx v)
      by (Ok (w, made)) e =
          let paid = pays k.world tx k.place w made can.0.valid e in
          let next : Working = with_converted k tx w made in (
            aside _ next o.local made.receipt (working_tokens c k) can.0.config paid.valid can.0.coming
                (paid.bounded can.1) (omega (arith, paid.tokens)) can.0.room,
            subst (λ p. p.price < 2 ^ 64) (sym (aside_price _ next o.local made.receipt)) can.1,
          )
      by (Err fault) e = (
        record {
          config = can.0.config;
          valid = can.0.valid;
          coming = can.0.coming;
          room = can.0.room;
        },
        can.1,
      )

  pub paid_burnt : (k : Working) (tx : Transaction) (local : List Receipt) (w : World) (made : Converted)
      → CanServe c k local → convert c k.world tx k.place ≡ Ok (w, made) → k.burnt + made.burnt < 2 ^ 128
  paid_burnt k tx local w made can e = omega (arith, (pays k.world tx k.place w made can.valid e).tokens, can.room)
