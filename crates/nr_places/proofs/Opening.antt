-- What opening a chunk does to the receipts that wait.
use Rattle.std.proofs.Common.{◌≡◌, ℕ, ◌+◌, Bool, true, false, List, [], ◌∷◌, Ok, Err, refl, ap, ◌∙◌, arith}
use Rattle.std.specs.Prelude.{fold, sum_by}
use Rattle.std.proofs.lemmas.List.Sums.{sum_by-append}
use Rattle.nr_chunk.proofs.Converted.{CanGo, convert_goes}
use Rattle.nr_chunk.specs.Chain.{Chain}
use Rattle.nr_chunk.specs.Chunk.{Opening, is_local, with_converted, put_aside, by_conversion, convert_next, convert_all, served_local, open_chunk}
use Rattle.nr_chunk.specs.Serving.{Pays, Promise}
use Rattle.nr_chunk.specs.Views.{Working}
use Rattle.nr_config.specs.Config.{Config}
use Rattle.nr_places.specs.Places.{waiting, executes_all, executes_delayed, executes_opened}
use Rattle.nr_places.proofs.Waiting.{all_wait, all_can, queue_waits}
use Rattle.nr_records.specs.declared.receipt.Receipt.{Receipt}
use Rattle.nr_records.specs.declared.transaction.Transaction.{Transaction}
use Rattle.nr_txconvert.specs.Conversion.{Conversion, convert}

-- ---- what was made of all transactions can be served
module _ (c : Config) (pays : Pays c) where
  pub all_go : (txs : List Transaction) (o : Opening) → CanGo c o → CanGo c (fold (convert_next c) o txs)
  all_go [] o can = can
  all_go (tx ∷ txs) o can = all_go txs (convert_next c o tx) (convert_goes c pays o tx can)

module _ (x : Chain) (p : Promise x.config x.call) (pays : Pays x.config) (f : Receipt → ℕ) where
  abbrev c : Config
  c = x.config

  aside_world : (b : Bool) (k : Working) (local : List Receipt) (r : Receipt) → (put_aside b k local r).working.world ≡ k.world
  aside_world true k local r = refl
  aside_world false k local r = refl

  -- ---- converting leaves them
  converted_waits : (o : Opening) (tx : Transaction) → CanGo c o → waiting f (convert_next c o tx).working.world ≡ waiting f o.working.world
  unfolding convert_next
  converted_waits o tx can = by (convert c o.working.world tx o.working.place) refl
    where
      k : Working
      k = o.working

      by : (v : Conversion) → convert c k.world tx k.place ≡ v → waiting f (by_conversion o tx v).working.world ≡ waiting f k.world
      by (Ok (w, made)) e =
          let paid = pays k.world tx k.place w made can.0.valid e in
          ap (waiting f) (aside_world (is_local tx) (with_converted k tx w made) o.local made.receipt) ∙ ap (waiting f) paid.rest
      by (Err fault) e = refl

  -- the same receipts wait
  all_converted : (txs : List Transaction) (o : Opening) → CanGo c o → waiting f (fold (convert_next c) o txs).working.world ≡ waiting f o.working.world
  all_converted [] o can = refl
  all_converted (tx ∷ txs) o can = all_converted txs (convert_next c o tx) (convert_goes c pays o tx can) ∙ converted_waits o tx can

  -- ---- the whole
  pub opened_waits : (k : Working) (txs : List Transaction) → CanGo c (record { working = k; local = [] })
      → waiting f (open_chunk c x.call k txs).world + sum_by f (executes_opened x (convert_all c k txs)) ≡ waiting f k.world + sum_by f (convert_all c k txs).local
  unfolding open_chunk
  opened_waits k txs can =
      let o : Opening = convert_all c k txs in
      let k1 : Working = served_local c x.call o in
      let begun : Opening = record { working = k; local = [] } in
      let ready = (all_go c pays txs begun can).0 in
      omega (
        arith,
        all_converted txs begun can,
        all_wait x p f o.local o.working ready,
        queue_waits x p f k1.world.delayed k1 (all_can x p o.local o.working ready) refl,
        sum_by-append f (executes_all x o.working o.local) (executes_delayed x k1),
      )
