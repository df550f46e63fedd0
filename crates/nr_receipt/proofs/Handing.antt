-- Outputs that are handed on to the first receipt of an id.
use Rattle.std.proofs.Common.{◌≡◌, ℕ, zero, suc, ◌<◌, true, false, List, [], ◌∷◌, length, get_or, set, refl, sym, ap, ◌∙◌, arith}
use Rattle.std.specs.Str.{bytes_eq}
use Rattle.std.proofs.lemmas.Option.{get_or_from_slice_get, slice_get_read}
use Rattle.nr_ids.specs.declared.key.Hash32.{Hash32}
use Rattle.nr_receipt.specs.Drawing.{handed_on, with_outputs}
use Rattle.nr_records.specs.declared.receipt.Body.{Body}
use Rattle.nr_records.specs.declared.receipt.DataReceiver.{DataReceiver}
use Rattle.nr_records.specs.declared.receipt.Receipt.{Receipt}

module _ (outputs : List DataReceiver) (id : Hash32) where
  abbrev pub handed : Receipt → Receipt
  handed r = record r { body = with_outputs outputs r.body }

  pub handed_first : (made : List Receipt) (i : ℕ) (d : Receipt) → i < length made → ((k : ℕ) → k < i → bytes_eq (get_or made k d).receipt_id.0 id.0 ≡ false)
      → bytes_eq (get_or made i d).receipt_id.0 id.0 ≡ true → handed_on outputs id made ≡ set made i (handed (get_or made i d))
  handed_first [] i d inside none e = absurd (omega (arith, inside))
  handed_first (r ∷ rest) zero d inside none e = rw e refl
  handed_first (r ∷ rest) (suc i) d inside none e =
      let first : bytes_eq r.receipt_id.0 id.0 ≡ false = none zero (omega arith) in
      rw first (ap (λ (list : List Receipt). r ∷ list) (handed_first rest i d (omega (arith, inside)) (λ k h. none (suc k) (omega (arith, h))) e))

  pub handed_none : (made : List Receipt) → ((k : ℕ) (d : Receipt) → k < length made → bytes_eq (get_or made k d).receipt_id.0 id.0 ≡ false) → handed_on outputs id made ≡ made
  handed_none [] none = refl
  handed_none (r ∷ rest) none =
      let first : bytes_eq r.receipt_id.0 id.0 ≡ false = none zero r (omega arith) in
      rw first (ap (λ (list : List Receipt). r ∷ list) (handed_none rest (λ k d h. none (suc k) d (omega (arith, h)))))

  -- a receipt that was read at an index
  pub handed_at : (made made0 : List Receipt) (i : ℕ) (x y : Receipt) (body : Body) → made ≡ made0 → i < length made → ((k : ℕ) (d : Receipt) → k < i → bytes_eq (get_or made k d).receipt_id.0 id.0 ≡ false)
      → x ≡ get_or made i x → bytes_eq (get_or made i x).receipt_id.0 id.0 ≡ true → body ≡ with_outputs outputs (get_or made i y).body
      → set made i (record (get_or made i y) { body = body }) ≡ handed_on outputs id made0
  handed_at made made0 i x y body same inside none at e changed =
      let read : get_or made i y ≡ x = get_or_from_slice_get made i x y (slice_get_read made (length made) i x refl inside at) in
      let here : bytes_eq (get_or made i y).receipt_id.0 id.0 ≡ true = ap (λ (r : Receipt). bytes_eq r.receipt_id.0 id.0) (read ∙ at) ∙ e in
      ap (λ (b : Body). set made i (record (get_or made i y) { body = b })) changed ∙ sym (handed_first made i y inside (λ k h. none k y h) here) ∙ ap (handed_on outputs id) same
