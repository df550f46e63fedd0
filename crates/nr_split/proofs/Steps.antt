-- The loops, one turn after the other.
use Rattle.std.proofs.Common.{◌≡◌, ℕ, ◌+◌, ◌<◌, Bool, List, [], ◌∷◌, ◌++◌, length, map, take, get_or, Ok, Err, refl}
use Rattle.std.proofs.Common.{sym, ap, ◌∙◌, append_assoc, arith}
use Rattle.std.specs.Prelude.{IfOk, Result}
use Rattle.std.specs.declared.alloc.AllocError.{AllocError}
use Rattle.std.specs.Cmp.{nat_cmp_total}
use Rattle.std.specs.FinMap.{entries, from_entries, from_entries_push, insert, nat_cmp-IsAntisymmetric}
use Rattle.std.specs.List.{range_with_len}
use Rattle.std.specs.Ordering.{nat_cmp}
use Rattle.std.proofs.lemmas.List.{append-nil, length-take, take_more}
use Rattle.std.proofs.lemmas.List.FromFn.{get_or-map-range_with_len, map-range_with_len_more}
use Rattle.nr_columns.specs.Columns.{Columns, laid_columns}
use Rattle.nr_columns.specs.Entries.{contents_of, pairs_of}
use Rattle.nr_columns.specs.View.{columns_in}
use Rattle.nr_columns.specs.declared.entry.Entry.{Entry}
use Rattle.nr_layout.specs.Layout.{out_to, parts}
use Rattle.nr_records.specs.declared.receipt.Receipt.{Receipt}
use Rattle.nr_split.specs.Owned.{owned_of}
use Rattle.nr_split.specs.Split.{delayed_of, entries_cut, entries_in, with_queue, with_receipts}
use Rattle.nr_state.proofs.QueueNumbers.{after_all, numbered-push}
use Rattle.nr_state.specs.Flat.{numbered}
use Rattle.nr_state.specs.FromEntries.{world_from}

-- ---- a receipt more at the end of the queue
one_more : (ds : List Receipt) (r : Receipt) (n : ℕ) → n ≡ length ds
    → insert (from_entries {R = nat_cmp} (numbered 0 ds)) n r ≡ from_entries (numbered 0 (ds ++ r ∷ []))
one_more ds r n is =
    let at : 0 + length ds ≡ n = omega (arith, is) in
    ap (λ m. insert (from_entries (numbered 0 ds)) m r) (sym at)
    ∙ sym (ap from_entries (numbered-push 0 ds r)
    ∙ from_entries_push nat_cmp_total nat_cmp-IsAntisymmetric (numbered 0 ds) (0 + length ds) r
    (after_all (0 + length ds) 0 ds (omega arith)))

pub receipts_step : (k j l : Columns) (ds : List Receipt) (n : ℕ) (r : Receipt) → n < length ds → r ≡ get_or ds n r
    → j ≡ with_receipts k (take n ds) → l ≡ record j { delayed = insert j.delayed n r }
    → l ≡ with_receipts k (take (n + 1) ds)
receipts_step k j l ds n r below is before now =
    let long : n ≡ length (take n ds) = omega (arith, below, length-take n ds) in
    let more : take n ds ++ r ∷ [] ≡ take (n + 1) ds =
    ap (λ y. take n ds ++ y ∷ []) is ∙ sym (take_more ds n r below) in
    now ∙ ap (λ (j : Columns). record j { delayed = insert j.delayed n r }) before
    ∙ (λ i. record k { delayed = (one_more (take n ds) r n long ∙ ap (λ l. from_entries (numbered 0 l)) more) i })

-- ---- what a shard gets
pub part_at : (bs : List (List ℕ)) (n : ℕ) (list : List Receipt) (i : ℕ) (d : List Receipt) → i < n
    → get_or (parts bs n list) i d ≡ out_to bs i list
part_at bs n list i d lt =
    let e : 0 + i ≡ i = omega arith in
    get_or-map-range_with_len (λ d. out_to bs d list) 0 n i i d lt e

-- ---- a world more
delayed_push : (worlds : List (List Entry)) (es : List Entry)
    → delayed_of (worlds ++ es ∷ []) ≡ delayed_of worlds ++ (world_from es).delayed
delayed_push [] es = append-nil (world_from es).delayed
delayed_push (w ∷ worlds) es =
    ap (λ l. (world_from w).delayed ++ l) (delayed_push worlds es)
    ∙ sym (append_assoc (world_from w).delayed (delayed_of worlds) (world_from es).delayed)

pub delayed_step : (worlds : List (List Entry)) (n : ℕ) (es : List Entry) (all more : List Receipt) → n < length worlds
    → es ≡ get_or worlds n es → all ≡ delayed_of (take n worlds) → more ≡ all ++ (world_from es).delayed
    → more ≡ delayed_of (take (n + 1) worlds)
delayed_step worlds n es all more below is before now =
    now ∙ ap (λ l. l ++ (world_from es).delayed) before ∙ sym (delayed_push (take n worlds) es)
    ∙ ap delayed_of (ap (λ y. take n worlds ++ y ∷ []) is ∙ sym (take_more worlds n es below))

-- ---- the answer of one cut
told_back : (es : List Entry)
    → es ≡ map (λ (p : List ℕ × List ℕ). record { key = p.0; value = p.1 }) (pairs_of es)
told_back [] = refl
told_back (e ∷ es) = ap (λ l. e ∷ l) (told_back es)

pub cut_answer : (r : Result (List Entry) AllocError) (k j : Columns) (owned : List Entry) (x : List ℕ → Bool)
    (worlds : List (List Entry)) (delayed : List Receipt)
    → IfOk r (λ found. pairs_of found ≡ entries (laid_columns k)) → k ≡ with_queue j delayed
    → j ≡ columns_in (contents_of owned) → owned ≡ owned_of x worlds
    → IfOk r (λ found. found ≡ entries_cut x worlds delayed)
cut_answer (Ok found) k j owned x worlds delayed pairs k_is j_is owned_is =
    told_back found
    ∙ ap (map (λ (p : List ℕ × List ℕ). record { key = p.0; value = p.1 }))
    (pairs ∙ ap (λ k. entries (laid_columns k)) (k_is ∙ ap (λ j. with_queue j delayed) j_is))
    ∙ ap (λ es. entries_in (laid_columns (with_queue (columns_in (contents_of es)) delayed))) owned_is
cut_answer (Err e) k j owned x worlds delayed pairs k_is j_is owned_is = tt

-- ---- a shard more
pub mapped_step : {A : Type 0} (f : ℕ → A) (n : ℕ) → map f (range_with_len 0 (n + 1))
    ≡ map f (range_with_len 0 n) ++ f n ∷ []
mapped_step f n =
    let e : 0 + n ≡ n = omega arith in
    map-range_with_len_more f 0 n n e
