-- The file of a gathered chunk is read as it is spelled: what is read is spelled so, and what is spelled so is read.
use Rattle.std.proofs.Common.{◌≡◌, ℕ, true, List, ◌++◌, Ok, Err, refl, sym, ap, subst, ◌∙◌, append_assoc}
use Rattle.std.specs.Prelude.{Result, IfOk, OnOk}
use Rattle.std.specs.Str.{bytes_eq}
use Rattle.std.proofs.lemmas.Slice.Eq.{bytes_eq-Decides}
use Rattle.nr_bytes.specs.Answers.{Gives}
use Rattle.nr_bytes.specs.Fields.{pair}
use Rattle.nr_bytes.specs.Numbers.{IsBytes}
use Rattle.nr_bytes.specs.Spelling.{IsRead, HasLength, Passes, in_turn, Both, Takes}
use Rattle.nr_bytes.proofs.Combined.{list_law}
use Rattle.nr_bytes.proofs.Fields.{raw_law, nat_law, blob_law}
use Rattle.nr_bytes.proofs.Values.{tested_law, pair_law, mapped_case}
use Rattle.nr_bytes.proofs.Whole.{whole_again, whole_taken}
use Rattle.nr_ids.specs.Keys.{hash_bytes}
use Rattle.nr_layout.specs.LayoutLaw.{layout_law}
use Rattle.nr_layout.specs.Reading.{layout_bytes}
use Rattle.nr_records.specs.Fault.{record_fault}
use Rattle.nr_records.specs.IdLaws.{hash_law}
use Rattle.nr_records.specs.OptionLaw.{option_law}
use Rattle.nr_records.specs.Reading.{all_of, raw_at}
use Rattle.nr_records.specs.ReceiptLaws.{receipt_law}
use Rattle.nr_records.specs.TransactionLaw.{transaction_law}
use Rattle.nr_records.specs.declared.fault.RecordFault.{RecordFault}
use Rattle.nr_records.specs.declared.fault.RecordFault.TheVariants.{BadOrdinal}
use Rattle.nr_gathered.specs.Files.{magic, magic_at, Fields, fields_at, gathered_of, gathered_at, gathered_in, gathered_bytes, with_fault, place_bytes, lists_bytes, FitsGathered}
use Rattle.nr_gathered.specs.declared.gathered.Gathered.{Gathered}
use Rattle.nr_gathered.specs.declared.fault.GatheredFault.{GatheredFault}
use Rattle.nr_gathered.specs.declared.fault.GatheredFault.TheVariants.{Memory}

-- ---- the word
abbrev IsWord : List ℕ → Type 0
IsWord = Passes (HasLength 4) (bytes_eq magic)

word_law : IsRead magic_at (λ word. word) IsWord
word_law = tested_law (bytes_eq magic) BadOrdinal (raw_at 4) (λ word. word) (HasLength 4) (raw_law record_fault 4)

is_word : (word : List ℕ) → bytes_eq magic word ≡ true → word ≡ magic
is_word word e = sym ((bytes_eq-Decides magic word).0 e)

is_magic : IsWord magic
is_magic = (refl, (bytes_eq-Decides magic magic).1 refl)

-- ---- the fields
abbrev fields_of : Gathered → Fields
fields_of g = (g.prior_root, (g.layout, ((g.height.0, (g.timestamp, (g.price, g.shard.0))), (g.transactions, (g.taken, g.texts)))))

abbrev fields_bytes : Fields → List ℕ
fields_bytes f = let g = gathered_of f in hash_bytes g.prior_root ++ (layout_bytes g.layout ++ (place_bytes g ++ lists_bytes g))

abbrev AreFields : Fields → Type 0
AreFields f = FitsGathered (gathered_of f)

fields_law : IsRead fields_at fields_bytes AreFields
fields_law =
    pair_law _ _ _ _ _ _ hash_law (pair_law _ _ _ _ _ _ layout_law (pair_law _ _ _ _ _ _
    (pair_law _ _ _ _ _ _ (nat_law record_fault 8) (pair_law _ _ _ _ _ _ (nat_law record_fault 8) (pair_law _ _ _ _ _ _ (option_law _ _ _ (nat_law record_fault 8)) (nat_law record_fault 4))))
    (pair_law _ _ _ _ _ _ (list_law record_fault _ _ _ transaction_law) (pair_law _ _ _ _ _ _ (list_law record_fault _ _ _ receipt_law) (list_law record_fault _ _ _ (blob_law record_fault))))))

both_law : IsRead (pair magic_at fields_at) (in_turn (λ word. word) fields_bytes) (Both IsWord AreFields)
both_law = pair_law magic_at (λ word. word) IsWord fields_at fields_bytes AreFields word_law fields_law

gathered_law : IsRead gathered_at gathered_bytes FitsGathered
unfolding gathered_at
gathered_law = record {
  taken = λ s p fits e.
      mapped_case (λ (f : List ℕ × Fields). gathered_of f.1) (pair magic_at fields_at) (in_turn (λ word. word) fields_bytes) (Both IsWord AreFields) both_law
      (λ q. FitsGathered q.0 × Takes s (gathered_bytes q.0) q.1) s p fits
      (λ f t ok takes. (ok.1, subst (λ (word : List ℕ). Takes s (word ++ fields_bytes f.1) t) (is_word f.0 ok.0.1) takes)) e;
  again = λ v at rest fits. rw (both_law.again (magic, fields_of v) at rest (is_magic, fits)) refl;
}

-- ---- the whole file
pub gathered_again : (g : Gathered) → FitsGathered g → gathered_in (gathered_bytes g) ≡ Ok g
unfolding gathered_in
gathered_again g fits = rw (whole_again record_fault gathered_at gathered_bytes FitsGathered gathered_law g fits) refl

is_read : (r : Result Gathered RecordFault) (g : Gathered) → with_fault r ≡ Ok g → r ≡ Ok g
is_read (Ok h) g e = cc
is_read (Err f) g e = absurd cc

pub gathered_only : (bytes : List ℕ) (g : Gathered) → IsBytes bytes → gathered_in bytes ≡ Ok g → FitsGathered g × (bytes ≡ gathered_bytes g)
unfolding gathered_in
gathered_only bytes g fits e = whole_taken record_fault gathered_at gathered_bytes FitsGathered gathered_law bytes g fits (is_read (all_of gathered_at bytes) g e)

pub gathered_found : (bytes : List ℕ) (r : Result Gathered GatheredFault) → IsBytes bytes → Gives Memory r (gathered_in bytes) → IfOk r (λ (g : Gathered). FitsGathered g × (bytes ≡ gathered_bytes g))
gathered_found bytes (Ok g) fits given = gathered_only bytes g fits given
gathered_found bytes (Err e) fits given = tt

-- what holds anyway holds where the call succeeds
pub sure : {X F : Type 0} {P : Type 0} (r : Result X F) → P → OnOk r P
sure (Ok x) p = p
sure (Err e) p = tt

-- ---- pieces that were written one after the other
regroup : (w a b c d e : List ℕ) → ((((w ++ a) ++ b) ++ c) ++ d) ++ e ≡ w ++ (a ++ (b ++ (c ++ (d ++ e))))
regroup w a b c d e = simp append_assoc

pub joined : (w0 w1 w2 w3 w4 w5 a b c d e : List ℕ) → w1 ≡ w0 ++ a → w2 ≡ w1 ++ b → w3 ≡ w2 ++ c → w4 ≡ w3 ++ d → w5 ≡ w4 ++ e → w5 ≡ w0 ++ (a ++ (b ++ (c ++ (d ++ e))))
joined w0 w1 w2 w3 w4 w5 a b c d e e1 e2 e3 e4 e5 =
    e5 ∙ ap (λ (w : List ℕ). w ++ e) (e4 ∙ ap (λ (w : List ℕ). w ++ d) (e3 ∙ ap (λ (w : List ℕ). w ++ c) (e2 ∙ ap (λ (w : List ℕ). w ++ b) e1)))
    ∙ regroup w0 a b c d e
