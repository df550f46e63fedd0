-- The file of a part is read as it is spelled: what is read is spelled so, and what is spelled so is read.
use Rattle.std.proofs.Common.{◌≡◌, ℕ, true, List, ◌++◌, Ok, Err, refl, sym, subst, append_assoc}
use Rattle.std.specs.Prelude.{Result, IfOk, OnOk}
use Rattle.std.specs.Str.{bytes_eq}
use Rattle.std.proofs.lemmas.Slice.Eq.{bytes_eq-Decides}
use Rattle.nr_bytes.specs.Answers.{Gives}
use Rattle.nr_bytes.specs.Fields.{raw_at, pair}
use Rattle.nr_bytes.specs.Numbers.{little, IsBytes}
use Rattle.nr_bytes.specs.Spelling.{IsRead, HasLength, Passes, in_turn, Both, Takes, list}
use Rattle.nr_bytes.specs.Writing.{counted_bytes}
use Rattle.nr_bytes.proofs.Combined.{list_law}
use Rattle.nr_bytes.proofs.Fields.{raw_law, nat_law, blob_law}
use Rattle.nr_bytes.proofs.Steps.{IsRead-spelled}
use Rattle.nr_bytes.proofs.Values.{tested_law, pair_law, mapped_law, mapped_case}
use Rattle.nr_bytes.proofs.Whole.{is_found, whole_again}
use Rattle.nr_ids.specs.Keys.{hash_of_bytes, IsHash}
use Rattle.nr_ids.specs.declared.key.Hash32.{Hash32}
use Rattle.nr_columns.specs.declared.entry.Entry.{Entry}
use Rattle.nr_parts.specs.Checking.{memory_fault}
use Rattle.nr_parts.specs.Files.{part_fault, magic, magic_at, hash_at, entry_of, entry_at, Parted, part_of_fields, fields_at, part_at, part_in, entry_bytes, part_bytes, IsEntry, IsFiled}
use Rattle.nr_parts.specs.declared.part.Part.{Part}
use Rattle.nr_parts.specs.declared.fault.PartFault.{PartFault}
use Rattle.nr_parts.specs.declared.fault.PartFault.TheVariants.{Spelling}

-- ---- the word
abbrev IsWord : List ℕ → Type 0
IsWord = Passes (HasLength 4) (bytes_eq magic)

word_law : IsRead magic_at (λ word. word) IsWord
word_law = tested_law (bytes_eq magic) Spelling (raw_at part_fault 4) (λ word. word) (HasLength 4) (raw_law part_fault 4)

is_word : (word : List ℕ) → bytes_eq magic word ≡ true → word ≡ magic
is_word word e = sym ((bytes_eq-Decides magic word).0 e)

is_magic : IsWord magic
is_magic = (refl, (bytes_eq-Decides magic magic).1 refl)

-- ---- the fields
abbrev hash_bytes : Hash32 → List ℕ
hash_bytes h = h.0

hash_law : IsRead hash_at hash_bytes IsHash
hash_law = mapped_law hash_of_bytes hash_bytes (λ _. refl) (λ _. refl) (raw_at part_fault 32) (λ v. v) (HasLength 32) (raw_law part_fault 32)

abbrev entry_fields : Entry → List ℕ × List ℕ
entry_fields e = (e.key, e.value)

entry_law : IsRead entry_at entry_bytes IsEntry
entry_law = mapped_law entry_of entry_fields (λ _. refl) (λ _. refl) _ _ _ (pair_law _ _ _ _ _ _ (blob_law part_fault) (blob_law part_fault))

abbrev part_fields : Part → Parted
part_fields p = (p.root, (p.count, (p.number, (p.entries, p.texts))))

abbrev fields_bytes : Parted → List ℕ
fields_bytes f = f.0.0 ++ (little 4 f.1.0 ++ (little 4 f.1.1.0 ++ (list entry_bytes f.1.1.1.0 ++ list counted_bytes f.1.1.1.1)))

abbrev AreFields : Parted → Type 0
AreFields f = IsFiled (part_of_fields f)

fields_law : IsRead fields_at fields_bytes AreFields
fields_law = pair_law _ _ _ _ _ _ hash_law (pair_law _ _ _ _ _ _ (nat_law part_fault 4) (pair_law _ _ _ _ _ _ (nat_law part_fault 4) (pair_law _ _ _ _ _ _ (list_law part_fault _ _ _ entry_law) (list_law part_fault _ _ _ (blob_law part_fault)))))

both_law : IsRead (pair magic_at fields_at) (in_turn (λ word. word) fields_bytes) (Both IsWord AreFields)
both_law = pair_law magic_at (λ word. word) IsWord fields_at fields_bytes AreFields word_law fields_law

abbrev nested_bytes : Part → List ℕ
nested_bytes p = magic ++ fields_bytes (part_fields p)

nested_law : IsRead part_at nested_bytes IsFiled
nested_law = record {
  taken = λ s p fits e.
      mapped_case (λ (f : List ℕ × Parted). part_of_fields f.1) (pair magic_at fields_at) (in_turn (λ word. word) fields_bytes) (Both IsWord AreFields) both_law
      (λ q. IsFiled q.0 × Takes s (nested_bytes q.0) q.1) s p fits
      (λ f t ok takes. (ok.1, subst (λ (word : List ℕ). Takes s (word ++ fields_bytes f.1) t) (is_word f.0 ok.0.1) takes)) e;
  again = λ v at rest fits. rw (both_law.again (magic, part_fields v) at rest (is_magic, fits)) refl;
}

regroup : (a b c d e f : List ℕ) → a ++ b ++ c ++ d ++ e ++ f ≡ a ++ (b ++ (c ++ (d ++ (e ++ f))))
regroup a b c d e f = simp append_assoc

spelled : (p : Part) → part_bytes p ≡ nested_bytes p
spelled p = regroup magic p.root.0 (little 4 p.count) (little 4 p.number) (list entry_bytes p.entries) (list counted_bytes p.texts)

part_law : IsRead part_at part_bytes IsFiled
part_law = IsRead-spelled part_at part_bytes nested_bytes IsFiled spelled nested_law

-- ---- the whole file
pub part_again : (p : Part) → IsFiled p → part_in (part_bytes p) ≡ Ok p
unfolding part_in
part_again p fits = whole_again part_fault part_at part_bytes IsFiled part_law p fits

pub part_found : (bytes : List ℕ) (r : Result Part PartFault) → IsBytes bytes → Gives memory_fault r (part_in bytes) → IfOk r (λ (p : Part). IsFiled p × (bytes ≡ part_bytes p))
unfolding part_in
part_found bytes r fits given = is_found part_fault part_at part_bytes IsFiled part_law bytes memory_fault r fits given

-- what holds anyway holds where the call succeeds
pub sure : {X F : Type 0} {P : Type 0} (r : Result X F) → P → OnOk r P
sure (Ok x) p = p
sure (Err e) p = tt
