-- Each file is read as it is spelled: what is read is spelled so, and what is spelled so is read.
use Rattle.std.proofs.Common.{◌≡◌, ℕ, ◌+◌, Bool, true, false, List, ◌++◌, length, Option, Some, None, Ok, refl, sym, ap}
use Rattle.std.proofs.Common.{subst, ◌∙◌, append_assoc, arith}
use Rattle.std.specs.Prelude.{if◌then◌else◌}
use Rattle.std.proofs.lemmas.List.{length-append}
use Rattle.std.proofs.lemmas.Slice.Eq.{bytes_eq-Decides}
use Rattle.std.specs.Str.{bytes_eq}
use Rattle.nr_bytes.specs.Reading.{Input, ◌>>=◌}
use Rattle.nr_layout.specs.LayoutLaw.{layout_law}
use Rattle.nr_bytes.specs.Spelling.{IsRead, HasLength, Passes, in_turn, Both, Takes, before, behind, list, FitsList}
use Rattle.nr_bytes.proofs.Steps.{bind_ok, ok_is, Takes-then}
use Rattle.nr_bytes.proofs.Fields.{raw_law}
use Rattle.nr_bytes.proofs.Values.{tested_law, pair_law, mapped_law, mapped_case}
use Rattle.nr_bytes.proofs.Combined.{list_law}
use Rattle.nr_bytes.specs.Fields.{pair}
use Rattle.nr_records.specs.Fault.{record_fault}
use Rattle.nr_records.specs.Reading.{Read, raw_at, list_at}
use Rattle.nr_records.specs.declared.fault.RecordFault.TheVariants.{BadOrdinal}
use Rattle.nr_blocks.specs.BlockLaws.{block_law}
use Rattle.nr_blocks.specs.BlocksFiles.{block_at, block_bytes, IsBlock}
use Rattle.nr_blocks.specs.Files.{magic_at, headed, genesis_magic, genesis_at, genesis_bytes, genesis_file_of}
use Rattle.nr_blocks.specs.Files.{IsGenesisFile, blocks_magic, version_named, known_at, version_at, blocks_at}
use Rattle.nr_blocks.specs.Files.{blocks_bytes, IsBlocksFile}
use Rattle.nr_blocks.specs.EntryLaws.{entry_law}
use Rattle.nr_blocks.specs.declared.block.Block.{Block}
use Rattle.nr_blocks.specs.declared.blocks_file.BlocksFile.{BlocksFile}
use Rattle.nr_blocks.specs.declared.genesis_entry.GenesisEntry.{GenesisEntry}
use Rattle.nr_blocks.specs.declared.genesis_file.GenesisFile.{GenesisFile}
use Rattle.nr_blocks.specs.declared.version.Version.{Version}
use Rattle.nr_blocks.specs.declared.version.Version.TheVariants.{One, Two}

-- ---- the word
abbrev pub IsMagic : List ℕ → List ℕ → Type 0
IsMagic magic = Passes (HasLength 4) (bytes_eq magic)

pub magic_law : (magic : List ℕ) → IsRead (magic_at magic) (λ word. word) (IsMagic magic)
magic_law magic =
    tested_law (bytes_eq magic) BadOrdinal (raw_at 4) (λ word. word) (HasLength 4) (raw_law record_fault 4)

is_word : (magic word : List ℕ) → bytes_eq magic word ≡ true → word ≡ magic
is_word magic word e = sym ((bytes_eq-Decides magic word).0 e)

is_magic : (magic : List ℕ) → length magic ≡ 4 → IsMagic magic magic
is_magic magic four = (four, (bytes_eq-Decides magic magic).1 refl)

-- ---- a word and what stands behind it
abbrev pub headed_bytes : {X : Type 0} → List ℕ → (X → List ℕ) → X → List ℕ
headed_bytes magic spelling v = magic ++ spelling v

both_law : {X : Type 0} (magic : List ℕ) (r : Input → Read X) (a : X → List ℕ) (P : X → Type 0) → IsRead r a P
    → IsRead (pair (magic_at magic) r) (in_turn (λ word. word) a) (Both (IsMagic magic) P)
both_law magic r a P law = pair_law (magic_at magic) (λ word. word) (IsMagic magic) r a P (magic_law magic) law

pub headed_law : {X : Type 0} (magic : List ℕ) → length magic ≡ 4 → (r : Input → Read X) (a : X → List ℕ) (P : X → Type 0)
    → IsRead r a P → IsRead (headed magic r) (headed_bytes magic a) P
headed_law {X} magic four r a P law = record {
  taken = λ s p fits e.
      mapped_case (λ (f : List ℕ × X). f.1) (pair (magic_at magic) r) (in_turn (λ word. word) a)
      (Both (IsMagic magic) P) (both_law magic r a P law)
      (λ q. P q.0 × Takes s (headed_bytes magic a q.0) q.1) s p fits
      (λ f t ok takes. (ok.1, subst (λ (word : List ℕ). Takes s (word ++ a f.1) t) (is_word magic f.0 ok.0.1) takes)) e;
  again = λ v at rest fits. rw ((both_law magic r a P law).again (magic, v) at rest (is_magic magic four, fits)) refl;
}

-- ---- the files
abbrev genesis_fields : GenesisFile → List (List ℕ) × List GenesisEntry
genesis_fields g = (g.layout, g.entries)

pub genesis_law : IsRead genesis_at genesis_bytes IsGenesisFile
unfolding genesis_at
genesis_law = headed_law genesis_magic refl _ _ _
    (mapped_law genesis_file_of genesis_fields (λ _. refl) (λ _. refl) _ _ _
    (pair_law _ _ _ _ _ _ layout_law (list_law record_fault _ _ _ entry_law)))

-- ---- the version of a blocks file
version_again : (version : Version) → version_named (blocks_magic version) ≡ Some version
version_again One = refl
version_again Two = refl

version_word : (word : List ℕ) (version : Version) → version_named word ≡ Some version → word ≡ blocks_magic version
version_word word version e = go (bytes_eq (blocks_magic One) word) (bytes_eq (blocks_magic Two) word) refl refl e
  where
    go : (one two : Bool) → bytes_eq (blocks_magic One) word ≡ one → bytes_eq (blocks_magic Two) word ≡ two
        → (if one then Some One else if two then Some Two else None) ≡ Some version → word ≡ blocks_magic version
    go true two is_one is_two h =
        let same : One ≡ version = cc in
        is_word (blocks_magic One) word is_one ∙ ap blocks_magic same
    go false true is_one is_two h =
        let same : Two ≡ version = cc in
        is_word (blocks_magic Two) word is_two ∙ ap blocks_magic same
    go false false is_one is_two h = absurd cc

pub magic_size : (version : Version) → length (blocks_magic version) ≡ 4
magic_size One = refl
magic_size Two = refl

known : (at : ℕ) (named : Option Version) (rest : Input) (p : Version × Input) → known_at at named rest ≡ Ok p → (named ≡ Some p.0) × (rest ≡ p.1)
known at None rest p e = absurd cc
known at (Some version) rest p e =
    let same : (version, rest) ≡ p = ok_is (version, rest) p e in
    (ap (λ (q : Version × Input). Some q.0) same, ap (λ (q : Version × Input). q.1) same)

abbrev AnyVersion : Version → Type 0
AnyVersion version = Unit {0}

pub version_law : IsRead version_at blocks_magic AnyVersion
unfolding version_at
version_law = record {
  taken = λ s p fits e.
      let x = bind_ok (raw_at 4 s) (λ word. known_at s.at (version_named word.0) word.1) p e in
      let one = (raw_law record_fault 4).taken s x.0 fits x.1 in
      let two = known s.at (version_named x.0.0) x.0.1 p x.2 in (
        tt,
        subst (λ (t : Input). Takes s (blocks_magic p.0) t) two.1
            (subst (λ (word : List ℕ). Takes s word x.0.1) (version_word x.0.0 p.0 two.0) one.1),
      );
  again = λ version at rest fits. rw ((raw_law record_fault 4).again (blocks_magic version) at rest (magic_size version), version_again version) refl;
}

blocks_list_law : (version : Version) → IsRead (list_at (block_at version)) (list block_bytes)
    (FitsList (IsBlock version))
blocks_list_law version = list_law record_fault (block_at version) block_bytes (IsBlock version) (block_law version)

abbrev blocks_file : Version → List Block → BlocksFile
blocks_file version blocks = record { version = version; blocks = blocks }

abbrev file_answer : Version → List Block × Input → Read BlocksFile
file_answer version blocks = Ok (blocks_file version blocks.0, blocks.1)

pub blocks_law : IsRead blocks_at blocks_bytes IsBlocksFile
unfolding blocks_at
blocks_law = record {
  taken = λ s p fits e.
      let x = bind_ok (version_at s) (λ version. list_at (block_at version.0) version.1 >>= file_answer version.0) p e in
      let one = version_law.taken s x.0 fits x.1 in
      let y = bind_ok (list_at (block_at x.0.0) x.0.1) (file_answer x.0.0) p x.2 in
      let two = (blocks_list_law x.0.0).taken x.0.1 y.0 one.1.bytes y.1 in
      subst (λ (q : BlocksFile × Input). IsBlocksFile q.0 × Takes s (blocks_bytes q.0) q.1)
      (ok_is (blocks_file x.0.0 y.0.0, y.0.1) p y.2)
      (two.0, Takes-then s x.0.1 y.0.1 (blocks_magic x.0.0) (list block_bytes y.0.0) one.1 two.1);
  again = λ f at rest fits.
      let word = blocks_magic f.version in
      let body = list block_bytes f.blocks in
      let e : before (word ++ body) at rest ≡ before word at (body ++ rest) = ap (λ (l : List ℕ). record { left = l; at = at }) (append_assoc word body rest) in
      let end : behind body (at + length word) rest ≡ behind (word ++ body) at rest = ap (λ n. record { left = rest; at = n }) (omega (arith, length-append word body)) in
      ap blocks_at e ∙ rw (version_law.again f.version at (body ++ rest) tt, (blocks_list_law f.version).again f.blocks (at + length word) rest fits) (ap (λ (t : Input). Ok (f, t)) end);
}
