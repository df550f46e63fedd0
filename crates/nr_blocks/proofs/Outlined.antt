-- The outline of a file is read as the file is: with the same faults, and of what is read it is the outline.
use Rattle.std.proofs.Common.{◌≡◌, ◌≢◌, ℕ, zero, suc, ◌+◌, List, [], ◌∷◌, ◌++◌, length, Some, Result, Ok}
use Rattle.std.proofs.Common.{Err, refl, sym, ap, ◌∙◌, append_assoc, arith}
use Rattle.std.proofs.lemmas.List.{append-nil, length-append}
use Rattle.std.specs.List.{AllByRecursion, flat_map}
use Rattle.nr_bytes.specs.Numbers.{IsBytes, little}
use Rattle.nr_bytes.specs.Answers.{Gives}
use Rattle.nr_bytes.specs.Reading.{Input, ◌>>=◌, end_at}
use Rattle.nr_bytes.specs.Fields.{all_of, items_at, lifted, list_at, mapped, pair}
use Rattle.nr_bytes.specs.Spelling.{IsRead}
use Rattle.nr_bytes.proofs.Fields.{nat_law}
use Rattle.nr_bytes.proofs.Whole.{whole_taken}
use Rattle.nr_records.specs.Fault.{record_fault}
use Rattle.nr_records.specs.Options.{option_at, option_body}
use Rattle.nr_records.specs.Reading.{Read, nat_at}
use Rattle.nr_records.specs.TransactionLaw.{transaction_law}
use Rattle.nr_records.specs.Transactions.{transaction_at, transaction_bytes}
use Rattle.nr_records.specs.declared.fault.RecordFault.{RecordFault}
use Rattle.nr_records.specs.declared.fault.RecordFault.TheVariants.{Memory}
use Rattle.nr_blocks.specs.BlockLaws.{block_law, chunk_law, price_law}
use Rattle.nr_blocks.specs.BlocksFiles.{IsBlock, block_at, block_bytes, block_of, chunk_at, chunk_bytes}
use Rattle.nr_blocks.specs.FileLaws.{blocks_law, magic_size, version_law}
use Rattle.nr_blocks.specs.Files.{IsBlocksFile, blocks_at, blocks_bytes, blocks_magic, version_at}
use Rattle.nr_blocks.specs.Outlines.{AreOutlines, IsFront, block_outline, chunk_outline, chunk_outline_at}
use Rattle.nr_blocks.specs.Outlines.{file_outline_at}
use Rattle.nr_blocks.specs.Outlines.{list_outline, option_outline, outline_at, outline_of, outlines, place}
use Rattle.nr_blocks.specs.Outlines.{placed, places_at}
use Rattle.nr_blocks.specs.declared.block.Block.{Block}
use Rattle.nr_blocks.specs.declared.blocks_file.BlocksFile.{BlocksFile}
use Rattle.nr_blocks.specs.declared.blocks_file.FileOutline.{FileOutline}
use Rattle.nr_blocks.specs.declared.outline.Outline.{Outline}
use Rattle.nr_blocks.specs.declared.version.Version.{Version}

-- the outline of what is read
abbrev pub outline_read : {X Y : Type 0} → (ℕ → X → Y) → (Input → Read X) → Input → Read Y
outline_read outline reading s = reading s >>= λ x. Ok (outline s.at x.0, x.1)

abbrev pub IsOutlined : {X Y : Type 0} → (ℕ → X → Y) → (Input → Read X) → (Input → Read Y) → Type 0
IsOutlined outline reading other = (s : Input) → IsBytes s.left → other s ≡ outline_read outline reading s

abbrev pub answered : {X : Type 0} → X × Input → Read X
answered p = Ok p

abbrev made : {X : Type 0} → X → Result X RecordFault
made x = Ok x

abbrev blocks_file : Version → List Block → BlocksFile
blocks_file version bs = record { version = version; blocks = bs }

abbrev outline_file : Version → List Outline → FileOutline
outline_file version is = record { version = version; blocks = is }

abbrev all_made : List Block → Result (List Block) RecordFault
all_made bs = Ok bs

-- ---- a value in its place, and values one after the other
pub placed_is : {X : Type 0} (reading : Input → Read X) → IsOutlined place reading (placed reading)
placed_is reading = λ s fits. refl

items_are : {X Y : Type 0} (r : Input → Read X) (a : X → List ℕ) (P : X → Type 0) → IsRead r a P → (q : Input → Read Y)
    (o : ℕ → X → Y) → IsOutlined o r q → (n : ℕ) → IsOutlined (outlines a o) (items_at r n) (items_at q n)
unfolding items_at outlines
items_are r a P law q o same zero = λ s fits. refl
items_are {X} {Y} r a P law q o same (suc n) = λ s fits. go (items_are r a P law q o same n) s fits (r s) refl
  where
    behind : (s : Input) (x : X × Input) → (others : Read (List X)) → x.1.at ≡ s.at + length (a x.0)
        → ((others >>= λ l. answered (outlines a o x.1.at l.0, l.1)) >>= λ l. answered (o s.at x.0 ∷ l.0, l.1))
        ≡ ((others >>= λ l. answered (x.0 ∷ l.0, l.1)) >>= λ l. answered (outlines a o s.at l.0, l.1))
    behind s x (Ok l) e = ap (λ (m : ℕ). answered (o s.at x.0 ∷ outlines a o m l.0, l.1)) e
    behind s x (Err f) e = refl

    go : IsOutlined (outlines a o) (items_at r n) (items_at q n) → (s : Input) → IsBytes s.left → (read : Read X)
        → r s ≡ read
        → items_at q (suc n) s ≡ outline_read (outlines a o) (items_at r (suc n)) s
    go others s fits (Err f) e = rw (same s fits, e) refl
    go others s fits (Ok x) e =
        let takes = law.taken s x fits e in
        rw (same s fits, e, others x.1 takes.1.bytes) (behind s x (items_at r n x.1) takes.1.at)

pub length_four : (n : ℕ) → length (little 4 n) ≡ 4
unfolding little
length_four n = refl

length_one : (n : ℕ) → length (little 1 n) ≡ 1
unfolding little
length_one n = refl

pub list_is : {X Y : Type 0} (r : Input → Read X) (a : X → List ℕ) (P : X → Type 0) → IsRead r a P
    → (q : Input → Read Y)
    (o : ℕ → X → Y) → IsOutlined o r q → IsOutlined (list_outline a o) (list_at record_fault r) (list_at record_fault q)
unfolding list_at
list_is {X} {Y} r a P law q o same = λ s fits. go s fits (nat_at 4 s) refl
  where
    behind : (s t : Input) (others : Read (List X)) → t.at ≡ s.at + 4
        → (others >>= λ l. answered (outlines a o t.at l.0, l.1))
        ≡ (others >>= λ l. answered (list_outline a o s.at l.0, l.1))
    behind s t (Ok l) e = ap (λ (m : ℕ). answered (outlines a o m l.0, l.1)) e
    behind s t (Err f) e = refl

    go : (s : Input) → IsBytes s.left → (count : Read ℕ) → nat_at 4 s ≡ count
        → list_at record_fault q s ≡ outline_read (list_outline a o) (list_at record_fault r) s
    go s fits (Err f) e = rw e refl
    go s fits (Ok n) e =
        let takes = (nat_law record_fault 4).taken s n fits e in
        rw (e, items_are r a P law q o same n.0 n.1 takes.1.bytes)
        (behind s n.1 (items_at r n.0 n.1) (omega (arith, takes.1.at, length_four n.0)))

-- ---- a value that may be absent
option_is : {X Y : Type 0} (r : Input → Read X) (q : Input → Read Y) (o : ℕ → X → Y) → IsOutlined o r q
    → IsOutlined (option_outline o) (option_at r) (option_at q)
unfolding option_at
option_is {X} {Y} r q o same = λ s fits. go s fits (nat_at 1 s) refl
  where
    behind : (s t : Input) (read : Read X) → t.at ≡ s.at + 1
        → ((read >>= λ x. answered (o t.at x.0, x.1)) >>= λ y. answered (Some y.0, y.1))
        ≡ ((read >>= λ x. answered (Some x.0, x.1)) >>= λ x. answered (option_outline o s.at x.0, x.1))
    behind s t (Ok x) e = ap (λ (m : ℕ). answered (Some (o m x.0), x.1)) e
    behind s t (Err f) e = refl

    body : (s t : Input) (n : ℕ) → IsBytes t.left → t.at ≡ s.at + 1
        → option_body q s.at n t ≡ (option_body r s.at n t >>= λ x. answered (option_outline o s.at x.0, x.1))
    body s t zero fits e = refl
    body s t (suc zero) fits e = rw (same t fits) (behind s t (r t) e)
    body s t (suc (suc b)) fits e = refl

    go : (s : Input) → IsBytes s.left → (ordinal : Read ℕ) → nat_at 1 s ≡ ordinal
        → option_at q s ≡ outline_read (option_outline o) (option_at r) s
    go s fits (Err f) e = rw e refl
    go s fits (Ok n) e =
        let takes = (nat_law record_fault 1).taken s n fits e in
        rw e (body s n.1 n.0 takes.1.bytes (omega (arith, takes.1.at, length_one n.0)))

-- ---- a field and what stands behind it, and a value that is made of another
abbrev with_first : {X Y Z : Type 0} → (X → List ℕ) → (ℕ → Y → Z) → ℕ → X × Y → X × Z
with_first a o at p = (p.0, o (at + length (a p.0)) p.1)

pub pair_is : {X Y Z : Type 0} (f : Input → Read X) (a : X → List ℕ) (P : X → Type 0) → IsRead f a P
    → (r : Input → Read Y)
    (q : Input → Read Z) (o : ℕ → Y → Z) → IsOutlined o r q → IsOutlined (with_first a o) (pair f r) (pair f q)
pair_is {X} {Y} {Z} f a P law r q o same = λ s fits. go s fits (f s) refl
  where
    behind : (s : Input) (x : X × Input) (read : Read Y) → x.1.at ≡ s.at + length (a x.0)
        → ((read >>= λ y. answered (o x.1.at y.0, y.1)) >>= λ z. answered ((x.0, z.0), z.1))
        ≡ ((read >>= λ y. answered ((x.0, y.0), y.1)) >>= λ p. answered (with_first a o s.at p.0, p.1))
    behind s x (Ok y) e = ap (λ (m : ℕ). answered ((x.0, o m y.0), y.1)) e
    behind s x (Err g) e = refl

    go : (s : Input) → IsBytes s.left → (first : Read X) → f s ≡ first
        → pair f q s ≡ outline_read (with_first a o) (pair f r) s
    go s fits (Err g) e = rw e refl
    go s fits (Ok x) e =
        let takes = law.taken s x fits e in
        rw (e, same x.1 takes.1.bytes) (behind s x (r x.1) takes.1.at)

pub mapped_is : {X Y V W : Type 0} (m : X → Y) (n : V → W) (r : Input → Read X) (q : Input → Read V) (o : ℕ → X → V)
    (p : ℕ → Y → W) → ((at : ℕ) (x : X) → n (o at x) ≡ p at (m x)) → IsOutlined o r q
    → IsOutlined p (mapped m r) (mapped n q)
mapped_is {X} {Y} {V} {W} m n r q o p square same = λ s fits. rw (same s fits) (go s.at (r s))
  where
    go : (at : ℕ) (read : Read X) → ((read >>= λ x. answered (o at x.0, x.1)) >>= λ v. answered (n v.0, v.1))
        ≡ ((read >>= λ x. answered (m x.0, x.1)) >>= λ y. answered (p at y.0, y.1))
    go at (Ok x) = ap (λ (w : W). answered (w, x.1)) (square at x.0)
    go at (Err f) = refl

-- ---- a chunk, a block, and blocks
chunk_is : IsOutlined chunk_outline chunk_at chunk_outline_at
chunk_is =
    option_is (list_at record_fault transaction_at) places_at (list_outline transaction_bytes place)
    (list_is transaction_at transaction_bytes _ transaction_law (placed transaction_at) place
    (placed_is transaction_at))

block_is : (version : Version) → IsOutlined block_outline (block_at version) (outline_at version)
unfolding block_at outline_at
block_is version =
    mapped_is block_of outline_of _ _ _ block_outline (λ at f. refl)
    (pair_is _ _ _ (nat_law record_fault 8) _ _ _
    (pair_is _ _ _ (nat_law record_fault 8) _ _ _
    (pair_is _ _ _ (price_law version) _ _ _
    (list_is chunk_at chunk_bytes _ chunk_law chunk_outline_at chunk_outline chunk_is))))

pub blocks_are : (version : Version)
    → IsOutlined (list_outline block_bytes block_outline) (list_at record_fault (block_at version))
    (list_at record_fault (outline_at version))
blocks_are version =
    list_is (block_at version) block_bytes _ (block_law version) (outline_at version) block_outline (block_is version)

-- ---- a file
abbrev pub file_outline : ℕ → BlocksFile → FileOutline
file_outline at f = record { version = f.version; blocks = list_outline block_bytes block_outline (at + 4) f.blocks }

file_is : IsOutlined file_outline blocks_at file_outline_at
unfolding blocks_at file_outline_at
file_is = λ s fits. go s fits (version_at s) refl
  where
    behind : (s : Input) (version : Version × Input) (read : Read (List Block)) → version.1.at ≡ s.at + 4
        → ((read >>= λ l. answered (list_outline block_bytes block_outline version.1.at l.0, l.1))
        >>= λ l. answered (outline_file version.0 l.0, l.1))
        ≡ ((read >>= λ l. answered (blocks_file version.0 l.0, l.1)) >>= λ f. answered (file_outline s.at f.0, f.1))
    behind s version (Ok l) e =
        ap (λ (m : ℕ). answered (outline_file version.0 (list_outline block_bytes block_outline m l.0), l.1)) e
    behind s version (Err f) e = refl

    go : (s : Input) → IsBytes s.left → (version : Read Version) → version_at s ≡ version
        → file_outline_at s ≡ outline_read file_outline blocks_at s
    go s fits (Err f) e = rw e refl
    go s fits (Ok v) e =
        let takes = version_law.taken s v fits e in
        rw (e, blocks_are v.0 v.1 takes.1.bytes)
        (behind s v (list_at record_fault (block_at v.0) v.1) (omega (arith, takes.1.at, magic_size v.0)))

-- ---- all of the bytes
module _ {X Y : Type 0} (r : Input → Read X) (q : Input → Read Y) (o : ℕ → X → Y) (same : IsOutlined o r q)
    (bytes : List ℕ)
    (fits : IsBytes bytes) where
  abbrev ended : {Z : Type 0} → Z × Input → Result Z RecordFault
  ended z = lifted record_fault (end_at z.1) >>= λ u. Ok z.0

  all_is : all_of record_fault q bytes ≡ (all_of record_fault r bytes >>= λ x. made (o 0 x))
  unfolding all_of
  all_is = rw (same (record { left = bytes; at = 0 }) fits) (go (r (record { left = bytes; at = 0 })))
    where
      end : (x : X) (u : Result (Unit {0}) RecordFault)
          → (u >>= λ u. made (o 0 x)) ≡ ((u >>= λ u. Ok x) >>= λ x. made (o 0 x))
      end x (Ok u) = refl
      end x (Err f) = refl

      go : (read : Read X) → ((read >>= λ x. answered (o 0 x.0, x.1)) >>= ended)
          ≡ ((read >>= ended) >>= λ x. made (o 0 x))
      go (Ok x) = end x.0 (lifted record_fault (end_at x.1))
      go (Err f) = refl

  pub all_fault : (e : RecordFault) → all_of record_fault q bytes ≡ Err e → all_of record_fault r bytes ≡ Err e
  all_fault e is = go (all_of record_fault r bytes) (sym all_is ∙ is)
    where
      go : (read : Result X RecordFault) → (read >>= λ x. made (o 0 x)) ≡ Err e → read ≡ Err e
      go (Ok x) is = absurd cc
      go (Err f) is = cc

  pub all_outline : (y : Y) → all_of record_fault q bytes ≡ Ok y
      → (x : X) × (all_of record_fault r bytes ≡ Ok x) × (y ≡ o 0 x)
  all_outline y is = go (all_of record_fault r bytes) refl (sym all_is ∙ is)
    where
      go : (read : Result X RecordFault) → all_of record_fault r bytes ≡ read → (read >>= λ x. made (o 0 x)) ≡ Ok y
          → (x : X) × (all_of record_fault r bytes ≡ Ok x) × (y ≡ o 0 x)
      go (Ok x) e is = (x, e, cc)
      go (Err f) e is = absurd cc

-- ---- a file that is made of its outline
abbrev pub BlocksMade : List Outline → List ℕ → Result (List Block) RecordFault → Type 0
BlocksMade is bytes result =
    (version : Version) (front : List ℕ) (bs : List Block) → AllByRecursion (IsBlock version) bs
    → is ≡ outlines block_bytes block_outline (length front) bs → IsFront (front ++ flat_map block_bytes bs) bytes
    → Gives Memory result (Ok bs)

-- a file with these blocks, whose spelling begins with a front, has this outline of them
pub record IsFileOf (bytes : List ℕ) (is : List Outline) (bs : List Block) : Type 0 where
  pub version : Version
  pub front : List ℕ
  pub fit : AllByRecursion (IsBlock version) bs
  pub outlined : is ≡ outlines block_bytes block_outline (length front) bs
  pub spelled : bytes ≡ front ++ flat_map block_bytes bs

module _ {bytes : List ℕ} {is : List Outline} {bs : List Block} (file : IsFileOf bytes is bs) where
  front_is : IsFront (file.front ++ flat_map block_bytes bs) bytes
  front_is = ([], file.spelled ∙ sym (append-nil (file.front ++ flat_map block_bytes bs)))

  pub are_outlines : AreOutlines is bytes
  are_outlines = (file.version, file.front, bs, file.fit, file.outlined, front_is)

  gives : (r : Result (List Block) RecordFault) → BlocksMade is bytes r → Gives Memory r (Ok bs)
  gives r made = made file.version file.front bs file.fit file.outlined front_is

  pub never_refused : (e : RecordFault) → BlocksMade is bytes (Err e) → e ≢ Memory → ⊥
  never_refused e made other = none (gives (Err e) made other)
    where
      none : all_made bs ≡ Err e → ⊥
      none h = cc

  pub same_blocks : (made : List Block) → BlocksMade is bytes (Ok made) → bs ≡ made
  same_blocks made are = these (gives (Ok made) are)
    where
      these : all_made bs ≡ all_made made → bs ≡ made
      these e = cc

module _ (bytes : List ℕ) (fits : IsBytes bytes) where
  pub file_fault : (e : RecordFault) → all_of record_fault file_outline_at bytes ≡ Err e
      → all_of record_fault blocks_at bytes ≡ Err e
  file_fault e is = all_fault blocks_at file_outline_at file_outline file_is bytes fits e is

  file_of : (is : FileOutline) → all_of record_fault file_outline_at bytes ≡ Ok is
      → (f : BlocksFile) × (all_of record_fault blocks_at bytes ≡ Ok f) × (is.version ≡ f.version)
      × IsFileOf bytes is.blocks f.blocks
  file_of is read =
      let x = all_outline blocks_at file_outline_at file_outline file_is bytes fits is read in
      let f : BlocksFile = x.0 in
      let taken : IsBlocksFile f × (bytes ≡ blocks_bytes f) =
      whole_taken record_fault blocks_at blocks_bytes IsBlocksFile blocks_law bytes f fits x.1 in
      let word = blocks_magic f.version in
      let count = little 4 (length f.blocks) in
      let size : 8 ≡ length (word ++ count) =
      omega (arith, length-append word count, magic_size f.version, length_four (length f.blocks)) in (
        f,
        x.1,
        ap (λ (o : FileOutline). o.version) x.2,
        record {
          version = f.version;
          front = word ++ count;
          fit = taken.0.1;
          outlined = ap (λ (o : FileOutline). o.blocks) x.2 ∙ ap (λ n. outlines block_bytes block_outline n f.blocks)
              size;
          spelled = taken.1 ∙ sym (append_assoc word count (flat_map block_bytes f.blocks));
        },
      )

  pub file_outlines : (is : FileOutline) → all_of record_fault file_outline_at bytes ≡ Ok is
      → AreOutlines is.blocks bytes
  file_outlines is read = are_outlines (file_of is read).3

  pub made_fault : (is : FileOutline) (e : RecordFault) → all_of record_fault file_outline_at bytes ≡ Ok is
      → BlocksMade is.blocks bytes (Err e) → e ≢ Memory → all_of record_fault blocks_at bytes ≡ Err e
  made_fault is e read made other = absurd (never_refused (file_of is read).3 e made other)

  pub made_file : (is : FileOutline) (bs : List Block) → all_of record_fault file_outline_at bytes ≡ Ok is
      → BlocksMade is.blocks bytes (Ok bs) → all_of record_fault blocks_at bytes ≡ Ok (blocks_file is.version bs)
  made_file is bs read made =
      let f = file_of is read in
      f.1 ∙ (λ i. Ok (blocks_file (sym f.2 i) (same_blocks f.3 bs made i)))
