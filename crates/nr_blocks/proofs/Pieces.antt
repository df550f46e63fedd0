-- Transactions, chunks and blocks made of their outlines and bytes.
use Rattle.std.proofs.Common.{◌≡◌, ◌≢◌, ℕ, ◌+◌, List, [], ◌∷◌, ◌++◌, length, drop, take, Some, None, Result}
use Rattle.std.proofs.Common.{Ok, Err, refl}
use Rattle.std.proofs.Common.{sym, ap, subst, ◌∙◌, append_assoc, arith}
use Rattle.std.proofs.lemmas.List.{append-nil, length-append}
use Rattle.std.proofs.Math.Seq.{drop-append_seam, take-append_seam}
use Rattle.std.specs.Global.{Vec}
use Rattle.std.specs.List.{AllByRecursion, flat_map}
use Rattle.nr_bytes.specs.Numbers.{little}
use Rattle.nr_records.specs.TransactionLaw.{transaction_law}
use Rattle.nr_records.specs.Transactions.{IsTransaction, transaction_at, transaction_bytes}
use Rattle.nr_records.specs.declared.fault.RecordFault.{RecordFault}
use Rattle.nr_records.specs.declared.fault.RecordFault.TheVariants.{Memory}
use Rattle.nr_records.specs.declared.transaction.Transaction.{Transaction}
use Rattle.nr_blocks.specs.BlocksFiles.{Chunk, IsBlock, IsChunk, block_bytes, chunk_bytes, price_bytes}
use Rattle.nr_blocks.specs.Outlines.{IsFront, Makes, MakesIt, Places, block_outline, chunk_outline}
use Rattle.nr_blocks.specs.Outlines.{chunks_place, first_of}
use Rattle.nr_blocks.specs.Outlines.{list_outline, outlines, place}
use Rattle.nr_blocks.specs.declared.block.Block.{Block}
use Rattle.nr_blocks.specs.declared.outline.Outline.{Outline}
use Rattle.nr_blocks.specs.declared.version.Version.{Version}
use Rattle.nr_blocks.proofs.LastFirst.{front_of, its_value, no_fault, some}
use Rattle.nr_blocks.proofs.Outlined.{length_four}

-- ---- a transaction
reads_it : (bytes front : List ℕ) (at : ℕ) (x : Transaction) → IsTransaction x → at ≡ length front
    → IsFront (front ++ transaction_bytes x) bytes → first_of transaction_at (drop at bytes) ≡ some x
unfolding first_of
reads_it bytes front at x fits is whole =
    let text = transaction_bytes x in
    let rest = whole.0 in
    let there : drop at bytes ≡ text ++ rest =
    (λ i. drop (is i) ((whole.1 ∙ append_assoc front text rest) i)) ∙ drop-append_seam front (text ++ rest) in
    rw (there, transaction_law.again x 0 rest fits) refl

-- the bytes from its place on are cut off
cut_there : (front more bytes : List ℕ) (at : ℕ) → at ≡ length front → IsFront (front ++ more) bytes
    → IsFront front (take at bytes)
cut_there front more bytes at is whole = (
  [],
  (λ i. take (is i) ((whole.1 ∙ append_assoc front more whole.0) i)) ∙ take-append_seam front (more ++ whole.0)
      ∙ sym (append-nil front),
)

abbrev MakesTransaction : Result Transaction RecordFault → ℕ → List ℕ → List ℕ → Type 0
MakesTransaction = Makes (λ (v : Transaction). v) transaction_bytes IsTransaction place

pub made_and_cut : (bytes slice new : List ℕ) (at : ℕ) (v : Transaction) → slice ≡ bytes → new ≡ take at bytes
    → first_of transaction_at (drop at slice) ≡ Ok v → MakesTransaction (Ok v) at bytes new
made_and_cut bytes slice new at v same cut read = λ x front fits is whole. (
  sym (reads_it bytes front at x fits is whole) ∙ ap (λ (l : List ℕ). first_of transaction_at (drop at l)) (sym same)
      ∙ read,
  subst (IsFront front) (sym cut) (cut_there front (transaction_bytes x) bytes at is whole),
)

pub not_made : (bytes slice new : List ℕ) (at : ℕ) (fault : RecordFault) → slice ≡ bytes
    → (fault ≢ Memory → first_of transaction_at (drop at slice) ≡ Err fault) → MakesTransaction (Err fault) at bytes new
not_made bytes slice new at fault same read = λ x front fits is whole. (
  λ other. sym (reads_it bytes front at x fits is whole)
      ∙ ap (λ (l : List ℕ). first_of transaction_at (drop at l)) (sym same) ∙ read other,
  tt,
)

-- ---- a chunk
abbrev some_places : List ℕ → Places
some_places l = Some l

not_there : (ps : List ℕ) → some_places ps ≡ None → ⊥
not_there ps e = cc

places_are : (ps qs : List ℕ) → some_places ps ≡ some_places qs → ps ≡ qs
places_are ps qs e = cc

none_is : (o : Chunk) (at : ℕ) → None ≡ chunk_outline at o → o ≡ None
none_is None at e = refl
none_is (Some l) at e = absurd (not_there (list_outline transaction_bytes place (at + 1) l) (sym e))

abbrev MakesChunk : Result Chunk RecordFault → Places → List ℕ → List ℕ → Type 0
MakesChunk = Makes (λ (c : Chunk). c) chunk_bytes IsChunk chunk_outline

pub no_chunk : (bytes : List ℕ) → MakesChunk (Ok None) None bytes bytes
no_chunk bytes = λ x front fits is whole.
    (ap some (none_is x (length front) is), front_of front (chunk_bytes x) bytes whole)

abbrev MakesTransactions : Result (Vec Transaction) RecordFault → List ℕ → List ℕ → List ℕ → Type 0
MakesTransactions =
    Makes (λ (v : Vec Transaction). v.items) (flat_map transaction_bytes) (AllByRecursion IsTransaction)
    (outlines transaction_bytes place)

-- the first byte and the count
abbrev head : List Transaction → List ℕ
head l = 1 ∷ little 4 (length l)

head_size : (front : List ℕ) (l : List Transaction) → length front + 1 + 4 ≡ length (front ++ head l)
head_size front l = omega (arith, length-append front (head l), length_four (length l))

module _ (bytes new places : List ℕ) where
  inside : (r : Result (Vec Transaction) RecordFault) → MakesTransactions r places bytes new → (l : List Transaction)
      (front : List ℕ) → IsChunk (Some l) → some_places places ≡ chunk_outline (length front) (Some l)
      → IsFront (front ++ chunk_bytes (Some l)) bytes
      → MakesIt (λ (v : Vec Transaction). v.items) l (front ++ head l) r new
  inside r makes l front fits is whole =
      makes l (front ++ head l) fits.1
      (places_are places (outlines transaction_bytes place (length front + 1 + 4) l) is
      ∙ ap (λ n. outlines transaction_bytes place n l) (head_size front l))
      (subst (λ (t : List ℕ). IsFront t bytes) (sym (append_assoc front (head l) (flat_map transaction_bytes l))) whole)

  pub some_chunk : (v : Vec Transaction) → MakesTransactions (Ok v) places bytes new
      → MakesChunk (Ok (Some v.items)) (Some places) bytes new
  some_chunk v makes = go
    where
      go : (x : Chunk) (front : List ℕ) → IsChunk x → some_places places ≡ chunk_outline (length front) x
          → IsFront (front ++ chunk_bytes x) bytes → MakesIt (λ (c : Chunk). c) x front (Ok (Some v.items)) new
      go None front fits is whole = absurd (not_there places is)
      go (Some l) front fits is whole =
          let made = inside (Ok v) makes l front fits is whole in (
            ap (λ (l : List Transaction). some (Some l)) (its_value l v.items made.0),
            front_of front (head l) new
                made.1,
          )

  pub fault_chunk : (fault : RecordFault) → MakesTransactions (Err fault) places bytes new
      → MakesChunk (Err fault) (Some places) bytes new
  fault_chunk fault makes = go
    where
      go : (x : Chunk) (front : List ℕ) → IsChunk x → some_places places ≡ chunk_outline (length front) x
          → IsFront (front ++ chunk_bytes x) bytes → MakesIt (λ (c : Chunk). c) x front (Err fault) new
      go None front fits is whole = absurd (not_there places is)
      go (Some l) front fits is whole =
          let made = inside (Err fault) makes l front fits is whole in
          (λ other. absurd (no_fault l fault (made.0 other)), tt)

-- ---- a block
abbrev block_head : Block → List ℕ
block_head b = little 8 b.height.0 ++ (little 8 b.timestamp ++ (price_bytes b.price ++ little 4 (length b.chunks)))

head_text : (b : Block) → block_bytes b ≡ block_head b ++ flat_map chunk_bytes b.chunks
head_text b =
    let h = little 8 b.height.0 in
    let t = little 8 b.timestamp in
    let p = price_bytes b.price in
    let n = little 4 (length b.chunks) in
    let c = flat_map chunk_bytes b.chunks in
    sym (append_assoc h (t ++ (p ++ n)) c ∙ ap (λ (l : List ℕ). h ++ l) (append_assoc t (p ++ n) c
    ∙ ap (λ (l : List ℕ). t ++ l) (append_assoc p n c)))

block_size : (front : List ℕ) (b : Block) → chunks_place (length front) b + 4 ≡ length (front ++ block_head b)
block_size front b =
    let h = little 8 b.height.0 in
    let t = little 8 b.timestamp in
    let p = price_bytes b.price in
    let n = little 4 (length b.chunks) in
    omega (
      arith,
      length-append front (block_head b),
      length-append h (t ++ (p ++ n)),
      length-append t (p ++ n),
      length-append p n,
      length_four (length b.chunks),
    )

abbrev MakesChunks : Result (Vec Chunk) RecordFault → List Places → List ℕ → List ℕ → Type 0
MakesChunks =
    Makes (λ (v : Vec Chunk). v.items) (flat_map chunk_bytes) (AllByRecursion IsChunk)
    (outlines chunk_bytes chunk_outline)

abbrev pub with_chunks : Outline → List Chunk → Block
with_chunks o l = record { height = o.height; timestamp = o.timestamp; price = o.price; chunks = l }

abbrev MakesBlock : Version → Result Block RecordFault → Outline → List ℕ → List ℕ → Type 0
MakesBlock version = Makes (λ (b : Block). b) block_bytes (IsBlock version) block_outline

module _ (version : Version) (bytes new : List ℕ) (is : Outline) where
  within : (r : Result (Vec Chunk) RecordFault) → MakesChunks r is.chunks bytes new → (b : Block) (front : List ℕ)
      → IsBlock version b → is ≡ block_outline (length front) b → IsFront (front ++ block_bytes b) bytes
      → MakesIt (λ (v : Vec Chunk). v.items) b.chunks (front ++ block_head b) r new
  within r makes b front fits same whole =
      makes b.chunks (front ++ block_head b) fits.1.1.1.1
      (ap (λ (o : Outline). o.chunks) same ∙ ap (λ n. outlines chunk_bytes chunk_outline n b.chunks)
      (block_size front b))
      (subst (λ (t : List ℕ). IsFront t bytes)
      (ap (λ (l : List ℕ). front ++ l) (head_text b) ∙ sym (append_assoc front (block_head b)
      (flat_map chunk_bytes b.chunks)))
      whole)

  pub block_made : (v : Vec Chunk) → MakesChunks (Ok v) is.chunks bytes new
      → MakesBlock version (Ok (with_chunks is v.items)) is bytes new
  block_made v makes = λ b front fits same whole.
      let made = within (Ok v) makes b front fits same whole in (
        λ i. some (with_chunks (sym same i) (its_value b.chunks v.items made.0 i)),
        front_of front (block_head b) new
            made.1,
      )

  pub block_fault : (fault : RecordFault) → MakesChunks (Err fault) is.chunks bytes new
      → MakesBlock version (Err fault) is bytes new
  block_fault fault makes = λ b front fits same whole.
      let made = within (Err fault) makes b front fits same whole in
      (λ other. absurd (no_fault b.chunks fault (made.0 other)), tt)
