-- The outline of a file of the third version is read as the file is, and what is made of it is the file.
use Rattle.std.proofs.Common.{◌≡◌, ◌≢◌, ℕ, ◌+◌, List, ◌++◌, length, Option, Ok, Err, refl, sym, ap, ◌∙◌}
use Rattle.std.proofs.Common.{append_assoc, arith}
use Rattle.std.proofs.lemmas.List.{length-append}
use Rattle.std.specs.List.{flat_map}
use Rattle.nr_blocks.proofs.Outlined.{BlocksMade, IsFileOf, IsOutlined, all_fault, all_outline, answered}
use Rattle.nr_blocks.proofs.Outlined.{are_outlines, blocks_are, length_four, mapped_is, never_refused, outline_read}
use Rattle.nr_blocks.proofs.Outlined.{pair_is, same_blocks}
use Rattle.nr_blocks.specs.BlocksFiles.{block_bytes}
use Rattle.nr_blocks.specs.Files.{headed, magic_at}
use Rattle.nr_blocks.specs.Outlines.{AreOutlines, block_outline, list_outline, outlines}
use Rattle.nr_blocks.specs.declared.block.Block.{Block}
use Rattle.nr_blocks.specs.declared.version.Version.TheVariants.{Two}
use Rattle.nr_bytes.proofs.Whole.{whole_taken}
use Rattle.nr_bytes.specs.Numbers.{IsBytes, little}
use Rattle.nr_bytes.specs.Reading.{Input, ◌>>=◌}
use Rattle.nr_records.specs.Fault.{record_fault}
use Rattle.nr_records.specs.OptionLaw.{option_law}
use Rattle.nr_records.specs.Options.{option_at, option_bytes}
use Rattle.nr_records.specs.Reading.{Read, all_of}
use Rattle.nr_records.specs.declared.fault.RecordFault.{RecordFault}
use Rattle.nr_records.specs.declared.fault.RecordFault.TheVariants.{Memory}
use Rattle.nr_blocks.specs.FileLaws.{magic_law}
use Rattle.nr_reshard.specs.FileLaws.{reshard_law, third_law}
use Rattle.nr_reshard.specs.Files.{IsThird, file_of, reshard_at, reshard_bytes, third_at, third_bytes, third_magic}
use Rattle.nr_reshard.specs.Outlines.{outline_of, third_outline_at}
use Rattle.nr_reshard.specs.declared.chain_file.ChainFile.{ChainFile}
use Rattle.nr_reshard.specs.declared.reshard.Reshard.{Reshard}
use Rattle.nr_reshard.specs.declared.third.ThirdOutline.{ThirdOutline}

-- ---- a word of four bytes and what stands behind it
abbrev behind_word : {X Y : Type 0} → (ℕ → X → Y) → ℕ → X → Y
behind_word o at = o (at + 4)

headed_is : {X Y : Type 0} (magic : List ℕ) (r : Input → Read X) (q : Input → Read Y) (o : ℕ → X → Y)
    → IsOutlined o r q → IsOutlined (behind_word o) (headed magic r) (headed magic q)
headed_is {X} {Y} magic r q o same = λ s fits. go s fits (magic_at magic s) refl
  where
    behind : (s : Input) (word : List ℕ × Input) (read : Read X) → word.1.at ≡ s.at + 4
        → (((read >>= λ x. answered (o word.1.at x.0, x.1)) >>= λ y. answered {X = List ℕ × Y} ((word.0, y.0), y.1))
        >>= λ p. answered {X = Y} (p.0.1, p.1))
        ≡ (((read >>= λ x. answered {X = List ℕ × X} ((word.0, x.0), x.1)) >>= λ p. answered {X = X} (p.0.1, p.1))
        >>= λ x. answered {X = Y} (behind_word o s.at x.0, x.1))
    behind s word (Ok x) e = ap (λ (m : ℕ). answered (o m x.0, x.1)) e
    behind s word (Err f) e = refl

    go : (s : Input) → IsBytes s.left → (word : Read (List ℕ)) → magic_at magic s ≡ word
        → headed magic q s ≡ outline_read (behind_word o) (headed magic r) s
    go s fits (Err f) e = rw e refl
    go s fits (Ok w) e =
        let takes = (magic_law magic).taken s w fits e in
        rw (e, same w.1 takes.1.bytes) (behind s w (r w.1) (omega (arith, takes.1.at, takes.0.0)))

-- ---- the file
abbrev third_outline_in : ℕ → ChainFile → ThirdOutline
third_outline_in at f =
    record {
      reshard = f.reshard;
      blocks = list_outline block_bytes block_outline (at + length (option_bytes reshard_bytes f.reshard)) f.blocks;
    }

abbrev third_outline : ℕ → ChainFile → ThirdOutline
third_outline = behind_word third_outline_in

third_is : IsOutlined third_outline third_at third_outline_at
unfolding third_at third_outline_at
third_is =
    headed_is third_magic _ _ third_outline_in
    (mapped_is file_of outline_of _ _ _ third_outline_in (λ at f. refl)
    (pair_is (option_at reshard_at) (option_bytes reshard_bytes) _ (option_law _ _ _ reshard_law) _ _ _
    (blocks_are Two)))

abbrev chain_file : Option Reshard → List Block → ChainFile
chain_file reshard bs = record { reshard = reshard; blocks = bs }

module _ (bytes : List ℕ) (fits : IsBytes bytes) where
  pub third_fault : (e : RecordFault) → all_of third_outline_at bytes ≡ Err e → all_of third_at bytes ≡ Err e
  third_fault e is = all_fault third_at third_outline_at third_outline third_is bytes fits e is

  file : (is : ThirdOutline) → all_of third_outline_at bytes ≡ Ok is
      → (f : ChainFile) × (all_of third_at bytes ≡ Ok f) × (is.reshard ≡ f.reshard) × IsFileOf bytes is.blocks f.blocks
  file is read =
      let x = all_outline third_at third_outline_at third_outline third_is bytes fits is read in
      let f : ChainFile = x.0 in
      let taken : IsThird f × (bytes ≡ third_bytes f) =
      whole_taken record_fault third_at third_bytes IsThird third_law bytes f fits x.1 in
      let change = option_bytes reshard_bytes f.reshard in
      let count = little 4 (length f.blocks) in
      let text = flat_map block_bytes f.blocks in
      let size : 0 + 4 + length change + 4 ≡ length (third_magic ++ (change ++ count)) =
      omega (
        arith,
        length-append third_magic (change ++ count),
        length-append change count,
        length_four (length f.blocks),
      ) in (
        f,
        x.1,
        ap (λ (o : ThirdOutline). o.reshard) x.2,
        record {
          version = Two;
          front = third_magic ++ (change ++ count);
          fit = taken.0.1.1;
          outlined = ap (λ (o : ThirdOutline). o.blocks) x.2 ∙ ap (λ n. outlines block_bytes block_outline n f.blocks)
              size;
          spelled = taken.1
              ∙ sym (append_assoc third_magic (change ++ count) text
              ∙ ap (λ (l : List ℕ). third_magic ++ l) (append_assoc change count text));
        },
      )

  pub third_outlines : (is : ThirdOutline) → all_of third_outline_at bytes ≡ Ok is → AreOutlines is.blocks bytes
  third_outlines is read = are_outlines (file is read).3

  pub made_fault : (is : ThirdOutline) (e : RecordFault) → all_of third_outline_at bytes ≡ Ok is
      → BlocksMade is.blocks bytes (Err e) → e ≢ Memory → all_of third_at bytes ≡ Err e
  made_fault is e read made other = absurd (never_refused (file is read).3 e made other)

  pub made_file : (is : ThirdOutline) (bs : List Block) → all_of third_outline_at bytes ≡ Ok is
      → BlocksMade is.blocks bytes (Ok bs) → all_of third_at bytes ≡ Ok (chain_file is.reshard bs)
  made_file is bs read made =
      let f = file is read in
      f.1 ∙ (λ i. Ok (chain_file (sym f.2 i) (same_blocks f.3 bs made i)))
