-- A block is read as it is spelled.
use Rattle.std.proofs.Common.{◌≡◌, ℕ, ◌^◌, List, Option, Some, None, Ok, refl, ap, subst, arith}
use Rattle.nr_bytes.specs.Numbers.{little}
use Rattle.nr_bytes.specs.Reading.{Input}
use Rattle.nr_bytes.specs.Spelling.{IsRead, Below, Takes, before, behind}
use Rattle.nr_bytes.proofs.Steps.{ok_is}
use Rattle.nr_bytes.proofs.Fields.{nat_law}
use Rattle.nr_bytes.proofs.Combined.{list_law}
use Rattle.nr_bytes.proofs.Values.{pair_law, mapped_law, mapped_case}
use Rattle.nr_records.specs.Fault.{record_fault}
use Rattle.nr_records.specs.OptionLaw.{option_law}
use Rattle.nr_records.specs.Reading.{nat_at}
use Rattle.nr_records.specs.TransactionLaw.{transaction_law}
use Rattle.nr_blocks.specs.BlocksFiles.{Fields, block_of, block_at, block_bytes, chunk_at, chunk_bytes, IsBlock}
use Rattle.nr_blocks.specs.BlocksFiles.{IsChunk, price_at, price_bytes, IsPrice}
use Rattle.nr_blocks.specs.declared.block.Block.{Block}
use Rattle.nr_blocks.specs.declared.version.Version.{Version}
use Rattle.nr_blocks.specs.declared.version.Version.TheVariants.{One, Two}

pub chunk_law : IsRead chunk_at chunk_bytes IsChunk
chunk_law = option_law _ _ _ (list_law record_fault _ _ _ transaction_law)

pub price_law : (version : Version) → IsRead (price_at version) price_bytes (IsPrice version)
price_law One = record {
  taken = λ s p fits e.
      subst (λ (q : Option ℕ × Input). IsPrice One q.0 × Takes s (price_bytes q.0) q.1) (ok_is (None, s) p e) (tt, record { left = refl; at = omega arith; bytes = fits });
  again = λ v at rest fits. none_again v at rest fits;
}
  where
    none_again : (v : Option ℕ) (at : ℕ) (rest : List ℕ) → IsPrice One v → price_at One (before (price_bytes v) at rest) ≡ Ok (v, behind (price_bytes v) at rest)
    none_again None at rest fits = ap (λ n. Ok (None, record { left = rest; at = n })) (omega arith)
    none_again (Some p) at rest fits = absurd fits
price_law Two = record {
  taken = λ s p fits e.
      mapped_case (λ price. Some price) (nat_at 8) (little 8) (Below (256 ^ 8)) (nat_law record_fault 8)
      (λ q. IsPrice Two q.0 × Takes s (price_bytes q.0) q.1) s p fits (λ price t ok takes. (ok, takes)) e;
  again = λ v at rest fits. some_again v at rest fits;
}
  where
    some_again : (v : Option ℕ) (at : ℕ) (rest : List ℕ) → IsPrice Two v → price_at Two (before (price_bytes v) at rest) ≡ Ok (v, behind (price_bytes v) at rest)
    some_again None at rest fits = absurd fits
    some_again (Some p) at rest fits = rw ((nat_law record_fault 8).again p at rest fits) refl

abbrev fields_of : Block → Fields
fields_of b = (b.height.0, (b.timestamp, (b.price, b.chunks)))

pub block_law : (version : Version) → IsRead (block_at version) block_bytes (IsBlock version)
unfolding block_at
block_law version = mapped_law block_of fields_of (λ _. refl) (λ _. refl) _ _ _
    (pair_law _ _ _ _ _ _ (nat_law record_fault 8)
    (pair_law _ _ _ _ _ _ (nat_law record_fault 8)
    (pair_law _ _ _ _ _ _ (price_law version) (list_law record_fault _ _ _ chunk_law))))
