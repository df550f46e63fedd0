-- The goals of `derivation::derive` that no tactic closes.
use Rattle.std.proofs.Common.{◌≡◌, ℕ, List, [], ◌++◌, refl, sym}
use Rattle.std.specs.Int.{w64, to_le_bytes}
use Rattle.sha2.specs.Sha256.{sha256}
use Rattle.nr_ids.specs.declared.key.Hash32.{Hash32}
use Rattle.nr_ids.specs.Derive.{derived}
use Rattle.nr_ids.proofs.derivation.derive.Goals as goal

digest_is : (digest a b : List ℕ) (parent : Hash32) (h o : ℕ) → digest ≡ sha256 (parent.0 ++ a ++ b) → a ≡ to_le_bytes w64 h → b ≡ to_le_bytes w64 o → derived parent h o ≡ record { 0 = digest }
unfolding derived
digest_is digest a b parent h o e f g = rw (e, f, g) refl

pub returns : goal.returns
returns c =
    let whole = c.update-3.ensures _ (c.update-2.ensures _ (c.update.ensures [] c.new-hasher.ensures)) in
    sym (digest_is _ _ _ c.args.parent.now c.args.height.0 c.args.ordinal (c.finalize.ensures _ whole) c.to_le_bytes.ensures c.to_le_bytes-2.ensures)
