-- Bytes put behind others in place.
use Rattle.std.proofs.Common.{◌≡◌, ℕ, ◌+◌, ◌≤◌, List, ◌++◌, length, take, ap, ◌∙◌, arith}
use Rattle.std.proofs.lemmas.Slice.{take-put_mid}
use borrow.Rule.Slice.PartMut.{put_mid}

-- what stands at the front once a part was written behind
pub put_part : (at k : ℕ) (old ys part : List ℕ) → ys ≡ part → at ≤ length old → take (at + length part) (put_mid at k old ys) ≡ take at old ++ part
put_part at k old ys part same le =
    take-put_mid at k old ys (at + length part) (omega (arith, ap length same)) le ∙ ap (λ (l : List ℕ). take at old ++ l) same

-- the bytes behind a part more
pub put_behind : (old new part view : List ℕ) (count end : ℕ) → take (count + length part) new ≡ take count old ++ part → take count old ≡ view → end ≡ count + length part → take end new ≡ view ++ part
put_behind old new part view count end put is same =
    ap (λ (n : ℕ). take n new) same ∙ put ∙ ap (λ (l : List ℕ). l ++ part) is
