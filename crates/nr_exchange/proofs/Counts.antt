-- How many chunks a source has up to a height.
use Rattle.std.proofs.Common.{◌≡◌, ℕ, zero, suc, ◌+◌, ◌-◌, ◌<◌, ◌≤◌, le_refl, Bool, true, false, cond, sym, ap, ◌∙◌, subst, arith, add-one}
use native.Mathlib.Decide.{dec_le}
use Rattle.nr_exchange.specs.Plan.{Plan, chunks_to, IsNextChunk}

no_less : (n : ℕ) (b : Bool) → n ≤ n + cond b 1 0
no_less n true = omega arith
no_less n false = omega arith

no_more : (n : ℕ) (b : Bool) → n + cond b 1 0 ≤ n + 1
no_more n true = omega arith
no_more n false = omega arith

module _ {L : Type 0} (p : Plan L) (s : ℕ) where
  chunk_up : (h : ℕ) → chunks_to p s h ≤ chunks_to p s (suc h)
  chunk_up h = no_less (chunks_to p s h) (p.present s (suc h))

  then_up : (a b : ℕ) → (a ≤ b → chunks_to p s a ≤ chunks_to p s b) → a ≤ suc b → Dec (a ≤ b) → chunks_to p s a ≤ chunks_to p s (suc b)
  then_up a b up le (yes below) = let x = up below in let y = chunk_up b in let i : ℕ = chunks_to p s a in let j : ℕ = chunks_to p s b in let k : ℕ = chunks_to p s (suc b) in let x' : i ≤ j = x in let y' : j ≤ k = y in let g : i ≤ k = omega arith in g
  then_up a b up le (no above) = subst (λ (k : ℕ). chunks_to p s k ≤ chunks_to p s (suc b)) (let e : suc b ≡ a = omega arith in e) (le_refl (chunks_to p s (suc b)))

  pub chunks_up : (a b : ℕ) → a ≤ b → chunks_to p s a ≤ chunks_to p s b
  chunks_up a zero le = subst (λ (k : ℕ). chunks_to p s k ≤ 0) (let e : 0 ≡ a = omega arith in e) (le_refl 0)
  chunks_up a (suc b) le = then_up a b (λ below. chunks_up a b below) le (dec_le a b)

  pub chunks_within : (h : ℕ) → chunks_to p s h ≤ h
  chunks_within zero = le_refl 0
  chunks_within (suc h) = let x = chunks_within h in let y = no_more (chunks_to p s h) (p.present s (suc h)) in let i : ℕ = chunks_to p s h in let k : ℕ = chunks_to p s (suc h) in let x' : i ≤ h = x in let y' : k ≤ i + 1 = y in let g : k ≤ suc h = omega arith in g

  pub chunk_there : (h : ℕ) → p.present s (h + 1) ≡ true → chunks_to p s (h + 1) ≡ chunks_to p s h + 1
  chunk_there h there = ap (chunks_to p s) (add-one h) ∙ ap (λ (b : Bool). chunks_to p s h + cond b 1 0) (ap (p.present s) (sym (add-one h)) ∙ there)

  pub chunk_missing : (h : ℕ) → p.present s (h + 1) ≡ false → chunks_to p s (h + 1) ≡ chunks_to p s h
  chunk_missing h missing = ap (chunks_to p s) (add-one h) ∙ (ap (λ (b : Bool). chunks_to p s h + cond b 1 0) (ap (p.present s) (sym (add-one h)) ∙ missing) ∙ (let n : ℕ = chunks_to p s h in let e : n + 0 ≡ n = omega arith in e))

  pub chunk_at : (h : ℕ) → 0 < h → p.present s h ≡ true → chunks_to p s h ≡ chunks_to p s (h - 1) + 1
  chunk_at h pos there =
      let e : h ≡ (h - 1) + 1 = omega arith in
      ap (chunks_to p s) e ∙ chunk_there (h - 1) (subst (λ (k : ℕ). p.present s k ≡ true) e there)

  none_between : (a n : ℕ) → ((k : ℕ) → a < k → k ≤ a + n → p.present s k ≡ false) → chunks_to p s (a + n) ≡ chunks_to p s a
  none_between a zero none = ap (chunks_to p s) (let e : a + 0 ≡ a = omega arith in e)
  none_between a (suc n) none =
      let e : a + suc n ≡ (a + n) + 1 = omega arith in
      ap (chunks_to p s) e ∙ (chunk_missing (a + n) (none ((a + n) + 1) (omega arith) (omega arith)) ∙ none_between a n (λ k above below. none k above (omega arith)))

  -- no chunk lies between one that was claimed and the next
  pub chunks_next : (c h : ℕ) → IsNextChunk p s c h → chunks_to p s (h - 1) ≡ chunks_to p s c
  chunks_next c h next =
      let later = next.later in
      let e : h - 1 ≡ c + (h - 1 - c) = omega arith in
      ap (chunks_to p s) e ∙ none_between c (h - 1 - c) (λ k above below. next.first k above (omega arith))
