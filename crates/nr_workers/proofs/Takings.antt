-- Which list comes next, and what the port has claimed then.
use Rattle.std.proofs.Common.{◌≡◌, ◌≢◌, ℕ, zero, suc, ◌+◌, ◌-◌, ◌<◌, ◌≤◌, Bool, true, false, cond, None, refl, sym, ap, ◌∙◌, subst, arith}
use Rattle.std.specs.Prelude.{nat_lt}
use mathlib.Core.Logic.{dite}
use native.Mathlib.Decide.{ℕ_discrete}
use Rattle.nr_overlap.specs.Rules.{Rules}
use Rattle.nr_overlap.specs.Serial.{last_present, list_to, sealing_at}
use Rattle.nr_overlap.proofs.DueLemmas.{last_here, last_below}
use Rattle.nr_overlap.proofs.SerialLemmas.{sealing_missing}
use Rattle.nr_exchange.specs.declared.note.Note.{Note}
use Rattle.nr_exchange.specs.Plan.{plan_of, IsNextChunk}
use Rattle.nr_exchange.specs.Notes.{link}
use Rattle.nr_workers.specs.Taking.{source_after, done_after, HasClaimed}
use Rattle.nr_workers.proofs.Orders.{one_more, this_one, none_of, by_next}

module _ {W K L R : Type 0} (r : Rules W K L R) where
  pub last_small : (s h : ℕ) → last_present r s h ≤ h
  last_small s zero = omega arith
  last_small s (suc h) = by (r.present s (h + 1)) (last_small s h)
    where
      by : (b : Bool) → last_present r s h ≤ h → cond b (h + 1) (last_present r s h) ≤ suc h
      by true l = omega arith
      by false l = omega arith

  pub last_there : (s h : ℕ) → r.present s (h + 1) ≡ true → last_present r s (h + 1) ≡ h + 1
  last_there s h there = last_here r s (h + 1) (omega arith) there

  pub last_missing : (s h : ℕ) → r.present s (h + 1) ≡ false → last_present r s h ≡ last_present r s (h + 1)
  last_missing s h missing = let e : h + 1 - 1 ≡ h = omega arith in ap (last_present r s) (sym e) ∙ last_below r s (h + 1) (omega arith) missing

  -- no chunk stands behind the last one
  pub none_behind : (s h k : ℕ) → last_present r s h < k → k ≤ h → r.present s k ≡ false
  none_behind s zero k l m = absurd (omega arith)
  none_behind s (suc h) k l m = by (r.present s (h + 1)) refl l (λ l n. none_behind s h k l n)
    where
      by : (b : Bool) → r.present s (h + 1) ≡ b → cond b (h + 1) (last_present r s h) < k → (last_present r s h < k → k ≤ h → r.present s k ≡ false) → r.present s k ≡ false
      by true e l below = absurd (omega arith)
      by false e l below = dite (ℕ_discrete k (h + 1)) (λ same. ap (r.present s) same ∙ e) (λ apart. below l (omega arith))

  module _ {P : Type 0} where
    -- the next list of a source is that of its next chunk
    pub is_next : (v : Note P) (done t : ℕ) → (link v t).claimed ≡ last_present r t done → done < r.heights → r.present t (done + 1) ≡ true → IsNextChunk (plan_of r) t (link v t).claimed (done + 1)
    is_next v done t is below there =
        record {
          later = (let small = last_small t done in omega arith);
          last = omega arith;
          there = there;
          first = λ k l m. none_behind t done k (subst (λ (c : ℕ). c < k) is l) (omega arith);
        }

    -- behind a source whose list is claimed, if it has one
    pub goes_on : (v w : Note P) (done source : ℕ) → HasClaimed r v done source → (link w source).claimed ≡ last_present r source (done + 1) → ((t : ℕ) → t ≢ source → (link w t).claimed ≡ (link v t).claimed)
        → HasClaimed r w (done_after r.shards done source) (source_after r.shards source)
    goes_on v w done source claimed this others t inside =
        dite (ℕ_discrete t source)
        (λ same. subst (λ (u : ℕ). (link w u).claimed ≡ last_present r u (cond (nat_lt u (source + 1)) (done + 1) done)) (sym same) (this ∙ ap (last_present r source) (sym (this_one source (done + 1) done))))
        (λ apart. others t apart ∙ claimed t inside ∙ ap (last_present r t) (sym (one_more t source (done + 1) done apart)))
        ∙ ap (last_present r t) (sym (by_next (nat_lt (source + 1) r.shards) r.shards done source t refl inside))

    pub goes_past : (v : Note P) (done source : ℕ) → HasClaimed r v done source → source < r.shards → r.present source (done + 1) ≡ false → HasClaimed r v (done_after r.shards done source) (source_after r.shards source)
    goes_past v done source claimed inside missing =
        goes_on v v done source claimed (claimed source inside ∙ ap (last_present r source) (none_of source source (done + 1) done (omega arith)) ∙ last_missing source done missing) (λ t apart. refl)

    -- the same claims
    pub still_claimed : (v w : Note P) (done source : ℕ) → HasClaimed r v done source → ((t : ℕ) → (link w t).claimed ≡ (link v t).claimed) → HasClaimed r w done source
    still_claimed v w done source claimed same t inside = same t ∙ claimed t inside

  pub no_list : (s d done : ℕ) → r.present s (done + 1) ≡ false → None ≡ list_to r (sealing_at r s (done + 1)) d
  no_list s d done missing = ap (λ z. list_to r z d) (sym (sealing_missing r s done missing))
