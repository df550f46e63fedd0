-- What is written of a run to its end, and of a generated one.
use Rattle.std.proofs.Common.{◌≡◌, ℕ, ◌+◌, List, [], ◌++◌, refl, ap, subst, ◌∙◌, arith}
use Rattle.sha2.specs.Hashers.{Holds256}
use Rattle.sha2.specs.Sha256.{sha256}
use Rattle.sha2.specs.declared.Sha256.{Sha256}
use Rattle.nr_chunk.specs.Chain.{Chain, rules_of}
use Rattle.nr_course.specs.Texts.{leg_text}
use Rattle.nr_outcome.specs.Texts.{count_to, text_between}
use Rattle.nr_outcome.specs.Totals.{totals_at}
use Rattle.nr_outcome.proofs.Steps.{joined_between, none_between}
use Rattle.nr_overlap.specs.Moment.{report_at}
use Rattle.nr_overlap.specs.Run.{ending}
use Rattle.nr_report.specs.Lines.{totals_text}
use Rattle.nr_top.specs.Generated.{first_lines, generated_chain, generated_text}

-- ---- a text that is hashed, of one number after another
pub hashed_none : (hasher : Sha256) (f : ℕ → List ℕ) → Holds256 hasher [] → Holds256 hasher (text_between 0 0 f)
hashed_none hasher f is = subst (Holds256 hasher) (none_between 0 0 f (omega arith)) is

pub hashed_next : (hasher : Sha256) (f : ℕ → List ℕ) (n : ℕ) (added : List ℕ) → added ≡ text_between n (n + 1) f
    → Holds256 hasher (text_between 0 n f ++ added) → Holds256 hasher (text_between 0 (n + 1) f)
hashed_next hasher f n added told is =
    subst (Holds256 hasher) (ap (λ (t : List ℕ). text_between 0 n f ++ t) told ∙ joined_between 0 n (n + 1) f (omega arith) (omega arith)) is

-- ---- the whole text of a run
abbrev totals : Chain → List ℕ
totals x = totals_text (totals_at x (ending (rules_of x)))

-- ---- and of a generated one
module _ (start shards blocks : ℕ) where
  abbrev lines : ℕ → List ℕ → List ℕ
  lines count hash = first_lines start shards blocks count (record { 0 = hash })

  abbrev count_in : Chain → ℕ
  count_in x = let r = rules_of x in count_to r.shards (report_at r (ending r)) r.heights

  abbrev written_of : Chain → List ℕ
  written_of x = lines (count_in x) (sha256 (leg_text x ++ totals x)) ++ totals x

  is_generated : written_of (generated_chain start shards blocks) ≡ generated_text start shards blocks
  unfolding generated_text
  is_generated = refl

  pub generated_is : (x : Chain) (count : ℕ) (hash end text : List ℕ) → x ≡ generated_chain start shards blocks
      → count ≡ count_in x → end ≡ totals x → hash ≡ sha256 (leg_text x ++ end)
      → text ≡ lines count hash ++ end → text ≡ generated_text start shards blocks
  generated_is x count hash end text same counted ended hashed written =
      let hash_is : hash ≡ sha256 (leg_text x ++ totals x) = hashed ∙ ap (λ (t : List ℕ). sha256 (leg_text x ++ t)) ended in
      written ∙ (λ i. lines (counted i) (hash_is i) ++ ended i) ∙ ap written_of same ∙ is_generated
