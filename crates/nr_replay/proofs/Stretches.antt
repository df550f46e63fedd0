-- One stretch after another.
use Rattle.std.proofs.Common.{◌≡◌, ℕ, ◌+◌, ◌<◌, List, [], ◌++◌, Result, Ok, Err, sym, subst, ◌∙◌, arith}
use Rattle.std.specs.Prelude.{IfOk, IsOk, slice_index_or}
use Rattle.std.specs.declared.alloc.AllocError.{AllocError}
use Rattle.nr_outcome.specs.Reports.{report_in}
use Rattle.nr_outcome.specs.Texts.{heights_text, height_text}
use Rattle.nr_outcome.specs.declared.reports.Reports.{Reports}
use Rattle.nr_outcome.proofs.Steps.{joined_between, none_between}
use Rattle.nr_replay.specs.Stretches.{IsStretch, start_of}

module _ (y : Reports) (heights : ℕ) where
  abbrev text_to : ℕ → List ℕ
  text_to number = heights_text y.shards (report_in y) 0 (start_of heights number)

  pub none_before : [] ≡ text_to 0
  none_before = none_between 0 (start_of heights 0) (λ h. height_text y.shards (report_in y) (h + 1)) (grind arith)

  pub one_more : (number : ℕ) (old more new : List ℕ) → old ≡ text_to number → IsStretch y heights number more → new ≡ old ++ more → new ≡ text_to (number + 1)
  one_more number old more new is next e =
      e ∙ (λ i. is i ++ next i)
      ∙ joined_between 0 (start_of heights number) (start_of heights (number + 1)) (λ h. height_text y.shards (report_in y) (h + 1)) (omega arith) (grind arith)

  add_more : (number : ℕ) (old new : List ℕ) (stretch : Result (List ℕ) AllocError) → old ≡ text_to number → IfOk stretch (IsStretch y heights number)
      → IsOk stretch → IfOk stretch (λ more. new ≡ old ++ more) → new ≡ text_to (number + 1)
  add_more number old new (Ok more) is next there e = one_more number old more new is next e
  add_more number old new (Err fault) is next there e = absurd cc

  -- the stretches of a list, each of which is one if it could be written
  pub next_text : (number : ℕ) (old new : List ℕ) (stretch : Result (List ℕ) AllocError) (texts : List (Result (List ℕ) AllocError)) → old ≡ text_to number
      → ((i : ℕ) (d : Result (List ℕ) AllocError) → i < 8 → IfOk (slice_index_or texts i d) (IsStretch y heights i)) → number < 8
      → stretch ≡ slice_index_or texts number stretch → IsOk stretch → IfOk stretch (λ more. new ≡ old ++ more) → new ≡ text_to (number + 1)
  next_text number old new stretch texts is each within here there e =
      add_more number old new stretch is (subst (λ r. IfOk r (IsStretch y heights number)) (sym here) (each number stretch within)) there e
