-- Reports in order of height, one after another.
use Rattle.std.proofs.Common.{◌≡◌, ℕ, suc, ◌+◌, ◌-◌, ◌<◌, true, false, List, ◌∷◌, ◌++◌, drop, length, Some, None, sym, ap, ◌∙◌, arith}
use Rattle.std.specs.Prelude.{slice_get}
use Rattle.std.specs.List.{flat_map, range_with_len}
use Rattle.std.specs.Option.{option_map, option_to_list}
use Rattle.nr_overlap.specs.Outcome.{report_at, report_of}
use Rattle.nr_overlap.specs.Rules.{Rules}
use Rattle.nr_overlap.specs.Serial.{due_after, work}
use Rattle.nr_overlap.proofs.SerialLemmas.{sealing_missing, sealing_there}

module _ {W K L R : Type 0} (r : Rules W K L R) (s : ℕ) where
  -- the reports above a number of heights
  abbrev pub above : ℕ → List R
  above below = flat_map (report_at r s) (range_with_len (below + 1) (r.heights - below))

  above_next : (below : ℕ) → below < r.heights → above below ≡ option_to_list (report_of r s (below + 1)) ++ above (below + 1)
  above_next below lt = let more : r.heights - below ≡ suc (r.heights - (below + 1)) = omega arith in ap (λ n. flat_map (report_at r s) (range_with_len (below + 1) n)) more

  -- no chunk is there
  pub none_there : (below : ℕ) → r.present s (below + 1) ≡ false → report_of r s (below + 1) ≡ None
  none_there below e = ap (λ o. option_map (λ z. z.report) o) (sealing_missing r s below e)

  pub gap : (below : ℕ) (rest : List R) → below < r.heights → r.present s (below + 1) ≡ false → rest ≡ above below → rest ≡ above (below + 1)
  gap below rest lt e is = is ∙ above_next below lt ∙ ap (λ o. option_to_list o ++ above (below + 1)) (none_there below e)

  -- a chunk is there, and its report is the next
  one_there : (below : ℕ) → r.present s (below + 1) ≡ true → report_of r s (below + 1) ≡ Some (r.seals (work r s below (length (due_after r s below)))).report
  one_there below e = ap (λ o. option_map (λ z. z.report) o) (sealing_there r s below e)

  split : (below : ℕ) (rest : List R) → below < r.heights → r.present s (below + 1) ≡ true → rest ≡ above below → rest ≡ (r.seals (work r s below (length (due_after r s below)))).report ∷ above (below + 1)
  split below rest lt e is = is ∙ above_next below lt ∙ ap (λ o. option_to_list o ++ above (below + 1)) (one_there below e)

  pub some_there : (below : ℕ) (rest : List R) → below < r.heights → r.present s (below + 1) ≡ true → rest ≡ above below → 0 < length rest
  some_there below rest lt e is = omega (arith, ap length (split below rest lt e is))

  pub next_there : (below : ℕ) (rest more : List R) (y : R) → below < r.heights → r.present s (below + 1) ≡ true → rest ≡ above below → rest ≡ y ∷ more → Some y ≡ report_of r s (below + 1)
  next_there below rest more y lt e is next = ap (λ ys. slice_get ys 0) (sym next ∙ split below rest lt e is) ∙ sym (one_there below e)

  pub rest_there : (below : ℕ) (rest more : List R) (y : R) → below < r.heights → r.present s (below + 1) ≡ true → rest ≡ above below → rest ≡ y ∷ more → more ≡ above (below + 1)
  rest_there below rest more y lt e is next = ap (drop 1) (sym next ∙ split below rest lt e is)
