-- Tokens and receipts of small chunks. These tests' own.
use Rattle.std.specs.Prelude.{ℕ, ◌+◌, ◌==◌, cond, List, sum_by}
use Rattle.nr_overlap.specs.Balance.{Amount}
use Rattle.nr_overlap_tests.specs.Small.{value_of}
use Rattle.nr_overlap_tests.specs.declared.small_chunk.Place.{Place}
use Rattle.nr_overlap_tests.specs.declared.small_chunk.Work.{Work}
use Rattle.nr_overlap_tests.specs.declared.small_chunk.Did.{Did}

-- tokens: none are made
abbrev pub tokens : Amount Place Work (List ℕ) Did
tokens = record {
  world = λ w. w.balance + value_of w.waiting;
  working = λ s h n k. k.balance + value_of k.waiting + value_of k.outgoing;
  list = value_of;
  report = λ s h d. 0;
  made_so_far = λ s h n k. 0;
  made = λ s h d. 0;
}

-- how often a receipt stands in a list
abbrev pub times : ℕ → List ℕ → ℕ
times v list = sum_by (λ r. cond (r == v) 1 0) list

-- a receipt's places: waiting, paid, in flight; it is made where it is sent
abbrev pub receipts : ℕ → Amount Place Work (List ℕ) Did
receipts v = record {
  world = λ w. times v w.waiting;
  working = λ s h n k. times v k.waiting + times v k.done;
  list = times v;
  report = λ s h d. times v d.done;
  made_so_far = λ s h n k. 0;
  made = λ s h d. times v d.sent;
}
