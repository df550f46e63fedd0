-- Contents without an entry stand for no columns.
use Rattle.std.proofs.Common.{◌≡◌, ℕ, List, [], ◌∷◌, Ordering, sym, refl, ap, ◌∙◌, length, arith}
use Rattle.std.specs.FinMap.{empty, entries, len-entries, len-empty, get-empty}
use Rattle.std.specs.Option.{option_and_then}
use Rattle.nr_triedef.specs.Root.{Contents}
use Rattle.nr_columns.specs.Columns.{no_columns, laid_columns}
use Rattle.nr_columns.specs.Keys.{queue_key}
use Rattle.nr_columns.specs.Orders.{bytes_cmp}
use Rattle.nr_columns.specs.Tables.{Table, gathered, part, laid}
use Rattle.nr_columns.specs.View.{columns_in, IsLaid, queue_of, accounts_table, keys_table, code_table, data_table, received_table, awaited_table, missing_table, postponed_table, delayed_table}

no_length : {A : Type 0} (es : List A) → length es ≡ 0 → es ≡ []
no_length [] e = refl
no_length (x ∷ es) e = absurd (omega arith)

pub entries_empty : {K X : Type 0} (R : K → K → Ordering) → entries (empty {X = X} {R = R}) ≡ []
entries_empty {X = X} R = no_length _ (sym (len-entries empty) ∙ len-empty R X)

pub part_empty : {K X : Type 0} (t : Table K X) → part t empty ≡ empty
unfolding part
part_empty t = ap (gathered t) (entries_empty bytes_cmp)

pub laid_empty : {K X : Type 0} (R : K → K → Ordering) (key : K → List ℕ) (spell : X → List ℕ) (c : Contents) → laid key spell (entries (empty {X = X} {R = R})) c ≡ c
laid_empty R key spell c = ap (λ es. laid key spell es c) (entries_empty R)

pub no_columns_in : columns_in empty ≡ no_columns
no_columns_in = λ i. record {
  accounts = part_empty accounts_table i;
  keys = part_empty keys_table i;
  code = part_empty code_table i;
  data_of = part_empty data_table i;
  received = part_empty received_table i;
  awaited = part_empty awaited_table i;
  missing = part_empty missing_table i;
  postponed = part_empty postponed_table i;
  queue = ap (option_and_then queue_of) (get-empty bytes_cmp queue_key) i;
  delayed = part_empty delayed_table i;
}

no_entries : laid_columns no_columns ≡ empty
unfolding laid_columns
no_entries =
    bare delayed_table _ ∙ bare postponed_table _ ∙ bare missing_table _ ∙ bare awaited_table _ ∙ bare received_table _
    ∙ bare data_table _ ∙ bare code_table _ ∙ bare keys_table _ ∙ bare accounts_table _
  where
    bare : {K X : Type 0} (t : Table K X) (c : Contents) → laid t.key t.spell (entries (empty {X = X} {R = t.cmp})) c ≡ c
    bare t c = laid_empty t.cmp t.key t.spell c

pub is_laid_empty : IsLaid empty
is_laid_empty = ap laid_columns no_columns_in ∙ no_entries
