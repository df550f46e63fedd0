-- Keys of bytes lead back to whose they are.
use Rattle.std.proofs.Common.{◌≡◌, ℕ, ◌<◌, ◌^◌, Bool, true, false, cond, List, [], ◌∷◌, ◌++◌, Option, Some, None, refl, ap, ◌∙◌}
use Rattle.std.specs.Prelude.{◌==◌, ◌||◌}
use Rattle.std.specs.List.{list_any}
use Rattle.std.specs.Option.{option_map, option_and_then}
use Rattle.std.proofs.Math.Bool.{true≢false}
use Rattle.std.proofs.lemmas.Bool.{eq-eqb}
use Rattle.nr_bytes.specs.Numbers.{little, number}
use Rattle.nr_bytes.proofs.Numbers.{number-little}
use Rattle.nr_ids.proofs.Ids.{lacks_any}
use Rattle.nr_ids.specs.declared.key.PublicKey.{PublicKey}
use Rattle.nr_ids.specs.Grammar.{id_fault, is_id_byte}
use Rattle.nr_ids.specs.Keys.{key_bytes, IsKey}
use Rattle.nr_records.specs.Ids.{key_at}
use Rattle.nr_records.specs.IdLaws.{key_law}
use Rattle.nr_records.specs.Fault.{record_fault}
use Rattle.nr_bytes.proofs.Whole.{whole_again}
use Rattle.nr_columns.specs.Tables.{read_of}
use Rattle.nr_columns.specs.View.{grown, at_first, with_key, key_of_rest, count_of, queue_at, queue_of}
use Rattle.nr_columns.specs.Columns.{queue_bytes}
use Rattle.nr_records.specs.Reading.{nat_at}
use Rattle.nr_bytes.specs.Spelling.{Below, Both}
use Rattle.nr_bytes.proofs.Fields.{nat_law}
use Rattle.nr_bytes.proofs.Values.{pair_law}

first_there : (mark : ℕ) (id rest : List ℕ) → list_any (λ b. b == mark) id ≡ false → at_first mark (id ++ mark ∷ rest) ≡ Some (id, rest)
first_there mark [] rest h = ap (λ t. cond t (Some ([], rest)) (grown mark (at_first mark rest))) (eq-eqb mark mark refl)
first_there mark (b ∷ bs) rest h = at_byte (b == mark) h (first_there mark bs rest)
  where
    at_byte : (t : Bool) → (t || list_any (λ b. b == mark) bs) ≡ false → (list_any (λ b. b == mark) bs ≡ false → at_first mark (bs ++ mark ∷ rest) ≡ Some (bs, rest)) → cond t (Some ([], bs ++ mark ∷ rest)) (grown b (at_first mark (bs ++ mark ∷ rest))) ≡ Some (b ∷ bs, rest)
    at_byte true h later = absurd (true≢false h)
    at_byte false h later = ap (grown b) (later h)

-- an id ends at the first byte that stands in no id
pub id_there : (mark : ℕ) (id rest : List ℕ) → is_id_byte mark ≡ false → id_fault id ≡ None → at_first mark (id ++ mark ∷ rest) ≡ Some (id, rest)
id_there mark id rest out h = first_there mark id rest (lacks_any mark id out h)

pub comma_there : (id rest : List ℕ) → id_fault id ≡ None → at_first 44 (id ++ 44 ∷ rest) ≡ Some (id, rest)
comma_there id rest h = id_there 44 id rest refl h

pub rest_there : (id : List ℕ) (key : PublicKey) → id_fault id ≡ None → IsKey key → key_of_rest (id ++ 2 ∷ key_bytes key) ≡ Some (id, key)
rest_there id key h is =
    ap (option_and_then with_key) (id_there 2 id (key_bytes key) refl h)
    ∙ ap (λ r. option_map (λ k. (id, k)) (read_of r)) (whole_again record_fault key_at key_bytes IsKey key_law key is)

pub number_there : (n : ℕ) → n < 256 ^ 8 → ◌≡◌ {A = Option ℕ} (Some (number (little 8 n))) (Some n)
number_there n h = ap Some (number-little 8 n h)

pub count_back : (n : ℕ) → n < 256 ^ 4 → count_of (little 4 n) ≡ Some n
count_back n h = ap read_of (whole_again record_fault (nat_at 4) (little 4) (Below (256 ^ 4)) (nat_law record_fault 4) n h)

pub queue_back : (a b : ℕ) → a < 256 ^ 8 → b < 256 ^ 8 → queue_of (queue_bytes (a, b)) ≡ Some (a, b)
queue_back a b g h =
    ap read_of (whole_again record_fault queue_at queue_bytes (Both (Below (256 ^ 8)) (Below (256 ^ 8))) (pair_law (nat_at 8) (little 8) (Below (256 ^ 8)) (nat_at 8) (little 8) (Below (256 ^ 8)) (nat_law record_fault 8) (nat_law record_fault 8)) (a, b) (g, h))
