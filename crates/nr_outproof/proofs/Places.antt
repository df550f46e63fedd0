-- The items among lines.
use Rattle.std.proofs.Common.{◌≡◌, ℕ, zero, suc, ◌+◌, ◌-◌, ◌<◌, List, [], ◌∷◌, ◌++◌, length, get_or, Some, None, true, false, Bool, cond, refl, sym, ap, ◌∙◌, arith}
use Rattle.std.specs.List.{flat_map, slice_get}
use Rattle.std.specs.Prelude.{count_by, option_map}
use Rattle.std.proofs.lemmas.List.{map-append}
use Rattle.std.proofs.lemmas.List.Sums.{sum_by-cons}
use Rattle.std.proofs.lemmas.Option.{slice_get-map, slice_get-get_or, none-some}
use Rattle.nr_ids.specs.declared.key.Hash32.{Hash32}
use Rattle.nr_records.specs.declared.chunk_result.ChunkLine.{ChunkLine}
use Rattle.nr_words.specs.declared.kind.ProofKind.{ProofKind}
use Rattle.nr_outproof.specs.Items.{is_of, item_in, line_item}
use Rattle.nr_outproof.specs.Leaves.{leaves_in}
use Rattle.nr_outproof.specs.Tree.{leaf_top, leaf_tops}

pub leaves_are : (kind : ProofKind) (lines : List ChunkLine) → flat_map (leaves_in kind) lines ≡ leaf_tops (flat_map (item_in kind) lines)
leaves_are kind [] = refl
leaves_are kind (line ∷ lines) =
    ap (λ (ts : List Hash32). leaves_in kind line ++ ts) (leaves_are kind lines) ∙ sym (map-append leaf_top (item_in kind line) (flat_map (item_in kind) lines))

-- the first line is an item at the place
pub item_first : (kind : ProofKind) (line : ChunkLine) (more : List ChunkLine) (left : ℕ) → is_of kind line ≡ true → left ≡ 0 → slice_get (flat_map (item_in kind) (line ∷ more)) left ≡ Some (line_item line)
item_first kind line more left e zero-left = rw (e, zero-left) refl

-- the first line is an item before the place
pub item_later : (kind : ProofKind) (line : ChunkLine) (more : List ChunkLine) (left : ℕ) → is_of kind line ≡ true → 0 < left → slice_get (flat_map (item_in kind) (line ∷ more)) left ≡ slice_get (flat_map (item_in kind) more) (left - 1)
item_later kind line more zero e lt = absurd (omega arith)
item_later kind line more (suc left) e lt = let down : suc left - 1 ≡ left = omega arith in rw (e, down) refl

-- the first line is no item
pub item_skipped : (kind : ProofKind) (line : ChunkLine) (more : List ChunkLine) (left : ℕ) → is_of kind line ≡ false → slice_get (flat_map (item_in kind) (line ∷ more)) left ≡ slice_get (flat_map (item_in kind) more) left
item_skipped kind line more left e = rw e refl

-- ---- places of tops
pub leaf_is : (xs : List (List ℕ)) (p : ℕ) (item : List ℕ) → slice_get xs p ≡ Some item → slice_get (leaf_tops xs) p ≡ Some (leaf_top item)
leaf_is xs p item e = slice_get-map leaf_top xs p ∙ ap (option_map leaf_top) e

pub missing : (xs : List (List ℕ)) (p : ℕ) → p < length xs → slice_get xs p ≡ None → ⊥
missing xs p lt e = none-some (get_or xs p []) (sym e ∙ slice_get-get_or xs p [] lt)

pub items_counted : (kind : ProofKind) (lines : List ChunkLine) → count_by (is_of kind) lines ≡ length (flat_map (item_in kind) lines)
items_counted kind [] = refl
items_counted kind (line ∷ lines) = sum_by-cons (λ l. cond (is_of kind l) 1 0) line lines ∙ by (is_of kind line) (items_counted kind lines)
  where
    by : (b : Bool) → count_by (is_of kind) lines ≡ length (flat_map (item_in kind) lines) → cond b 1 0 + count_by (is_of kind) lines ≡ length (cond b (line_item line ∷ []) [] ++ flat_map (item_in kind) lines)
    by true others = omega (arith, others)
    by false others = omega (arith, others)
