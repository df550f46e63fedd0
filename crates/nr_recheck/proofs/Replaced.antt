-- A world that is put together from two has the trie entries of the one where they are searched, and those of the other elsewhere.
use Rattle.std.proofs.Common.{◌≡◌, ◌⊎◌, inl, inr, ℕ, Bool, true, false, cond, List, [], ◌∷◌, map, Option, None, refl, sym, ap, subst, ◌∙◌}
use Rattle.std.specs.Prelude.{not}
use Rattle.std.specs.FinMap.{entries, get, same_map}
use Rattle.std.specs.List.{AllByRecursion}
use Rattle.std.specs.Cmp.Lexicographic.{nat_list_cmp_total}
use Rattle.std.proofs.lemmas.Map.Lookups.{exact_bytes}
use Rattle.nr_bytes.specs.Numbers.{IsBytes}
use Rattle.nr_chunk.specs.Locality.{is_in}
use Rattle.nr_columns.specs.View.{IsLaid}
use Rattle.nr_records.specs.Ids.{IsId}
use Rattle.nr_remake.specs.Merging.{pairs_of}
use Rattle.nr_state.specs.Entries.{IsReadBack, is_of}
use Rattle.nr_state.specs.Flat.{flat}
use Rattle.nr_state.specs.Keyed.{IsKeyed}
use Rattle.nr_state.specs.Scopes.{all_of, over, part_of}
use Rattle.nr_state.specs.World.{World}
use Rattle.nr_state.proofs.OverEntries.{entries_of_part, entries_over, read_over}
use Rattle.nr_state.proofs.OverMaps.{get-over}
use Rattle.nr_stateless.specs.Accounts.{is_searched, found_of, rest_of}
use Rattle.nr_stateless.specs.Changing.{HasBytes, IsReplaced}
use Rattle.nr_stateless.proofs.Replacing.{all_filtered, all_halves, filtered, get_kept}
use Rattle.nr_triedef.specs.Root.{Contents}
use Rattle.nr_walk.specs.Walking.{entry}
use Rattle.nr_recheck.specs.Rechecking.{entries_of}
use Rattle.nr_recheck.proofs.Parts.{both_none, laid_flat, told}

abbrev Pair : Type 0
Pair = List ℕ × List ℕ

-- ---- maps
module _ (ids : List (List ℕ)) (all : AllByRecursion IsId ids) (a b n : Contents) (laid_a : IsLaid a) (laid_b : IsLaid b) (laid_n : IsLaid n)
    (mixed : (q : List ℕ) → get n q ≡ cond (is_of (is_in ids) q) (get a q) (get b q)) where
  abbrev of : List ℕ → Bool
  of = is_of (is_in ids)

  abbrev out : List ℕ → Bool
  out q = not (is_searched ids q)

  outside : (t : Bool) (o p : Option (List ℕ)) → cond (not t) (cond t o p) None ≡ cond (not t) p None
  outside true o p = refl
  outside false o p = refl

  rest_kept : rest_of ids n ≡ rest_of ids b
  rest_kept = filtered out n ∙ ap entries (same_map nat_list_cmp_total exact_bytes _ _ (λ q. get_kept out n q ∙ by q (told ids all q) ∙ sym (get_kept out b q))) ∙ sym (filtered out b)
    where
      by : (q : List ℕ) → ((is_searched ids q ≡ of q) ⊎ ((m : Contents) → IsLaid m → get m q ≡ None)) → cond (out q) (get n q) None ≡ cond (out q) (get b q) None
      by q (inl e) =
          (λ i. cond (not (e i)) (mixed q i) None) ∙ outside (of q) (get a q) (get b q) ∙ sym (ap (λ t. cond (not t) (get b q) None) e)
      by q (inr none) = ap (λ o. cond (out q) o None) (none n laid_n ∙ sym (none b laid_b))

  found_new : ((q : List ℕ) → of q ≡ false → get a q ≡ None) → found_of ids n ≡ entries a
  found_new own = filtered (is_searched ids) n ∙ ap entries (same_map nat_list_cmp_total exact_bytes _ _ (λ q. get_kept (is_searched ids) n q ∙ by q (told ids all q)))
    where
      inside : (q : List ℕ) (t : Bool) → of q ≡ t → cond t (cond t (get a q) (get b q)) None ≡ get a q
      inside q true e = refl
      inside q false e = sym (own q e)

      by : (q : List ℕ) → ((is_searched ids q ≡ of q) ⊎ ((m : Contents) → IsLaid m → get m q ≡ None)) → cond (is_searched ids q) (get n q) None ≡ get a q
      by q (inl e) = (λ i. cond (e i) (mixed q i) None) ∙ inside q (of q) refl
      by q (inr none) = ap (λ o. cond (is_searched ids q) o None) (none n laid_n) ∙ both_none (is_searched ids q) ∙ sym (none a laid_a)

-- ---- worlds
entries_back : (es : List Pair) → pairs_of (map (λ (e : Pair). entry e.0 e.1) es) ≡ es
entries_back [] = refl
entries_back (e ∷ es) = ap (λ (fs : List Pair). e ∷ fs) (entries_back es)

pub pairs_entries : (w : World) → pairs_of (entries_of w) ≡ entries (flat w)
pairs_entries w = entries_back (entries (flat w))

module _ (ids : List (List ℕ)) (all : AllByRecursion IsId ids) (u w : World) (keyed_u : IsKeyed u) (keyed_w : IsKeyed w) (read_u : IsReadBack u) (read_w : IsReadBack w) where
  abbrev x : List ℕ → Bool
  x = is_in ids

  abbrev new : World
  new = over (all_of x) u w

  mixed : (q : List ℕ) → get (flat new) q ≡ cond (is_of x q) (get (flat u) q) (get (flat w) q)
  mixed q =
      ap (λ (m : Contents). get m q) (entries_over x u w keyed_u keyed_w read_u read_w)
      ∙ get-over nat_list_cmp_total exact_bytes (is_of x) (flat u) (flat w) q

  pub replaced_world : ((q : List ℕ) → is_of x q ≡ false → get (flat u) q ≡ None) → HasBytes (flat u) → HasBytes (flat w) → IsReplaced ids (flat w) (flat new) (entries_of u)
  replaced_world own bytes_u bytes_w =
      let laid_u = laid_flat u read_u in
      let laid_w = laid_flat w read_w in
      let laid_new = laid_flat new (read_over x u w keyed_u keyed_w read_u read_w) in
      let bytes : Pair → Type 0 = λ e. IsBytes e.0 in
      let others = rest_kept ids all (flat u) (flat w) (flat new) laid_u laid_w laid_new mixed in
      let found = found_new ids all (flat u) (flat w) (flat new) laid_u laid_w laid_new mixed own in
      let rest_bytes : AllByRecursion bytes (rest_of ids (flat new)) = subst (AllByRecursion bytes) (sym others) (all_filtered bytes (λ e. not (is_searched ids e.0)) (entries (flat w)) bytes_w) in
      let found_bytes : AllByRecursion bytes (found_of ids (flat new)) = subst (AllByRecursion bytes) (sym found) bytes_u in
      record {
        others = others;
        searched = found ∙ sym (pairs_entries u);
        bytes = all_halves bytes (λ e. is_searched ids e.0) (entries (flat new)) found_bytes rest_bytes;
      }

-- where a world is put together from itself and a part, it has no entry outside of the part's accounts
pub own_entries : (x : List ℕ → Bool) (u w : World) → IsKeyed u → IsKeyed w → IsReadBack u → IsReadBack w → IsKeyed (part_of x w) → IsReadBack (part_of x w)
    → u ≡ over (all_of x) u (part_of x w) → (q : List ℕ) → is_of x q ≡ false → get (flat u) q ≡ None
own_entries x u w ku kw ru rw kp rp is q out =
    let p = part_of x w in
    ap (λ (v : World). get (flat v) q) is
    ∙ ap (λ (m : Contents). get m q) (entries_over x u p ku kp ru rp)
    ∙ get-over nat_list_cmp_total exact_bytes (is_of x) (flat u) (flat p) q
    ∙ ap (λ t. cond t (get (flat u) q) (get (flat p) q)) out
    ∙ ap (λ (m : Contents). get m q) (entries_of_part x w kw rw)
    ∙ get_kept (is_of x) (flat w) q
    ∙ ap (λ t. cond t (get (flat w) q) None) out
