-- What is gathered, by the list of all nodes.
use Rattle.std.proofs.Common.{◌≡◌, ◌≤◌, ℕ, zero, suc, cond, List, [], ◌∷◌, length, Option, Some, None, refl, ap, sym, ◌∙◌, arith}
use Rattle.std.specs.Prelude.{is_some}
use Rattle.std.specs.Cmp.Lexicographic.{slice_cmp}
use Rattle.std.specs.FinMap.{empty, get-empty}
use Rattle.std.specs.List.{AllByRecursion}
use Rattle.std.specs.Ordering.{nat_cmp}
use Rattle.nr_triedef.specs.Node.{IsNode, digest, node_text}
use Rattle.nr_triedef.specs.Root.{Paths, depth, paths, root_of_entries, summary_of}
use Rattle.nr_triedef.specs.declared.hash.Summary.{Summary}
use Rattle.nr_triedef.specs.declared.node.Node.{Node}
use Rattle.nr_store.specs.Tries.{CanWalk, whole}
use Rattle.nr_store.proofs.Levels.{whole_none}
use Rattle.nr_trielist.specs.Growing.{all_nodes}
use Rattle.nr_walk.specs.declared.searched.Searched.{Searched}
use Rattle.nr_walk.specs.declared.told.Spot.{Spot}
use Rattle.nr_walk.proofs.Tops.{whole_is}
use Rattle.nr_walk.specs.Texts.{with_text}
use Rattle.nr_walk.specs.Tries.{top_of}
use Rattle.nr_gather.specs.Gathered.{looked_texts, once, gathered, root_in}
use Rattle.nr_gather.specs.Sweeping.{swept}
use Rattle.nr_gather.proofs.Levels.{form_at, short_depth}
use Rattle.nr_gather.proofs.Sweeps.{sweep_all}
use Rattle.std.proofs.Common.{subst}

none_some : {A : Type 0} {x : A} → None ≡ Some x → ⊥
none_some e = absurd cc

some_paths : (ps : Paths) (s : Summary) → Some s ≡ whole ps → 1 ≤ length ps
some_paths [] s e = absurd (none_some (sym (e ∙ whole_none [] refl)))
some_paths (p ∷ ps) s e = omega arith

pub form_nodes : (ps : Paths) (nodes : List Node) → CanWalk ps → nodes ≡ all_nodes ps → AllByRecursion IsNode nodes
form_nodes ps nodes walk e = subst (AllByRecursion IsNode) (sym e) (form_at (depth ps) ps (short_depth ps) walk)

pub gathered_whole : (searched : List Searched) (ps : Paths) (s : Summary) (nodes : List Node) (top : Spot) (looked texts : List (List ℕ)) → CanWalk ps → Some s ≡ whole ps → nodes ≡ all_nodes ps → top.place ≡ []
    → looked ≡ swept searched 0 (top ∷ []) nodes ps → texts ≡ once empty looked → texts ≡ gathered searched ps
unfolding gathered
gathered_whole searched ps s nodes top looked texts walk some e place l t =
    t ∙ ap (once empty) (l ∙ ap (λ (ns : List Node). swept searched 0 (top ∷ []) ns ps) e ∙ sweep_all searched ps top place walk (some_paths ps s some))

pub none_gathered : (searched : List Searched) (ps : Paths) → CanWalk ps → None ≡ whole ps → [] ≡ gathered searched ps
unfolding gathered looked_texts
none_gathered searched [] walk e = refl
none_gathered searched (p ∷ ps) walk e = absurd (none_some (e ∙ whole_is (p ∷ ps) (omega arith) walk))

-- ---- the root, by the first text
first_kept : (text : List ℕ) (texts : List (List ℕ)) → root_in (once empty (text ∷ texts)) ≡ digest text
first_kept text texts =
    ap (λ (o : Option (List ℕ)). root_in (cond (is_some o) (once empty texts) (text ∷ once (with_text empty text) texts))) (get-empty (slice_cmp nat_cmp) (digest text).0)

first_looked : (searched : List Searched) (d : ℕ) (p : List ℕ × List ℕ) (ps : Paths) → 1 ≤ d → root_in (once empty (looked_texts d searched [] (p ∷ ps))) ≡ digest (node_text (top_of (p ∷ ps)))
unfolding looked_texts
first_looked searched zero p ps l = absurd (omega (arith, l))
first_looked searched (suc d) p ps l = first_kept (node_text (top_of (p ∷ ps))) _

root_at : (searched : List Searched) (ps : Paths) → CanWalk ps → root_in (gathered searched ps) ≡ (summary_of (whole ps)).hash
unfolding gathered looked_texts
root_at searched [] walk = ap (λ (o : Option Summary). (summary_of o).hash) (sym (whole_none [] refl))
root_at searched (p ∷ ps) walk =
    first_looked searched (depth (p ∷ ps)) p ps (some_depth p ps)
    ∙ ap (λ (o : Option Summary). (summary_of o).hash) (sym (whole_is (p ∷ ps) (omega arith) walk))
  where
    some_depth : (p : List ℕ × List ℕ) (ps : Paths) → 1 ≤ depth (p ∷ ps)
    some_depth p ps = omega arith

pub root_gathered : (searched : List Searched) (es : List (List ℕ × List ℕ)) → CanWalk (paths es) → root_in (gathered searched (paths es)) ≡ (root_of_entries es).hash
unfolding root_of_entries whole
root_gathered searched es walk = root_at searched (paths es) walk
