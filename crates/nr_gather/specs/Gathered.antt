-- The texts that a walk over the trie of some paths looks at, in its order, each once. This project's own.
use Rattle.std.specs.Prelude.{ℕ, zero, suc, cond, List, [], ◌∷◌, ◌++◌, map, Option, Some, None, is_some}
use Rattle.std.specs.List.{flat_map}
use Rattle.std.specs.FinMap.{empty, get}
use Rattle.nr_ids.specs.declared.key.Hash32.{Hash32}
use Rattle.nr_triedef.specs.Node.{digest, node_text}
use Rattle.nr_triedef.specs.Root.{Contents, Paths, front, under, value_here, sixteen, depth, no_root}
use Rattle.nr_store.specs.Tries.{cut}
use Rattle.nr_walk.specs.declared.searched.Searched.{Searched}
use Rattle.nr_walk.specs.Searched.{looks, finds}
use Rattle.nr_walk.specs.Texts.{with_text}
use Rattle.nr_walk.specs.Tries.{top_of}

-- the text of a value, where its key is searched
abbrev pub found_text : List Searched → List ℕ → Option (List ℕ) → List (List ℕ)
found_text searched key None = []
found_text searched key (Some value) = cond (finds searched key) (value ∷ []) []

-- the value of the top node of the trie at a place, where its key is searched
abbrev pub own_text : List Searched → List ℕ → Paths → List (List ℕ)
own_text searched place [] = []
own_text searched place (p ∷ []) = found_text searched (place ++ p.0) (Some p.1)
own_text searched place (p ∷ q ∷ ps) = found_text searched place (value_here (p ∷ q ∷ ps))

-- what stands below the top node of several paths with this front: the trie behind the front, or that under each
-- nibble, each at its place
abbrev pub tries_behind : List ℕ → List ℕ → Paths → List (List ℕ × Paths)
tries_behind place [] ps = map (λ n. (place ++ n ∷ [], under n ps)) sixteen
tries_behind place (x ∷ xs) ps = (place ++ x ∷ xs, cut ps) ∷ []

abbrev pub tries_below : List ℕ → Paths → List (List ℕ × Paths)
tries_below place [] = []
tries_below place (p ∷ []) = []
tries_below place (p ∷ q ∷ ps) = tries_behind place (front (p ∷ q ∷ ps)) (p ∷ q ∷ ps)

-- the texts of the trie at a place, of paths with fewer nibbles than the depth: its top node, and where this is
-- looked at for itself its value, if it is searched, and the tries below it
unfoldable pub looked_texts : ℕ → List Searched → List ℕ → Paths → List (List ℕ)
looked_texts depth searched place [] = []
looked_texts zero searched place (p ∷ ps) = []
looked_texts (suc depth) searched place (p ∷ ps) =
    node_text (top_of (p ∷ ps)) ∷ cond (looks searched place)
    (own_text searched place (p ∷ ps) ++ flat_map (λ (t : List ℕ × Paths). looked_texts depth searched t.0 t.1)
    (tries_below place (p ∷ ps))) []

-- each text whose hash none before it has, where the texts before them are held
abbrev pub once : Contents → List (List ℕ) → List (List ℕ)
once held [] = []
once held (text ∷ texts) =
    cond (is_some (get held (digest text).0)) (once held texts) (text ∷ once (with_text held text) texts)

-- the texts at which a walk over the trie of these paths looks, depth first, each once
unfoldable pub gathered : List Searched → Paths → List (List ℕ)
gathered searched ps = once empty (looked_texts (depth ps) searched [] ps)

-- the root of the trie of which these texts were gathered: the hash of the first, and zeros where there is none
abbrev pub root_in : List (List ℕ) → Hash32
root_in [] = no_root
root_in (text ∷ texts) = digest text
