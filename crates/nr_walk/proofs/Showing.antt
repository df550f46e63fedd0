-- What looking at one node shows of the paths that the node stands over.
use Rattle.std.proofs.Common.{◌≡◌, ◌==◌, ℕ, Bool, true, false, cond, List, [], ◌∷◌, ◌++◌, length, Option, Some, None, Result, Ok, Err, refl, sym, ap, subst, ◌∙◌, append_assoc}
use Rattle.std.specs.FinMap.{get}
use Rattle.std.proofs.lemmas.List.{append-nil}
use Rattle.nr_bytes.specs.Reading.{◌>>=◌}
use Rattle.nr_ids.specs.declared.key.Hash32.{Hash32}
use Rattle.nr_triedef.specs.Node.{IsNode, node_text, digest}
use Rattle.nr_triedef.specs.Reading.{Fits, node_at}
use Rattle.nr_triedef.specs.Root.{Contents, Paths}
use Rattle.nr_triedef.specs.declared.fault.NodeFault.{NodeFault}
use Rattle.nr_triedef.specs.declared.node.Node.{Node}
use Rattle.nr_triedef.proofs.Laws.{node_again}
use Rattle.nr_walk.specs.declared.fault.WalkFault.{WalkFault}
use Rattle.nr_walk.specs.declared.fault.WalkFault.TheVariants.{BadText}
use Rattle.nr_walk.specs.declared.searched.Searched.{Searched}
use Rattle.nr_walk.specs.declared.walking.Known.TheVariants.{Value}
use Rattle.nr_walk.specs.declared.walking.Gain.{Gain}
use Rattle.nr_walk.specs.declared.walking.Gain.TheVariants.{Found, Beside}
use Rattle.nr_walk.specs.Searched.{finds}
use Rattle.nr_walk.specs.Texts.{text_at, text_or_missing, node_or_bad}
use Rattle.nr_walk.specs.Told.{spot, ending_with, option_list}
use Rattle.nr_walk.specs.Looking.{is_right, looked_at, value_text}
use Rattle.nr_walk.specs.Walking.{kept, entry, packed, found_at, ended}
use Rattle.nr_walk.specs.Tries.{IsOwn}
use Rattle.nr_walk.specs.Shown.{Adds, Shows}

-- ---- the node of a text that is held
taken : (b : Bool) (top node : Node) (fault : WalkFault) → cond b (Ok top) (Err fault) ≡ Ok node → node ≡ top
taken true top node fault h = cc
taken false top node fault h = absurd cc

looked_text : (hash : Hash32) (right : Node → Bool) (read : Result Node NodeFault) (top node : Node) → read ≡ Ok top
    → (node_or_bad hash read >>= λ n. cond (right n) (Ok n) (Err (BadText hash))) ≡ Ok node → node ≡ top
looked_text hash right read top node e h =
    let g : (node_or_bad hash (Ok top) >>= λ n. cond (right n) (Ok n) (Err (BadText hash))) ≡ Ok node = subst (λ (q : Result Node NodeFault). (node_or_bad hash q >>= λ n. cond (right n) (Ok n) (Err (BadText hash))) ≡ Ok node) e h in
    taken (right top) top node (BadText hash) g

looked_held : (texts : Contents) (place : List ℕ) (top node : Node) (held : Option (List ℕ)) → IsNode top → Fits top → ((text : List ℕ) → held ≡ Some text → text ≡ node_text top)
    → (do
      text ← text_or_missing (digest (node_text top)) held
      n ← node_or_bad (digest (node_text top)) (node_at text)
      cond (is_right texts place n) (Ok n) (Err (BadText (digest (node_text top))))) ≡ Ok node → node ≡ top
looked_held texts place top node None is fits own h = absurd cc
looked_held texts place top node (Some text) is fits own h =
    let same : text ≡ node_text top = own text refl in
    looked_text (digest (node_text top)) (is_right texts place) (node_at text) top node (ap node_at same ∙ node_again top is fits) h

regrouped : {A B C : Type 0} (r : Result A WalkFault) (f : A → Result B WalkFault) (g : B → Result C WalkFault) → ((r >>= f) >>= g) ≡ (r >>= λ x. (f x >>= g))
regrouped (Ok x) f g = refl
regrouped (Err e) f g = refl

pub looked : (texts : Contents) (place : List ℕ) (top node : Node) → IsNode top → Fits top → IsOwn texts (node_text top) → looked_at texts (spot place (digest (node_text top))) ≡ Ok node → node ≡ top
unfolding looked_at text_at
looked texts place top node is fits own h =
    let hash = digest (node_text top) in
    let r : Result (List ℕ) WalkFault = text_or_missing hash (get texts hash.0) in
    let g = sym (regrouped r (λ text. node_or_bad hash (node_at text)) (λ n. cond (is_right texts place n) (Ok n) (Err (BadText hash)))) ∙ h in
    looked_held texts place top node (get texts hash.0) is fits own g

-- ---- one gain
single : (searched : List Searched) (all : Paths) (gain : Gain) (ps : Paths) → Adds searched all gain ps → Shows searched all (gain ∷ []) ps
single searched all gain ps h = record { first = ps; others = []; is = sym (append-nil ps); adds = h; more = refl }

pub gains_one : (searched : List Searched) (all : Paths) (o : Option Gain) (gain : Gain) (ps : Paths) → o ≡ Some gain → Adds searched all gain ps → Shows searched all (option_list o) ps
gains_one searched all o gain ps e h = subst (λ (x : Option Gain). Shows searched all (option_list x) ps) (sym e) (single searched all gain ps h)

pub gains_none : (searched : List Searched) (all : Paths) (o : Option Gain) → o ≡ None → Shows searched all (option_list o) []
gains_none searched all o e = subst (λ (x : Option Gain). Shows searched all (option_list x) []) (sym e) refl

pub beside_value : (searched : List Searched) (all : Paths) (path value : List ℕ) → finds searched path ≡ false → Adds searched all (Beside (kept path (Value (length value) (digest value)))) ((path, value) ∷ [])
beside_value searched all path value h =
    record {
      there = ([], value) ∷ [];
      is = ap (λ (k : List ℕ). (k, value) ∷ []) (sym (append-nil path));
      known = record { value = value; is = refl; size_is = refl; hash_is = refl };
      apart = (h, tt);
      shut = λ t. absurd t;
      closed = λ t. absurd t;
    }

found_value : (searched : List Searched) (all : Paths) (path value text : List ℕ) → text ≡ value → finds searched path ≡ true → Adds searched all (Found (entry (packed path) text)) ((path, value) ∷ [])
found_value searched all path value text e h = record { path = path; value = value; is = refl; entry_is = ap (λ (v : List ℕ). entry (packed path) v) e; found = h }

found_sized : (b : Bool) (searched : List Searched) (all : Paths) (path value text : List ℕ) (fault : WalkFault) (gain : Option Gain) → text ≡ value → finds searched path ≡ true
    → (do
      t ← cond b (Ok text) (Err fault)
      Ok (Some (Found (entry (packed path) t)))) ≡ Ok gain → Shows searched all (option_list gain) ((path, value) ∷ [])
found_sized true searched all path value text fault gain e f h =
    let is : gain ≡ Some (Found (entry (packed path) text)) = cc in
    gains_one searched all gain (Found (entry (packed path) text)) ((path, value) ∷ []) is (found_value searched all path value text e f)
found_sized false searched all path value text fault gain e f h = absurd cc

found_held : (held : Option (List ℕ)) (searched : List Searched) (all : Paths) (path value : List ℕ) (gain : Option Gain) → ((text : List ℕ) → held ≡ Some text → text ≡ value) → finds searched path ≡ true
    → (do
      t ← (do
        text ← text_or_missing (digest value) held
        cond (length text == length value) (Ok text) (Err (BadText (digest value))))
      Ok (Some (Found (entry (packed path) t)))) ≡ Ok gain → Shows searched all (option_list gain) ((path, value) ∷ [])
found_held None searched all path value gain own f h = absurd cc
found_held (Some text) searched all path value gain own f h = found_sized (length text == length value) searched all path value text (BadText (digest value)) gain (own text refl) f h

found_there : (texts : Contents) (searched : List Searched) (all : Paths) (path step value : List ℕ) (gain : Option Gain) → IsOwn texts value → finds searched path ≡ true
    → found_at texts path (ending_with step (length value) (digest value)) ≡ Ok gain → Shows searched all (option_list gain) ((path, value) ∷ [])
unfolding value_text text_at
found_there texts searched all path step value gain own f h = found_held (get texts (digest value).0) searched all path value gain own f h

-- what a value adds
pub value_shown : (texts : Contents) (searched : List Searched) (all : Paths) (place step value : List ℕ) (gain : Option Gain) → IsOwn texts value
    → ended texts searched place (Some (ending_with step (length value) (digest value))) ≡ Ok gain → Shows searched all (option_list gain) ((place ++ step, value) ∷ [])
value_shown texts searched all place step value gain own h =
    let path = place ++ step in
    elim (finds searched path) as (λ b. finds searched path ≡ b
    → cond b (found_at texts path (ending_with step (length value) (digest value))) (Ok (Some (Beside (kept path (Value (length value) (digest value)))))) ≡ Ok gain → Shows searched all (option_list gain) ((path, value) ∷ [])) [
      | true ↦ λ e g. found_there texts searched all path step value gain own e g
      | false ↦ λ e g.
          let is : gain ≡ Some (Beside (kept path (Value (length value) (digest value)))) = cc in
          gains_one searched all gain (Beside (kept path (Value (length value) (digest value)))) ((path, value) ∷ []) is (beside_value searched all path value e)
    ] refl h

-- ---- gains one after the other
pub Shows-append : (searched : List Searched) (all : Paths) (gains more : List Gain) (ps qs : Paths) → Shows searched all gains ps → Shows searched all more qs → Shows searched all (gains ++ more) (ps ++ qs)
Shows-append searched all [] more ps qs h g = subst (λ (rs : Paths). Shows searched all more (rs ++ qs)) (sym h) g
Shows-append searched all (gain ∷ gains) more ps qs h g =
    record {
      first = h.first;
      others = h.others ++ qs;
      is = ap (λ (rs : Paths). rs ++ qs) h.is ∙ append_assoc h.first h.others qs;
      adds = h.adds;
      more = Shows-append searched all gains more h.others qs h.more g;
    }
