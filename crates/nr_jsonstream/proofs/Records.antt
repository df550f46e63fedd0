-- Records of the values of a list and of the members of an object.
use Rattle.std.proofs.Common.{◌≡◌, ◌≢◌, ℕ, ◌+◌, false, List, [], ◌∷◌, ◌++◌, map, Option, Some, None, Ok, option_map, codes, bytes_eq, refl, sym, ap, subst, ◌∙◌, true≢false}
use Rattle.std.proofs.lemmas.List.{map-append}
use Rattle.std.proofs.lemmas.Slice.Eq.{bytes_eq-Decides}
use Rattle.serde_json.specs.Data.{Data, object, Members, put}
use Rattle.serde_json.specs.Find.{get_member}
use Rattle.serde_json.specs.View.{items_of}
use Rattle.serde_json.proofs.Views.{get_member-put, get_member-put_other}
use Rattle.nr_json.specs.Faults.{Read}
use Rattle.nr_json.specs.Genesis.{entry_of, genesis_of}
use Rattle.nr_json.specs.Keys.{id_of}
use Rattle.nr_json.specs.Lists.{each_of, list_of}
use Rattle.nr_json.specs.Members.{found}
use Rattle.nr_json.specs.declared.genesis.StatedEntry.{StatedEntry}
use Rattle.nr_jsonstream.specs.Stream.{Holds}
use Rattle.nr_jsonstream.specs.declared.genesis.Found.{Found}

-- ---- lists
abbrev pub good : {X : Type 0} → X → Read X
good x = Ok x

pub each_is : {X : Type 0} (reading : Data → Read X) (n : ℕ) (ds : List Data) (xs : List X) → map reading ds ≡ map good xs → each_of reading n (items_of ds) ≡ Ok xs
unfolding each_of
each_is reading n [] [] e = refl
each_is reading n [] (x ∷ xs) e = absurd (cc)
each_is reading n (d ∷ ds) [] e = absurd (cc)
each_is reading n (d ∷ ds) (x ∷ xs) e =
    let first : reading d ≡ good x = cc in
    let others : map reading ds ≡ map good xs = cc in
    rw (first, each_is reading (n + 1) ds xs others) refl

pub one_more : {X : Type 0} (reading : Data → Read X) (ds : List Data) (d : Data) (xs : List X) (x : X) → map reading ds ≡ map good xs → reading d ≡ Ok x → map reading (ds ++ d ∷ []) ≡ map good (xs ++ x ∷ [])
one_more reading ds d xs x e is = map-append reading ds (d ∷ []) ∙ ap (λ rs. rs ++ reading d ∷ []) e ∙ ap (λ r. map good xs ++ r ∷ []) is ∙ sym (map-append good xs (x ∷ []))

-- ---- members
unlike : (xs ys : List ℕ) → bytes_eq xs ys ≡ false → xs ≡ ys → ⊥
unlike xs ys e same = true≢false (sym ((bytes_eq-Decides xs ys).1 same) ∙ e)

put_here : {X : Type 0} (name : List ℕ) (reading : Data → Read X) (d : Data) (ms : Members) (x : X) → reading d ≡ Ok x → option_map reading (get_member name (put name d ms)) ≡ option_map good (Some x)
put_here name reading d ms x is = ap (option_map reading) (get_member-put name d ms) ∙ ap (λ r. Some r) is

put_there : {X : Type 0} (name other : List ℕ) (reading : Data → Read X) (d : Data) (ms : Members) (o : Option (Read X)) → (name ≡ other → ⊥) → option_map reading (get_member name ms) ≡ o
    → option_map reading (get_member name (put other d ms)) ≡ o
put_there name other reading d ms o apart is = ap (option_map reading) (get_member-put_other name other d ms apart) ∙ is

abbrev of_boundaries : List ℕ
of_boundaries = codes "boundaries"

abbrev of_entries : List ℕ
of_entries = codes "entries"

-- what was found, and a member more
module _ (held : Found) (name : List ℕ) (d : Data) (ms : Members) where
  pub with_boundaries : (ids : List (List ℕ)) → name ≡ of_boundaries → list_of id_of d ≡ Ok ids → Holds held ms → Holds (record { boundaries = Some ids; entries = held.entries }) (put name d ms)
  with_boundaries ids same is h =
      subst (λ (n : List ℕ). Holds (record { boundaries = Some ids; entries = held.entries }) (put n d ms)) (sym same)
      (put_here of_boundaries (list_of id_of) d ms ids is, put_there of_entries of_boundaries (list_of entry_of) d ms (option_map good held.entries) (unlike of_entries of_boundaries refl) h.1)

  pub with_entries : (es : List StatedEntry) → name ≡ of_entries → list_of entry_of d ≡ Ok es → Holds held ms → Holds (record { boundaries = held.boundaries; entries = Some es }) (put name d ms)
  with_entries es same is h =
      subst (λ (n : List ℕ). Holds (record { boundaries = held.boundaries; entries = Some es }) (put n d ms)) (sym same)
      (put_there of_boundaries of_entries (list_of id_of) d ms (option_map good held.boundaries) (unlike of_boundaries of_entries refl) h.0, put_here of_entries (list_of entry_of) d ms es is)

  pub with_other : (name ≢ of_boundaries) × (name ≢ of_entries) → Holds held ms → Holds held (put name d ms)
  with_other apart h = (
    put_there of_boundaries name (list_of id_of) d ms (option_map good held.boundaries) (λ e. apart.0 (sym e)) h.0,
    put_there of_entries name (list_of entry_of) d ms (option_map good held.entries) (λ e. apart.1 (sym e)) h.1,
  )

found_is : {X : Type 0} (name : List ℕ) (reading : Data → Read X) (o : Option Data) (x : X) → option_map reading o ≡ option_map good (Some x) → found name reading o ≡ Ok x
found_is name reading None x e = absurd (cc)
found_is name reading (Some d) x e = let is : reading d ≡ good x = cc in rw is refl

-- the members that hold the genesis
pub genesis_is : (held : Found) (ids : List (List ℕ)) (es : List StatedEntry) (ms : Members) → held.boundaries ≡ Some ids → held.entries ≡ Some es → Holds held ms
    → genesis_of (object ms) ≡ Ok (record { boundaries = ids; entries = es })
unfolding genesis_of
genesis_is held ids es ms one two h =
    let first = found_is of_boundaries (list_of id_of) (get_member of_boundaries ms) ids (h.0 ∙ ap (option_map good) one) in
    let second = found_is of_entries (list_of entry_of) (get_member of_entries ms) es (h.1 ∙ ap (option_map good) two) in
    rw (first, second) refl
