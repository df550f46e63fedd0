-- Values made one after the other from the last to the first, each of its outline and its bytes, as a loop does.
use Rattle.std.proofs.Common.{◌≡◌, ℕ, ◌+◌, ◌-◌, List, [], ◌∷◌, ◌++◌, length, reverse, take, Result, Ok}
use Rattle.std.proofs.Common.{Err, refl, sym, ap, subst, ◌∙◌, append_assoc, arith}
use Rattle.std.specs.Global.{Vec}
use Rattle.std.specs.List.{flat_map, AllByRecursion}
use Rattle.std.proofs.lemmas.Grind.{flat_map-append}
use Rattle.std.proofs.lemmas.List.{append-nil, length-append, reverse-append}
use Rattle.nr_records.specs.declared.fault.RecordFault.{RecordFault}
use Rattle.nr_records.specs.declared.fault.RecordFault.TheVariants.{Memory}
use Rattle.nr_blocks.specs.Outlines.{IsFront, Makes, outlines}

-- the bytes begin with less too
pub front_of : (front more bytes : List ℕ) → IsFront (front ++ more) bytes → IsFront front bytes
front_of front more bytes whole = (more ++ whole.0, whole.1 ∙ append_assoc front more whole.0)

-- what gave nothing has nothing
pub emptied : {Y : Type 0} (xs ys : List Y) (n : ℕ) → n ≡ 0 → ys ≡ take (n - 1) xs → xs ≡ ys ++ [] → xs ≡ []
emptied {Y} xs ys n k h g = g ∙ append-nil ys ∙ h ∙ ap (λ (m : ℕ). take (m - 1) xs) k

abbrev pub some : {X : Type 0} → X → Result X RecordFault
some x = Ok x

pub its_value : {X : Type 0} (x v : X) → some x ≡ some v → x ≡ v
its_value x v e = cc

pub no_fault : {X : Type 0} (x : X) (fault : RecordFault) → some x ≡ Err fault → ⊥
no_fault x fault e = cc

cons_is_not : {Y : Type 0} (y : Y) (ys : List Y) → y ∷ ys ≡ [] → ⊥
cons_is_not y ys e = cc

module _ {X Y : Type 0} (spelling : X → List ℕ) (outline : ℕ → X → Y) where
  -- outlines with one more at the end are of values with one more at the end
  pub record HasLast (xs : List X) (at : ℕ) (is : List Y) (last : Y) : Type 0 where
    pub others : List X
    pub x : X
    pub whole : xs ≡ others ++ x ∷ []
    pub outlined : is ≡ outlines spelling outline at others
    pub its : last ≡ outline (at + length (flat_map spelling others)) x

  first_is : (y z : Y) (ys zs : List Y) → y ∷ ys ≡ z ∷ zs → y ≡ z
  first_is y z ys zs e = cc

  others_are : (y z : Y) (ys zs : List Y) → y ∷ ys ≡ z ∷ zs → ys ≡ zs
  others_are y z ys zs e = cc

  pub none_left : (xs : List X) (at : ℕ) → [] ≡ outlines spelling outline at xs → xs ≡ []
  unfolding outlines
  none_left [] at e = refl
  none_left (x ∷ xs) at e =
      absurd (cons_is_not (outline at x) (outlines spelling outline (at + length (spelling x)) xs) (sym e))

  pub has_last : (xs : List X) (at : ℕ) (is : List Y) (last : Y) → is ++ last ∷ [] ≡ outlines spelling outline at xs
      → HasLast xs at is last
  unfolding outlines
  has_last [] at [] last e = absurd (cons_is_not last [] e)
  has_last [] at (y ∷ is) last e = absurd (cons_is_not y (is ++ last ∷ []) e)
  has_last (x ∷ xs) at [] last e =
      let e0 : last ≡ outline at x =
      first_is last (outline at x) [] (outlines spelling outline (at + length (spelling x)) xs) e in
      let e1 : [] ≡ outlines spelling outline (at + length (spelling x)) xs =
      others_are last (outline at x) [] (outlines spelling outline (at + length (spelling x)) xs) e in
      let zero_on : at ≡ at + 0 = omega arith in
      record {
        others = [];
        x = x;
        whole = ap (λ (l : List X). x ∷ l) (none_left xs (at + length (spelling x)) e1);
        outlined = refl;
        its = e0 ∙ ap (λ n. outline n x) zero_on;
      }
  has_last (x ∷ xs) at (y ∷ is) last e =
      let behind : ℕ = at + length (spelling x) in
      let e0 : y ≡ outline at x = first_is y (outline at x) (is ++ last ∷ []) (outlines spelling outline behind xs) e in
      let e1 : is ++ last ∷ [] ≡ outlines spelling outline behind xs =
      others_are y (outline at x) (is ++ last ∷ []) (outlines spelling outline behind xs) e in
      let inner = has_last xs behind is last e1 in
      let far : behind + length (flat_map spelling inner.others) ≡ at + length (flat_map spelling (x ∷ inner.others)) =
      omega (arith, length-append (spelling x) (flat_map spelling inner.others)) in
      record {
        others = x ∷ inner.others;
        x = inner.x;
        whole = ap (λ (l : List X). x ∷ l) inner.whole;
        outlined = ap (λ (z : Y). z ∷ is) e0 ∙ ap (λ (l : List Y). outline at x ∷ l) inner.outlined;
        its = inner.its ∙ ap (λ n. outline n inner.x) far;
      }

  module _ (fits : X → Type 0) where
    all_front : (xs ys : List X) → AllByRecursion fits (xs ++ ys) → AllByRecursion fits xs
    all_front [] ys all = tt
    all_front (x ∷ xs) ys all = (all.0, all_front xs ys all.1)

    last_fits : (xs : List X) (x : X) → AllByRecursion fits (xs ++ x ∷ []) → fits x
    last_fits [] x all = all.0
    last_fits (y ∷ xs) x all = last_fits xs x all.1

    -- some values were made, the last first, and these outlines and bytes are left
    pub record AreLeft (xs : List X) (front : List ℕ) (is : List Y) (made : List X) (bytes : List ℕ) : Type 0 where
      pub unmade : List X
      pub fit : AllByRecursion fits unmade
      pub whole : xs ≡ unmade ++ reverse made
      pub outlined : is ≡ outlines spelling outline (length front) unmade
      pub spelled : IsFront (front ++ flat_map spelling unmade) bytes

    -- whatever values they are the outlines of
    abbrev pub Goes : List Y → List ℕ → List Y → List X → List ℕ → Type 0
    Goes all old is made bytes =
        (xs : List X) (front : List ℕ) → AllByRecursion fits xs → all ≡ outlines spelling outline (length front) xs
        → IsFront (front ++ flat_map spelling xs) old → AreLeft xs front is made bytes

    pub begins : (all is : List Y) (made : List X) (old : List ℕ) → is ≡ all → made ≡ [] → Goes all old is made old
    begins all is made old same none = λ xs front fit outlined spelled. record {
      unmade = xs;
      fit = fit;
      whole = sym (append-nil xs) ∙ ap (λ (l : List X). xs ++ reverse l) (sym none);
      outlined = same ∙ outlined;
      spelled = spelled;
    }

    -- the last of those that are left is made next
    pub record IsNext (xs : List X) (front : List ℕ) (is : List Y) (last : Y) (made : List X)
        (bytes : List ℕ) : Type 0 where
      pub others : List X
      pub x : X
      pub fit : AllByRecursion fits others
      pub fits_it : fits x
      pub whole : xs ≡ others ++ x ∷ reverse made
      pub outlined : is ≡ outlines spelling outline (length front) others
      pub its : last ≡ outline (length (front ++ flat_map spelling others)) x
      pub spelled : IsFront ((front ++ flat_map spelling others) ++ spelling x) bytes

    next : (xs : List X) (front : List ℕ) (is : List Y) (last : Y) (made : List X) (bytes : List ℕ)
        → AreLeft xs front (is ++ last ∷ []) made bytes → IsNext xs front is last made bytes
    next xs front is last made bytes left =
        let two = has_last left.unmade (length front) is last left.outlined in
        let fit = subst (AllByRecursion fits) two.whole left.fit in
        let text : flat_map spelling (two.others ++ two.x ∷ []) ≡ flat_map spelling two.others ++ spelling two.x =
        flat_map-append spelling two.others (two.x ∷ [])
        ∙ ap (λ (l : List ℕ). flat_map spelling two.others ++ l) (append-nil (spelling two.x)) in
        let far : length front + length (flat_map spelling two.others)
        ≡ length (front ++ flat_map spelling two.others) =
        omega (arith, length-append front (flat_map spelling two.others)) in
        record {
          others = two.others;
          x = two.x;
          fit = all_front two.others (two.x ∷ []) fit;
          fits_it = last_fits two.others two.x fit;
          whole = left.whole ∙ ap (λ (l : List X). l ++ reverse made) two.whole
              ∙ append_assoc two.others (two.x ∷ []) (reverse made);
          outlined = two.outlined;
          its = two.its ∙ ap (λ n. outline n two.x) far;
          spelled = subst (λ (l : List ℕ). IsFront l bytes)
              (ap (λ (l : List X). front ++ flat_map spelling l) two.whole ∙ ap (λ (l : List ℕ). front ++ l) text
              ∙ sym (append_assoc front (flat_map spelling two.others) (spelling two.x))) left.spelled;
        }

    pub goes_on : (all : List Y) (old : List ℕ) (more is : List Y) (last : Y) (made : List X) (v : X)
        (bytes after : List ℕ)
        → more ≡ is ++ last ∷ [] → Makes (λ (v : X). v) spelling fits outline (Ok v) last bytes after
        → Goes all old more made bytes → Goes all old is (made ++ v ∷ []) after
    goes_on all old more is last made v bytes after e step goes = λ xs front fit outlined spelled.
        let n = next xs front is last made bytes
        (subst (λ (l : List Y). AreLeft xs front l made bytes) e (goes xs front fit outlined spelled)) in
        let done = step n.x (front ++ flat_map spelling n.others) n.fits_it n.its n.spelled in
        record {
          unmade = n.others;
          fit = n.fit;
          whole = n.whole ∙ ap (λ (x : X). n.others ++ x ∷ reverse made) (its_value n.x v done.0)
              ∙ ap (λ (l : List X). n.others ++ l) (sym (reverse-append made (v ∷ [])));
          outlined = n.outlined;
          spelled = done.1;
        }

    pub stops : (all : List Y) (old : List ℕ) (more is : List Y) (last : Y) (made : List X) (fault : RecordFault)
        (bytes after : List ℕ) → more ≡ is ++ last ∷ []
        → Makes (λ (v : X). v) spelling fits outline (Err fault) last bytes after
        → Goes all old more made bytes → (new : List ℕ)
        → Makes (λ (v : Vec X). v.items) (flat_map spelling) (AllByRecursion fits) (outlines spelling outline)
        (Err fault) all
        old new
    stops all old more is last made fault bytes after e step goes new = λ xs front fit outlined spelled.
        let n = next xs front is last made bytes
        (subst (λ (l : List Y). AreLeft xs front l made bytes) e (goes xs front fit outlined spelled)) in
        let refused = (step n.x (front ++ flat_map spelling n.others) n.fits_it n.its n.spelled).0 in
        (λ other. absurd (no_fault n.x fault (refused other)), tt)

    pub wants : (all : List Y) (old new : List ℕ)
        → Makes (λ (v : Vec X). v.items) (flat_map spelling) (AllByRecursion fits) (outlines spelling outline)
        (Err Memory) all
        old new
    wants all old new = λ xs front fit outlined spelled. (λ other. absurd (other refl), tt)

    pub ends : (all : List Y) (old : List ℕ) (is : List Y) (made : List X) (v : Vec X) (bytes : List ℕ) → is ≡ []
        → v.items ≡ reverse made → Goes all old is made bytes
        → Makes (λ (v : Vec X). v.items) (flat_map spelling) (AllByRecursion fits) (outlines spelling outline) (Ok v)
        all old
        bytes
    ends all old is made v bytes e same goes = λ xs front fit outlined spelled.
        let left = goes xs front fit outlined spelled in
        let none : left.unmade ≡ [] = none_left left.unmade (length front) (sym e ∙ left.outlined) in (
          ap some (left.whole ∙ ap (λ (l : List X). l ++ reverse made) none ∙ sym same),
          front_of front (flat_map spelling left.unmade) bytes left.spelled,
        )
